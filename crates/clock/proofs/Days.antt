-- The clock shows the date of the day, and the parts of the day that its ticks are made of: so a day's first tick shows its midnight, and
-- its last tick the last hundredth before the next one.
-- What is left of the ticks below a unit is less than that unit, so dividing by the unit leaves just the units above.
-- Of any clock, whatever year it started in. Assumes nothing.
use Prim.Native.Nat.{ℕ, ◌+◌, ◌-◌, ◌*◌, ◌/◌, ◌%◌, ◌<◌}
use native.Mathlib.Omega.{arith}
use mathlib.Core.Path.{◌≡◌, ap, ◌∙◌}
use mathlib.Core.List.{List, [], ◌∷◌, ◌++◌}
use Rattle.clock.specs.Clock.{dated, time_of}
use Rattle.clock.specs.Dates.{days_of, Falls, Shows}
use Rattle.clock.proofs.Years.{falls-dated, date-falls}

-- the date and four parts that are the same
parts : (y : ℕ) {a b c d e a' b' c' d' e' : ℕ} → a ≡ a' → b ≡ b' → c ≡ c' → d ≡ d' → e ≡ e'
    → ◌≡◌ {A = List ℕ} (dated a y a ++ (b ∷ c ∷ d ∷ e ∷ [])) (dated a' y a' ++ (b' ∷ c' ∷ d' ∷ e' ∷ []))
parts y p q r s t = λ i. dated (p i) y (p i) ++ (q i ∷ r i ∷ s i ∷ t i ∷ [])

-- the ticks of day d at h hours, m minutes, s seconds and x hundredths
abbrev pub ticks : ℕ → ℕ → ℕ → ℕ → ℕ → ℕ
ticks d h m s x = d * 8_640_000 + h * 360_000 + m * 6_000 + s * 100 + x

module _ (y d h m s x : ℕ) (H : h < 24) (M : m < 60) (S : s < 60) (X : x < 100) where
  days : ticks d h m s x / 8_640_000 ≡ d
  days = omega arith

  hours : ticks d h m s x / 360_000 ≡ d * 24 + h
  hours = omega arith

  minutes : ticks d h m s x / 6_000 ≡ (d * 24 + h) * 60 + m
  minutes = omega arith

  seconds : ticks d h m s x / 100 ≡ ((d * 24 + h) * 60 + m) * 60 + s
  seconds = omega arith

  hour : (d * 24 + h) % 24 ≡ h
  hour = omega arith

  minute : ((d * 24 + h) * 60 + m) % 60 ≡ m
  minute = omega arith

  second : (((d * 24 + h) * 60 + m) * 60 + s) % 60 ≡ s
  second = omega arith

  hundredth : ticks d h m s x % 100 ≡ x
  hundredth = omega arith

  pub time-of-day : time_of y (ticks d h m s x) ≡ dated d y d ++ (h ∷ m ∷ s ∷ x ∷ [])
  unfolding time_of
  time-of-day =
      parts y days (ap (λ (n : ℕ). n % 24) hours ∙ hour) (ap (λ (n : ℕ). n % 60) minutes ∙ minute)
      (ap (λ (n : ℕ). n % 60) seconds ∙ second) hundredth

pub first-of-day : (y d : ℕ) → time_of y (d * 8_640_000) ≡ dated d y d ++ (0 ∷ 0 ∷ 0 ∷ 0 ∷ [])
first-of-day y d =
    let e : d * 8_640_000 ≡ ticks d 0 0 0 0 = omega arith in
    ap (time_of y) e ∙ time-of-day y d 0 0 0 0 (omega arith) (omega arith) (omega arith) (omega arith)

pub last-of-day : (y d : ℕ) → time_of y (d * 8_640_000 + 8_639_999) ≡ dated d y d ++ (23 ∷ 59 ∷ 59 ∷ 99 ∷ [])
last-of-day y d =
    let e : d * 8_640_000 + 8_639_999 ≡ ticks d 23 59 59 99 = omega arith in
    ap (time_of y) e ∙ time-of-day y d 23 59 59 99 (omega arith) (omega arith) (omega arith) (omega arith)

pieces : (d c : ℕ) → d ≡ c / 8_640_000
    → c ≡ d * 8_640_000 + (c / 360_000 % 24) * 360_000 + (c / 6_000 % 60) * 6_000 + (c / 100 % 60) * 100 + c % 100
pieces d c e =
    together (c / 360_000) (c / 6_000) (c / 100) (c % 100) d (c / 360_000 % 24) (c / 6_000 % 60) (c / 100 % 60) (by-hours c d e)
    (by-minutes c) (by-seconds c) (omega arith)
  where
    by-hours : (c d : ℕ) → d ≡ c / 8_640_000 → c / 360_000 ≡ d * 24 + c / 360_000 % 24
    by-hours c d e = omega arith

    by-minutes : (c : ℕ) → c / 6_000 ≡ c / 360_000 * 60 + c / 6_000 % 60
    by-minutes c = omega arith

    by-seconds : (c : ℕ) → c / 100 ≡ c / 6_000 * 60 + c / 100 % 60
    by-seconds c = omega arith

    together : (H M S x d h m s : ℕ) → H ≡ d * 24 + h → M ≡ H * 60 + m → S ≡ M * 60 + s → c ≡ S * 100 + x
        → c ≡ d * 8_640_000 + h * 360_000 + m * 6_000 + s * 100 + x
    together H M S x d h m s p q r t = omega (arith, p, q, r, t)

-- THE TIME THAT A CLOCK SHOWS is the one that its ticks come to, and no other; and there is one
pub shows-time : (y c n day h m s x : ℕ) → Shows y c n day h m s x → time_of y c ≡ (y + n) ∷ day ∷ h ∷ m ∷ s ∷ x ∷ []
shows-time y c n day h m s x S =
    let d : ℕ = days_of n y + (day - 1) in
    let f : Falls y d n day = record { first = S.first; last = S.last; all = omega (arith, S.first) } in
    ap (time_of y) S.all ∙ time-of-day y d h m s x S.hour S.minute S.second S.hundredth
    ∙ ap (λ (z : List ℕ). z ++ (h ∷ m ∷ s ∷ x ∷ [])) (falls-dated y d n day f)

pub some-time : (y c : ℕ) → (n : ℕ) × (day : ℕ) × (h : ℕ) × (m : ℕ) × (s : ℕ) × (x : ℕ) × Shows y c n day h m s x
some-time y c =
    let (n, day, F, e) = date-falls y (c / 8_640_000) in (
      n,
      day,
      c / 360_000 % 24,
      c / 6_000 % 60,
      c / 100 % 60,
      c % 100,
      record {
        first = F.first;
        last = F.last;
        hour = omega arith;
        minute = omega arith;
        second = omega arith;
        hundredth = omega arith;
        all = pieces (days_of n y + (day - 1)) c (omega (arith, F.all, F.first));
      },
    )
