-- The calendar: years counted off one after another, and the days before a year told at once, come to the same date; and that date is the
-- only one on which a day falls.
-- Each year adds its days to those before it; so the year in which a day falls is the only one that begins before the day's end and ends
-- behind it.
-- Of any year and any day. Assumes nothing.
use Prim.Native.Nat.{ℕ, zero, suc, ◌+◌, ◌-◌, ◌*◌, ◌/◌, ◌%◌, ◌≤◌, ◌<◌}
use native.Mathlib.Omega.{arith}
use mathlib.Core.Path.{◌≡◌, refl, ap, ap₂}
use mathlib.Core.Logic.{◌≢◌}
use mathlib.Core.Bool.{Bool, true, false, cond, not, ◌&&◌, ◌||◌}
use mathlib.Core.List.{List, [], ◌∷◌}
use lib.Dec.{eqb, ltb}
use borrow.Author.Tests.{eqb-true, eqb-false, ltb-true, ltb-false}
use Rattle.clock.specs.Clock.{leap, days_in, dated}
use Rattle.clock.specs.Dates.{days_of, Falls}
use Rattle.clock.specs.Inner.{before, Dated}

-- A YEAR'S DAYS
-- what a year adds to the fourths, the hundreds and the fourths of those that come before the next
module _ (y : ℕ) where
  fourth : y % 4 ≡ 0 → (suc y + 3) / 4 ≡ (y + 3) / 4 + 1
  fourth h = omega arith

  no-fourth : y % 4 ≢ 0 → (suc y + 3) / 4 ≡ (y + 3) / 4
  no-fourth h = omega arith

  hundredth : y % 100 ≡ 0 → (suc y + 99) / 100 ≡ (y + 99) / 100 + 1
  hundredth h = omega arith

  no-hundredth : y % 100 ≢ 0 → (suc y + 99) / 100 ≡ (y + 99) / 100
  no-hundredth h = omega arith

  four-hundredth : y % 400 ≡ 0 → (suc y + 399) / 400 ≡ (y + 399) / 400 + 1
  four-hundredth h = omega arith

  no-four-hundredth : y % 400 ≢ 0 → (suc y + 399) / 400 ≡ (y + 399) / 400
  no-four-hundredth h = omega arith

  few-hundreds : (y + 99) / 100 ≤ y
  few-hundreds = omega arith

  hundreds-are-fourths : y % 100 ≡ 0 → y % 4 ≡ 0
  hundreds-are-fourths h = omega arith

  their-fourths : y % 400 ≡ 0 → y % 100 ≡ 0
  their-fourths h = omega arith

-- so a year adds its days: 365, and a more by the fourths, b less by the hundreds, c more by the fourths of those
adds : (y q q' h h' f f' a b c k : ℕ) → h ≤ y → h' ≤ suc y → q' ≡ q + a → h' ≡ h + b → f' ≡ f + c → a + c ≡ b + k
    → 365 * suc y + q' - h' + f' ≡ 365 * y + q - h + f + (365 + k)
adds y q q' h h' f f' a b c k l m u v w e = omega arith

same : {x y : ℕ} → x ≡ y → x ≡ y + 0
same e = omega (arith, e)

pub before-next : (y : ℕ) → before (suc y) ≡ before y + days_in y
unfolding before days_in leap
before-next y = go (eqb (y % 4) 0) refl (eqb (y % 100) 0) refl (eqb (y % 400) 0) refl
  where
    by : (a b c k : ℕ) → (suc y + 3) / 4 ≡ (y + 3) / 4 + a → (suc y + 99) / 100 ≡ (y + 99) / 100 + b
        → (suc y + 399) / 400 ≡ (y + 399) / 400 + c → a + c ≡ b + k → before (suc y) ≡ before y + (365 + k)
    by a b c k =
        adds y ((y + 3) / 4) ((suc y + 3) / 4) ((y + 99) / 100) ((suc y + 99) / 100) ((y + 399) / 400) ((suc y + 399) / 400) a b c k
        (few-hundreds y) (few-hundreds (suc y))

    go : (a : Bool) → eqb (y % 4) 0 ≡ a → (b : Bool) → eqb (y % 100) 0 ≡ b → (c : Bool) → eqb (y % 400) 0 ≡ c
        → before (suc y) ≡ before y + cond (a && (not b || c)) 366 365
    go true p true q true r =
        by 1 1 1 1 (fourth y (eqb-true (y % 4) 0 p)) (hundredth y (eqb-true (y % 100) 0 q))
        (four-hundredth y (eqb-true (y % 400) 0 r)) refl
    go true p true q false r =
        by 1 1 0 0 (fourth y (eqb-true (y % 4) 0 p)) (hundredth y (eqb-true (y % 100) 0 q))
        (same (no-four-hundredth y (eqb-false (y % 400) 0 r))) refl
    go true p false q true r = absurd (eqb-false (y % 100) 0 q (their-fourths y (eqb-true (y % 400) 0 r)))
    go true p false q false r =
        by 1 0 0 1 (fourth y (eqb-true (y % 4) 0 p)) (same (no-hundredth y (eqb-false (y % 100) 0 q)))
        (same (no-four-hundredth y (eqb-false (y % 400) 0 r))) refl
    go false p true q c r = absurd (eqb-false (y % 4) 0 p (hundreds-are-fourths y (eqb-true (y % 100) 0 q)))
    go false p false q true r = absurd (eqb-false (y % 100) 0 q (their-fourths y (eqb-true (y % 400) 0 r)))
    go false p false q false r =
        by 0 0 0 0 (same (no-fourth y (eqb-false (y % 4) 0 p))) (same (no-hundredth y (eqb-false (y % 100) 0 q)))
        (same (no-four-hundredth y (eqb-false (y % 400) 0 r))) refl

-- each year has its days, so a later one begins later
pub some-days : (y : ℕ) → 1 ≤ days_in y
unfolding days_in
some-days y = go (leap y)
  where
    go : (b : Bool) → 1 ≤ cond b 366 365
    go true = omega arith
    go false = omega arith

years-apart : (y n : ℕ) → before y + n ≤ before (y + n)
years-apart y zero = omega (arith, ap before (let e : y + 0 ≡ y = omega arith in e))
years-apart y (suc n) =
    omega (
      arith,
      years-apart y n,
      before-next (y + n),
      some-days (y + n),
      ap before (let e : y + suc n ≡ suc (y + n) = omega arith in e),
    )

-- a year that begins no later comes no later
pub years-order : (y z : ℕ) → before y < before (suc z) → y ≤ z
years-order y z h = go (ltb z y) refl
  where
    go : (b : Bool) → ltb z y ≡ b → y ≤ z
    go true e =
        let l : z < y = ltb-true z y e in
        absurd (omega (arith, years-apart (suc z) (y - suc z), ap before (let p : suc z + (y - suc z) ≡ y = omega arith in p)))
    go false e = omega (arith, ltb-false z y e)

-- THE DATE
-- year z, in which the day falls that comes `days` days after the start of year 0, reached from year y by no more than n years
pub dated-is : (n y d days z day : ℕ) → before y + d ≡ days → Dated days z day → y ≤ z → z ≤ y + n → dated n y d ≡ z ∷ day ∷ []
unfolding dated
dated-is zero y d days z day e D l m =
    let same : y ≡ z = omega arith in
    ap₂ (λ (a b : ℕ). a ∷ b ∷ []) same (omega (arith, D.is, D.begun, e, ap before same))
dated-is (suc n) y d days z day e D l m = go (ltb d (days_in y)) refl (dated-is n (suc y) (d - days_in y) days z day)
  where
    go : (b : Bool) → ltb d (days_in y) ≡ b
        → (before (suc y) + (d - days_in y) ≡ days → Dated days z day → suc y ≤ z → z ≤ suc y + n
        → dated n (suc y) (d - days_in y) ≡ z ∷ day ∷ [])
        → ◌≡◌ {A = List ℕ} (elim b [ true ↦ y ∷ (d + 1) ∷ [] | false ↦ dated n (suc y) (d - days_in y) ]) (z ∷ day ∷ [])
    go true p next =
        let same : y ≡ z = omega (arith, l, years-order z y (omega (arith, ltb-true d (days_in y) p, before-next y, D.begun, e))) in
        ap₂ (λ (a b : ℕ). a ∷ b ∷ []) same (omega (arith, D.is, D.begun, e, ap before same))
    go false p next =
        let h = ltb-false d (days_in y) p in
        next (omega (arith, before-next y, e, h)) D (years-order (suc y) z (omega (arith, before-next y, e, h, D.going))) (omega arith)

-- from any year on, so many days have more days than years
pub date-is : (y d days z day : ℕ) → before y + d ≡ days → Dated days z day → dated d y d ≡ z ∷ day ∷ []
date-is y d days z day e D =
    let l : y ≤ z = years-order y z (omega (arith, e, D.going)) in
    dated-is d y d days z day e D l
    (omega (arith, years-apart y (z - y), ap before (let p : y + (z - y) ≡ z = omega arith in p), D.begun, e))

-- THE DATE ON WHICH A DAY FALLS, and no other
sums : (n y : ℕ) → before y + days_of n y ≡ before (y + n)
sums zero y = omega (arith, ap before (let e : y ≡ y + 0 = omega arith in e))
sums (suc n) y =
    omega (arith, before-next y, sums n (suc y), ap before (let e : suc y + n ≡ y + suc n = omega arith in e))

pub falls-dated : (y d n day : ℕ) → Falls y d n day → dated d y d ≡ (y + n) ∷ day ∷ []
falls-dated y d n day F =
    let s = sums n y in
    date-is y d (before y + d) (y + n) day refl (record {
      begun = omega (arith, s, F.all, F.first);
      going = omega (arith, s, before-next (y + n), F.all, F.last);
      is = omega (arith, s, F.all, F.first);
    })

pub dated-falls : (y d z day : ℕ) → Dated (before y + d) z day → y ≤ z → Falls y d (z - y) day
dated-falls y d z day D l =
    let e : y + (z - y) ≡ z = omega arith in
    let s = sums (z - y) y in
    let b = ap before e in
    record {
      first = omega (arith, D.is);
      last = omega (arith, ap days_in e, before-next z, D.going, D.is, D.begun);
      all = omega (arith, s, b, D.is, D.begun);
    }

-- THE YEAR TOLD AT ONCE, or the next
-- the days before a year are 146,097 of four hundred of it, but for a few
near : (y q h f : ℕ) → h ≤ y → y ≤ 4 * q → 4 * q ≤ y + 3 → y ≤ 100 * h → 100 * h ≤ y + 99 → y ≤ 400 * f → 400 * f ≤ y + 399
    → (146097 * y ≤ 400 * (365 * y + q - h + f) + 396) × (400 * (365 * y + q - h + f) ≤ 146097 * y + 699)
near y q h f l q₁ q₂ h₁ h₂ f₁ f₂ = (omega arith, omega arith)

pub before-near : (y : ℕ) → (146097 * y ≤ 400 * before y + 396) × (400 * before y ≤ 146097 * y + 699)
unfolding before
before-near y =
    near y ((y + 3) / 4) ((y + 99) / 100) ((y + 399) / 400) (few-hundreds y) (omega arith) (omega arith) (omega arith) (omega arith)
    (omega arith) (omega arith)

none_before : before 0 ≡ 0
unfolding before
none_before = refl

module _ (days year : ℕ) (told : year ≡ (400 * days + 396) / 146097) where
  low : 146097 * year ≤ 400 * days + 396
  low = omega arith

  high : 400 * days + 396 < 146097 * suc year
  high = omega arith

  pub not-past : days < before (suc year)
  not-past = omega (arith, high, (before-near (suc year)).0)

  pub not-far : days < before year → (1 ≤ year) × (before (year - 1) ≤ days)
  not-far h = (some year h, omega (arith, some year h, low, (before-near (year - 1)).1))
    where
      some : (y : ℕ) → days < before y → 1 ≤ y
      some zero l = absurd (omega (arith, none_before))
      some (suc y) l = omega arith

-- every day has a date
pub some-date : (days : ℕ) → (z : ℕ) × (day : ℕ) × Dated days z day
some-date days = go (ltb days (before year)) refl
  where
    year : ℕ
    year = (400 * days + 396) / 146097

    go : (b : Bool) → ltb days (before year) ≡ b → (z : ℕ) × (day : ℕ) × Dated days z day
    go true e =
        let h = not-far days year refl (ltb-true days (before year) e) in (
          year - 1,
          days - before (year - 1) + 1,
          record {
            begun = h.1;
            going = omega (arith, ltb-true days (before year) e, ap before (let p : suc (year - 1) ≡ year = omega (arith, h.0) in p));
            is = refl;
          },
        )
    go false e = (
      year,
      days - before year + 1,
      record {
        begun = ltb-false days (before year) e;
        going = not-past days year refl;
        is = refl;
      },
    )

pub date-falls : (y d : ℕ) → (n : ℕ) × (day : ℕ) × (Falls y d n day) × (dated d y d ≡ (y + n) ∷ day ∷ [])
date-falls y d =
    let (z, day, D) = some-date (before y + d) in
    let F = dated-falls y d z day D (years-order y z (omega (arith, D.going))) in
    (z - y, day, F, falls-dated y d (z - y) day F)
