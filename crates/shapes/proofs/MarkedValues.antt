-- The values of a page up to their marks: a run, a resource number, a why.
-- Assumes nothing.
use Prim.Native.Nat.{ℕ, ◌<◌, ◌≤◌}
use native.Mathlib.Omega.{arith}
use mathlib.Core.Path.{◌≡◌, refl, sym, subst}
use mathlib.Core.Logic.{◌≢◌}
use mathlib.Core.List.{List}
use mathlib.Core.Option.{Option}
use Rattle.lists.specs.Lists.{same, count}
use Rattle.text.specs.Text.{text, parts}
use Rattle.records.specs.declared.Why.{Why}
use Rattle.records.specs.declared.Why.TheVariants.{Nothing, Tracks, Son, Lock, Number}
use Rattle.tracks.specs.declared.held.Run.{Run}
use Rattle.page.specs.Page.{dash, tracks_word, son_word, lock_word, any_number}
use Rattle.shapes.specs.Shapes.{Parts, next, over, into, or_else, word, figure, figure_or_dash, party_of, coded, reason_of}
use Rattle.shapes.specs.Shapes.{Span, span_of, run_in, Numbered, numbered}
use Rattle.shapes.specs.Inner.{byte, coded_by, narrow_why, narrow_run, narrow_numbered, two_bytes, word_is}
use Rattle.shapes.specs.Inner.{reason_in, held_in, number_in, run_of, numbered_of}
use Rattle.shapes.specs.Inner.{SaidIs, NotSaid}
use Rattle.shapes.proofs.Marks.{Free, word-free, either-free, named, unnamed, either_first, either_second, neither}
use Rattle.shapes.proofs.Marks.{into-free, into-said, into-unsaid}
use Rattle.shapes.proofs.Marks.{first-free, first-unsaid, then-said, then-unsaid, last-free, last-said, last-unsaid}
use Rattle.shapes.proofs.MarkedFigures.{figure-free, party-free, dashed-free, coded-free}
use mathlib.Core.Bool.{true}

-- A RUN
abbrev spanned : ℕ → Parts Span
spanned a = next figure (λ b. over (record { first = a; last = b }))

abbrev run_on : Span → ℕ → Run
run_on g h = record { first = g.first; last = g.last; holder = h }

abbrev held : Span → Parts Run
held g = next party_of (λ h. over (run_on g h))

no45 : Free figure 45
no45 = figure-free 45 (λ h. omega arith)

span-free : (e : ℕ) → (48 ≤ e → 57 < e) → 45 ≢ e → Free span_of e
span-free e h n =
    first-free figure spanned 45 (λ b. refl) n (figure-free e h)
    (λ a. last-free figure (λ b. record { first = a; last = b }) 45 (figure-free e h))

no58 : Free span_of 58
no58 = span-free 58 (λ h. omega arith) (λ z. let e : ◌≡◌ {A = ℕ} 45 58 = z in omega arith)

colon-first : Free figure 58
colon-first = figure-free 58 (λ h. omega arith)

colon-party : Free party_of 58
unfolding same
colon-party = party-free 58 (λ h. omega arith) refl

pub held-free : Free held_in 10
unfolding same
held-free =
    into-free narrow_run run_in (first-free span_of held 58 (λ b. refl) (λ z. let e : ◌≡◌ {A = ℕ} 58 10 = z in omega arith)
    (span-free 10 (λ h. omega arith) (λ z. let e : ◌≡◌ {A = ℕ} 45 10 = z in omega arith))
    (λ g. last-free party_of (run_on g) 58 (party-free 10 (λ h. omega arith) refl)))

module _ {s : List ℕ} {from : ℕ} where
  run-unspanned : NotSaid span_of 58 s from → NotSaid held_in 10 s from
  run-unspanned n = into-unsaid narrow_run run_in (first-unsaid span_of held 58 (λ b. refl) n)

  pub first-none : NotSaid figure 45 s from → NotSaid held_in 10 s from
  first-none n = run-unspanned (first-unsaid figure spanned 45 (λ b. refl) n)

  module _ {i a : ℕ} (x : SaidIs figure 45 s from i a) where
    pub last_none : NotSaid figure 58 s a → NotSaid held_in 10 s from
    last_none n =
        run-unspanned (then-unsaid figure spanned 45 (λ b. refl) no45 x (last-unsaid figure (λ b. record { first = i; last = b }) 45 n))

    module _ {j b : ℕ} (y : SaidIs figure 58 s a j b) where
      span-said : SaidIs span_of 58 s from (record { first = i; last = j }) b
      span-said = then-said figure spanned 45 no45 x (last-said figure (λ b. record { first = i; last = b }) 45 no45 y)

      pub holder-none : NotSaid party_of 10 s b → NotSaid held_in 10 s from
      holder-none n =
          into-unsaid narrow_run run_in (then-unsaid span_of held 58 (λ b. refl) no58 span-said
          (last-unsaid party_of (run_on (record { first = i; last = j })) 58 n))

      pub run-said : {h m next : ℕ} → SaidIs party_of 10 s b h next → m ≡ byte h
          → SaidIs held_in 10 s from (run_of i j m) next
      run-said {h} {m} {next} z q =
          subst (λ (k : ℕ). SaidIs held_in 10 s from (run_of i j k) next) (sym q)
          (into-said narrow_run run_in (then-said span_of held 58 no58 span-said
          (last-said party_of (run_on (record { first = i; last = j })) 58 colon-party z)))

-- A RESOURCE NUMBER
abbrev locked : ℕ → ℕ → Parts Numbered
locked r o = next figure_or_dash (λ l. over (numbered_of r o l))

abbrev owned : ℕ → Parts Numbered
owned r = next party_of (locked r)

pub number-free : Free number_in 10
unfolding same
number-free =
    let n : ◌≢◌ {A = ℕ} 58 10 = λ z. let e : ◌≡◌ {A = ℕ} 58 10 = z in omega arith in
    into-free narrow_numbered numbered (first-free figure owned 58 (λ b. refl) n (figure-free 10 (λ h. omega arith))
    (λ r. first-free party_of (locked r) 58 (λ b. refl) n (party-free 10 (λ h. omega arith) refl)
    (λ o. last-free figure_or_dash (numbered_of r o) 58 (dashed-free 10 (λ h. omega arith) refl))))

module _ {s : List ℕ} {from : ℕ} where
  pub number-none : NotSaid figure 58 s from → NotSaid number_in 10 s from
  number-none n = into-unsaid narrow_numbered numbered (first-unsaid figure owned 58 (λ b. refl) n)

  module _ {r a : ℕ} (x : SaidIs figure 58 s from r a) where
    after-number : NotSaid (λ v. owned r (parts 58 v)) 10 s a → NotSaid number_in 10 s from
    after-number n = into-unsaid narrow_numbered numbered (then-unsaid figure owned 58 (λ b. refl) colon-first x n)

    pub owner-none : NotSaid party_of 58 s a → NotSaid number_in 10 s from
    owner-none n = after-number (first-unsaid party_of (locked r) 58 (λ b. refl) n)

    module _ {o b : ℕ} (y : SaidIs party_of 58 s a o b) where
      pub lock-none : NotSaid figure_or_dash 10 s b → NotSaid number_in 10 s from
      lock-none n =
          after-number (then-unsaid party_of (locked r) 58 (λ b. refl) colon-party y (last-unsaid figure_or_dash (numbered_of r o) 58 n))

      pub number-said : {l p q next : ℕ} → SaidIs figure_or_dash 10 s b l next → p ≡ byte o → q ≡ byte l
          → SaidIs number_in 10 s from (numbered_of r p q) next
      unfolding same
      number-said {l} {p} {q} {next} z e f =
          subst (λ (k : ℕ). SaidIs number_in 10 s from (numbered_of r k q) next) (sym e)
          (subst (λ (k : ℕ). SaidIs number_in 10 s from (numbered_of r (byte o) k) next) (sym f)
          (into-said narrow_numbered numbered (then-said figure owned 58 colon-first x (then-said party_of (locked r) 58 colon-party y
          (last-said figure_or_dash (numbered_of r o) 58 (dashed-free 58 (λ h. omega arith) refl) z)))))

-- A WHY
abbrev or_number : List ℕ → Option Why
or_number v = word any_number Number v

abbrev or_lock : List ℕ → Option Why
or_lock v = or_else (into Lock (coded lock_word v)) (or_number v)

abbrev or_son : List ℕ → Option Why
or_son v = or_else (into Son (coded son_word v)) (or_lock v)

abbrev or_tracks : List ℕ → Option Why
or_tracks v = or_else (into Tracks (coded tracks_word v)) (or_son v)

for-free : (h : ℕ → Why) (w : List ℕ) → count 10 w ≡ 0 → Free (λ v. into h (coded_by w v)) 10
for-free h w e = into-free h (coded_by w) (coded-free w 10 (λ h. omega arith) e)

pub reason-free : Free reason_in 10
unfolding same
reason-free =
    into-free narrow_why reason_of (either-free (word dash Nothing) or_tracks (word-free Nothing (text dash) 10 refl)
    (either-free (λ v. into Tracks (coded tracks_word v)) or_son (for-free Tracks (text tracks_word) refl)
    (either-free (λ v. into Son (coded son_word v)) or_lock (for-free Son (text son_word) refl)
    (either-free (λ v. into Lock (coded lock_word v)) or_number (for-free Lock (text lock_word) refl)
    (word-free Number (text any_number) 10 refl)))))

-- Laws of the reason that a program waits for, word by word, for whoever proves about it.
module _ {s : List ℕ} {from : ℕ} where
  pub why-nothing : {next : ℕ} → SaidIs (word_is (text dash)) 10 s from true next → SaidIs reason_in 10 s from Nothing next
  why-nothing x = into-said narrow_why reason_of (either_first (word dash Nothing) or_tracks (named Nothing x))

  module _ (d : NotSaid (word_is (text dash)) 10 s from) where
    not-nothing : {w : Why} {next : ℕ} → SaidIs or_tracks 10 s from w next → SaidIs reason_in 10 s from (narrow_why w) next
    not-nothing x = into-said narrow_why reason_of (either_second (word dash Nothing) or_tracks (unnamed Nothing d) x)

    pub why-tracks : {n m next : ℕ} → SaidIs (coded tracks_word) 10 s from n next → m ≡ two_bytes n
        → SaidIs reason_in 10 s from (Tracks m) next
    why-tracks {next = next} x e =
        subst (λ (k : ℕ). SaidIs reason_in 10 s from (Tracks k) next) (sym e)
        (not-nothing (either_first (λ v. into Tracks (coded tracks_word v)) or_son (into-said Tracks (coded tracks_word) x)))

    module _ (t : NotSaid (coded tracks_word) 10 s from) where
      not-tracks : {w : Why} {next : ℕ} → SaidIs or_son 10 s from w next → SaidIs reason_in 10 s from (narrow_why w) next
      not-tracks x = not-nothing (either_second (λ v. into Tracks (coded tracks_word v)) or_son (into-unsaid Tracks (coded tracks_word) t) x)

      pub why-son : {n m next : ℕ} → SaidIs (coded son_word) 10 s from n next → m ≡ byte n → SaidIs reason_in 10 s from (Son m) next
      why-son {next = next} x e =
          subst (λ (k : ℕ). SaidIs reason_in 10 s from (Son k) next) (sym e)
          (not-tracks (either_first (λ v. into Son (coded son_word v)) or_lock (into-said Son (coded son_word) x)))

      module _ (u : NotSaid (coded son_word) 10 s from) where
        not-son : {w : Why} {next : ℕ} → SaidIs or_lock 10 s from w next → SaidIs reason_in 10 s from (narrow_why w) next
        not-son x = not-tracks (either_second (λ v. into Son (coded son_word v)) or_lock (into-unsaid Son (coded son_word) u) x)

        pub why-lock : {n m next : ℕ} → SaidIs (coded lock_word) 10 s from n next → m ≡ byte n → SaidIs reason_in 10 s from (Lock m) next
        why-lock {next = next} x e =
            subst (λ (k : ℕ). SaidIs reason_in 10 s from (Lock k) next) (sym e)
            (not-son (either_first (λ v. into Lock (coded lock_word v)) or_number (into-said Lock (coded lock_word) x)))

        module _ (l : NotSaid (coded lock_word) 10 s from) where
          pub why-number : {next : ℕ} → SaidIs (word_is (text any_number)) 10 s from true next → SaidIs reason_in 10 s from Number next
          why-number x =
              not-son (either_second (λ v. into Lock (coded lock_word v)) or_number (into-unsaid Lock (coded lock_word) l) (named Number x))

          pub why-none : NotSaid (word_is (text any_number)) 10 s from → NotSaid reason_in 10 s from
          why-none n =
              into-unsaid narrow_why reason_of (neither (word dash Nothing) or_tracks (unnamed Nothing d)
              (neither (λ v. into Tracks (coded tracks_word v)) or_son (into-unsaid Tracks (coded tracks_word) t)
              (neither (λ v. into Son (coded son_word v)) or_lock (into-unsaid Son (coded son_word) u)
              (neither (λ v. into Lock (coded lock_word v)) or_number (into-unsaid Lock (coded lock_word) l) (unnamed Number n)))))
