-- Room for the lines of the used records. Soundness bounds each value, so a record has at most 101 bytes besides its
-- number; and the used ones are some of all.
-- Assumes nothing.
use Prim.Native.Nat.{ℕ, ◌+◌, ◌<◌, ◌≤◌}
use native.Mathlib.Omega.{arith}
use native.Mathlib.Decide.{ℕ_discrete}
use mathlib.Core.Path.{◌≡◌, refl, ap}
use mathlib.Core.Bool.{Bool, true, false, not, ◌&&◌, ◌||◌}
use mathlib.Core.List.{List, [], ◌∷◌}
use lib.ListN.{length, length-append}
use lib.Dec.{eqb, ltb}
use borrow.Author.Tests.{eqb-true}
use Rattle.lists.specs.Lists.{count, up_to}
use Rattle.lists.proofs.Laws.{keep-in, keep-le}
use Rattle.lists.proofs.Tests.{false-true, both, up_to-true}
use Rattle.text.specs.Text.{text, digits, decimal, entry}
use Rattle.text.proofs.Laws.{entry_length, decimal-length}
use Rattle.clock.specs.Clock.{ceiling, farthest}
use Rattle.records.specs.declared.Program.{Program}
use Rattle.records.specs.declared.Why.{Why}
use Rattle.records.specs.declared.Why.TheVariants.{Nothing, Tracks, Son, Lock, Number}
use Rattle.records.specs.Names.{letter, rest, blank, legal, bare}
use Rattle.records.specs.Records.{Known, known, all, record_at}
use Rattle.rules.specs.Book.{Book, at}
use Rattle.rules.specs.Sound.{suits, Names, Whys, Limits, Dues}
use Rattle.rules.proofs.shared.Places.{all_in}
use Rattle.page.specs.Page.{bytes, or_dash, reason, mark_line, used_in, recorded, record_lines}
use Rattle.page.proofs.Writing.{pieces-join}
use Rattle.page.proofs.Widths.{or_dash-length}
use Rattle.page.proofs.Weights.{weigh, weigh-fewer, lines-weigh, keep-length}

-- VALUES
name-length : (nm : List ℕ) → legal nm ≡ true → length (bare nm) ≤ 5
name-length [] e = false-true e
name-length (c ∷ cs) e =
    omega (arith, eqb-true (length cs) 4 (both (letter c && rest cs) (eqb (length cs) 4) e).1, keep-length (λ x. not (blank x)) (c ∷ cs))

-- a why that fits has ten bytes at most, `tracks:256`, and its state one digit
module _ (b : Book) (L : Limits b) (p s : ℕ) where
  idle : (x y : Bool) → eqb s 0 ≡ x → eqb s 1 ≡ y → (x || y || eqb s 6) ≡ true → s < 10
  idle true y h k e = omega (arith, eqb-true s 0 h)
  idle false true h k e = omega (arith, eqb-true s 1 k)
  idle false false h k e = omega (arith, eqb-true s 6 e)

  why-most : (w : Why) → suits b p s w ≡ true → (s < 10) × (length (reason w) ≤ 10)
  why-most Nothing e = (idle (eqb s 0) (eqb s 1) refl refl e, omega arith)
  why-most (Tracks n) e =
      let h = both (eqb s 5) (up_to 1 b.tracks n) e in
      let k = up_to-true 1 b.tracks n h.1 in
      (omega (arith, eqb-true s 5 h.0), omega (arith, decimal-length 2 n (omega (arith, L.most))))
  why-most (Son k) e =
      let h = both (eqb s 3) (known k) (both _ _ (both _ _ (both _ _ e).0).0).0 in
      let j = up_to-true 1 32 k h.1 in
      (omega (arith, eqb-true s 3 h.0), omega (arith, decimal-length 1 k (omega arith)))
  why-most (Lock r) e =
      let h = both (eqb s 3) (up_to 1 b.numbers r) e in
      let k = up_to-true 1 b.numbers r h.1 in
      (omega (arith, eqb-true s 3 h.0), omega (arith, decimal-length 1 r (omega (arith, L.few))))
  why-most Number e = (omega (arith, eqb-true s 3 e), omega arith)

due-most : (b : Book) → Limits b → Dues b → (p : ℕ) → Known p → (at b p).due ≤ ceiling + farthest
due-most b L D p P = go (ℕ_discrete (at b p).due 0)
  where
    go : Dec ((at b p).due ≡ 0) → (at b p).due ≤ ceiling + farthest
    go (yes e) = omega arith
    go (no n) = omega (arith, D.near p P n, L.time)

pub mark-length : (b : Bool) → length (bytes (mark_line b)) ≤ 10
unfolding bytes entry
mark-length true = omega arith
mark-length false = omega arith

-- RECORDS
-- seven lines, and the mark's
pub recorded-length : (p : ℕ) (r : Program) → length (bytes (recorded p r))
    ≡ 47 + length (decimal p) + length (bare r.name) + length (decimal r.priority) + length (decimal r.state) + length (reason r.why)
    + length (or_dash (ltb 0 r.due) r.due) + length (or_dash (ltb 0 r.due) r.interval) + length (bytes (mark_line r.suspend))
unfolding bytes
recorded-length p r =
    let timer : Bool = ltb 0 r.due in
    simp length-append (omega (
      arith,
      entry_length (text "id") (decimal p),
      entry_length (text "name") (bare r.name),
      entry_length (text "priority") (decimal r.priority),
      entry_length (text "state") (decimal r.state),
      entry_length (text "why") (reason r.why),
      entry_length (text "due") (or_dash timer r.due),
      entry_length (text "interval") (or_dash timer r.interval),
    ))

-- a used one is one of all and is used; no more than there are
used-in : (ps : List Program) (p : ℕ) → 1 ≤ count p (used_in ps) → Known p × ((record_at ps p).used ≡ true)
unfolding used_in
used-in ps p h = let k = keep-in (λ q. (record_at ps q).used) p all h in (all_in p k.1, k.0)

used-fewer : (ps : List Program) (p : ℕ) → count p (used_in ps) ≤ count p all
unfolding used_in
used-fewer ps p = keep-le (λ q. (record_at ps q).used) p all

abbrev weight : ℕ → ℕ
weight p = 101 + length (decimal p)

records-weigh : weigh weight all ≡ 3287
unfolding all decimal digits
records-weigh = refl

module _ (b : Book) (N : Names b) (W : Whys b) (L : Limits b) (D : Dues b) where
  recorded-most : (p : ℕ) → Known p → (at b p).used ≡ true → length (bytes (recorded p (at b p))) ≤ weight p
  recorded-most p P u =
      let r = at b p in
      let w = why-most b L p r.state r.why (W.fitting p P) in
      let timer : Bool = ltb 0 r.due in
      omega (
        arith,
        recorded-length p r,
        w.1,
        name-length r.name (N.lawful p P u),
        decimal-length 4 r.priority (omega (arith, L.priority p P)),
        decimal-length 0 r.state w.0,
        or_dash-length timer 12 r.due (omega (arith, due-most b L D p P)),
        or_dash-length timer 9 r.interval (omega (arith, D.steps p P)),
        mark-length r.suspend,
      )

  pub record-room : length (bytes (record_lines b.programs)) ≤ 3287
  unfolding record_lines
  record-room = omega (
    arith,
    ap length (pieces-join (λ p. recorded p (at b p)) (used_in b.programs)),
    lines-weigh weight (λ p. bytes (recorded p (at b p))) (used_in b.programs) each,
    weigh-fewer weight (used_in b.programs) all (used-fewer b.programs),
    records-weigh,
  )
    where
      each : (p : ℕ) → 1 ≤ count p (used_in b.programs) → length (bytes (recorded p (at b p))) ≤ weight p
      each p h = let k = used-in b.programs p h in recorded-most p k.0 k.1
