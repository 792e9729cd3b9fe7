-- What is left of the parts of a page that repeat, a piece for each thing: the used records from program p on, the states from the one at i
-- on, the runs of tracks from track i on, the resource numbers behind the first i.
-- Assumes nothing.
use Prim.Native.Nat.{ℕ, zero, suc, ◌+◌, ◌-◌, ◌<◌, ◌≤◌}
use native.Mathlib.Numerals.{add-one}
use native.Mathlib.Omega.{arith}
use mathlib.Core.Path.{◌≡◌, refl, sym, ap, ◌∙◌}
use mathlib.Core.Bool.{Bool, true, false, cond}
use mathlib.Core.List.{List, [], ◌∷◌, map}
use lib.ListN.{length, get_or, take, drop, drop_of_length-le}
use lib.Seq.{get_or-take, drop-cons}
use Rattle.std.specs.List.{count_by, filter}
use Rattle.std.proofs.lemmas.List.Sums.{length-filter}
use Rattle.limits.specs.Limits.{most_programs, states}
use Rattle.lists.specs.Lists.{keep, from, join, every, up_to}
use Rattle.lists.proofs.Tests.{both, up_to-true}
use Rattle.records.specs.declared.Program.{Program}
use Rattle.records.specs.declared.Resource.{Resource}
use Rattle.records.specs.Records.{all, missing, record_at}
use Rattle.records.specs.Numbers.{free, number_at}
use Rattle.records.proofs.Find.{at_place}
use Rattle.records.proofs.Search.{span, span-all, span-next, span_none}
use Rattle.tracks.specs.declared.held.Run.{Run}
use Rattle.tracks.specs.Inner.{RunFrom}
use Rattle.tracks.proofs.RunLaws.{runs_from, runs_past}
use Rattle.chains.specs.Links.{walk, read}
use Rattle.chains.proofs.Reading.{get_d_read}
use Rattle.page.specs.Page.{bytes_of, bytes, chained, used_in, recorded, record_lines, chain_line, chain_lines}
use Rattle.page.specs.Page.{held_line, held_lines, number_line, number_lines}
use Rattle.page.proofs.Writing.{pieces, pieces-join}

-- USED RECORDS
abbrev pub used_from : List Program → ℕ → List ℕ
used_from ps p = keep (λ q. (record_at ps q).used) (span p most_programs)

abbrev records_of : List Program → List ℕ → List (List ℕ)
records_of ps c = pieces (λ q. recorded q (record_at ps q)) c

abbrev pub records_from : List Program → ℕ → List (List ℕ)
records_from ps p = records_of ps (used_from ps p)

pub used_all : (ps : List Program) → used_in ps ≡ used_from ps 1
unfolding used_in all
used_all ps = refl

pub records-all : (ps : List Program) → bytes (record_lines ps) ≡ join (records_from ps 1)
unfolding record_lines
records-all ps = pieces-join (λ q. recorded q (record_at ps q)) (used_in ps) ∙ ap (λ (c : List ℕ). join (records_of ps c)) (used_all ps)

-- the record of p stands at k
module _ (ps : List Program) (p k : ℕ) (e : k ≡ p - 1) (h : p ≤ most_programs) where
  pub used-next : (b : Bool) → (get_or ps k missing).used ≡ b → used_from ps p ≡ cond b (p ∷ used_from ps (p + 1)) (used_from ps (p + 1))
  used-next b u =
      ap (keep (λ q. (record_at ps q).used)) (span-next p most_programs h)
      ∙ ap (λ (t : Bool). cond t (p ∷ used_from ps (p + 1)) (used_from ps (p + 1))) (at_place (λ (r : Program). r.used) ps p k b e u)

  pub records-here : (get_or ps k missing).used ≡ true → records_from ps p ≡ bytes (recorded p (get_or ps k missing)) ∷ records_from ps (p + 1)
  records-here u =
      ap (records_of ps) (used-next true u) ∙ ap (λ (i : ℕ). bytes (recorded p (get_or ps i missing)) ∷ records_from ps (p + 1)) (sym e)

  pub records-on : (get_or ps k missing).used ≡ false → records_from ps p ≡ records_from ps (p + 1)
  records-on u = ap (records_of ps) (used-next false u)

pub used-past : (ps : List Program) (p : ℕ) → most_programs < p → used_from ps p ≡ []
used-past ps p h = ap (keep (λ q. (record_at ps q).used)) (span_none p most_programs h)

pub records-past : (ps : List Program) (p : ℕ) → most_programs < p → records_from ps p ≡ []
records-past ps p h = ap (records_of ps) (used-past ps p h)

-- how many are used, as the code counts them: of the records behind the first i, of which there are n
counted : (ps : List Program) (n i : ℕ) → length ps ≡ most_programs → i + n ≡ most_programs
    → length (filter (λ r. r.used) (drop i ps)) ≡ length (used_from ps (i + 1))
counted ps zero i l e = rw (drop_of_length-le ps {i = i} (omega arith), used-past ps (i + 1) (omega arith)) refl
counted ps (suc n) i l e =
    rw (drop-cons ps i missing (omega arith))
    (go (get_or ps i missing).used refl
    (ap (λ (k : ℕ). length (filter (λ (r : Program). r.used) (drop k ps))) (sym (add-one i)) ∙ counted ps n (i + 1) l (omega arith)))
  where
    go : (b : Bool) → (get_or ps i missing).used ≡ b → length (filter (λ r. r.used) (drop (suc i) ps)) ≡ length (used_from ps (i + 1 + 1))
        → length (cond b (get_or ps i missing ∷ filter (λ r. r.used) (drop (suc i) ps)) (filter (λ r. r.used) (drop (suc i) ps)))
        ≡ length (used_from ps (i + 1))
    go true u ih = omega (arith, ih, ap length (used-next ps (i + 1) i (omega arith) (omega arith) true u))
    go false u ih = ih ∙ sym (ap length (used-next ps (i + 1) i (omega arith) (omega arith) false u))

pub used-counted : (ps : List Program) → length ps ≡ most_programs → count_by (λ r. r.used) ps ≡ length (used_in ps)
used-counted ps l =
    sym (length-filter (λ (r : Program). r.used) ps) ∙ counted ps most_programs 0 l refl ∙ ap length (sym (used_all ps))

-- CHAINS
abbrev pub chains_from : List ℕ → ℕ → List (List ℕ)
chains_from l i = map (λ s. bytes_of (chain_line s (get_or (read l) s []))) (drop i chained)

pub chains-all : (l : List ℕ) → bytes (chain_lines (read l)) ≡ join (chains_from l 0)
unfolding bytes chain_lines
chains-all l = refl

-- a state at its place
state-at : (ss : List ℕ) → every (up_to 1 6) ss ≡ true → (i : ℕ) → i < length ss → up_to 1 6 (get_or ss i 0) ≡ true
state-at [] e i h = absurd (omega arith)
state-at (s ∷ ss) e zero h = (both (up_to 1 6 s) (every (up_to 1 6) ss) e).0
state-at (s ∷ ss) e (suc i) h = state-at ss (both (up_to 1 6 s) (every (up_to 1 6) ss) e).1 i (omega arith)

pub chains-here : (l : List ℕ) (i : ℕ) → i < length chained → let s = get_or chained i 0 in
    chains_from l i ≡ bytes_of (chain_line s (walk l s most_programs)) ∷ chains_from l (i + 1)
chains-here l i h =
    let s = get_or chained i 0 in
    let t = up_to-true 1 6 s (state-at chained refl i h) in
    rw (add-one i)
    (ap (map (λ s. bytes_of (chain_line s (get_or (read l) s [])))) (drop-cons chained i 0 h)
    ∙ ap (λ (c : List ℕ). bytes_of (chain_line s c) ∷ chains_from l (suc i)) (get_d_read l s (omega arith)))

-- RUNS OF TRACKS
abbrev pub held_from : List ℕ → ℕ → List (List ℕ)
held_from hs i = pieces held_line (runs_from hs i)

pub held_all : (hs : List ℕ) → bytes (held_lines hs) ≡ join (held_from hs 0)
unfolding held_lines
held_all hs = pieces-join held_line (runs_from hs 0)

pub held-here : (hs : List ℕ) (i : ℕ) (g : Run) → RunFrom hs i g → held_from hs i ≡ bytes (held_line g) ∷ held_from hs (g.last + 1)
held-here hs i g R = ap (pieces held_line) R.runs

-- RESOURCE NUMBERS, of the first n
module _ (n : ℕ) (xs : List Resource) where
  abbrev numbers_of : List ℕ → List (List ℕ)
  numbers_of c = pieces (λ r. number_line r (number_at (take n xs) r)) c

  abbrev pub numbers_from : ℕ → List (List ℕ)
  numbers_from i = numbers_of (span (i + 1) n)

  pub numbers-all : bytes (number_lines n (take n xs)) ≡ join (numbers_from 0)
  unfolding number_lines
  numbers-all = pieces-join (λ r. number_line r (number_at (take n xs) r)) (from 1 n) ∙ ap (λ (c : List ℕ). join (numbers_of c)) (span-all n)

  pub numbers-here : (i : ℕ) → i < n → numbers_from i ≡ bytes (number_line (i + 1) (get_or xs i free)) ∷ numbers_from (i + 1)
  numbers-here i h =
      let e : i + 1 - 1 ≡ i = omega arith in
      ap numbers_of (span-next (i + 1) n (omega arith))
      ∙ ap (λ (x : Resource). bytes (number_line (i + 1) x) ∷ numbers_from (i + 1))
      (ap (λ (k : ℕ). get_or (take n xs) k free) e ∙ get_or-take n xs i free h)

-- Laws of pieces that are over, and of the states that are shown, for whoever proves about them.
pub chained-most : (i : ℕ) → i < length chained → get_or chained i 0 < states
chained-most i h = omega (arith, up_to-true 1 6 (get_or chained i 0) (state-at chained refl i h))

pub chains-past : (l : List ℕ) (i : ℕ) → length chained ≤ i → chains_from l i ≡ []
chains-past l i h = ap (map (λ s. bytes_of (chain_line s (get_or (read l) s [])))) (drop_of_length-le chained {i = i} h)

pub held-past : (hs : List ℕ) (i : ℕ) → length hs ≤ i → i ≤ length hs → held_from hs i ≡ []
held-past hs i h l = ap (pieces held_line) (runs_past hs i h l)

pub numbers-past : (n : ℕ) (xs : List Resource) (i : ℕ) → n ≤ i → numbers_from n xs i ≡ []
numbers-past n xs i h = ap (numbers_of n xs) (span_none (i + 1) n (omega arith))
