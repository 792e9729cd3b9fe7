-- Room for the page of any tables, sound or not, that have no more tracks and numbers than there can be: no number has more
-- than 20 bytes, and no name more than five, so the page has at most 27,483. The parts are those of the page of sound tables, with wider values.
-- Assumes nothing.
use Prim.Native.Nat.{ℕ, zero, suc, ◌+◌, ◌-◌, ◌*◌, ◌<◌, ◌≤◌}
use native.Mathlib.Omega.{arith}
use native.Mathlib.Decide.{ℕ_discrete}
use mathlib.Core.Path.{◌≡◌, refl, ap}
use mathlib.Core.Bool.{Bool, true, false, cond, not}
use mathlib.Core.List.{List, [], ◌∷◌}
use lib.ListN.{length, get_or, take, length-append}
use lib.Dec.{eqb, ltb}
use mir.Val.{Val}
use denote.Array.{each}
use denote.Struct.Declared.{row}
use denote.Shadow.{shadow}
use Rattle.lists.specs.Lists.{from}
use Rattle.text.proofs.Laws.{decimal-most}
use Rattle.records.specs.declared.Program.{Program}
use Rattle.records.specs.declared.Resource.{Resource}
use Rattle.records.specs.declared.Why.{Why}
use Rattle.records.specs.declared.Why.TheVariants.{Nothing, Tracks, Son, Lock, Number}
use Rattle.records.specs.contracts.Program.{the_type}
use Rattle.records.specs.Names.{blank}
use Rattle.records.specs.Records.{missing, record_at}
use Rattle.records.specs.Numbers.{number_at}
use Rattle.tracks.specs.declared.held.Run.{Run}
use Rattle.tracks.specs.Tracks.{nobody, system}
use Rattle.tracks.specs.Runs.{run_of, joined, runs_of}
use Rattle.chains.specs.Links.{walk, read}
use Rattle.chains.proofs.Reading.{get_d_read}
use Rattle.tables.specs.declared.Tables.{Tables}
use Rattle.tables.specs.Tables.{plain}
use Rattle.page.specs.Page.{Line, bytes, chained, reason, recorded, record_lines, chain_lines, held_line, held_lines, number_line, number_lines, used_in, page}
use Rattle.page.proofs.Writing.{pieces-join, held-free, held-system}
use Rattle.page.proofs.Widths.{figure-most, party-most, or_dash-most}
use Rattle.page.proofs.Weights.{weigh, weigh-even, lines-weigh, keep-length}
use Rattle.page.proofs.RecordRoom.{recorded-length, mark-length}
use Rattle.page.proofs.ChainRoom.{mark, chains_of, lines-length}
use Rattle.page.proofs.HeldRoom.{held-length}
use Rattle.page.proofs.HeldRoom as runs
use Rattle.page.proofs.NumberRoom.{number-length}
use Rattle.page.proofs.Room.{used-length, head-length, parts-length}

-- RECORDS
-- no name has more than five bytes
abbrev pub Short : List Program → Type 0
Short ps = (i : ℕ) → length (get_or ps i missing).name ≤ 5

-- as the type of an array of records says
pub short : (ps : List Program) (us : List Val) → shadow (each Program (row the_type).own_val ps us) → Short ps
short [] us g i = omega arith
short (r ∷ rs) [] g i = absurd g
short (r ∷ rs) (u ∷ us) g zero = omega (arith, g.0.1.1.1.0.1.0.1)
short (r ∷ rs) (u ∷ us) g (suc i) = short rs us g.1 i

reason-most : (w : Why) → length (reason w) ≤ 27
reason-most Nothing = omega arith
reason-most (Tracks n) = omega (arith, decimal-most n)
reason-most (Son k) = omega (arith, decimal-most k)
reason-most (Lock r) = omega (arith, decimal-most r)
reason-most Number = omega arith

recorded-most : (p : ℕ) (r : Program) → length r.name ≤ 5 → length (bytes (recorded p r)) ≤ 189
recorded-most p r h =
    omega (
      arith,
      recorded-length p r,
      decimal-most p,
      keep-length (λ c. not (blank c)) r.name,
      decimal-most r.priority,
      decimal-most r.state,
      reason-most r.why,
      or_dash-most (ltb 0 r.due) r.due,
      or_dash-most (ltb 0 r.due) r.interval,
      mark-length r.suspend,
    )

records-most : (ps : List Program) → Short ps → length (bytes (record_lines ps)) ≤ 6048
unfolding record_lines
records-most ps h = omega (
  arith,
  ap length (pieces-join line_of (used_in ps)),
  lines-weigh (λ p. 189) (λ p. bytes (line_of p)) (used_in ps) (λ p k. recorded-most p (record_at ps p) (h (p - 1))),
  weigh-even 189 (used_in ps),
  used-length ps,
)
  where
    line_of : ℕ → List Line
    line_of p = recorded p (record_at ps p)

-- CHAINS
walk-length : (l : List ℕ) (s f : ℕ) → length (walk l s f) ≤ f
unfolding walk
walk-length l s zero = omega arith
walk-length l s (suc f) = go (eqb (get_or l s 0) 0) (walk-length l (7 + get_or l s 0) f)
  where
    go : (t : Bool) → length (walk l (7 + get_or l s 0) f) ≤ f
        → length (cond t [] (get_or l s 0 ∷ walk l (7 + get_or l s 0) f)) ≤ suc f
    go true ih = omega arith
    go false ih = omega arith

chain-length : (l : List ℕ) (s : ℕ) → s < 7 → length (get_or (read l) s []) ≤ 32
chain-length l s h = omega (arith, ap length (get_d_read l s h), walk-length l s 32)

marks-most : (c : List ℕ) → weigh mark c ≤ 21 * length c
marks-most [] = omega arith
marks-most (p ∷ ps) = omega (arith, decimal-most p, marks-most ps)

chained-length : (l : List ℕ) → length (chains_of (read l) chained) ≤ 128
chained-length l =
    simp length-append (omega (
      arith,
      chain-length l 1 (omega arith),
      chain-length l 2 (omega arith),
      chain-length l 3 (omega arith),
      chain-length l 4 (omega arith),
      chain-length l 5 (omega arith),
      chain-length l 6 (omega arith),
    ))

chains-most : (l : List ℕ) → length (bytes (chain_lines (read l))) ≤ 2720
unfolding chain_lines
chains-most l =
    omega (arith, lines-length (read l) chained refl, marks-most (chains_of (read l) chained), chained-length l)

-- RUNS OF TRACKS
held-most : (g : Run) → length (bytes (held_line g)) ≤ 68
held-most g = go (ℕ_discrete g.holder nobody) (ℕ_discrete g.holder system)
  where
    go : Dec (g.holder ≡ nobody) → Dec (g.holder ≡ system) → length (bytes (held_line g)) ≤ 68
    go (yes e) d = omega (arith, ap length (held-free g e))
    go (no n) (yes e) = omega (arith, ap length (held-system g e))
    go (no n) (no m) = omega (arith, held-length g n m, decimal-most g.first, decimal-most g.last, party-most g.holder)

runs-most : (gs : List Run) → length (runs.lines_of gs) ≤ 68 * length gs
runs-most [] = omega arith
runs-most (g ∷ gs) = omega (arith, runs.lines-length g gs, held-most g, runs-most gs)

-- no more runs than tracks
joined-length : (i h : ℕ) (gs : List Run) → length (joined i h gs) ≤ suc (length gs)
joined-length i h [] = omega arith
joined-length i h (g ∷ gs) = go (eqb h g.holder)
  where
    go : (t : Bool) → length (cond t (run_of i g.last h ∷ gs) (run_of i i h ∷ g ∷ gs)) ≤ suc (length (g ∷ gs))
    go true = omega arith
    go false = omega arith

runs-length : (i : ℕ) (hs : List ℕ) → length (runs_of i hs) ≤ length hs
runs-length i [] = omega arith
runs-length i (h ∷ hs) = omega (arith, joined-length i h (runs_of (suc i) hs), runs-length (suc i) hs)

runs_most : (hs : List ℕ) → length hs ≤ 256 → length (bytes (held_lines hs)) ≤ 17408
unfolding held_lines
runs_most hs h =
    omega (arith, ap length (pieces-join held_line (runs_of 0 hs)), runs-most (runs_of 0 hs), runs-length 0 hs)

-- RESOURCE NUMBERS
from-length : (p n : ℕ) → length (from p n) ≡ n
from-length p zero = refl
from-length p (suc n) = ap suc (from-length (suc p) n)

numbers-most : (n : ℕ) (xs : List Resource) → n ≤ 16 → length (bytes (number_lines n xs)) ≤ 1120
unfolding number_lines
numbers-most n xs h = omega (
  arith,
  ap length (pieces-join line_of (from 1 n)),
  lines-weigh (λ r. 70) (λ r. bytes (line_of r)) (from 1 n) (λ r k. each-most r (number_at xs r)),
  weigh-even 70 (from 1 n),
  from-length 1 n,
)
  where
    line_of : ℕ → List Line
    line_of r = number_line r (number_at xs r)

    each-most : (r : ℕ) (x : Resource) → length (bytes (number_line r x)) ≤ 70
    each-most r x =
        omega (arith, number-length r x, decimal-most r, party-most x.owner, or_dash-most (ltb 0 x.lock) x.lock)

-- THE PAGE
take-most : {A : Type 0} (n : ℕ) (xs : List A) → length (take n xs) ≤ n
take-most zero xs = omega arith
take-most (suc n) [] = omega arith
take-most (suc n) (x ∷ xs) = omega (arith, take-most n xs)

pub widest : (t : Tables) → Short t.ledger.programs → t.ledger.tracks.count ≤ 256 → t.ledger.numbers.count ≤ 16
    → length (page (plain t)) ≤ 27483
widest t h k n =
    let b = (plain t).book in
    omega (
      arith,
      parts-length (plain t),
      head-length b,
      figure-most "clock" b.clock,
      figure-most "year" b.year,
      figure-most "tracks" b.tracks,
      figure-most "system" b.system,
      figure-most "numbers" b.numbers,
      figure-most "programs" (length (used_in b.programs)),
      records-most b.programs h,
      chains-most t.links,
      runs_most b.holders (omega (arith, take-most t.ledger.tracks.count t.ledger.tracks.holders)),
      numbers-most b.numbers b.resources n,
    )
