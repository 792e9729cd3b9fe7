-- The tables after some lines: sound and with the arrays of the code's types where those before were; and line by line through a text.
-- Assumes nothing.
use Prim.Native.Nat.{ℕ, zero, suc, ◌+◌, ◌≤◌, ◌<◌}
use mathlib.Core.Path.{◌≡◌, sym, ap, subst, ◌∙◌}
use mathlib.Core.Bool.{true}
use mathlib.Core.List.{List, [], ◌∷◌}
use lib.ListN.{length, drop}
use lib.Seq.{slice}
use Rattle.text.specs.Inner.{PartEnd}
use Rattle.text.specs.Lines.{lines_of}
use Rattle.text.proofs.Lines.{lines_none, lines_next}
use Rattle.rules.specs.Requests.{Request, TICK}
use Rattle.rules.specs.Plans.{Event, events_of}
use Rattle.rules.specs.Keeper.{lists, State, play, view}
use Rattle.rules.specs.Keeper as keeper
use Rattle.rules.specs.Sound as rules
use Rattle.rules.specs.Engine.{after_ticks}
use Rattle.rules.proofs.soundness.SoundRuns.{sound-after}
use Rattle.rules.proofs.shared.ManyTicks.{Comes, refuses, makes, comes}
use Rattle.tables.specs.declared.Tables.{Tables}
use Rattle.tables.specs.Tables.{plain, lay, Arrays, clock_of}
use Rattle.tables.specs.Sound.{sound}
use Rattle.tables.specs.Calls.{laid, asked, many_ticks, served}
use Rattle.tables.proofs.Agree.{sound-clauses}
use Rattle.tables.proofs.Plain.{sound-plain, sound-asked}
use Rattle.page.specs.Paging.{Written}
use Rattle.reader.proofs.Lengths.{sized-arrays}
use Rattle.console.specs.Line.{Line, bad, PAGE, asks, ticks, line_of}
use Rattle.console.specs.Console.{obeyed, keyed}
use Rattle.console.specs.Sheet.{lent}
use Rattle.blocks.specs.Blocks.{kept_after, tables_after}
use Rattle.history.proofs.Steps.{written-leaves, paged-sound, keyed-sound}

-- tables that are sound, with arrays as long as the code's types say
pub record Good (t : Tables) : Type 0 where
  pub test : sound t ≡ true
  pub arrays : Arrays t

-- what a sound state lays out has such arrays
lay-arrays : (a : State lists) → rules.Sound a → Arrays (lay a)
lay-arrays a S =
    sized-arrays a
    (record {
      programs = S.shape.programs;
      holders = S.shape.holders;
      tracks = S.limits.most;
      resources = S.shape.resources;
      numbers = S.limits.few;
    })

laid-arrays : (t : Tables) (es : List Event) → Arrays t → rules.Sound (play lists es (plain t)) → Arrays (laid t es)
laid-arrays t [] A S = A
laid-arrays t (e ∷ es) A S = lay-arrays (play lists (e ∷ es) (plain t)) S

asked-good : (t : Tables) (q : Request) → Good t → Good (asked t q).tables
unfolding asked served
asked-good t q G = record {
  test = sound-asked t G.arrays q G.test;
  arrays =
      rw (G.test, asked)
      (laid-arrays t (events_of (view lists (plain t)) (keeper.asks lists (plain t) q)) G.arrays
      (sound-after (plain t) (sound-plain t G.arrays (sound-clauses t G.test)) q));
}

-- so many ticks are one after another
ticks-good : (n : ℕ) (t : Tables) → Good t → Good (after_ticks asked n t)
unfolding after_ticks
ticks-good zero t G = G
ticks-good (suc n) t G = ticks-good n (asked t TICK).tables (asked-good t TICK G)

ticked-good : (t : Tables) (n : ℕ) → Good t → Good (many_ticks t n).tables
ticked-good t n G = go (comes sound clock_of asked t n)
  where
    go : Comes sound clock_of asked t n → Good (many_ticks t n).tables
    go (refuses a l h e) = rw e G
    go (makes M) = rw M.made (ticks-good n t G)

obeyed-good : (t : Tables) (x : Line) → Good t → Good (obeyed t lent x).tables
obeyed-good t bad G = G
obeyed-good t PAGE G =
    subst Good (sym (ap (λ (w : Written). w.tables) (paged-sound t G.test lent) ∙ written-leaves t lent)) G
obeyed-good t (asks q) G = asked-good t q G
obeyed-good t (ticks n) G = ticked-good t n G

keyed-good : (t : Tables) (l : List ℕ) → Good t → Good (keyed t l lent).tables
keyed-good t l G =
    subst Good (sym (ap (λ (w : Written). w.tables) (keyed-sound t G.test l lent))) (obeyed-good t (line_of l) G)

pub after-good : (ls : List (List ℕ)) (t : Tables) → Good t → Good (tables_after t ls)
unfolding kept_after
after-good [] t G = G
after-good (l ∷ ls) t G = after-good ls (keyed t l lent).tables (keyed-good t l G)

-- a text's line obeyed, and then those behind it
module _ (s : List ℕ) (t : Tables) (at : ℕ) where
  pub after_none : length s ≤ at → tables_after t (lines_of (drop at s)) ≡ t
  unfolding kept_after
  after_none h = ap (tables_after t) (lines_none s at h)

  pub after_line : (e : ℕ) → at < length s → PartEnd 10 s at e → (u : Tables) → u ≡ (keyed t (slice at e s) lent).tables
      → tables_after u (lines_of (drop (e + 1) s)) ≡ tables_after t (lines_of (drop at s))
  unfolding kept_after
  after_line e h p u is =
      ap (λ (v : Tables). tables_after v (lines_of (drop (e + 1) s))) is ∙ sym (ap (tables_after t) (lines_next s at e h p))
