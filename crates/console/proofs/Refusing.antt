-- On any tables, what a request, TICK,n, PAGE or a line hands back has a number of the outline's list, and where that is a refusal, the tables and
-- the lent buffer are those that were given.
-- A plan that is refused holds no events, and where nothing happens the tables come back themselves; 12, 13 and 14 are
-- told where the tables are handed back.
-- Assumes nothing.
use Prim.Native.Nat.{ℕ, ◌≤◌}
use native.Mathlib.Omega.{arith}
use mathlib.Core.Path.{◌≡◌, refl, ap, ◌∙◌}
use mathlib.Core.Bool.{Bool, true, false}
use mathlib.Core.List.{List}
use lib.ListN.{length}
use lib.Dec.{leb}
use Rattle.rules.specs.Requests.{Request}
use Rattle.rules.specs.Keeper.{lists}
use Rattle.rules.specs.Engine.{beside, written_in, paged_in}
use Rattle.rules.proofs.refusals.Refusals.{answered}
use Rattle.rules.proofs.shared.ManyTicks.{Comes, refuses, makes, comes}
use Rattle.tables.specs.declared.Tables.{Tables}
use Rattle.tables.specs.Tables.{plain, clock_of}
use Rattle.tables.specs.Sound.{sound}
use Rattle.tables.specs.Calls.{laid, asked, many_ticks}
use Rattle.tables.proofs.Serving.{asked-sound, served-planned}
use Rattle.page.specs.Page.{page}
use Rattle.page.specs.Paging.{Written, written, paged}
use Rattle.console.specs.Line.{Line, bad, PAGE, asks, ticks, line_of}
use Rattle.console.specs.Console.{keyed_in, obeyed, keyed}

-- of what is handed back where tables t and a buffer were given
pub record Kept (t : Tables) (buf : List ℕ) (w : Written) : Type 0 where
  pub listed : w.number ≤ 14
  pub tables : 2 ≤ w.number → w.tables ≡ t
  pub buffer : 2 ≤ w.number → w.buffer ≡ buf

module _ (t : Tables) (buf : List ℕ) where
  pub asked-kept : (q : Request) → Kept t buf (beside buf (asked t q))
  unfolding asked
  asked-kept q = go (sound t) refl
    where
      go : (b : Bool) → sound t ≡ b → Kept t buf (beside buf (asked t q))
      go true e = rw (asked-sound t q e ∙ served-planned t q)
          (record {
            listed = omega (arith, (answered lists (plain t) q).highest);
            tables = λ h. ap (laid t) ((answered lists (plain t) q).nothing h);
            buffer = λ h. refl;
          })
      go false e = rw (e, asked) (record { listed = omega arith; tables = λ h. refl; buffer = λ h. refl })

  pub ticked-kept : (n : ℕ) → Kept t buf (beside buf (many_ticks t n))
  ticked-kept n = go (comes sound clock_of asked t n)
    where
      go : Comes sound clock_of asked t n → Kept t buf (beside buf (many_ticks t n))
      go (refuses a l h e) = rw e (record { listed = h; tables = λ k. refl; buffer = λ k. refl })
      go (makes A) = rw A.made (record { listed = omega arith; tables = λ k. absurd (omega arith); buffer = λ k. refl })

  written-kept : Kept t buf (written t buf)
  unfolding written_in
  written-kept = go (leb (length (page (plain t))) (length buf)) refl
    where
      go : (b : Bool) → leb (length (page (plain t))) (length buf) ≡ b → Kept t buf (written t buf)
      go true e = rw (e, written_in) (record { listed = omega arith; tables = λ h. refl; buffer = λ h. absurd (omega arith) })
      go false e = rw (e, written_in) (record { listed = omega arith; tables = λ h. refl; buffer = λ h. refl })

  pub paged-kept : Kept t buf (paged t buf)
  unfolding paged_in
  paged-kept = go (sound t) refl
    where
      go : (b : Bool) → sound t ≡ b → Kept t buf (paged t buf)
      go true e = rw (e, paged_in) written-kept
      go false e = rw (e, paged_in) (record { listed = omega arith; tables = λ h. refl; buffer = λ h. refl })

  obeyed-kept : (l : Line) → Kept t buf (obeyed t buf l)
  obeyed-kept bad = record { listed = omega arith; tables = λ h. refl; buffer = λ h. refl }
  obeyed-kept PAGE = paged-kept
  obeyed-kept (asks q) = asked-kept q
  obeyed-kept (ticks n) = ticked-kept n

  pub keyed-kept : (bytes : List ℕ) → Kept t buf (keyed t bytes buf)
  unfolding keyed_in
  keyed-kept bytes = go (sound t) refl
    where
      go : (b : Bool) → sound t ≡ b → Kept t buf (keyed t bytes buf)
      go true e = rw (e, keyed_in) (obeyed-kept (line_of bytes))
      go false e = rw (e, keyed_in) (record { listed = omega arith; tables = λ h. refl; buffer = λ h. refl })
