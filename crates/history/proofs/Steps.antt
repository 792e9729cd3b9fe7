-- What the parts of a call come to on sound tables: a request keeps to its plan, and PAGE leaves the tables.
-- Assumes nothing.
use Prim.Native.Nat.{ℕ}
use mathlib.Core.Path.{◌≡◌, refl, ◌∙◌}
use mathlib.Core.Bool.{Bool, true, false}
use mathlib.Core.List.{List}
use lib.ListN.{length}
use lib.Dec.{leb}
use Rattle.rules.specs.Requests.{Request}
use Rattle.rules.specs.Keeper.{lists, asks}
use Rattle.rules.specs.Engine.{written_in, paged_in}
use Rattle.tables.specs.declared.Tables.{Tables}
use Rattle.tables.specs.Tables.{plain}
use Rattle.tables.specs.Sound.{sound}
use Rattle.tables.specs.Calls.{asked, planned}
use Rattle.tables.proofs.Serving.{asked-sound, served-planned}
use Rattle.page.specs.Page.{page}
use Rattle.page.specs.Paging.{written, paged}
use Rattle.console.specs.Line.{line_of}
use Rattle.console.specs.Console.{obeyed, keyed, keyed_in}

-- PAGE leaves the tables
pub written-leaves : (t : Tables) (buf : List ℕ) → (written t buf).tables ≡ t
unfolding written_in
written-leaves t buf = go (leb (length (page (plain t))) (length buf)) refl
  where
    go : (b : Bool) → leb (length (page (plain t))) (length buf) ≡ b → (written t buf).tables ≡ t
    go true e = rw (e, written_in)
    go false e = rw (e, written_in)

module _ (t : Tables) (e : sound t ≡ true) where
  -- the test of soundness is passed
  pub asked-planned : (q : Request) → asked t q ≡ planned t (asks lists (plain t) q)
  asked-planned q = asked-sound t q e ∙ served-planned t q

  pub paged-sound : (buf : List ℕ) → paged t buf ≡ written t buf
  unfolding paged_in
  paged-sound buf = rw (e, paged_in)

  pub keyed-sound : (bytes buf : List ℕ) → keyed t bytes buf ≡ obeyed t buf (line_of bytes)
  unfolding keyed_in
  keyed-sound bytes buf = rw (e, keyed_in)
