-- The test that FRESH makes of its four numbers, and what it tells of them.
-- Of any numbers. Assumes nothing.
use Prim.Native.Nat.{ℕ, ◌≤◌}
use mathlib.Core.Path.{◌≡◌}
use mathlib.Core.Bool.{true, ◌&&◌}
use lib.Dec.{leb}
use borrow.Author.Tests.{le-leb, leb-true}
use Rattle.lists.specs.Lists.{up_to}
use Rattle.lists.proofs.Tests.{and, both, up_to-is, up_to-true}
use Rattle.rules.specs.Rules.{sizes, may_start}

pub record Starts (T S R Y : ℕ) : Type 0 where
  pub some : 1 ≤ T
  pub most : T ≤ 256
  pub first : S ≤ T
  pub few : R ≤ 16
  pub earliest : 1970 ≤ Y
  pub latest : Y ≤ 2099

module _ (T S R Y : ℕ) where
  pub starts-true : may_start T S R Y ≡ true → Starts T S R Y
  starts-true e =
      let y = both (sizes T S R) (up_to 1970 2099 Y) e in
      let r = both (up_to 1 256 T && leb S T) (leb R 16) y.0 in
      let t = both (up_to 1 256 T) (leb S T) r.0 in
      record {
        some = (up_to-true 1 256 T t.0).0;
        most = (up_to-true 1 256 T t.0).1;
        first = leb-true S T t.1;
        few = leb-true R 16 r.1;
        earliest = (up_to-true 1970 2099 Y y.1).0;
        latest = (up_to-true 1970 2099 Y y.1).1;
      }

  pub starts_is : Starts T S R Y → may_start T S R Y ≡ true
  starts_is Z =
      and (and (and (up_to-is 1 256 T Z.some Z.most) (le-leb S T Z.first)) (le-leb R 16 Z.few))
      (up_to-is 1970 2099 Y Z.earliest Z.latest)
