-- EXEC 4, 15, 5 and 16, test by test.
-- Assumes nothing.
use Prim.Native.Nat.{ℕ, ◌+◌, ◌≤◌}
use native.Mathlib.Omega.{arith}
use mathlib.Core.Path.{◌≡◌, sym, ap, ◌∙◌}
use mathlib.Core.Bool.{Bool, true, false, ◌&&◌}
use mathlib.Core.List.{List, [], ◌∷◌}
use lib.ListN.{drop}
use lib.Dec.{leb}
use borrow.Author.Tests.{leb-true, le-leb}
use Rattle.lists.specs.Lists.{count, up_to}
use Rattle.lists.proofs.Tests.{both, and, up_to-true, up_to-is}
use Rattle.records.specs.declared.Why.TheVariants.{Tracks}
use Rattle.tracks.specs.declared.Tracks as table
use Rattle.std.specs.Prelude.{Option, Some, None}
use Rattle.tracks.specs.Tracks.{nobody, holders, run, lowest, filled, replaced}
use Rattle.tracks.specs.Inner.{Fit, found_is}
use Rattle.tracks.proofs.Runs.{lowest-found}
use Rattle.rules.specs.Plans.{View, refused, done, held, releasing}
use Rattle.rules.specs.Rules.{waits, frees, takes, gives, call}
use Rattle.rules.specs.Requests.{EXEC5ALL}
use Rattle.rules.proofs.shared.Paths.{need-met, need-failed, found_at, found_none}
use Rattle.decisions.specs.Inner.{OfTracks}
use Rattle.decisions.proofs.Laws.{fails}

-- of T tracks, n and w are allowed
pub record Allowed (T n w : ℕ) : Type 0 where
  pub least : 1 ≤ n
  pub most : n ≤ T
  pub waits : w ≤ 1

module _ (v : View) (c h n w : ℕ) where
  pub takes-not : (Allowed v.book.tracks n w → ⊥) → takes v c h n w ≡ refused 3 0
  unfolding takes
  takes-not f =
      need-failed 3 0 _
      (fails _ λ e.
      let p = both (up_to 1 v.book.tracks n) (leb w 1) e in
      let q = up_to-true 1 v.book.tracks n p.0 in
      f (record { least = q.0; most = q.1; waits = leb-true w 1 p.1 }))

  module _ (x : table.Tracks) (O : OfTracks v x) (A : Allowed v.book.tracks n w) (f : Option ℕ)
      (F : found_is f ≡ lowest n 0 (holders x)) where
    allowed : (up_to 1 v.book.tracks n && leb w 1) ≡ true
    allowed = and (up_to-is 1 v.book.tracks n A.least A.most) (le-leb w 1 A.waits)

    there : lowest n 0 v.book.holders ≡ found_is f
    there = ap (lowest n 0) O.held ∙ sym F

    pub takes-waits : f ≡ None → takes v c h n w ≡ waits c w 5 (Tracks n)
    unfolding takes
    takes-waits e = need-met 3 0 _ allowed ∙ found_none (lowest n 0 v.book.holders) _ _ (there ∙ ap found_is e)

    module _ (i : ℕ) (e : f ≡ Some i) where
      pub takes-done : takes v c h n w ≡ done (i ∷ []) (held (filled i n h v.book.holders) ∷ [])
      unfolding takes
      takes-done = need-met 3 0 _ allowed ∙ found_at (lowest n 0 v.book.holders) i _ _ (there ∙ ap found_is e)

pub takes-room : (x : table.Tracks) (n i : ℕ) (f : Option ℕ) → Fit x → 1 ≤ n → found_is f ≡ lowest n 0 (holders x) → f ≡ Some i → i + n ≤ x.count
takes-room x n i f fit l F e = omega (arith, (lowest-found n (holders x) i l (sym F ∙ ap found_is e)).there.within, fit.long)

-- of T tracks, n from start on are there
pub record There (T n start : ℕ) : Type 0 where
  pub least : 1 ≤ n
  pub within : start + n ≤ T

module _ (v : View) (h n start : ℕ) where
  pub gives-not : (There v.book.tracks n start → ⊥) → gives v h n start ≡ refused 3 0
  unfolding gives
  gives-not f =
      need-failed 3 0 _
      (fails _ λ e.
      let p = both (leb 1 n) (leb (start + n) v.book.tracks) e in
      f (record { least = leb-true 1 n p.0; within = leb-true (start + n) v.book.tracks p.1 }))

  module _ (x : table.Tracks) (O : OfTracks v x) (A : There v.book.tracks n start) (b : Bool)
      (B : b ≡ run h n (drop start (holders x))) where
    inside : (leb 1 n && leb (start + n) v.book.tracks) ≡ true
    inside = and (le-leb 1 n A.least) (le-leb (start + n) v.book.tracks A.within)

    runs : run h n (drop start v.book.holders) ≡ b
    runs = ap (λ (xs : List ℕ). run h n (drop start xs)) O.held ∙ sym B

    pub gives-stray : b ≡ false → gives v h n start ≡ refused 9 0
    unfolding gives
    gives-stray e = need-met 3 0 _ inside ∙ need-failed 9 0 _ (runs ∙ e)

    pub gives-done : b ≡ true → gives v h n start ≡ releasing (n ∷ []) (held (filled start n nobody v.book.holders) ∷ []) (frees n)
    unfolding gives
    gives-done e = need-met 3 0 _ inside ∙ need-met 9 0 _ (runs ∙ e)

pub gives_all : (v : View) (c n : ℕ) → count c v.book.holders ≡ n
    → call v c EXEC5ALL ≡ releasing (n ∷ []) (held (replaced c nobody v.book.holders) ∷ []) (frees n)
unfolding call
gives_all v c n e = ap (λ (k : ℕ). releasing (k ∷ []) (held (replaced c nobody v.book.holders) ∷ []) (frees k)) e
