-- The verdict is `follows` exactly where some sound tables write the first page and the tables after the lines are the very tables that
-- write the next; that is what it is to follow; and what the other verdicts say. By what the reader promises: a page is read exactly where
-- sound tables write it, and no two sound tables write one page.
-- Assumes nothing.
use Prim.Native.Nat.{ℕ, ◌≤◌}
use native.Mathlib.Omega.{arith}
use mathlib.Core.Path.{◌≡◌, refl, sym, ap, subst, ◌∙◌}
use mathlib.Core.Logic.{◌≢◌}
use mathlib.Core.Bool.{Bool, true, false}
use mathlib.Core.List.{List}
use lib.ListN.{length}
use native.Mathlib.Decide.{ℕ_discrete}
use Rattle.lists.specs.Lists.{alike}
use Rattle.lists.proofs.Tests.{clash, alike-true, alike_is}
use Rattle.tables.specs.declared.Tables.{Tables}
use Rattle.tables.specs.Tables.{plain}
use Rattle.tables.specs.Calls.{Result}
use Rattle.tables.proofs.Agree.{sound-clauses, sound-test}
use Rattle.page.specs.Page.{page}
use Rattle.reader.specs.Reading.{not_read, reading}
use Rattle.reader.specs.Lines.{WrittenBy}
use Rattle.reader.proofs.Exact.{accepts-exactly, accepted, accepted-arrays, one-page}
use Rattle.console.specs.Sheet.{lent}
use Rattle.console.proofs.Refusing.{keyed-kept}
use Rattle.blocks.specs.Blocks.{kept_after, tables_after}
use Rattle.following.specs.Differences.{Difference, differences}
use Rattle.following.specs.Following.{Verdict, no_first, no_next, follows, does_not_follow, refused_at, verdict}
use Rattle.following.specs.Promises.{FollowsExactly, IsFollow, Otherwise, TellsSome, Passes}
use Rattle.following.proofs.AfterLines.{Good, after-good}
use Rattle.following.proofs.Differing.{EndsTen, page-ends, some-difference}
use Rattle.following.proofs.Judged.{not-page, held-not, held-is, compared_same, compared-other, first-not, first-is}

-- which of the four a verdict is, its value, and how many differences it has
abbrev kind : Verdict → ℕ
kind (no_first n) = 0
kind (no_next n) = 1
kind follows = 2
kind (does_not_follow ds) = 3

abbrev value_in : Verdict → ℕ
value_in (no_first n) = n
value_in (no_next n) = n
value_in follows = 0
value_in (does_not_follow ds) = 0

abbrev many : Verdict → ℕ
many (no_first n) = 0
many (no_next n) = 0
many follows = 0
many (does_not_follow ds) = length ds

module _ (first : List ℕ) (ls : List (List ℕ)) (next : List ℕ) where
  -- the tables after the lines
  abbrev end : Tables
  end = tables_after (reading first).tables ls

  data Case : Verdict → Type 0 where
    without-first : (reading first).number ≢ 0 → Case (no_first (refused_at (reading first)))
    without-next : (reading first).number ≡ 0 → (reading next).number ≢ 0 → Case (no_next (refused_at (reading next)))
    same : (reading first).number ≡ 0 → (reading next).number ≡ 0 → page (plain end) ≡ next → Case follows
    other : (reading first).number ≡ 0 → (reading next).number ≡ 0 → (page (plain end) ≡ next → ⊥)
        → Case (does_not_follow (differences next (page (plain end))))

  held : {v w : Verdict} → v ≡ w → Case w → Case v
  held e c = rw e c

  case : Case (verdict first ls next)
  case = begin (ℕ_discrete (reading first).number 0)
    where
      bytes : (reading first).number ≡ 0 → (reading next).number ≡ 0 → (b : Bool) → alike (page (plain end)) next ≡ b
          → Case (verdict first ls next)
      bytes e f true a =
          held (first-is first ls next e ∙ held-is end next f ∙ compared_same (page (plain end)) next a)
          (same e f (alike-true (page (plain end)) next a))
      bytes e f false a =
          held (first-is first ls next e ∙ held-is end next f ∙ compared-other (page (plain end)) next a)
          (other e f (λ q. clash (alike_is (page (plain end)) next q) a))

      then : (reading first).number ≡ 0 → Dec ((reading next).number ≡ 0) → Case (verdict first ls next)
      then e (yes f) = bytes e f (alike (page (plain end)) next) refl
      then e (no n) = held (first-is first ls next e ∙ held-not end next n) (without-next e n)

      begin : Dec ((reading first).number ≡ 0) → Case (verdict first ls next)
      begin (yes e) = then e (ℕ_discrete (reading next).number 0)
      begin (no n) = held (first-not first ls next n) (without-first n)

  -- the tables of two pages that are read
  written : (s : List ℕ) → (reading s).number ≡ 0 → WrittenBy (reading s).tables s
  written s e = record { arrays = accepted-arrays s e; lawful = (accepted s e).0; bytes = (accepted s e).1 }

  good : (reading first).number ≡ 0 → Good end
  good e =
      after-good ls (reading first).tables
      (record { test = sound-test (reading first).tables (accepted first e).0; arrays = accepted-arrays first e })

  -- those after the lines write the next page exactly where they are its own
  one : (reading first).number ≡ 0 → (reading next).number ≡ 0 → page (plain end) ≡ next → end ≡ (reading next).tables
  one e f p =
      let g = good e in
      one-page end (reading next).tables g.arrays (accepted-arrays next f) (sound-clauses end g.test) (accepted next f).0
      (p ∙ sym (accepted next f).1)

  -- what sound tables write is read, and gives them back
  number_is : (t : Tables) (s : List ℕ) → WrittenBy t s → (reading s).number ≡ 0
  number_is t s W = ap (λ (r : Result). r.number) ((accepts-exactly s).written t W)

  tables-are : (t : Tables) (s : List ℕ) → WrittenBy t s → (reading s).tables ≡ t
  tables-are t s W = ap (λ (r : Result). r.tables) ((accepts-exactly s).written t W)

  follow-is : {v : Verdict} → Case v → v ≡ follows → ((reading first).number ≡ 0) × ((reading next).number ≡ 0) × (page (plain end) ≡ next)
  follow-is (without-first n) q = absurd (omega (arith, ap kind q))
  follow-is (without-next e n) q = absurd (omega (arith, ap kind q))
  follow-is (same e f p) q = (e, f, p)
  follow-is (other e f p) q = absurd (omega (arith, ap kind q))

  is-follow : {v : Verdict} → Case v → (reading first).number ≡ 0 → (reading next).number ≡ 0 → page (plain end) ≡ next → v ≡ follows
  is-follow (without-first n) e f p = absurd (n e)
  is-follow (without-next e n) e' f p = absurd (n f)
  is-follow (same e f p) e' f' p' = refl
  is-follow (other e f n) e' f' p = absurd (n p)

  pub follows-exactly : FollowsExactly first ls next
  follows-exactly = record {
    only = λ q.
        let c = follow-is case q in
        ((reading first).tables, (reading next).tables, written first c.0, written next c.1, one c.0 c.1 c.2);
    all = λ t u W Z e.
        let same : end ≡ u = ap (λ (x : Tables). tables_after x ls) (tables-are t first W) ∙ e in
        is-follow case (number_is t first W) (number_is u next Z) (ap (λ (x : Tables). page (plain x)) same ∙ Z.bytes);
  }

  -- what the tables after the lines write is a page
  next-read : (reading first).number ≡ 0 → page (plain end) ≡ next → (reading next).number ≡ 0
  next-read e p =
      let g = good e in
      number_is end next (record { arrays = g.arrays; lawful = sound-clauses end g.test; bytes = p })

  pub is-to-follow : IsFollow first ls next
  is-to-follow = record {
    only = λ q. let c = follow-is case q in record { read = c.0; written = c.2 };
    all = λ F. is-follow case F.read (next-read F.read F.written) F.written;
  }

  first-told : {v : Verdict} → Case v → (n : ℕ) → v ≡ no_first n → reading first ≡ not_read n
  first-told (without-first r) n q = not-page first r ∙ ap not_read (ap value_in q)
  first-told (without-next e r) n q = absurd (omega (arith, ap kind q))
  first-told (same e f p) n q = absurd (omega (arith, ap kind q))
  first-told (other e f p) n q = absurd (omega (arith, ap kind q))

  next-told : {v : Verdict} → Case v → (n : ℕ) → v ≡ no_next n → ((reading first).number ≡ 0) × (reading next ≡ not_read n)
  next-told (without-first r) n q = absurd (omega (arith, ap kind q))
  next-told (without-next e r) n q = (e, not-page next r ∙ ap not_read (ap value_in q))
  next-told (same e f p) n q = absurd (omega (arith, ap kind q))
  next-told (other e f p) n q = absurd (omega (arith, ap kind q))

  differ-told : {v : Verdict} → Case v → (ds : List Difference) → v ≡ does_not_follow ds
      → (t u : Tables) × WrittenBy t first × WrittenBy u next × (tables_after t ls ≡ u → ⊥)
  differ-told (without-first r) ds q = absurd (omega (arith, ap kind q))
  differ-told (without-next e r) ds q = absurd (omega (arith, ap kind q))
  differ-told (same e f p) ds q = absurd (omega (arith, ap kind q))
  differ-told (other e f n) ds q = (
    (reading first).tables,
    (reading next).tables,
    written first e,
    written next f,
    λ i. n (ap (λ (x : Tables). page (plain x)) i ∙ (accepted next f).1),
  )

  pub otherwise : Otherwise first ls next
  otherwise = record { no-first = first-told case; no-next = next-told case; does_not = differ-told case }

  some-told : {v : Verdict} → Case v → (ds : List Difference) → v ≡ does_not_follow ds → 1 ≤ length ds
  some-told (without-first r) ds q = absurd (omega (arith, ap kind q))
  some-told (without-next e r) ds q = absurd (omega (arith, ap kind q))
  some-told (same e f p) ds q = absurd (omega (arith, ap kind q))
  some-told (other e f n) ds q =
      let ends = subst EndsTen (accepted next f).1 (page-ends (plain (reading next).tables)) in
      omega (arith, ap many q, some-difference ends (page-ends (plain end)) (λ i. n (sym i)))

  pub tells-some : TellsSome first ls next
  tells-some = some-told case

pub refused-passes : (t : Tables) (l : List ℕ) (ls : List (List ℕ)) → Passes t l ls
unfolding kept_after
refused-passes t l ls h = ap (λ (u : Tables). tables_after u ls) ((keyed-kept t lent l).tables h)
