-- Exactly the pages that are written from sound tables are read, each of them as those tables; no two sound tables have one page; and
-- what is not read gives 15, the first bad line or 0, and the smallest tables.
-- Assumes nothing.
use Prim.Native.Nat.{ℕ, zero, suc}
use native.Mathlib.Omega.{arith}
use mathlib.Core.Path.{◌≡◌, refl, sym, ap, ◌∙◌}
use mathlib.Core.Logic.{◌≢◌}
use mathlib.Core.Bool.{Bool, true, false}
use mathlib.Core.List.{List}
use Rattle.lists.specs.Lists.{alike}
use Rattle.lists.proofs.Tests.{both, alike-true}
use Rattle.text.specs.Text.{parts}
use Rattle.tables.specs.declared.Tables.{Tables}
use Rattle.tables.specs.Tables.{plain, lay, Arrays}
use Rattle.tables.specs.Sound.{Sound, sound}
use Rattle.tables.specs.Calls.{Result}
use Rattle.tables.proofs.Agree.{sound-clauses}
use Rattle.page.specs.Page.{page}
use Rattle.reader.specs.Order.{page_ahead, first_bad}
use Rattle.reader.specs.Said.{said}
use Rattle.reader.specs.Reading.{was_read, not_read, writes, judged, reading}
use Rattle.reader.specs.Lines.{WrittenBy, Exactly}
use Rattle.reader.proofs.Lengths.{said-arrays}
use Rattle.reader.proofs.RoundTrip.{read-written}

-- what is judged read
record Read (s : List ℕ) (t : Tables) (r : Result) : Type 0 where
  tables : r ≡ was_read t
  written : writes t s ≡ true

abbrev judged_by : Tables → Bool → Result
judged_by t b = elim b [ true ↦ was_read t | false ↦ not_read 0 ]

judged-read : (s : List ℕ) (n : ℕ) (t : Tables) → (judged s n t).number ≡ 0 → Read s t (judged s n t)
judged-read s zero t e = go (writes t s) refl e
  where
    go : (b : Bool) → writes t s ≡ b → (judged_by t b).number ≡ 0 → Read s t (judged_by t b)
    go true w e = record { tables = refl; written = w }
    go false w e = absurd (omega arith)
judged-read s (suc n) t e = absurd (omega arith)

judged-not : (s : List ℕ) (n : ℕ) (t : Tables) → (judged s n t).number ≢ 0 → judged s n t ≡ not_read n
judged-not s zero t e = go (writes t s) e
  where
    go : (b : Bool) → (judged_by t b).number ≢ 0 → judged_by t b ≡ not_read 0
    go true e = absurd (e refl)
    go false e = refl
judged-not s (suc n) t e = refl

module _ (s : List ℕ) where
  read_is : (reading s).number ≡ 0 → Read s (lay (said (parts 10 s))) (reading s)
  unfolding reading
  read_is e = judged-read s (first_bad page_ahead 1 (parts 10 s)) (lay (said (parts 10 s))) e

  -- what is read is sound, and is written as these bytes
  pub accepted : (reading s).number ≡ 0 → Sound (reading s).tables × (page (plain (reading s).tables) ≡ s)
  unfolding writes
  accepted e =
      let r = read_is e in
      let t = lay (said (parts 10 s)) in
      let b = both (sound t) (alike (page (plain t)) s) r.written in
      let q = ap (λ (x : Result). x.tables) r.tables in
      (rw q (sound-clauses t b.0), ap (λ (u : Tables). page (plain u)) q ∙ alike-true (page (plain t)) s b.1)

  pub accepted-arrays : (reading s).number ≡ 0 → Arrays (reading s).tables
  accepted-arrays e = rw (ap (λ (x : Result). x.tables) (read_is e).tables) (said-arrays (parts 10 s))

  pub not-read : (reading s).number ≢ 0 → reading s ≡ not_read (first_bad page_ahead 1 (parts 10 s))
  unfolding reading
  not-read n = judged-not s (first_bad page_ahead 1 (parts 10 s)) (lay (said (parts 10 s))) n

pub written_read : (t : Tables) (s : List ℕ) → WrittenBy t s → reading s ≡ was_read t
written_read t s W = ap reading (sym W.bytes) ∙ read-written t W.arrays W.lawful

pub accepts-exactly : (s : List ℕ) → Exactly s
accepts-exactly s = record {
  read = λ e.
      let a = accepted s e in
      let W : WrittenBy (reading s).tables s = record { arrays = accepted-arrays s e; lawful = a.0; bytes = a.1 } in
      ((reading s).tables, W, written_read (reading s).tables s W);
  written = λ t W. written_read t s W;
}

-- sound tables are told by their page
pub one-page : (t u : Tables) → Arrays t → Arrays u → Sound t → Sound u → page (plain t) ≡ page (plain u) → t ≡ u
one-page t u A B C D p =
    ap (λ (r : Result). r.tables) (sym (read-written t A C) ∙ ap reading p ∙ read-written u B D)
