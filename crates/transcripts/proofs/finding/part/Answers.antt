-- `finding::part` meets its contract: a confined place lies within its text, and names the part that is taken. Assumes nothing.
use Prim.Native.Nat.{ℕ, ◌≤◌}
use native.Mathlib.Omega.{arith}
use mathlib.Core.Path.{◌≡◌, refl, sym, subst}
use mathlib.Core.List.{List}
use lib.ListN.{length}
use Rattle.transcripts.specs.declared.finding.Mark.{Mark}
use Rattle.transcripts.specs.declared.finding.Mark.TheVariants.{Original, Copy}
use Rattle.transcripts.specs.declared.finding.Place.{Place}
use Rattle.transcripts.specs.Finding.{marked, within}
use Rattle.transcripts.proofs.LineLaws.{part-taken}
use Rattle.transcripts.proofs.FindingLaws.{confined, part_at}
use Rattle.transcripts.proofs.finding.part.Goals as goal

-- a confined place with this mark
low : (original copy : List ℕ) (p q : Place) → q ≡ within original copy p → q.begins ≤ q.ends
low original copy p q e = subst (λ (x : Place). x.begins ≤ x.ends) (sym e) (confined original copy p).0

high : (original copy : List ℕ) (p q : Place) (m : Mark) → q ≡ within original copy p → q.mark ≡ m
    → q.ends ≤ length (marked m original copy)
high original copy p q m e f =
    subst (λ (k : Mark). q.ends ≤ length (marked k original copy)) f
    (subst (λ (x : Place). x.ends ≤ length (marked x.mark original copy)) (sym e) (confined original copy p).1)

pub slice_bounds-result-count : goal.slice_bounds-result-count
slice_bounds-result-count c = let a = c.args in
    low a.original.now a.copy.now a.place _ c.confine-p.ensures

pub slice_bounds-result-end : goal.slice_bounds-result-end
slice_bounds-result-end c = let a = c.args in
    high a.original.now a.copy.now a.place _ Original c.confine-p.ensures c.in-Original.is

pub slice_bounds-result-count-in-Copy : goal.slice_bounds-result-count-in-Copy
slice_bounds-result-count-in-Copy c = let a = c.args in
    low a.original.now a.copy.now a.place _ c.confine-p.ensures

pub slice_bounds-result-end-in-Copy : goal.slice_bounds-result-end-in-Copy
slice_bounds-result-end-in-Copy c = let a = c.args in
    high a.original.now a.copy.now a.place _ Copy c.confine-p.ensures c.in-Copy.is

pub returns-in-Original : goal.returns-in-Original
returns-in-Original c =
    let a = c.args in
    let q = c.confine-p in
    part_at a.original a.copy a.place q.result Original _ q.ensures c.in-Original.is (record {
      memory = refl;
      begins = omega arith;
      bytes = part-taken a.original.now q.result.begins q.result.ends
          (low a.original.now a.copy.now a.place _ q.ensures);
    })

pub returns-in-Copy : goal.returns-in-Copy
returns-in-Copy c =
    let a = c.args in
    let q = c.confine-p in
    part_at a.original a.copy a.place q.result Copy _ q.ensures c.in-Copy.is (record {
      memory = refl;
      begins = omega arith;
      bytes = part-taken a.copy.now q.result.begins q.result.ends
          (low a.original.now a.copy.now a.place _ q.ensures);
    })
