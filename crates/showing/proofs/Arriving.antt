-- However a requests file comes in blocks, what is shown of its lines and the tables after them are those of the whole: of a line that goes
-- on behind a block 73 bytes are enough, since 72 are shown, and that there are more.
-- Assumes nothing.
use Prim.Native.Nat.{ℕ, suc, ◌<◌}
use native.Mathlib.Decide.{dec_lt}
use native.Mathlib.Omega.{arith}
use mathlib.Core.Path.{◌≡◌, refl, sym, ap, ap₂, ◌∙◌}
use mathlib.Core.Bool.{Bool, cond}
use mathlib.Core.List.{List, [], ◌∷◌, ◌++◌, map}
use lib.ListN.{length, take, length-append}
use lib.Seq.{length-take-le, take_all, take-take, take-append-le}
use lib.Dec.{leb}
use borrow.Author.Tests.{lt-leb}
use Rattle.limits.specs.Limits.{longest_line}
use Rattle.lists.specs.Lists.{join}
use Rattle.text.specs.Text.{text, decimal}
use Rattle.text.specs.Lines.{lines_of}
use Rattle.tables.specs.declared.Tables.{Tables}
use Rattle.page.specs.Paging.{Written}
use Rattle.console.proofs.LongLines.{cut_line}
use Rattle.blocks.specs.Blocks.{most, Taken, kept_after, tables_after}
use Rattle.blocks.proofs.Arriving.{Cuts, sheet-cuts, keyed-says, whole_of}
use Rattle.showing.specs.Showing.{shown_byte, shown_request, refusal, answer_text, request_bytes, Keying, on_follow, begun}
use Rattle.showing.specs.Promises.{ArrivesWhole}

-- of a line that is longer than what is shown, 73 bytes show the same
cut-shown : (o f : List ℕ) → shown_request (take most o ++ f) ≡ shown_request (o ++ f)
cut-shown o f = go (dec_lt most (length o))
  where
    long : (l : List ℕ) → longest_line < length l → cond (leb (length l) longest_line) [] (text "..") ≡ text ".."
    long l h = ap (λ (b : Bool). cond b [] (text "..")) (lt-leb (length l) longest_line h)

    go : Dec (most < length o) → shown_request (take most o ++ f) ≡ shown_request (o ++ f)
    go (no h) = ap (λ (x : List ℕ). shown_request (x ++ f)) (take_all most o (omega arith))
    go (yes h) =
        let len : length (take most o) ≡ most = length-take-le most o (omega arith) in
        ap₂ (λ (x y : List ℕ). map shown_byte x ++ y)
        (take-append-le longest_line (take most o) f (omega arith) ∙ take-take longest_line most o (omega arith)
        ∙ sym (take-append-le longest_line o f (omega arith)))
        (long (take most o ++ f) (omega (arith, length-append (take most o) f)) ∙ sym (long (o ++ f) (omega (arith, length-append o f))))

-- a request's line by its bytes as they are shown, and what it came to
abbrev request_lined : ℕ → List ℕ → Written → List ℕ
request_lined n shown w =
    decimal n ++ text ": " ++ shown ++ text " -> " ++ answer_text w.number w.values ++ refusal w.number ++ (10 ∷ [])

follow-cuts : Cuts on_follow
unfolding request_bytes
follow-cuts = record {
  next = λ k o f. λ i. record { count = suc k.count; tables = sheet-cuts.next k.tables o f i };
  shows = λ k o f.
      let e = keyed-says k.tables (take most o ++ f) (o ++ f) (cut_line o f) in
      λ i. request_lined k.count (cut-shown o f i) (e i);
}

-- the tables that are kept are those after the lines
kept_tables : (ls : List (List ℕ)) (k : Keying) → (kept_after on_follow k ls).tables ≡ tables_after k.tables ls
unfolding kept_after
kept_tables [] k = refl
kept_tables (l ∷ ls) k = kept_tables ls (on_follow.next k l)

pub arrives-whole : (t : Tables) (bs : List (List ℕ)) → ArrivesWhole t bs
arrives-whole t bs =
    let e = whole_of on_follow follow-cuts (begun t) bs in
    record {
      bytes = ap (λ (x : Taken Keying). x.bytes) e;
      tables = ap (λ (x : Taken Keying). x.kept.tables) e ∙ kept_tables (lines_of (join bs)) (begun t);
    }
