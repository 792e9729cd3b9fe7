-- What is handed back where something was shown: for a request the tables after it, for a verdict those of the page given. And a
-- line more of a block, when it is keyed in.
-- Assumes nothing.
use Rattle.std.proofs.Common.{◌≡◌, ℕ, ◌+◌, ◌<◌, Bool, true, false, cond, eqb, List, [], ◌∷◌, ◌++◌, length, drop, sym, refl, ap, ◌∙◌, append_assoc, arith, eq-eqb}
use lib.Seq.{slice}
use borrow.Author.Tests.{eqb-false}
use Rattle.text.specs.Text.{parts}
use Rattle.text.specs.Lines.{lines_ended, last_bytes}
use Rattle.rules.specs.Answers.{number}
use Rattle.rules.specs.Engine.{beside}
use Rattle.tables.specs.declared.Tables.{Tables}
use Rattle.tables.specs.declared.Outcome.{Outcome}
use Rattle.tables.specs.Sound.{sound}
use Rattle.tables.specs.Calls.{told}
use Rattle.page.specs.Paging.{Written}
use Rattle.reader.specs.Reading.{reading}
use Rattle.transcripts.specs.Listing.{Filled}
use Rattle.console.specs.Console.{keyed}
use Rattle.console.specs.Sheet.{lent}
use Rattle.console.proofs.LineEnds.{LineEnd, line-within}
use Rattle.blocks.specs.Blocks.{kept_after}
use Rattle.blocks.proofs.Cuts.{last_bytes-next}
use Rattle.blocks.proofs.Arriving.{after-append}
use Rattle.blocks.proofs.Going.{one_line}
use Rattle.blocks.proofs.AllTurns.{Onward}
use Rattle.following.specs.Following.{held_against}
use Rattle.showing.specs.Showing.{shown_in, with_tables, request_shown, is_taken, PageShown, page_shown}
use Rattle.comparing.specs.Verdicts.{verdict_text, verdict_shown}

-- what was shown comes with the tables after it
with-tables : (before after : Tables) (f : Filled) (w : Written) → w ≡ with_tables before after f → w.number ≡ 0 → w.tables ≡ after
with-tables before after f w e z =
    ap (λ (x : Written). x.tables) e
    ∙ ap (λ (b : Bool). cond b after before) (eq-eqb f.number 0 (sym (ap (λ (x : Written). x.number) e) ∙ z))

pub request-tables : (t : Tables) (n : ℕ) (l out after : List ℕ) (r : Outcome) → beside after (told r) ≡ request_shown t n l out
    → number r.answer ≡ 0 → r.tables ≡ (keyed t l lent).tables
unfolding request_shown
request-tables t n l out after r e z = with-tables t (keyed t l lent).tables _ (beside after (told r)) e z

pub verdict-tables : (t : Tables) (name next out after : List ℕ) (r : Outcome) → beside after (told r) ≡ verdict_shown t name next out
    → number r.answer ≡ 0 → r.tables ≡ (reading next).tables
unfolding verdict_shown
verdict-tables t name next out after r = go (sound t) (is_taken name next) (eqb (reading next).number 0) refl
  where
    w : Written
    w = beside after (told r)

    go : (a b d : Bool) → eqb (reading next).number 0 ≡ d
        → w ≡ cond a
        (cond b
        (cond d (with_tables t (reading next).tables (shown_in (verdict_text name (held_against t next)) out))
        (record { number = (reading next).number; values = (reading next).values; tables = t; buffer = out }))
        (record { number = 3; values = 0 ∷ []; tables = t; buffer = out }))
        (record { number = 14; values = 0 ∷ []; tables = t; buffer = out })
        → w.number ≡ 0 → w.tables ≡ (reading next).tables
    go true true true d e z = with-tables t (reading next).tables (shown_in (verdict_text name (held_against t next)) out) w e z
    go true true false d e z =
        absurd (eqb-false (reading next).number 0 d (sym (ap (λ (x : Written). x.number) e) ∙ z))
    go true false d' d e z = absurd (omega (arith, ap (λ (x : Written). x.number) e))
    go false b d' d e z = absurd (omega (arith, ap (λ (x : Written). x.number) e))

-- the line that begins at `from` is keyed in: the next begins behind its end
pub onward-line : {t₀ t t' : Tables} {block : List ℕ} {from : ℕ} (e : ℕ) → Onward t₀ block t from → LineEnd block from e → e < length block
    → t' ≡ (keyed t (slice from e block) lent).tables → Onward t₀ block t' (e + 1)
unfolding kept_after
onward-line {t₀} {t} {t'} {block} {from} e o E ends is =
    let l : List ℕ = slice from e block in
    let rest : List ℕ = drop (e + 1) block in
    let in_block = line-within E ends in
    record {
      lines = o.lines ++ (l ∷ []);
      split =
          o.split
          ∙ ap (λ (ls : List (List ℕ)). o.lines ++ ls) (one_line block from e E in_block ends)
          ∙ sym (append_assoc o.lines (l ∷ []) (lines_ended (parts 10 rest)));
      rest = sym (ap last_bytes ((E.line in_block).more ends) ∙ last_bytes-next l rest) ∙ o.rest;
      tables = is ∙ ap (λ (u : Tables). (keyed u l lent).tables) o.tables ∙ sym (after-append t₀ o.lines (l ∷ []));
    }

-- a page is read as its reading comes to
pub page-read : (name s out : List ℕ) (x : PageShown) → x ≡ page_shown name s out → x.read ≡ reading s
unfolding page_shown
page-read name s out x e = ap (λ (x : PageShown). x.read) e
