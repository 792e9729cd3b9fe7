-- `verdicts::show_parts` meets its contract: what was counted is what is put. Assumes nothing.
use borrow.Author.Rules.{rules}
use native.Mathlib.Omega.{arith}
use Prim.Native.Nat.{ℕ, ◌≤◌}
use mathlib.Core.Path.{◌≡◌, sym, ap, ◌∙◌}
use mathlib.Core.List.{List}
use lib.ListN.{length}
use lib.Seq.{sets}
use Rattle.rules.specs.declared.Answer.TheVariants.{Done}
use Rattle.transcripts.specs.Listing.{answered}
use Rattle.transcripts.proofs.ListLaws.{filled-long}
use Rattle.showing.specs.Showing.{shown_in}
use Rattle.comparing.specs.Inner.{parts_text}
use Rattle.comparing.specs.declared.sink.Count.{Count}
use Rattle.comparing.specs.declared.sink.Lent.{Lent}
use Rattle.comparing.proofs.PartingLaws.{parts-far}
use Rattle.comparing.proofs.verdicts.show_parts.Goals as goal

pub put_parts-requires-clause-room : goal.put_parts-requires-clause-room
put_parts-requires-clause-room c =
    let a = c.args in
    omega (
      arith,
      parts-far a.sheet.now a.written.now a.name.now c.requires.name_len_bound c.requires.sheet_len_bound c.requires.written_len_bound,
    )

-- a buffer that is filled from its front on, as far as it was counted
put : (said before after : List ℕ) (n : ℕ) → n ≡ length said → n ≤ length before → after ≡ sets before 0 said
    → answered (Done n) after ≡ shown_in said before
put said before after n e h p =
    ap (λ (i : ℕ). answered (Done i) after) e ∙ sym (filled-long (length said) said before after (omega (arith, e, h)) p)

pub returns : goal.returns
returns c =
    let a = c.args in
    -- the buffer that was lent is behind the same reference still
    let same = sym (ap (λ (l : Lent). l.out.ghost_name) c.put_parts-2.ensures) in
    let shown = ap (λ (l : Lent). l.out.now) c.put_parts-2.ensures in
    let counted = ap (λ (n : Count). n.at) c.put_parts.ensures in
    put (parts_text a.name.now a.sheet.now a.written.now) a.out.now _ c.put_parts.new.sink.at (omega (arith, counted)) c.if-out-n.false
    (search rules ∙ shown)
