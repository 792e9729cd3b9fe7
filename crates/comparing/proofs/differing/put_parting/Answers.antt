-- `differing::put_parting` meets its contract: what is said behind the loop is said of where the two part. Assumes nothing.
use borrow.Author.Tests.{not-true, not-false}
use Prim.Native.Nat.{◌<◌}
use native.Mathlib.Omega.{arith}
use mathlib.Core.Path.{◌≡◌, ap, ◌∙◌}
use mathlib.Core.Bool.{false}
use lib.ListN.{length}
use Rattle.lists.specs.Lists.{alike}
use Rattle.comparing.specs.Inner.{line_from, parting_text}
use Rattle.comparing.proofs.DifferenceLaws.{parted-room, alone}
use Rattle.comparing.proofs.PartingLaws.{together-on, held-apart, lines-there, together-end}
use Rattle.comparing.proofs.differing.put_parting.Given.{Over}
use Rattle.comparing.proofs.differing.put_parting.Goals as goal
use Rattle.comparing.proofs.differing.put_parting.Goals.{After-as_slice}
use Rattle.comparing.proofs.differing.put_parting.Goals.{else-loop-a-test, then-loop-a-test+else-b-written, then-loop-a-test+then-b-written+then-ne}

apart : (g : Over) (c : After-as_slice g) → c.loop-a.a < length c.args.sheet.now → c.loop-a.b < length c.args.written.now
    → alike (line_from c.args.sheet.now c.loop-a.a) (line_from c.args.written.now c.loop-a.b) ≡ false
apart g c h k =
    let a = c.args in
    let l = c.loop-a in
    elim c.loop-a-test.branch [
      | else-loop-a-test v ↦ absurd (omega (arith, v.loop-a-test.false))
      | then-loop-a-test+else-b-written v ↦ absurd (omega (arith, v.if-b-written.false))
      | then-loop-a-test+then-b-written+then-ne v ↦
          let e = v.part_end-end in
          let t = v.part_end-there in
          lines-there a.sheet.now a.written.now l.a l.b e.result t.result h k e.ensures t.ensures
          ∙ not-true _ (held-apart a.sheet.now a.written.now l.a l.b e.result t.result v.ne.result e.ensures.low t.ensures.low v.ne.ensures
          ∙ v.if-ne.true)
    ]

said : (g : Over) (c : After-as_slice g) → c.as_slice.result.now ≡ parting_text c.args.sheet.now c.args.written.now
said g c =
    let l = c.loop-a in
    alone c.as_slice.ensures.value c.put_parted.ensures c.new-piece.ensures
    (together-end c.args.sheet.now c.args.written.now l.a l.b l.n l.invariant (apart g c))

pub loop-a-preserved : goal.loop-a-preserved
loop-a-preserved g c =
    let s = c.args.sheet.now in
    let w = c.args.written.now in
    let l = c.loop-a in
    let e = c.part_end-end in
    let t = c.part_end-there in
    together-on s w l.a l.b l.n l.invariant c.loop-a-test.true c.if-b-written.true e.ensures t.ensures
    (not-false _ (held-apart s w l.a l.b e.result t.result c.ne.result e.ensures.low t.ensures.low c.ne.ensures ∙ c.if-ne.false))

pub put_parted-requires : goal.put_parted-requires
put_parted-requires g c =
    let s = c.args.sheet.now in
    let w = c.args.written.now in
    let l = c.loop-a in
    omega (
      arith,
      ap length c.new-piece.ensures,
      parted-room s l.a w l.b l.n c.requires.sheet_len_bound c.requires.written_len_bound,
    )

pub put-requires : goal.put-requires
put-requires g c = omega (arith, ap length (said g (goal.at.put-requires g c).After-as_slice), c.requires.room)

pub returns : goal.returns
returns g c = c.put.ensures ∙ ap (g.S.Sink.after c.args.sink.now) (said g (goal.at.returns g c).After-as_slice)
