-- `ledger::Release::of_ending` meets its contract: the numbers are marked that p owns or locks. Assumes nothing.
use Rattle.std.proofs.Common.{rules, arith, refl, length, take, ◌≡◌}
use lib.Seq.{length-take-le}
use Rattle.rules.specs.Rules.{ends_in}
use Rattle.ledger.proofs.Releasing.{marks-end}
use Rattle.ledger.proofs.Release.of_ending.Goals as goal

pub returns : goal.returns
unfolding ends_in
returns c =
    let t = c.args.numbers in
    let full : length t.resources ≡ 16 = search rules in
    let n : length (take t.count t.resources) ≡ t.count = length-take-le t.count t.resources (omega (arith, c.requires.fit.most, full)) in
    record {
      ended = refl;
      tracks = refl;
      cleared = marks-end c.loop-i.invariant (omega (arith, n)) c.requires.le_p;
      dealt = c.owns_any.ensures;
    }
