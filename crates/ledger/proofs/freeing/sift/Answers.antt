-- `ledger::sift` meets its contract: those are kept whose reason the release, as shown, takes away; any other that it says the same as
-- keeps the same. Assumes nothing.
use Rattle.std.proofs.Common.{rules}
use Rattle.records.specs.Records.{record_at}
use Rattle.rules.specs.Plans.{awaits}
use Rattle.ledger.proofs.freeing.sift.Goals as goal

pub returns : goal.returns
returns c = λ y R. c.keep.ensures (λ q. awaits y (record_at c.args.programs.now q).why) (λ q k b e. search rules)
