-- `finding::refuse` meets its contract. Assumes nothing.
use mathlib.Core.Path.{ap}
use Rattle.transcripts.specs.declared.finding.Place.{Place}
use Rattle.transcripts.proofs.finding.refuse.Goals as goal

pub returns : goal.returns
returns c = ap (λ (p : Place). record { answer = c.args.answer; place = p }) c.empty_front.ensures
