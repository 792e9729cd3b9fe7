-- `tables::sound::chains_sound` meets its contract: the walks and the rest are what soundness asks of chains and links.
-- Assumes nothing.
use Rattle.tables.proofs.Chained.{walks-refused, walks-rest}
use Rattle.tables.proofs.sound.chains_sound.Goals as goal

pub returns-in_default : goal.returns-in_default
returns-in_default c = walks-refused _ _ _ c.in_default.ensures

pub returns : goal.returns
returns c = walks-rest _ _ _ c.in-Some.ensures c.is_rest_settled.result c.is_rest_settled.ensures
