-- `read_year` reads the year's line, where it stands.
-- Assumes nothing.
use Rattle.reader.proofs.HeadLaws.{year-on, year-off}
use Rattle.reader.proofs.parts.read_year.Goals as goal

pub returns-in-Some : goal.returns-in-Some
returns-in-Some c = year-on _ _ c.in-Some.ensures

pub returns-in-None : goal.returns-in-None
returns-in-None c = year-off _ _ c.requires c.in-None.ensures
