-- `tracks::Tracks::held_by` meets its contract. Assumes nothing.
use Rattle.std.proofs.Common.{◌∙◌, sym}
use Rattle.tracks.specs.Tracks.{holders}
use Rattle.tracks.proofs.Turns.{counted}
use Rattle.tracks.proofs.Tracks.held_by.Goals as goal

pub returns : goal.returns
returns c = c.count_of.ensures ∙ sym (counted c.args.p (holders c.args.self))
