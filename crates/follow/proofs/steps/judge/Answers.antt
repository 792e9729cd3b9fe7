-- Where the output goes on, the verdict was shown, and came with the tables of the page given.
use Rattle.follow.proofs.Shown.{verdict-tables}
use Rattle.follow.proofs.steps.judge.Goals as goal

pub returns : goal.returns
returns c =
    let v = c.show_verdict-outcome in
    verdict-tables _ _ _ _ _ v.result v.ensures c.in_ok-put_shown.ensures
