-- Where the output goes on, what was to be shown was shown, and so the line was obeyed.
use Rattle.follow.proofs.Shown.{request-tables}
use Rattle.follow.proofs.requests.key_line.Goals as goal

pub returns : goal.returns
returns c =
    let q = c.show_request-outcome in
    request-tables _ _ _ _ _ q.result q.ensures c.in_ok-put.ensures
