-- `tables::Tables::ticks` meets its contract: the test, and then the ticks. Assumes nothing.
use borrow.Author.Rules.{rules}
use borrow.Author.Tests.{not-true, not-false}
use mathlib.Core.Path.{sym, ap, ◌∙◌}
use Rattle.tables.specs.Tables.{Arrays}
use Rattle.tables.specs.Calls.{told}
use Rattle.tables.proofs.Readied.{tested-is}
use Rattle.tables.proofs.Tables.ticks.Goals.{Start}
use Rattle.tables.proofs.Tables.ticks.Goals as goal
use Rattle.tables.proofs.Agree.{sound-clauses}
use Rattle.tables.proofs.Plain.{sound-plain}
use Rattle.tables.proofs.ManyTicks.{told-unsound}

arrays : (s : Start) → Arrays s.args.self
arrays s = record {
  programs = search rules;
  links = search rules;
  holders = search rules;
  resources = search rules;
}

pub ticked-requires : goal.ticked-requires
ticked-requires c =
    let A = arrays (goal.at.ticked-requires c).Start in
    let T = tested-is c.args.self _ _ A c.opened-o.ensures.0 c.opened-o.ensures.1 in
    let R = T.ready (not-false _ c.if-not-o.false) in
    record { ready = R; plainly = sound-plain c.args.self A (sound-clauses c.args.self R.sound) }

pub returns-then-not-o : goal.returns-then-not-o
returns-then-not-o c =
    let T = tested-is c.args.self _ _ (arrays (goal.at.returns-then-not-o c).Start) c.opened-o.ensures.0 c.opened-o.ensures.1 in
    ap told c.refused.ensures ∙ told-unsound c.args.self _ (sym T.is ∙ not-true _ c.if-not-o.true)
