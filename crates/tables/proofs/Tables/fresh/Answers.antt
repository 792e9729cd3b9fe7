-- `tables::Tables::fresh` meets its contract: the test of the sizes and the year decides.
-- Assumes nothing.
use native.Mathlib.Omega.{arith}
use mathlib.Core.Path.{sym, ◌∙◌}
use Rattle.decisions.specs.Inner.{Sizes}
use Rattle.decisions.proofs.Requested.{sizes-true}
use Rattle.tables.proofs.FreshTables.{made-done, made-refused}
use Rattle.tables.proofs.Tables.fresh.Goals.{Then-may_start}
use Rattle.tables.proofs.Tables.fresh.Goals as goal

sized : (c : Then-may_start) → Sizes c.args.tracks c.args.system c.args.numbers c.args.year
sized c =
    sizes-true c.args.tracks c.args.system c.args.numbers c.args.year (sym c.may_start.ensures ∙ c.if-may_start.true)

pub overflow_cast-tracks : goal.overflow_cast-tracks
overflow_cast-tracks c = omega (arith, sized (goal.at.overflow_cast-tracks c).Then-may_start)

pub overflow_cast-system : goal.overflow_cast-system
overflow_cast-system c = omega (arith, sized (goal.at.overflow_cast-system c).Then-may_start)

pub overflow_cast-numbers : goal.overflow_cast-numbers
overflow_cast-numbers c = omega (arith, sized (goal.at.overflow_cast-numbers c).Then-may_start)

pub overflow_cast-year : goal.overflow_cast-year
overflow_cast-year c = omega (arith, sized (goal.at.overflow_cast-year c).Then-may_start)

pub empty-requires : goal.empty-requires
empty-requires c = sized (goal.at.empty-requires c).Then-may_start

pub returns-then-may_start : goal.returns-then-may_start
returns-then-may_start c =
    made-done c.args.tracks c.args.system c.args.numbers c.args.year c.empty.result (sym c.may_start.ensures ∙ c.if-may_start.true)
    c.empty.ensures

pub returns : goal.returns
returns c =
    made-refused c.args.tracks c.args.system c.args.numbers c.args.year c.empty-2.result
    (sym c.may_start.ensures ∙ c.if-may_start.false) c.empty-2.ensures
