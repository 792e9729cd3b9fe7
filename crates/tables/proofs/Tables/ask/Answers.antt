-- `tables::Tables::ask` meets its contract: the test, the decision, and what was decided, made. Assumes nothing.
use borrow.Author.Rules.{rules}
use borrow.Author.Tests.{not-true, not-false}
use native.Mathlib.Omega.{arith}
use mathlib.Core.Path.{sym, ap, ◌∙◌, refl, subst}
use Rattle.records.specs.Records.{Known}
use Rattle.rules.specs.Keeper.{lists, view}
use Rattle.tables.specs.Tables.{plain, Arrays}
use Rattle.tables.specs.Calls.{told}
use Rattle.tables.proofs.Readied.{tested-is, caller-known, clock-most}
use Rattle.tables.proofs.Serving.{asked-unsound}
use Rattle.tables.proofs.Carrying.{as-asked}
use Rattle.tables.proofs.Tables.ask.Goals.{Start}
use Rattle.tables.proofs.Tables.ask.Goals as goal

arrays : (s : Start) → Arrays s.args.self
arrays s = record {
  programs = search rules;
  links = search rules;
  holders = search rules;
  resources = search rules;
}

pub decide-requires : goal.decide-requires
decide-requires c =
    let T = tested-is c.args.self _ _ (arrays (goal.at.decide-requires c).Start) c.opened-o.ensures.0 c.opened-o.ensures.1 in
    let R = T.ready (not-false _ c.if-not-o.false) in
    let e = T.caller (not-false _ c.if-not-o.false) in
    record {
      tracks = R.orderly.tracks;
      numbers = R.orderly.numbers;
      clock = clock-most _ R;
      known = λ h. subst Known (sym e) (caller-known _ R (omega (arith, e, h)));
    }

pub carry-requires : goal.carry-requires
carry-requires c =
    let T = tested-is c.args.self _ _ (arrays (goal.at.carry-requires c).Start) c.opened-o.ensures.0 c.opened-o.ensures.1 in
    record { ready = T.ready (not-false _ c.if-not-o.false); apt = (c.decide.ensures (view lists (plain c.args.self)) refl (sym (T.caller (not-false _ c.if-not-o.false)))).apt }

pub returns-then-not-o : goal.returns-then-not-o
returns-then-not-o c =
    let T = tested-is c.args.self _ _ (arrays (goal.at.returns-then-not-o c).Start) c.opened-o.ensures.0 c.opened-o.ensures.1 in
    ap told c.refused.ensures ∙ asked-unsound _ _ (sym T.is ∙ not-true _ c.if-not-o.true)

pub returns : goal.returns
returns c =
    let T = tested-is c.args.self _ _ (arrays (goal.at.returns c).Start) c.opened-o.ensures.0 c.opened-o.ensures.1 in
    c.carry.ensures ∙ as-asked _ (T.ready (not-false _ c.if-not-o.false)) _ _ (c.decide.ensures (view lists (plain c.args.self)) refl (sym (T.caller (not-false _ c.if-not-o.false))))
