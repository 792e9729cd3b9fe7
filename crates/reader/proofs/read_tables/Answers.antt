-- `read_tables` reads the parts of a page one after another.
-- Assumes nothing.
use mathlib.Core.Path.{refl, sym, ap, ◌∙◌, subst}
use Rattle.tables.specs.Calls.{Result}
use Rattle.records.specs.Inner as numbers
use Rattle.tracks.specs.Inner.{Fit}
use Rattle.reader.specs.Walks.{PageRead}
use Rattle.reader.proofs.Assembling.{fresh-tracks-fit, fresh-numbers-fit}
use Rattle.reader.proofs.BadLines.{handed_on}
use Rattle.reader.proofs.WholePage as laws
use Rattle.reader.proofs.read_tables.Goals as goal

pub returns-in_err-head : goal.returns-in_err-head
returns-in_err-head c =
    handed_on (PageRead c.args.s.now c.args.at) c.from_residual.ensures (laws.bad-page c.args.s.now c.args.at _ c.in_err-head.ensures)

pub read_records-requires : goal.read_records-requires
read_records-requires c = laws.records-next _ _ _ c.in_ok-head.ensures

pub returns-in_err-records : goal.returns-in_err-records
returns-in_err-records c =
    handed_on (PageRead c.args.s.now c.args.at) c.from_residual-in_err-records.ensures (laws.bad-page c.args.s.now c.args.at _
    (laws.bad-records _ _ _ c.in_ok-head.ensures _ c.in_err-records.ensures))

pub returns-in_err-chains : goal.returns-in_err-chains
returns-in_err-chains c =
    handed_on (PageRead c.args.s.now c.args.at) c.from_residual-in_err-chains.ensures (laws.bad-page c.args.s.now c.args.at _
    (laws.bad-chains _ _ _ c.in_ok-head.ensures _ c.in_ok-records.ensures _ c.in_err-chains.ensures))

pub read_held-held-requires : goal.read_held-held-requires
read_held-held-requires c = record {
  onward = c.in_ok-chains.ensures.onward;
  fit = subst Fit (sym (ap (λ (r : Result). r.tables.ledger.tracks) c.fresh.ensures)) (fresh-tracks-fit 0 _ _ _ _);
}

pub read_numbers-numbers-requires : goal.read_numbers-numbers-requires
read_numbers-numbers-requires c = record {
  onward = c.read_held-held.ensures.onward;
  fit = subst numbers.Fit (sym (ap (λ (r : Result). r.tables.ledger.numbers) c.fresh.ensures)) (fresh-numbers-fit 0 _ _ _ _);
}

pub returns-in_err-read_end : goal.returns-in_err-read_end
returns-in_err-read_end c =
    handed_on (PageRead c.args.s.now c.args.at) c.from_residual-in_err-read_end.ensures (laws.bad-page c.args.s.now c.args.at _
    (laws.bad-end _ _ _ c.in_ok-head.ensures _ c.in_ok-records.ensures _ c.in_ok-chains.ensures _ _ c.read_held-held.ensures _ _
    c.read_numbers-numbers.ensures _ c.in_err-read_end.ensures))

pub returns : goal.returns
returns c =
    let f = c.fresh.ensures in
    laws.whole-page c.args.s.now c.args.at _ c.in_ok-head.ensures _ c.in_ok-records.ensures _ c.in_ok-chains.ensures _ _ c.read_held-held.ensures
    _ _ c.read_numbers-numbers.ensures (ap (λ (r : Result). r.tables.ledger.tracks) f) (ap (λ (r : Result). r.tables.ledger.numbers) f)
    c.in_ok-read_end.ensures _ refl
    (c.from_ticks.ensures ∙ ap (λ (r : Result). record { ticks = c.in_ok-head.head.clock; year = r.tables.ledger.clock.year }) f) refl refl refl
