-- `listing::put_listed` meets its contract: the lines are counted, and their figures put where there is room. Assumes nothing.
use Prim.Native.Nat.{◌+◌, ◌^◌, ◌<◌}
use native.Mathlib.Omega.{arith}
use mathlib.Core.Path.{refl, ap}
use mathlib.Core.Logic.{inl}
use lib.ListN.{length}
use borrow.Author.Rules.{rules}
use Rattle.transcripts.specs.Listing.{listed_lines}
use Rattle.transcripts.proofs.ListLaws.{cut-none, width_fits, told-short, put-room, told-all}
use Rattle.transcripts.proofs.listing.put_listed.Goals.{Start}
use Rattle.transcripts.proofs.listing.put_listed.Goals as goal

pub fill-n-requires : goal.fill-n-requires
fill-n-requires c =
    let a = c.args in
    record { width = inl refl; copy_in_bounds = omega (arith, ap length (cut-none a.copy.now (listed_lines a.original.now a.copy.now))) }

-- a text's length fits, and leaves a bit
short : (s : Start) → length s.args.original.now < 2 ^ 63
short s = search rules

pub overflow_mul-needed : goal.overflow_mul-needed
overflow_mul-needed c =
    record {
      fits = width_fits c.args.width c.fill-n.result (length c.args.original.now + 1) c.requires c.fill-n.ensures.few
          (omega (arith, short (goal.at.overflow_mul-needed c).Start));
    }

pub returns-then-list-needed : goal.returns-then-list-needed
returns-then-list-needed c =
    let a = c.args in
    told-short a.original.now a.copy.now a.list.now c.fill-n.new.list c.fill-n.result a.width c.requires
    c.fill-n.ensures
    c.if-list-needed.true

pub fill-requires : goal.fill-requires
fill-requires c =
    let a = c.args in
    let room =
    put-room a.original.now a.copy.now a.list.now c.fill-n.new.list c.fill-n.result a.width c.requires
    c.fill-n.ensures
    c.if-list-needed.false
    in
    record { width = c.requires; copy_in_bounds = room }

pub returns : goal.returns
returns c =
    let a = c.args in
    told-all a.original.now a.copy.now a.list.now c.fill-n.new.list c.fill-n.result a.width c.requires
    c.fill-n.ensures
    c.fill.new.list c.fill.result c.if-list-needed.false c.fill.ensures
