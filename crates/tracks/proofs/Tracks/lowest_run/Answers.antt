-- `tracks::Tracks::lowest_run` meets its contract. The loop's invariant: what one pass knows before it looks at a
-- track (`Sought`). The measure is the tracks left.
-- Assumes nothing.
use native.Mathlib.Omega.{arith}
use mathlib.Core.Path.{sym}
use lib.Seq.{get_or-take}
use Rattle.tracks.specs.Tracks.{nobody, holders}
use Rattle.tracks.proofs.RunLengths.{sought-first, sought-held, sought-free, sought-found}
use Rattle.tracks.proofs.RunLengths.{sought-none, lowest-empty, lowest-zero}
use Rattle.tracks.proofs.Tracks.lowest_run.Goals as goal

pub returns-then-end-eq0 : goal.returns-then-end-eq0
returns-then-end-eq0 c =
    sym (lowest-empty c.args.n (holders c.args.self) (omega (arith, c.requires.long)))

pub returns-then-n-eq0 : goal.returns-then-n-eq0
returns-then-n-eq0 c =
    sym (lowest-zero c.args.n (holders c.args.self) (omega arith) (omega (arith, c.requires.long)))

pub loop-track-init : goal.loop-track-init
loop-track-init c =
    (sought-first c.args.n (holders c.args.self), omega arith)

pub loop-track-preserved-then-self-track-ne-FREE : goal.loop-track-preserved-then-self-track-ne-FREE
loop-track-preserved-then-self-track-ne-FREE c =
    let t = c.args.self in
    let is = get_or-take t.count t.holders c.loop-track.track nobody (omega arith) in
    (sought-held c.loop-track.invariant.0 c.loop-track.invariant.1 (λ e. omega arith), omega arith)

-- the track is free, and the run one longer
pub overflow_sub-result : goal.overflow_sub-result
overflow_sub-result c =
    let t = c.args.self in
    let is = get_or-take t.count t.holders c.loop-track.track nobody (omega arith) in
    omega (arith, (sought-free c.loop-track.invariant.0 c.loop-track.invariant.1 (omega arith)).low)

pub returns-then-length-n : goal.returns-then-length-n
returns-then-length-n c =
    let t = c.args.self in
    let is = get_or-take t.count t.holders c.loop-track.track nobody (omega arith) in
    sym (sought-found (sought-free c.loop-track.invariant.0 c.loop-track.invariant.1 (omega arith)) (omega arith) (omega (arith, c.requires.long)) (omega arith))

pub loop-track-preserved : goal.loop-track-preserved
loop-track-preserved c =
    let t = c.args.self in
    let is = get_or-take t.count t.holders c.loop-track.track nobody (omega arith) in
    let longer = sought-free c.loop-track.invariant.0 c.loop-track.invariant.1 (omega arith) in
    (longer, omega (arith, longer.few))

pub returns : goal.returns
returns c =
    sym (sought-none c.loop-track.invariant.0 c.loop-track.invariant.1 (omega (arith, c.requires.long)))
