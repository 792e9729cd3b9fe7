-- `tracks::run_in` meets its contract. The loop's invariant: the tracks from `first` to `last` are one holder's. The measure is the
-- tracks left.
-- Assumes nothing.
use Prim.Native.Nat.{ℕ, ◌+◌, ◌-◌, ◌≤◌, ◌<◌}
use native.Mathlib.Omega.{arith}
use borrow.Author.Rules.{rules}
use mathlib.Core.Path.{◌≡◌, ◌∙◌}
use mathlib.Core.List.{List}
use lib.ListN.{length, get_or, take}
use lib.Seq.{get_or-take, length-take-le}
use Rattle.tracks.specs.Tracks.{nobody}
use Rattle.tracks.proofs.RunLaws.{Running, run-start, run_on, run-stops, run_ends}
use Rattle.tracks.proofs.held.run_in.Statement.{statement}
use Rattle.tracks.proofs.held.run_in.Tie as tie

abbrev invariant-loop : tie.invariant-loop-last
invariant-loop places count first all holder last₀ last =
    (first ≤ last) × (last < count) × (length (take count places) ≡ count) × Running (take count places) first holder last

abbrev decreases-loop : tie.decreases-loop-last
decreases-loop places count first all holder last₀ last = count - last

-- the tracks' holders
abbrev held : tie.Start invariant-loop decreases-loop → List ℕ
held s = take s.args.count s.args.places.now

loop-holds : tie.Need-loop-last-init invariant-loop decreases-loop
loop-holds c =
    let s = c.before.before in
    let a = s.args in
    let all : length a.places.now ≡ 256 = c.before.all-1.given in
    let long = length-take-le a.count a.places.now (omega (arith, s.requires.most)) in (
      omega arith,
      s.requires.below,
      long,
      run-start (held s) a.first _ (omega (arith, s.requires.below))
          (get_or-take a.count a.places.now a.first nobody s.requires.below),
    )

-- what stands behind the last
next : (l : tie.At-loop-last invariant-loop decreases-loop) → let s = l.before.before.before in
    l.loop-last.last + 1 < s.args.count → get_or (held s) (l.loop-last.last + 1) nobody ≡ get_or s.args.places.now (l.loop-last.last + 1) nobody
next l h = let a = l.before.before.before.args in get_or-take a.count a.places.now (l.loop-last.last + 1) nobody h

returns : tie.Need-returns-then-all-last invariant-loop decreases-loop
returns c =
    let l = c.before.before.before in
    let s = l.before.before.before in
    run-stops (held s) s.args.first _ l.loop-last.last (omega arith) (omega arith) (λ e. omega (arith, next l (omega arith)))
    l.loop-last.invariant.3

loop-again : tie.Need-loop-last-preserved invariant-loop decreases-loop
loop-again c =
    let l = c.before.before.before in
    let s = l.before.before.before in
    let on = run_on (held s) s.args.first _ l.loop-last.last (omega arith) (next l (omega arith) ∙ c.if-all-last.false) l.loop-last.invariant.3 in
    (omega arith, omega arith, l.loop-last.invariant.2, on)

returns-2 : tie.Need-returns invariant-loop decreases-loop
returns-2 c =
    let l = c.before in
    let s = l.before.before.before in
    run_ends (held s) s.args.first _ l.loop-last.last (omega arith) (omega arith) (omega arith) l.loop-last.invariant.3

pub run_in_spec : {M : Type 1} → statement M
run_in_spec =
    tie.close
    (tie.spec invariant-loop decreases-loop (λ c. search rules) loop-holds (λ c. omega arith) (λ c. omega arith) (λ c. omega arith) returns
    (λ c. omega arith) (λ c. omega arith) loop-again returns-2)
