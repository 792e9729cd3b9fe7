-- What went out is a front of what waited and of the piece.
use Rattle.std.proofs.Common.{◌++◌, Result, Ok, Err, OnErr}
use Rattle.streams.specs.Gathered.{waits}
use Rattle.streams.proofs.Growing.{front_none, front_wider, front_behind}
use Rattle.streams.proofs.gathering.Output.put.Goals as goal

pub returns-then-not-self-clause-front : goal.returns-then-not-self-clause-front
returns-then-not-self-clause-front g c =
    front_none (g.W.Write.contents c.args.self.now.outlet.to) (waits c.args.self.now ++ c.args.piece.now)

pub returns-in_err-finish-clause-front : goal.returns-in_err-finish-clause-front
returns-in_err-finish-clause-front g c =
    let f = c.in_err-finish.ensures.front in
    on_err c.from_residual.result (front_wider (waits c.args.self.now) c.args.piece.now f)
  where
    on_err : {X E P : Type 0} (r : Result X E) → P → OnErr r P
    on_err (Ok x) p = tt
    on_err (Err e) p = p

pub returns-clause-front : goal.returns-clause-front
returns-clause-front g c =
    on_front c.write.result (λ f. front_behind (waits c.args.self.now) c.args.piece.now c.in_ok-finish.ensures.ok f) c.write.ensures.front
  where
    on_front : {X E P Q : Type 0} (r : Result X E) → (P → Q) → OnErr r P → OnErr r Q
    on_front (Ok x) f p = tt
    on_front (Err e) f p = f p
