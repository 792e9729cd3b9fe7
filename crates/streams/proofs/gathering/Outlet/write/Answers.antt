-- Where it is closed nothing is let out.
use Rattle.streams.proofs.Growing.{front_none}
use Rattle.streams.proofs.gathering.Outlet.write.Goals as goal

pub returns-then-not-self-clause-front : goal.returns-then-not-self-clause-front
returns-then-not-self-clause-front g c = front_none (g.W.Write.contents c.args.self.now.to) c.args.bytes.now
