-- `read_records` reads so many records, one after another.
-- Assumes nothing.
use Prim.Native.Nat.{◌-◌}
use Rattle.reader.proofs.RecordsLaws.{SoFar}
use Rattle.reader.proofs.parts.read_records.Given as goal

abbrev pub invariant-loop : goal.invariant-loop
invariant-loop l = SoFar l.s l.at l.line l.count l.programs l.o l.n (l.count - l.counter)
