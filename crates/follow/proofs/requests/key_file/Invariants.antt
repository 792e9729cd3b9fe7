-- What is held between two reads is what `blocks` carries.
use Rattle.follow.specs.Inner.{Holds}
use Rattle.follow.proofs.requests.key_file.Given as goal

abbrev pub invariant-loop : goal.invariant-loop
invariant-loop l = Holds l.keying
