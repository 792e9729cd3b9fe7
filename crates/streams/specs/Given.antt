-- What a clause reads of an `Argument`.
-- Assumes nothing.
use Rattle.std.specs.Prelude.{ℕ, List, take}
use Rattle.streams.specs.declared.arguments.Argument.{Argument}

-- its bytes
abbrev pub given : Argument → List ℕ
given a = take a.count a.bytes
