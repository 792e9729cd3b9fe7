-- What a clause reads of an `Output`.
-- Assumes nothing.
use Rattle.std.specs.Prelude.{ℕ, List, take}
use Rattle.std.specs.declared.option.Option.{Option}
use Rattle.std.specs.Io.KnownBytes.{append_known}
use Rattle.streams.specs.declared.gathering.Output.{Output}

-- the bytes that wait to go out
abbrev pub waits : {W : Type 0} → Output W → List ℕ
waits o = take o.count o.buffer

-- the writer's bytes, where they are known, and then those that wait
abbrev pub gathered : {W : Type 0} → (W → Option (List ℕ)) → Output W → Option (List ℕ)
gathered contents o = append_known (contents o.outlet.to) (waits o)
