-- `requests::put_line`: what is put and what is left to be put make up the bytes that are shown. Assumes nothing.
use Rattle.std.proofs.Common.{◌≡◌, ◌+◌, ◌++◌, map, drop, length}
use Rattle.showing.specs.Showing.{shown_byte}
use Rattle.showing.proofs.requests.put_line.Given as goal

abbrev pub invariant-loop-b : goal.invariant-loop-b
invariant-loop-b l = record {
  left : l.out.items ++ map shown_byte (drop l.b-index l.b-items) ≡ l.initial.out.items ++ map shown_byte l.b-items;
  long : length l.out.items ≡ length l.initial.out.items + l.b-index;
}
