-- `chains::chain_of` meets its contract. The loop's invariant is `Part`: what is read out and what is yet to be walked.
-- Assumes nothing.
use Rattle.std.proofs.Common.{◌≡◌}
use Rattle.chains.specs.Links.{walk}
use Rattle.chains.proofs.Listed.{Part}
use Rattle.chains.proofs.chain_of.Given as goal

abbrev pub invariant-loop : goal.invariant-loop
invariant-loop l = record {
  turns : l.counter ≡ l.chain.len;
  part : Part l.links (walk l.links l.state 32) l.chain.ids l.chain.len l.at;
}
