-- `ledger::freeing::keep` meets its contract. The invariant is `Sifted`, by any test that says what a call of `passes` says of known
-- programs. Assumes nothing.
use Rattle.std.proofs.Common.{ℕ, ◌≡◌, ◌≤◌, Bool}
use Rattle.records.specs.Records.{Known}
use Rattle.ledger.proofs.Sifting.{Sifted}
use Rattle.ledger.proofs.freeing.keep.Given as goal

abbrev pub invariant-loop-q : goal.invariant-loop-q
invariant-loop-q g l =
    (l.kept.len ≤ l.q-index)
    × ((t : ℕ → Bool) → ((q : ℕ) → Known q → (b : Bool) → goal.F-post g l.passes q b → b ≡ t q)
    → Sifted t l.q-items l.kept.ids l.kept.len l.q-index)
