-- `ledger::places::rest_ok` meets its contract: the place k behind the first `count` stands at k - count of the rest. Assumes nothing.
use Rattle.std.proofs.Common.{rules, arith, ℕ, ◌≡◌, ◌-◌, ◌<◌, ◌+◌, List, take, drop, length, length-drop, get_or, subst, sym, ap, ◌∙◌}
use Rattle.std.proofs.lemmas.List.{get_or-drop}
use lib.Seq.{get_or-take, length-take-le}
use Rattle.records.specs.declared.Resource.{Resource}
use Rattle.records.specs.Numbers.{free}
use Rattle.tracks.specs.Inner.{Tells}
use Rattle.ledger.specs.Inner.{Bare, AllBare}
use Rattle.ledger.proofs.places.rest_ok.Goals as goal

-- what stands at i of the rest
at-rest : (R : ℕ) (rs : List Resource) (i : ℕ) → i < 16 - R → get_or (take (16 - R) (drop R rs)) i free ≡ get_or rs (R + i) free
at-rest R rs i h = get_or-take (16 - R) (drop R rs) i free h ∙ get_or-drop R rs i free

-- how many are there
rest-long : (R : ℕ) (rs : List Resource) → length rs ≡ 16 → length (take (16 - R) (drop R rs)) ≡ 16 - R
rest-long R rs e = length-take-le (16 - R) (drop R rs) (omega (arith, length-drop R rs))

pub returns : goal.returns
returns c =
    let rs = c.args.resources.now in
    let R = c.args.count in
    let long : length rs ≡ 16 = search rules in
    let t : Tells c.are_blank.result (AllBare (take (16 - R) (drop R rs))) = c.are_blank.ensures in
    record {
      yes = λ e i h l.
          let k : R + (i - R) ≡ i = omega arith in
          subst Bare (at-rest R rs (i - R) (omega arith) ∙ ap (λ (j : ℕ). get_or rs j free) k)
          (t.yes e (i - R) (omega (arith, rest-long R rs long)));
      nay = λ e u. t.nay e (λ i h.
          let k : i < 16 - R = omega (arith, rest-long R rs long) in
          subst Bare (sym (at-rest R rs i k)) (u (R + i) (omega arith) (omega arith)));
    }
