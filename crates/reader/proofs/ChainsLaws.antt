-- The chains of a page, one after another: what is read so far.
-- Assumes nothing.
use Prim.Native.Nat.{ℕ, zero, suc, ◌+◌, ◌-◌, ◌≤◌, ◌<◌}
use native.Mathlib.Omega.{arith}
use mathlib.Core.Path.{◌≡◌, refl, sym, ap, ◌∙◌, subst}
use mathlib.Core.List.{List, [], ◌∷◌, ◌++◌, map, append_assoc}
use mathlib.Core.Option.{Option, none, some, none-ne-some, some-injective}
use lib.ListN.{get_or, take, drop, replicate}
use lib.Seq.{slice}
use Rattle.chains.specs.Links.{slots, lay_chain}
use Rattle.rules.specs.Keeper.{lists, State}
use Rattle.page.specs.Page.{chained, key_of_chain}
use Rattle.std.specs.Prelude.{Some}
use Rattle.reader.specs.declared.parts.BadLine.{BadLine}
use Rattle.shapes.specs.Shapes.{there, otherwise, into, listed}
use Rattle.reader.specs.Order.{Form, chaining, chains_ahead, chain_forms, first_bad}
use Rattle.reader.specs.Said.{with_chain, rest_said, chains_said}
use Rattle.shapes.specs.Inner.{byte, ChainRead, NoLine, ValueIs}
use Rattle.reader.specs.Walks.{ahead, Onward, with_chains, lay_these, Stops, ChainsAre}
use Rattle.text.proofs.Fields.{drop-take}
use Rattle.reader.proofs.ScanLaws.{value-behind}
use Rattle.shapes.proofs.LineLaws.{line-shaped}
use Rattle.reader.proofs.LineLaws.{scan-on, scan-off}

-- a part of a text, as code cuts it out
cut_out : (s : List ℕ) (from to : ℕ) → from ≤ to → take (to - from) (drop from s) ≡ slice from to s
cut_out s from to h =
    let e : from + (to - from) ≡ to = omega arith in
    sym (drop-take from (to - from) s) ∙ ap (λ (k : ℕ). slice from k s) e

pub chain-none : (s : List ℕ) {from to : ℕ} → from ≤ to → listed (take (to - from) (drop from s)) ≡ none → listed (slice from to s) ≡ none
chain-none s {from} {to} h e = rw (← cut_out s from to h) e

pub chain-some : (s ls l : List ℕ) (k : ℕ) {from to : ℕ} → from ≤ to → ChainRead (take (to - from) (drop from s)) ls k (Some l)
    → ChainRead (slice from to s) ls k (Some l)
chain-some s ls l k {from} {to} h e = subst (λ (v : List ℕ). ChainRead v ls k (Some l)) (cut_out s from to h) e

-- the kind of line of a state's chain
abbrev chain_form : ℕ → Form
chain_form s = record { key = key_of_chain s; shape = λ v. there (listed v) }

-- what comes next of the four
pub record Next (i s : ℕ) : Type 0 where
  pub states : drop i chained ≡ s ∷ drop (i + 1) chained
  pub forms : drop i chain_forms ≡ chain_form s ∷ drop (i + 1) chain_forms
  pub small : s ≤ 9

pub next_of : (i : ℕ) → i < 4 → Next i (get_or chained i 0)
next_of zero h = record { states = refl; forms = refl; small = omega arith }
next_of (suc zero) h = record { states = refl; forms = refl; small = omega arith }
next_of (suc (suc zero)) h = record { states = refl; forms = refl; small = omega arith }
next_of (suc (suc (suc zero))) h = record { states = refl; forms = refl; small = omega arith }
next_of (suc (suc (suc (suc i)))) h = absurd (omega arith)

-- `links` has the first i chains, and the others are left from place o, line n on
pub record SoFar (s : List ℕ) (at line : ℕ) (links : List ℕ) (o n i : ℕ) : Type 0 where
  pub onward : Onward s o n
  pub told : List (List ℕ)
  pub state : State lists → State lists
  pub held : (cs : List (List ℕ)) → lay_these (drop i chained) cs links ≡ lay_these chained (told ++ cs) (replicate slots 0)
  pub scan : first_bad (chains_ahead chain_forms) line (ahead s at) ≡ first_bad (chains_ahead (drop i chain_forms)) n (ahead s o)
  pub says : (a : State lists) → chains_said chained a (ahead s at) ≡ chains_said (drop i chained) (state a) (ahead s o)
  pub puts : (a : State lists) (cs : List (List ℕ)) → with_chains (drop i chained) cs (state a) ≡ with_chains chained (told ++ cs) a

pub none_yet : (s : List ℕ) (at line : ℕ) → Onward s at line → SoFar s at line (replicate slots 0) at line 0
none_yet s at line h =
    record { onward = h; told = []; state = λ a. a; held = λ cs. refl; scan = refl; says = λ a. refl; puts = λ a cs. refl }

module _ {s : List ℕ} {at line : ℕ} {links : List ℕ} {o n i : ℕ} (p : SoFar s at line links o n i) where
  -- all of them
  pub all_read : i ≡ 4 → ChainsAre s at line (record { at = o; line = n; links = links })
  unfolding chains_said
  all_read e =
      let q : SoFar s at line links o n 4 = subst (SoFar s at line links o n) e p in
      record {
        onward = q.onward;
        told = q.told ++ [];
        held = q.held [];
        scan = q.scan;
        says = λ a. q.says a ∙ ap (λ (x : State lists). rest_said x (ahead s o)) (q.puts a []);
      }

  -- one that is not there
  pub bad-chain : (k : ℕ) → Next i k → NoLine listed s o (key_of_chain k) → (b : BadLine) → b.0 ≡ n
      → Stops (chains_ahead chain_forms) line (ahead s at) b
  bad-chain k t l b e =
      record {
        some = omega (arith, e, p.onward.some);
        scan = p.scan ∙ ap (λ (fs : List Form). first_bad (chains_ahead fs) n (ahead s o)) t.forms
            ∙ scan-off listed s o (chaining (chain_form k ∷ drop (i + 1) chain_forms)) _ refl (λ m y. refl) (λ v. refl) l n ∙ sym e;
      }

  -- one more
  module _ (k : ℕ) (t : Next i k) (from to : ℕ) (v : ValueIs s o (key_of_chain k) from to) (c : List ℕ)
      (e : listed (slice from to s) ≡ some c) where
    chain-says : (b : State lists)
        → chains_said (k ∷ drop (i + 1) chained) b (ahead s o) ≡ chains_said (drop (i + 1) chained) (with_chain k c b) (ahead s (to + 1))
    unfolding chains_said
    chain-says b =
        ap (chains_said (k ∷ drop (i + 1) chained) b) v.cut
        ∙ ap (λ (x : Option (List ℕ)). chains_said (drop (i + 1) chained) (with_chain k (otherwise [] (listed (otherwise [] x))) b)
        (ahead s (to + 1)))
        (value-behind (key_of_chain k) (slice from to s))
        ∙ ap (λ (x : Option (List ℕ)). chains_said (drop (i + 1) chained) (with_chain k (otherwise [] x) b) (ahead s (to + 1))) e

    pub one_more : SoFar s at line (lay_chain links k (map byte c)) (to + 1) (n + 1) (i + 1)
    one_more =
        record {
          onward = record { within = omega (arith, v.high); some = omega arith; counted = omega (arith, v.beyond, p.onward.counted) };
          told = p.told ++ (c ∷ []);
          state = λ a. with_chain k c (p.state a);
          held = λ cs. sym (ap (λ (x : List ℕ). lay_these x (c ∷ cs) links) t.states) ∙ p.held (c ∷ cs)
              ∙ ap (λ (x : List (List ℕ)). lay_these chained x (replicate slots 0)) (sym (append_assoc p.told (c ∷ []) cs));
          scan = p.scan ∙ ap (λ (fs : List Form). first_bad (chains_ahead fs) n (ahead s o)) t.forms
              ∙ scan-on listed s o (chaining (chain_form k ∷ drop (i + 1) chain_forms)) _ [] refl (line-shaped listed v e) refl n
              ∙ ap (λ (x : ℕ). first_bad (chains_ahead (drop (i + 1) chain_forms)) x (ahead s (to + 1)))
              (let f : suc n ≡ n + 1 = omega arith in f);
          says = λ a. p.says a ∙ ap (λ (x : List ℕ). chains_said x (p.state a) (ahead s o)) t.states ∙ chain-says (p.state a);
          puts = λ a cs. sym (ap (λ (x : List ℕ). with_chains x (c ∷ cs) (p.state a)) t.states) ∙ p.puts a (c ∷ cs)
              ∙ ap (λ (x : List (List ℕ)). with_chains chained x a) (sym (append_assoc p.told (c ∷ []) cs));
        }

  pub one-read : (k : ℕ) → Next i k → (from to : ℕ) → ValueIs s o (key_of_chain k) from to → (l : List ℕ)
      → ChainRead (slice from to s) links k (Some l) → SoFar s at line l (to + 1) (n + 1) (i + 1)
  one-read k t from to v l q = go (listed (slice from to s)) refl q
    where
      go : (x : Option (List ℕ)) → listed (slice from to s) ≡ x
          → into (λ c. lay_chain links k (map byte c)) (listed (slice from to s)) ≡ some l
          → SoFar s at line l (to + 1) (n + 1) (i + 1)
      go none e f =
          absurd (none-ne-some l (sym (ap (into (λ c. lay_chain links k (map byte c))) e) ∙ f))
      go (some c) e f =
          subst (λ (x : List ℕ). SoFar s at line x (to + 1) (n + 1) (i + 1))
          (some-injective _ _ (sym (ap (into (λ d. lay_chain links k (map byte d))) e) ∙ f)) (one_more k t from to v c e)
