-- Demand 2's sentence on tracks: EXEC 4 and 15 answer with the lowest run of n free tracks exactly when there is one, and with 1 or 8
-- exactly when there is none. It is shown of the rule that both share, by what the search for a run finds; then of the requests under any
-- keeper, with what becomes of each track.
-- Assumes nothing.
use Prim.Native.Nat.{ℕ, ◌+◌, ◌-◌, ◌≤◌}
use native.Mathlib.Omega.{arith}
use mathlib.Core.Path.{◌≡◌, refl, ap, ◌∙◌}
use mathlib.Core.List.{List, [], ◌∷◌}
use mathlib.Core.Option.{Option, none, some}
use borrow.Author.Tests.{le-leb, lt-ltb}
use Rattle.records.specs.declared.Why.TheVariants.{Tracks}
use Rattle.tracks.specs.Tracks.{everybody, lowest, filled, LowestRun}
use Rattle.tracks.proofs.Runs.{lowest-found, lowest-none, lowest-is, lowest-no, filled_in, filled-out}
use Rattle.rules.specs.Requests.{Call, EXEC4, EXEC15, Request, running}
use Rattle.rules.specs.Plans.{held, Plan, done, number_of, values_of, events_of, View, need, found}
use Rattle.rules.specs.Rules.{waits, takes, head, as_caller, call, plan}
use Rattle.rules.specs.Keeper.{Keeper, State, step, play, view, scheduled_chain, asks}
use Rattle.rules.specs.Claims.{NoRun}
use Rattle.rules.proofs.shared.Paths.{waits-so, waits-told}
use Rattle.rules.proofs.Statements.{Claims, Claimed}

module _ (v : View) (c h n w : ℕ) (low : 1 ≤ n) (high : n ≤ v.book.tracks) (bit : w ≤ 1) where
  -- the holders, what is done with a run, and what without one
  abbrev xs : List ℕ
  xs = v.book.holders

  abbrev grant : ℕ → Plan
  grant i = done (i ∷ []) (held (filled i n h xs) ∷ [])

  takes-found : takes v c h n w ≡ found (lowest n 0 xs) grant (waits c w 5 (Tracks n))
  unfolding takes need
  takes-found = rw (le-leb 1 n low, le-leb n v.book.tracks high, le-leb w 1 bit)

  takes-some : (i : ℕ) → lowest n 0 xs ≡ some i → takes v c h n w ≡ grant i
  unfolding found
  takes-some i e = takes-found ∙ ap (λ (o : Option ℕ). found o grant (waits c w 5 (Tracks n))) e

  takes_none : lowest n 0 xs ≡ none → takes v c h n w ≡ waits c w 5 (Tracks n)
  unfolding found
  takes_none e = takes-found ∙ ap (λ (o : Option ℕ). found o grant (waits c w 5 (Tracks n))) e

  pub takes-claims : Claims v.book.holders c h n w (takes v c h n w)
  takes-claims = record {
    granted = λ i r. takes-some i (lowest-is n xs i low r);
    waits = λ f e. takes_none (lowest-no n xs low f) ∙ waits-so c w 5 (Tracks n) e;
    told = λ f e. takes_none (lowest-no n xs low f) ∙ waits-told c w 5 (Tracks n) (λ z. omega arith);
    only-granted = if-granted (lowest n 0 xs) refl;
    only-waits = if-waits (lowest n 0 xs) refl;
    only-told = if-told (lowest n 0 xs) refl;
  }
    where
      x : Plan
      x = takes v c h n w

      wait : lowest n 0 xs ≡ none → w ≡ 0 → number_of x ≡ 1
      wait e z = ap number_of (takes_none e ∙ waits-so c w 5 (Tracks n) z)

      tell : lowest n 0 xs ≡ none → w ≡ 1 → number_of x ≡ 8
      tell e z = ap number_of (takes_none e ∙ waits-told c w 5 (Tracks n) (λ y. omega arith))

      one : (w ≡ 0 → ⊥) → w ≡ 1
      one f = omega (arith, f)

      naught : (w ≡ 1 → ⊥) → w ≡ 0
      naught f = omega (arith, f)

      if-granted : (o : Option ℕ) → lowest n 0 xs ≡ o → number_of x ≡ 0 → (i : ℕ) × LowestRun xs i n × (values_of x ≡ i ∷ [])
      if-granted (some i) e k = (i, lowest-found n xs i low e, ap values_of (takes-some i e))
      if-granted none e k = absurd (omega (arith, tell e (one (λ z. omega (arith, wait e z)))))

      if-waits : (o : Option ℕ) → lowest n 0 xs ≡ o → number_of x ≡ 1 → (w ≡ 0) × NoRun xs n
      if-waits (some i) e k = absurd (omega (arith, ap number_of (takes-some i e)))
      if-waits none e k = (naught (λ z. omega (arith, tell e z)), lowest-none n xs low e)

      if-told : (o : Option ℕ) → lowest n 0 xs ≡ o → number_of x ≡ 8 → (w ≡ 1) × NoRun xs n
      if-told (some i) e k = absurd (omega (arith, ap number_of (takes-some i e)))
      if-told none e k = (one (λ z. omega (arith, wait e z)), lowest-none n xs low e)

module _ (K : Keeper) (t : State K) (n w : ℕ) (some : 1 ≤ head (scheduled_chain K t)) (low : 1 ≤ n) (high : n ≤ t.book.tracks)
    (bit : w ≤ 1) where
  -- whoever takes tracks
  takes-claimed : (h : ℕ) (q : Request) → asks K t q ≡ takes (view K t) (head (scheduled_chain K t)) h n w → Claimed K t h n w q
  unfolding step
  takes-claimed h q e = record {
    answer = C;
    tracks = λ i r. rw (here i r) (record {
      theirs = λ k l m. rw (shift i k l) (filled_in i n h xs r.there.within (k - i) (omega arith));
      below = λ k l. filled-out i n h xs k (λ m. absurd (omega arith));
      above = λ k l. filled-out i n h xs k (λ m. l);
    });
    rest = λ i r. rw (here i r) refl;
    same = λ f z. ap (λ (x : Plan). play K (events_of (view K t) x) t) (C.told f z);
  }
    where
      xs : List ℕ
      xs = t.book.holders

      C : Claims t.book.holders (head (scheduled_chain K t)) h n w (asks K t q)
      C = rw e (takes-claims (view K t) (head (scheduled_chain K t)) h n w low high bit)

      here : (i : ℕ) → LowestRun t.book.holders i n → asks K t q ≡ done (i ∷ []) (held (filled i n h t.book.holders) ∷ [])
      here i r = C.granted i r

      shift : (i k : ℕ) → i ≤ k → k ≡ i + (k - i)
      shift i k l = omega arith

  as_called : (d : Call) → asks K t (running d) ≡ call (view K t) (head (scheduled_chain K t)) d
  unfolding plan as_caller need
  as_called d = rw (lt-ltb 0 (head (scheduled_chain K t)) some)

  -- THE SENTENCE, of both requests
  pub exec4-claims : Claimed K t (head (scheduled_chain K t)) n w (running (EXEC4 n w))
  unfolding call
  exec4-claims = takes-claimed (head (scheduled_chain K t)) (running (EXEC4 n w)) (as_called (EXEC4 n w))

  pub exec15-claims : Claimed K t everybody n w (running (EXEC15 n w))
  unfolding call
  exec15-claims = takes-claimed everybody (running (EXEC15 n w)) (as_called (EXEC15 n w))
