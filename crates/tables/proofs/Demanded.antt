-- Claims and counts of the tables themselves. On sound tables a call's plain state after it is the rule's, so what
-- holds of the rules holds of the tables.
-- Assumes nothing.
use Prim.Native.Nat.{ℕ, ◌≤◌}
use mathlib.Core.Path.{◌≡◌, sym, ap, ◌∙◌, subst}
use mathlib.Core.Bool.{true}
use mathlib.Core.List.{[], ◌∷◌}
use Rattle.tracks.specs.Tracks.{everybody}
use Rattle.rules.specs.Requests.{EXEC4, EXEC15, OF, EXEC5, EXEC16, EXEC5ALL, EXEC6, CLEAR, FREE, Request, operator, TICK, running}
use Rattle.rules.specs.Plans.{Plan, number_of, values_of, refused, events_of}
use Rattle.rules.specs.Keeper.{lists, State, asks, after, view}
use Rattle.rules.specs.Claims.{Gained}
use Rattle.rules.specs.Counts.{Freed, awoken, roused}
use Rattle.rules.specs.Sound as rules
use Rattle.rules.proofs.soundness.SoundRuns.{sound-after}
use Rattle.rules.proofs.counts.Claims.{exec4-claims, exec15-claims}
use Rattle.rules.proofs.counts.CountLaws.{counts}
use Rattle.tables.specs.declared.Tables.{Tables}
use Rattle.tables.specs.Tables.{plain, Arrays, caller_of}
use Rattle.tables.specs.Sound.{sound}
use Rattle.tables.specs.Calls.{Result, served, asked, planned, many_ticks}
use Rattle.tables.specs.Demand.{Claim, ValueFreed, ValueAwoken, ValueRoused, Counted}
use Rattle.tables.proofs.Agree.{sound-clauses}
use Rattle.tables.proofs.Plain.{plain-lay, sound-plain, laid-is}
use Rattle.tables.proofs.Orderly.{sound-orderly}
use Rattle.tables.proofs.ManyTicks.{ticks-accepted, many-done}
use Rattle.timers.specs.Inner.{ticks_on}
use Rattle.timers.proofs.Ticking.{sound-ticks}
use Rattle.timers.proofs.Roused.{started-roused}
use Rattle.tables.proofs.Serving.{asked-sound}
use Rattle.rules.proofs.Statements.{Claimed, Done, TellsFreed, TellsAwoken, TellsRoused, Counts}

module _ (t : Tables) (A : Arrays t) (e : sound t ≡ true) where
  -- what is handed back, by the rule
  number_is : (q : Request) → (asked t q).number ≡ number_of (asks lists (plain t) q)
  unfolding served
  number_is q = ap (λ (r : Result). r.number) (asked-sound t q e)

  values-is : (q : Request) → (asked t q).values ≡ values_of (asks lists (plain t) q)
  unfolding served
  values-is q = ap (λ (r : Result). r.values) (asked-sound t q e)

  plainly : rules.Sound (plain t)
  plainly = sound-plain t A (sound-clauses t e)

  pub after_is : (q : Request) → plain (asked t q).tables ≡ after lists (plain t) q
  unfolding served
  after_is q = ap (λ (r : Result). plain r.tables) (asked-sound t q e)
      ∙ laid-is t (events_of (view lists (plain t)) (asks lists (plain t) q)) (sound-after (plain t) plainly q)

  -- a refusal hands back the tables
  stays : (q : Request) (a v : ℕ) → asks lists (plain t) q ≡ refused a v → (asked t q).tables ≡ t
  unfolding served
  stays q a v r = ap (λ (x : Result). x.tables) (asked-sound t q e) ∙ ap (λ (x : Plan). (planned t x).tables) r

  -- claims
  claim : (h n w : ℕ) (q : Request) → Claimed lists (plain t) h n w q → Claim t h n w (asked t q)
  claim h n w q C = record {
    granted = λ i L. (number_is q ∙ ap number_of (C.answer.granted i L), values-is q ∙ ap values_of (C.answer.granted i L));
    gained = λ i L. subst (λ (a : State lists). Gained (plain t).book a.book h i n) (sym (after_is q)) (C.tracks i L);
    waits = λ N z. (number_is q ∙ ap number_of (C.answer.waits N z), values-is q ∙ ap values_of (C.answer.waits N z));
    told = λ N z. (
      number_is q ∙ ap number_of (C.answer.told N z),
      values-is q ∙ ap values_of (C.answer.told N z),
      stays q 8 0 (C.answer.told N z),
    );
    only-waits = λ z. (C.answer.only-waits (sym (number_is q) ∙ z)).1;
    only-told = λ z. (C.answer.only-told (sym (number_is q) ∙ z)).1;
  }

  pub own-claim : (n w : ℕ) → 1 ≤ caller_of t → 1 ≤ n → n ≤ (plain t).book.tracks → w ≤ 1
      → Claim t (caller_of t) n w (asked t (running (EXEC4 n w)))
  own-claim n w c l h k = claim (caller_of t) n w (running (EXEC4 n w)) (exec4-claims lists (plain t) n w c l h k)

  pub global-claim : (n w : ℕ) → 1 ≤ caller_of t → 1 ≤ n → n ≤ (plain t).book.tracks → w ≤ 1
      → Claim t everybody n w (asked t (running (EXEC15 n w)))
  global-claim n w c l h k = claim everybody n w (running (EXEC15 n w)) (exec15-claims lists (plain t) n w c l h k)

  -- counts
  freed : (q : Request) → (Done (plain t) q → TellsFreed (plain t) q) → (asked t q).number ≡ 0 → ValueFreed t (asked t q)
  freed q f z =
      let F : TellsFreed (plain t) q = f (sym (number_is q) ∙ z) in
      subst (λ (a : State lists). Freed (plain t).book a.book (asked t q).values) (sym (after_is q))
      (record { value = F.value; answer = values-is q ∙ F.answer; difference = F.difference })

  woken : (q : Request) → (Done (plain t) q → TellsAwoken (plain t) q) → (asked t q).number ≡ 0 → ValueAwoken t (asked t q)
  woken q f z =
      values-is q ∙ f (sym (number_is q) ∙ z) ∙ ap (λ (a : State lists). awoken (plain t).book a.book ∷ []) (sym (after_is q))

  started : (q : Request) → (Done (plain t) q → TellsRoused (plain t) q) → (asked t q).number ≡ 0 → ValueRoused t (asked t q)
  started q f z =
      values-is q ∙ f (sym (number_is q) ∙ z) ∙ ap (λ (a : State lists). roused (plain t).book a.book ∷ []) (sym (after_is q))

  -- so many ticks at once
  many-roused : (n : ℕ) → (many_ticks t n).number ≡ 0 → ValueRoused t (many_ticks t n)
  many-roused n z =
      let P = ticks-accepted t n z in
      let d = many-done t (sound-orderly t A (sound-clauses t e)) e plainly n P.least P.most P.below in
      ap (λ (r : Result). r.values) d
      ∙ ap (λ (k : ℕ). k ∷ []) (started-roused n (plain t) plainly P.below)
      ∙ ap (λ (a : State lists). roused (plain t).book a.book ∷ [])
      (sym (ap (λ (r : Result). plain r.tables) d ∙ plain-lay (ticks_on n (plain t)) (sound-ticks n (plain t) plainly)))

  pub counted : Counted t
  counted =
      let C : Counts (plain t) = counts (plain t) plainly in
      record {
        off = λ k nm. freed (operator (OF k) nm) (C.off k nm);
        own = λ n s. freed (running (EXEC5 n s)) (C.own n s);
        global = λ n s. freed (running (EXEC16 n s)) (C.global n s);
        each = freed (running EXEC5ALL) C.each;
        ending = woken (running EXEC6) C.ending;
        clearing = λ r. woken (running (CLEAR r)) (C.clearing r);
        freeing = λ r. woken (running (FREE r)) (C.freeing r);
        tick = started TICK C.tick;
        ticks = many-roused;
      }
