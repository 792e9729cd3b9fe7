-- Ending keeps soundness. A program that ends is excused as a son until those that awaited it have been woken, and as a user until its
-- tracks and numbers have passed to nobody. After that no slack is left.
-- Assumes nothing.
use Prim.Native.Nat.{ℕ, ◌+◌, ◌≤◌}
use native.Mathlib.Omega.{arith}
use native.Mathlib.Decide.{ℕ_discrete, dec_le}
use mathlib.Core.Path.{◌≡◌, refl, sym, ap, ◌∙◌, subst}
use mathlib.Core.Logic.{◌≢◌}
use mathlib.Core.Bool.{Bool, true, false, cond}
use mathlib.Core.List.{List, [], ◌∷◌, ◌++◌, map}
use lib.ListN.{length}
use lib.Dec.{eqb}
use Rattle.lists.specs.Lists.{count}
use Rattle.clock.specs.Clock.{farthest}
use Rattle.records.specs.declared.Program.{Program}
use Rattle.records.specs.declared.Resource.{Resource}
use Rattle.records.specs.declared.Why.TheVariants.{Nothing, Son}
use Rattle.records.specs.Records.{Known}
use Rattle.records.specs.Numbers.{without}
use Rattle.tracks.specs.Tracks.{nobody, replaced}
use Rattle.rules.specs.Book.{at, why_of}
use Rattle.rules.specs.Plans.{Deed, becomes, unloaded, timed, on, held, numbered, Release, woken, wake}
use Rattle.rules.specs.Rules.{dismissed}
use Rattle.rules.specs.Keeper.{lists, State, step, play, view}
use Rattle.rules.proofs.shared.Deeds.{made, step-put, step-turned}
use Rattle.rules.proofs.soundness.Fine.{Slack, exact, Sonny, Uses, Tracked, Numbered, Fine, fine-anew}
use Rattle.rules.proofs.soundness.Apt.{tracked-map, numbered-map, fine-on}
use Rattle.rules.proofs.soundness.Making.{timer-none, nothing-childless, apt-plain, apt-timed, apt-unused}
use Rattle.rules.proofs.soundness.Passing.{tracked-replaced, numbered-without}
use Rattle.rules.proofs.shared.Settling.{settle}
use Rattle.rules.proofs.soundness.Waking.{Callable, fine-wake, woke, woken-callable, woken-other, son-woken}

-- p is excused as a son, and u as a user
abbrev away : ℕ → ℕ → ℕ → Slack
away c p u = record { son = p; user = u; clock = c; low = c; high = c + farthest }

module _ (c p : ℕ) (a : State lists) where
  -- other excuses: what is said of sons, tracks and numbers is said anew
  excused : (q u v w : ℕ) → Fine (away c q u) a → ((z k : ℕ) → Known z → why_of a.book z ≡ Son k → Sonny v a.book.programs z k)
      → Tracked (Uses w a.book.programs) a.book.tracks a.book.system a.book.holders
      → Numbered (Uses w a.book.programs) a.book.numbers a.book.resources → Fine (away c v w) a
  excused q u v w F s t n =
      fine-anew (away c q u) (away c v w) a a.book.clock a.book.holders a.book.resources F F.right s t n F.now F.time

  excuse-son : Fine (exact c) a → Fine (away c p 0) a
  excuse-son F = excused 0 0 p 0 F (λ z k Z i. let S = F.sons z k Z i in
      record {
        known = S.known;
        other = S.other;
        used = λ n. S.used (λ w. omega (arith, w, S.known.0));
        awake = λ n. S.awake (λ w. omega (arith, w, S.known.0));
      })
      F.tracked F.numbered

  excuse-user : Fine (away c p 0) a → Fine (away c p p) a
  excuse-user F = excused p 0 p p F F.sons (tracked-map (λ h H u n. u (λ w. omega (arith, w, H.0))) F.tracked)
      (numbered-map (λ h H u n. u (λ w. omega (arith, w, H.0))) F.numbered)

  blame-son : Fine (away c p 0) a → ((z : ℕ) → Known z → why_of a.book z ≡ Son p → ⊥) → Fine (exact c) a
  blame-son F f = excused p 0 0 0 F (λ z k Z i. let S = F.sons z k Z i in let n : k ≢ p = λ w. f z Z (i ∙ ap Son w) in
      record { known = S.known; other = S.other; used = λ m. S.used n; awake = λ m. S.awake n }) F.tracked F.numbered

-- a₁ is a₀ where p waits for nothing any more, and else no record, holder or number is altered
record Gone (p : ℕ) (a₀ a₁ : State lists) : Type 0 where
  pub why : why_of a₁.book p ≡ Nothing
  pub rest : (z : ℕ) → Known z → z ≢ p → at a₁.book z ≡ at a₀.book z
  pub holders : a₁.book.holders ≡ a₀.book.holders
  pub resources : a₁.book.resources ≡ a₀.book.resources

module _ (c : ℕ) (a₀ : State lists) (F₀ : Fine (exact c) a₀) (R : Release) (P : Known R.ended) where
  -- all who awaited it are woken
  settle-sons : (a₁ : State lists) → Fine (away c R.ended 0) a₁ → why_of a₁.book R.ended ≡ Nothing
      → ((z : ℕ) → Known z → z ≢ R.ended → at a₁.book z ≡ at a₀.book z)
      → Fine (exact c) (play lists (wake (woken (view lists a₀) R)) a₁)
  settle-sons a₁ F₁ y O = blame-son c R.ended (play lists (wake l) a₁) (fine-wake (away c R.ended 0) l a₁ F₁ callable)
      (λ z Z i. none_left z Z i (dec_le 1 (count z l)) (ℕ_discrete z R.ended))
    where
      l : List ℕ
      l = woken (view lists a₀) R

      callable : (q : ℕ) → 1 ≤ count q l → Callable a₁.book.programs q
      callable q h =
          let Q = woken-callable (exact c) a₀ F₀ R q h in
          (Q.0, ap (λ (r : Program). r.used) (O q Q.0 (woken-other (exact c) a₀ F₀ R P q h)) ∙ Q.1)

      none_left : (z : ℕ) → Known z → why_of (play lists (wake l) a₁).book z ≡ Son R.ended → Dec (1 ≤ count z l) → Dec (z ≡ R.ended) → ⊥
      none_left z Z i (yes h) d =
          nothing-childless R.ended (sym ((woke l a₁ F₁.order.long (λ q k. (callable q k).0)).freed z h) ∙ i)
      none_left z Z i (no h) (yes w) =
          let r = (woke l a₁ F₁.order.long (λ q k. (callable q k).0)).rest z Z (omega (arith, h)) in
          nothing-childless R.ended (sym y ∙ ap (why_of a₁.book) (sym w) ∙ sym (ap (λ (x : Program). x.why) r) ∙ i)
      none_left z Z i (no h) (no n) =
          let r = (woke l a₁ F₁.order.long (λ q k. (callable q k).0)).rest z Z (omega (arith, h)) in
          h (son-woken (exact c) a₀ F₀ R P z Z n (ap (λ (x : Program). x.why) (sym (O z Z n)) ∙ ap (λ (x : Program). x.why) (sym r) ∙ i))

  -- its tracks are hs now, its numbers pass to nobody, and then they are woken
  settle-fine : (a₁ : State lists) (hs : List ℕ) → Fine (away c R.ended R.ended) a₁ → Gone R.ended a₀ a₁
      → Tracked (Uses 0 a₁.book.programs) a₁.book.tracks a₁.book.system hs
      → Fine (exact c) (play lists (settle (view lists a₀) R.ended R) (step lists (held hs) a₁))
  unfolding step
  settle-fine a₁ hs F₁ G t =
      let rs : List Resource = map (without R.ended) a₀.book.resources in
      let n : Numbered (Uses 0 a₁.book.programs) a₁.book.numbers rs =
      subst (λ (y : List Resource). Numbered (Uses 0 a₁.book.programs) a₁.book.numbers (map (without R.ended) y)) G.resources
      (numbered-without R.ended (numbered-map (λ h H u m w. u m) F₁.numbered)) in
      settle-sons (step lists (numbered rs) (step lists (held hs) a₁))
      (fine-anew (away c R.ended R.ended) (away c R.ended 0) a₁ a₁.book.clock hs rs F₁ F₁.right F₁.sons t n F₁.now
      F₁.time) G.why G.rest

  -- its tracks pass to nobody too
  depart-fine : (a₁ : State lists) → Fine (away c R.ended R.ended) a₁ → Gone R.ended a₀ a₁
      → Fine (exact c) (play lists (held (replaced R.ended nobody a₀.book.holders) ∷ settle (view lists a₀) R.ended R) a₁)
  depart-fine a₁ F₁ G =
      settle-fine a₁ (replaced R.ended nobody a₀.book.holders) F₁ G
      (subst (λ (y : List ℕ). Tracked (Uses 0 a₁.book.programs) a₁.book.tracks a₁.book.system (replaced R.ended nobody y))
      G.holders
      (tracked-replaced R.ended (omega (arith, P.1)) (tracked-map (λ h H u m w. u m) F₁.tracked)))

-- what a deed of p leaves
gone-step : (a₀ a₁ : State lists) (p : ℕ) → Known p → (d : Deed) → length a₁.book.programs ≡ 32
    → (made d (at a₁.book p)).why ≡ Nothing
    → ((z : ℕ) → Known z → z ≢ p → at a₁.book z ≡ at a₀.book z) → a₁.book.holders ≡ a₀.book.holders
    → a₁.book.resources ≡ a₀.book.resources
    → Gone p a₀ (step lists (on p d) a₁)
gone-step a₀ a₁ p P d L w O H N =
    let T = step-turned lists p P d a₁ L in
    record {
      why = ap (λ (r : Program). r.why) T.here ∙ w;
      rest = λ z Z n. T.rest z Z n ∙ O z Z n;
      holders = ap (λ (t : State lists). t.book.holders) (step-put lists p P d a₁) ∙ H;
      resources = ap (λ (t : State lists). t.book.resources) (step-put lists p P d a₁) ∙ N;
    }

module _ (c : ℕ) (a : State lists) (F : Fine (exact c) a) (R : Release) (P : Known R.ended)
    (u : (at a.book R.ended).used ≡ true) where
  -- EXEC 6
  pub end-fine : Fine (exact c) (play lists (on R.ended (becomes 0 Nothing) ∷ settle (view lists a) R.ended R) a)
  unfolding step
  end-fine =
      let e : Slack = away c R.ended 0 in
      let F₀ : Fine e a = excuse-son c R.ended a F in
      let a₁ : State lists = step lists (on R.ended (becomes 0 Nothing)) a in
      let F₁ : Fine e a₁ =
      fine-on e R.ended P (becomes 0 Nothing) a F₀
      (apt-plain e a F₀ R.ended P u 0 Nothing refl nothing-childless (λ n. absurd (n refl))) in
      let G = gone-step a a R.ended P (becomes 0 Nothing) F.order.long refl (λ z Z n. refl) refl refl in
      settle-fine c a F R P a₁ a₁.book.holders (excuse-user c R.ended a₁ F₁) G F₁.tracked

  -- OF 1 and 8
  pub off-fine : (k : ℕ)
      → Fine (exact c)
      (play lists (dismissed k R.ended ++ (held (replaced R.ended nobody a.book.holders) ∷ settle (view lists a) R.ended R)) a)
  off-fine k = go (eqb k 8)
    where
      p : ℕ
      p = R.ended

      e : Slack
      e = away c p p

      F₀ : Fine e a
      F₀ = excuse-user c p a (excuse-son c p a F)

      b : State lists
      b = step lists (on p (becomes 0 Nothing)) a

      B : Fine e b
      B = fine-on e p P (becomes 0 Nothing) a F₀ (apt-plain e a F₀ p P u 0 Nothing refl nothing-childless (λ n. absurd (n refl)))

      G : Gone p a b
      G = gone-step a a p P (becomes 0 Nothing) F.order.long refl (λ z Z n. refl) refl refl

      v : (at b.book p).used ≡ true
      v = ap (λ (r : Program). r.used) (step-turned lists p P (becomes 0 Nothing) a F.order.long).here ∙ u

      go : (x : Bool) → Fine (exact c) (play lists (cond x (on p unloaded ∷ []) (on p (becomes 0 Nothing) ∷ on p (timed 0 0) ∷ [])
          ++ (held (replaced p nobody a.book.holders) ∷ settle (view lists a) p R)) a)
      go true =
          depart-fine c a F R P (step lists (on p unloaded) a) (fine-on e p P unloaded a F₀ (apt-unused e a F₀ p P refl refl))
          (gone-step a a p P unloaded F.order.long refl (λ z Z n. refl) refl refl)
      go false =
          depart-fine c a F R P (step lists (on p (timed 0 0)) b)
          (fine-on e p P (timed 0 0) b B (apt-timed e b B p P v 0 0 (timer-none c (c + farthest))))
          (gone-step a b p P (timed 0 0) B.order.long G.why G.rest G.holders G.resources)
