-- Waking keeps what is fine so, and leaves each record that it does not wake. The woken stood in chain 3 or 5; one who awaited
-- the program that ended is among them.
-- Assumes nothing.
use Prim.Native.Nat.{ℕ, ◌+◌, ◌≤◌, ◌<◌}
use native.Mathlib.Omega.{arith}
use native.Mathlib.Decide.{ℕ_discrete, dec_le}
use mathlib.Core.Path.{◌≡◌, refl, sym, ap, ◌∙◌, subst}
use mathlib.Core.Logic.{◌≢◌}
use mathlib.Core.Bool.{Bool, true, false, cond}
use mathlib.Core.List.{List, [], ◌∷◌, ◌++◌}
use lib.ListN.{length, get_or}
use lib.Dec.{ltb}
use borrow.Author.Tests.{eqb-true, eq-eqb, lt-ltb}
use Rattle.lists.specs.Lists.{same, count, keep, remove}
use Rattle.lists.proofs.Laws.{same_refl, same-ne, same-le, count-remove, count-remove-le, count-keep, keep-le, remove_absent}
use Rattle.lists.proofs.Laws.{count-append}
use Rattle.records.specs.declared.Program.{Program}
use Rattle.records.specs.declared.Why.{Why}
use Rattle.records.specs.declared.Why.TheVariants.{Nothing, Son}
use Rattle.records.specs.Records.{Known, record_at, wait_over}
use Rattle.rules.specs.Book.{at, state_of, why_of}
use Rattle.rules.specs.Plans.{wakes, on, Release, awaits, from_general, woken, wake}
use Rattle.rules.specs.Keeper.{lists, State, step, play, view}
use Rattle.rules.proofs.shared.Deeds.{made, Turned, turned-each, step-turned}
use Rattle.rules.proofs.shared.Ordering.{woken-from}
use Rattle.rules.proofs.soundness.Chaining.{chain-state}
use Rattle.rules.proofs.soundness.Fine.{Slack, alone, Fine, used-if}
use Rattle.rules.proofs.soundness.Apt.{fine-on}
use Rattle.rules.proofs.soundness.Making.{apt-woken}

-- each of a list is a used program
abbrev pub Callable : List Program → ℕ → Type 0
Callable ps z = Known z × ((record_at ps z).used ≡ true)

pub turned-used : (p : ℕ) (r : Program) (ps qs : List Program) → Turned p r ps qs → r.used ≡ true → (z : ℕ) → Callable ps z → Callable qs z
turned-used p r ps qs T u z Z =
    (Z.0, turned-each T (λ z x. (record_at ps z).used ≡ true → x.used ≡ true) (λ v. u) (λ z Z n v. v) z Z.0 Z.1)

pub fine-wake : (e : Slack) (c : List ℕ) (a : State lists) → Fine e a → ((q : ℕ) → 1 ≤ count q c → Callable a.book.programs q)
    → Fine e (play lists (wake c) a)
fine-wake e [] a F h = F
fine-wake e (q ∷ qs) a F h =
    let Q = h q (omega (arith, same_refl q)) in
    let T = step-turned lists q Q.0 wakes a F.order.long in
    fine-wake e qs (step lists (on q wakes) a) (fine-on e q Q.0 wakes a F (apt-woken e a F q Q.0 Q.1))
    (λ x k. turned-used q (made wakes (at a.book q)) _ _ T Q.1 x (h x (omega arith)))

-- the records after a waking
pub record Woke (c : List ℕ) (ps qs : List Program) : Type 0 where
  pub freed : (z : ℕ) → 1 ≤ count z c → (record_at qs z).why ≡ Nothing
  pub over : (z : ℕ) → count z c ≡ 1 → record_at qs z ≡ wait_over (record_at ps z)
  pub rest : (z : ℕ) → Known z → count z c ≡ 0 → record_at qs z ≡ record_at ps z

pub woke : (c : List ℕ) (a : State lists) → length a.book.programs ≡ 32 → ((q : ℕ) → 1 ≤ count q c → Known q)
    → Woke c a.book.programs (play lists (wake c) a).book.programs
woke [] a L h = record { freed = λ z k. absurd (omega arith); over = λ z k. absurd (omega arith); rest = λ z Z k. refl }
woke (q ∷ qs) a L h =
    let Q = h q (omega (arith, same_refl q)) in
    let T = step-turned lists q Q wakes a L in
    go (step lists (on q wakes) a) Q T (woke qs (step lists (on q wakes) a) T.long (λ x k. h x (omega arith)))
  where
    go : (b : State lists) → Known q → Turned q (made wakes (at a.book q)) a.book.programs b.book.programs
        → Woke qs b.book.programs (play lists (wake qs) b).book.programs
        → Woke (q ∷ qs) a.book.programs (play lists (wake qs) b).book.programs
    go b Q T W = record {
      freed = λ z k. here z k (dec_le 1 (count z qs)) (ℕ_discrete z q);
      over = λ z k. once z k (ℕ_discrete z q);
      rest = λ z Z k. W.rest z Z (omega arith) ∙ T.rest z Z (λ e. omega (arith, same_refl z, ap (same z) e));
    }
      where
        here : (z : ℕ) → 1 ≤ count z (q ∷ qs) → Dec (1 ≤ count z qs) → Dec (z ≡ q)
            → (record_at (play lists (wake qs) b).book.programs z).why ≡ Nothing
        here z k (yes l) d = W.freed z l
        here z k (no l) (yes e) =
            ap (λ (x : Program). x.why) (W.rest z (rw e Q) (omega (arith, l)) ∙ ap (record_at b.book.programs) e ∙ T.here)
        here z k (no l) (no n) = absurd (omega (arith, l, same-ne z q n))

        known : (z : ℕ) → 1 ≤ count z (q ∷ qs) → Known z
        known = h

        once : (z : ℕ) → count z (q ∷ qs) ≡ 1 → Dec (z ≡ q)
            → record_at (play lists (wake qs) b).book.programs z ≡ wait_over (record_at a.book.programs z)
        once z k (yes e) =
            W.rest z (rw e Q) (omega (arith, same_refl z, ap (same z) e)) ∙ ap (record_at b.book.programs) e ∙ T.here
            ∙ ap (λ (x : ℕ). wait_over (record_at a.book.programs x)) (sym e)
        once z k (no n) =
            W.over z (omega (arith, same-ne z q n)) ∙ ap wait_over (T.rest z (known z (omega (arith, k))) n)

-- counts in a chain that a program has left
count-other : (z p : ℕ) (c : List ℕ) → z ≢ p → count z (remove p c) ≡ count z c
count-other z p c n = go (dec_le 1 (count p c))
  where
    go : Dec (1 ≤ count p c) → count z (remove p c) ≡ count z c
    go (yes h) = omega (arith, count-remove z p c h, same-ne z p n)
    go (no h) = ap (count z) (remove_absent p c (omega (arith, h)))

count-gone : (p : ℕ) (c : List ℕ) → count p c ≤ 1 → count p (remove p c) ≡ 0
count-gone p c l = go (dec_le 1 (count p c))
  where
    go : Dec (1 ≤ count p c) → count p (remove p c) ≡ 0
    go (yes h) = omega (arith, count-remove p p c h, same_refl p)
    go (no h) = omega (arith, h, count-remove-le p p c)

-- an awake program is used
pub awake-used : (e : Slack) (a : State lists) → Fine e a → (p : ℕ) → Known p → state_of a.book p ≢ 0 → (at a.book p).used ≡ true
awake-used e a F p P n = used-if e a F p P (λ i. n (ap (λ (r : Program). r.state) i))

module _ (e : Slack) (a : State lists) (F : Fine e a) where
  -- who stands in the chain of a state is a used program in it
  pub chained : (s : ℕ) → 1 ≤ s → s < 7 → (x : ℕ) → 1 ≤ count x (get_or a.kept s [])
      → Callable a.book.programs x × (state_of a.book x ≡ s)
  chained s l m x h =
      let C = F.order.chain s l m in
      let i : state_of a.book x ≡ s = chain-state a.book.programs s (get_or a.kept s []) C x h in
      ((C.within x h, awake-used e a F x (C.within x h) (λ w. omega (arith, w, i))), i)

  once-in : (s : ℕ) → 1 ≤ s → s < 7 → (x : ℕ) → Known x → count x (get_or a.kept s []) ≤ 1
  once-in s l m x X = omega (arith, (F.order.chain s l m).member x X, same-le (state_of a.book x) s)

  module _ (R : Release) where
    pub woken-callable : (x : ℕ) → 1 ≤ count x (woken (view lists a) R) → Callable a.book.programs x
    woken-callable x h =
        woken-from (view lists a) R x (Callable a.book.programs x) h
        (λ t k. (chained 5 (omega arith) (omega arith) x (omega (arith, count-remove-le x R.ended (get_or a.kept 5 [])))).0)
        (λ w k. (chained 3 (omega arith) (omega arith) x (omega (arith, count-remove-le x R.ended (get_or a.kept 3 [])))).0)

    -- each wakes once, having been in one chain
    pub woken-once : (x : ℕ) → count x (woken (view lists a) R) ≤ 1
    unfolding woken
    woken-once x = at_most (dec_le 1 (count x (woken (view lists a) R)))
      where
        c₅ : List ℕ
        c₅ = remove R.ended (get_or a.kept 5 [])

        c₃ : List ℕ
        c₃ = from_general (view lists a) R

        few : count x c₃ ≤ count x (get_or a.kept 3 [])
        few = omega (
          arith,
          keep-le (λ q. awaits R (why_of a.book q)) x (remove R.ended (get_or a.kept 3 [])),
          count-remove-le x R.ended (get_or a.kept 3 []),
        )

        apart : Known x → Dec (state_of a.book x ≡ 3) → count x (get_or a.kept 5 []) + count x (get_or a.kept 3 []) ≤ 1
        apart X (yes i) = omega (
          arith,
          (F.order.chain 5 (omega arith) (omega arith)).member x X,
          same-ne (state_of a.book x) 5 (λ j. omega (arith, i, j)),
          once-in 3 (omega arith) (omega arith) x X,
        )
        apart X (no n) = omega (
          arith,
          (F.order.chain 3 (omega arith) (omega arith)).member x X,
          same-ne (state_of a.book x) 3 n,
          once-in 5 (omega arith) (omega arith) x X,
        )

        go : Known x → (b : Bool) → count x (cond b c₅ [] ++ c₃) ≤ 1
        go X true = omega (
          arith,
          count-append x c₅ c₃,
          few,
          count-remove-le x R.ended (get_or a.kept 5 []),
          apart X (ℕ_discrete (state_of a.book x) 3),
        )
        go X false = omega (arith, few, apart X (ℕ_discrete (state_of a.book x) 3))

        at_most : Dec (1 ≤ count x (woken (view lists a) R)) → count x (woken (view lists a) R) ≤ 1
        at_most (yes h) = go (woken-callable x h).0 (ltb 0 R.tracks)
        at_most (no h) = omega (arith, h)

    pub woken-other : Known R.ended → (x : ℕ) → 1 ≤ count x (woken (view lists a) R) → x ≢ R.ended
    woken-other E x h i =
        woken-from (view lists a) R x ⊥ h (λ t. gone 5 (omega arith) (omega arith)) (λ w. gone 3 (omega arith) (omega arith))
      where
        gone : (s : ℕ) → 1 ≤ s → s < 7 → 1 ≤ count x (remove R.ended (get_or a.kept s [])) → ⊥
        gone s l m k = omega (
          arith,
          subst (λ (y : ℕ). 1 ≤ count y (remove R.ended (get_or a.kept s []))) i k,
          count-gone R.ended (get_or a.kept s []) (once-in s l m R.ended E),
        )

    -- who awaited the one that ended is woken
    pub son-woken : Known R.ended → (z : ℕ) → Known z → z ≢ R.ended → why_of a.book z ≡ Son R.ended
        → 1 ≤ count z (woken (view lists a) R)
    unfolding woken
    son-woken E z Z n i =
        let f : ℕ → Bool = λ q. awaits R (why_of a.book q) in
        let c : List ℕ = remove R.ended (get_or a.kept 3 []) in
        let t : state_of a.book z ≡ 3 =
        eqb-true (state_of a.book z) 3
        (subst (λ (w : Why). alone a.book.tracks a.book.numbers (state_of a.book z) w ≡ true) i (F.right z Z).fitting) in
        let g : f z ≡ true = ap (awaits R) i ∙ rw (lt-ltb 0 R.ended E.0, eq-eqb R.ended R.ended refl) in
        let k : count z (keep f c) ≡ count z c = count-keep f z c ∙ ap (λ (b : Bool). cond b (count z c) 0) g in
        let m : count z (get_or a.kept 3 []) ≡ 1 =
        (F.order.chain 3 (omega arith) (omega arith)).member z Z ∙ ap (λ (x : ℕ). same x 3) t ∙ same_refl 3 in
        omega (
          arith,
          count-other z R.ended (get_or a.kept 3 []) n,
          count-append z (cond (ltb 0 R.tracks) (remove R.ended (get_or a.kept 5 [])) []) (keep f c),
        )
