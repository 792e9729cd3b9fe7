-- The loop that goes along a chain, from slot to slot, to where `g` says: what is left of the chain leads to the same place.
-- Assumes nothing.
use Prim.Native.Nat.{ℕ, ◌+◌, ◌≤◌, ◌<◌}
use native.Mathlib.Omega.{arith}
use mathlib.Core.Path.{◌≡◌, refl, sym, ap, ◌∙◌}
use mathlib.Core.Logic.{◌≢◌}
use mathlib.Core.List.{List, [], ◌∷◌}
use lib.ListN.{length, get_or}
use Rattle.lists.specs.Lists.{count}
use Rattle.lists.proofs.Laws.{same_refl}
use Rattle.chains.specs.Links.{walk, Leads}
use Rattle.chains.specs.Inner.{Laid}
use Rattle.chains.proofs.Totals.{total-in}
use Rattle.chains.proofs.Reading.{no_zero, short, chain-walk}

-- the loop is at slot `at`, reads n there, and `rest` is what is left of the chain; `goal` is where it is to stop
pub record Seek (l : List ℕ) (g : ℕ → List ℕ → ℕ) (goal at n : ℕ) : Type 0 where
  pub rest : List ℕ
  pub lies : Leads l at rest
  pub next : n ≡ get_or l at 0
  pub still : g at rest ≡ goal
  pub no_zero : count 0 rest ≡ 0
  pub small : (q : ℕ) → 1 ≤ count q rest → q ≤ 32
  pub short : length rest ≤ 32

pub seek-start : {l : List ℕ} {m : List (List ℕ)} {k : ℕ} (g : ℕ → List ℕ → ℕ) (n : ℕ) → Laid l m → k < 7 → n ≡ get_or l k 0
    → Seek l g (g k (get_or m k [])) k n
seek-start {l} {m} {k} g n L h e = record {
  rest = get_or m k [];
  lies = L.chain k h;
  next = e;
  still = refl;
  no_zero = no_zero L k;
  small = λ q b. (L.within q (omega (arith, total-in q m k))).1;
  short = short L k;
}

module _ {l : List ℕ} {g : ℕ → List ℕ → ℕ} {goal at n : ℕ} (S : Seek l g goal at n) where
  none : n ≡ 0 → S.rest ≡ []
  none h = go S.rest refl S.lies S.no_zero
    where
      go : (c : List ℕ) → S.rest ≡ c → Leads l at c → count 0 c ≡ 0 → S.rest ≡ []
      go [] e w z = e
      go (q ∷ qs) e w z = absurd (omega (arith, same_refl 0, rw (sym w.0 ∙ sym S.next ∙ h) at z))

  -- it stops at the end
  pub seek-end : n ≡ 0 → g at [] ≡ goal
  seek-end h = rw (none h) at S.still

  module _ (h : n ≢ 0) where
    -- what is left begins with n
    more : (qs : List ℕ) × (S.rest ≡ n ∷ qs)
    more = go S.rest refl S.lies
      where
        go : (c : List ℕ) → S.rest ≡ c → Leads l at c → (qs : List ℕ) × (S.rest ≡ n ∷ qs)
        go [] e w = absurd (h (S.next ∙ w))
        go (q ∷ qs) e w = (qs, e ∙ ap (λ (x : ℕ). x ∷ qs) (sym (S.next ∙ w.0)))

    pub seek-small : n ≤ 32
    seek-small = S.small n (rw more.1 (omega (arith, same_refl n)))

    -- on to the next slot, where that does not change where to stop
    pub seek-step : (n' : ℕ) → n' ≡ get_or l (7 + n) 0 → ((qs : List ℕ) → g at (n ∷ qs) ≡ g (7 + n) qs) → Seek l g goal (7 + n) n'
    seek-step n' e on =
        let r = more in
        record {
          rest = r.0;
          lies = (rw r.1 at S.lies).1;
          next = e;
          still = sym (on r.0) ∙ rw r.1 at S.still;
          no_zero = omega (arith, rw r.1 at S.no_zero);
          small = λ q b. S.small q (rw r.1 (omega arith));
          short = omega (arith, rw r.1 at S.short);
        }

    -- each step leaves a shorter walk
    pub seek-less : length (walk l (7 + n) 32) < length (walk l at 32)
    seek-less =
        let r = more in
        let before : walk l at 32 ≡ S.rest = chain-walk l 32 at S.rest S.lies S.short S.no_zero in
        let after : walk l (7 + n) 32 ≡ r.0 =
        chain-walk l 32 (7 + n) r.0 (rw r.1 at S.lies).1 (omega (arith, rw r.1 at S.short))
        (omega (arith, rw r.1 at S.no_zero)) in
        omega (arith, ap length after, ap length before, ap length r.1)

    -- it stops where the next is as `g` wants it
    pub seek_stop : ((qs : List ℕ) → g at (n ∷ qs) ≡ at) → at ≡ goal
    seek_stop on = sym (on more.0) ∙ rw more.1 at S.still
