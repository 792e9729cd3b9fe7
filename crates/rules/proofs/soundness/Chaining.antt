-- The chains stay in order under every deed, whatever it is: chains in order have entries that account for them, a deed keeps the two
-- alike, and chains that are accounted for are in order. No chain is ever kept of dormant programs.
-- Assumes nothing.
use Prim.Native.Nat.{ℕ, ◌≤◌, ◌<◌}
use native.Mathlib.Omega.{arith}
use mathlib.Core.Path.{◌≡◌, refl, sym, ◌∙◌}
use mathlib.Core.Bool.{Bool, true, false, cond}
use mathlib.Core.List.{List, []}
use lib.ListN.{length, get_or, set}
use lib.Seq.{get_or-set_other}
use lib.Dec.{eqb}
use borrow.Author.Tests.{eqb-false}
use Rattle.lists.specs.Lists.{same, count, insert, remove, Ascending}
use Rattle.lists.proofs.Laws.{same-eq}
use Rattle.records.specs.declared.Program.{Program}
use Rattle.records.specs.Records.{Known, record_at, in_state, wait_over, with_priority}
use Rattle.rules.specs.Book.{at, state_of, prio_of}
use Rattle.rules.specs.Plans.{Deed, becomes, wakes, priced, loaded, unloaded, timed, marked}
use Rattle.rules.specs.Keeper.{lists, entries, State, leave, enter, act}
use Rattle.rules.specs.Sound.{Chains}
use Rattle.rules.proofs.keepers.Alike.{Alike, act-alike}
use Rattle.rules.proofs.keepers.Notes.{notes, alike-chained, chained-alike}

abbrev pub state_in : List Program → ℕ → ℕ
state_in ps p = (record_at ps p).state

abbrev pub prio_in : List Program → ℕ → ℕ
prio_in ps p = (record_at ps p).priority

-- c is the chain of state s
pub record Chain (ps : List Program) (s : ℕ) (c : List ℕ) : Type 0 where
  pub member : (p : ℕ) → Known p → count p c ≡ same (state_in ps p) s
  pub within : (p : ℕ) → 1 ≤ count p c → Known p
  pub rising : Ascending (λ p q. prio_in ps p ≤ prio_in ps q) c

-- 32 records, and the chains beside them
pub record Ordered (ps : List Program) (k : List (List ℕ)) : Type 0 where
  pub long : length ps ≡ 32
  pub seven : length k ≡ 7
  pub dormant : get_or k 0 [] ≡ []
  pub chain : (s : ℕ) → 1 ≤ s → s < 7 → Chain ps s (get_or k s [])

-- who stands in a chain is in its state
pub chain-state : (ps : List Program) (s : ℕ) (c : List ℕ) → Chain ps s c → (p : ℕ) → 1 ≤ count p c → state_in ps p ≡ s
chain-state ps s c C p h = same-eq (state_in ps p) s (omega (arith, C.member p (C.within p h)))

abbrev InOrder : State lists → Type 0
InOrder a = Ordered a.book.programs a.kept

chains : (a : State lists) → InOrder a → Chains a.book a.kept
chains a O = record {
  member = λ s p l h. (O.chain s l h).member p;
  within = λ s p l h. (O.chain s l h).within p;
  rising = λ s l h. (O.chain s l h).rising;
}

-- what is put at another place than 0 leaves the chain of dormant programs empty
spared : (s : ℕ) (k : List (List ℕ)) (c : List ℕ) → get_or k 0 [] ≡ [] → get_or (cond (eqb s 0) k (set k s c)) 0 [] ≡ []
spared s k c e = go (eqb s 0) refl
  where
    go : (b : Bool) → eqb s 0 ≡ b → get_or (cond b k (set k s c)) 0 [] ≡ []
    go true h = e
    go false h = get_or-set_other k s 0 c [] (λ w. eqb-false s 0 h (sym w)) ∙ e

leave-dormant : (p : ℕ) (a : State lists) → get_or a.kept 0 [] ≡ [] → get_or (leave lists p a).kept 0 [] ≡ []
leave-dormant p a = spared (state_of a.book p) a.kept (remove p (get_or a.kept (state_of a.book p) []))

shift-dormant : (p : ℕ) (r : Program) (a : State lists) → get_or a.kept 0 [] ≡ [] → get_or (enter lists p r (leave lists p a)).kept 0 [] ≡ []
shift-dormant p r a e =
    let u : State lists = leave lists p a in
    spared r.state u.kept (insert (prio_of (enter lists p r u).book) p (get_or u.kept r.state [])) (leave-dormant p a e)

act-dormant : (p : ℕ) (d : Deed) (a : State lists) → get_or a.kept 0 [] ≡ [] → get_or (act lists p d a).kept 0 [] ≡ []
unfolding act
act-dormant p (becomes s w) a e = shift-dormant p (in_state s w (at a.book p)) a e
act-dormant p wakes a e = shift-dormant p (wait_over (at a.book p)) a e
act-dormant p (priced n) a e = shift-dormant p (with_priority n (at a.book p)) a e
act-dormant p (loaded nm n) a e = leave-dormant p a e
act-dormant p unloaded a e = leave-dormant p a e
act-dormant p (timed d i) a e = e
act-dormant p marked a e = e

module _ (p : ℕ) (P : Known p) where
  pub act-order : (d : Deed) (a : State lists) → InOrder a → InOrder (act lists p d a)
  act-order d a O =
      let t : State entries = record { book = a.book; kept = notes a.book a.kept } in
      let A : Alike (act lists p d a) (act entries p d t) =
      act-alike p P a t.kept (chained-alike a O.long O.seven (chains a O)) d in
      let C : Chains (act lists p d a).book (act lists p d a).kept = alike-chained (act lists p d a) (act entries p d t) A in
      record {
        long = A.noted.long;
        seven = A.seven;
        dormant = act-dormant p d a O.dormant;
        chain = λ s l h. record { member = λ z. C.member s z l h; within = λ z. C.within s z l h; rising = C.rising s l h };
      }
