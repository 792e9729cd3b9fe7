-- Who starts is dormant no longer, and no move makes anybody dormant: so each program starts once at most, however many moves there are.
-- Assumes nothing.
use Prim.Native.Nat.{ℕ, suc, ◌+◌, ◌-◌, ◌≤◌, ◌<◌}
use native.Mathlib.Omega.{arith}
use mathlib.Core.Path.{◌≡◌, refl, sym, ap, ◌∙◌}
use mathlib.Core.Bool.{Bool, true, false, cond}
use mathlib.Core.List.{List, [], ◌∷◌}
use lib.ListN.{length, get_or}
use lib.Dec.{eqb}
use Rattle.lists.specs.Lists.{hit, count, keep}
use Rattle.lists.proofs.Laws.{same-le, count-keep}
use Rattle.records.specs.declared.Program.{Program}
use Rattle.records.specs.Records.{Known, all, missing}
use Rattle.rules.specs.Book.{Book, at, state_of}
use Rattle.rules.specs.Keeper.{lists, State}
use Rattle.rules.proofs.shared.Places.{all_one}
use Rattle.timers.specs.Inner.{falls_due, starts, struck, starters, moved_to, next_start, sleepers}
use Rattle.timers.proofs.Striking.{struck-by, struck-not, starts_by, starts-not}
use Rattle.timers.proofs.Moves.{moved_at}
use Rattle.timers.proofs.NextStart.{next-some}

-- two tests of which each program of a third passes just one
pub keep-sum : (f g h : ℕ → Bool) (c : List ℕ) → ((z : ℕ) → hit (f z) + hit (g z) ≡ hit (h z))
    → length (keep f c) + length (keep g c) ≡ length (keep h c)
keep-sum f g h [] e = omega arith
keep-sum f g h (q ∷ qs) e = omega (arith, split (f q) q (keep f qs), split (g q) q (keep g qs), split (h q) q (keep h qs), e q, keep-sum f g h qs e)
  where
    split : (b : Bool) (x : ℕ) (xs : List ℕ) → length (cond b (x ∷ xs) xs) ≡ hit b + length xs
    split true x xs = omega arith
    split false x xs = omega arith

-- a record after a move is that of a sleeper, or its program started
asleep : (now : ℕ) (r : Program) → hit (eqb (struck now r).state 0) + hit (starts now r) ≡ hit (eqb r.state 0)
asleep now r = go (falls_due now r) refl (eqb r.state 0) refl
  where
    told : {x y : Bool} → eqb (struck now r).state 0 ≡ x → starts now r ≡ y → hit x + hit y ≡ hit (eqb (struck now r).state 0) + hit (starts now r)
    told e f = λ i. hit (sym e i) + hit (sym f i)

    go : (f : Bool) → falls_due now r ≡ f → (s : Bool) → eqb r.state 0 ≡ s
        → hit (eqb (struck now r).state 0) + hit (starts now r) ≡ hit (eqb r.state 0)
    go true e true s = sym (told (ap (λ (x : Program). eqb x.state 0) (struck-by now r e s)) (starts_by now r e s)) ∙ ap hit (sym s)
    go true e false s = sym (told (ap (λ (x : Program). eqb x.state 0) (struck-by now r e s) ∙ s) (starts_by now r e s)) ∙ ap hit (sym s)
    go false e t s =
        sym (told (ap (λ (x : Program). eqb x.state 0) (struck-not now r e)) (starts-not now r e)) ∙ omega arith

pub sleepers-left : (now : ℕ) (a : State lists) → sleepers (moved_to now a).book + length (starters now a.book) ≡ sleepers a.book
unfolding sleepers starters
sleepers-left now a =
    keep-sum (λ p. eqb (state_of (moved_to now a).book p) 0) (λ p. starts now (at a.book p)) (λ p. eqb (state_of a.book p) 0) all
    (λ p. ap (λ (r : Program). hit (eqb r.state 0) + hit (starts now (at a.book p))) (moved_at now a.book.programs (p - 1))
    ∙ asleep now (at a.book p))

-- there are 32 programs at most
keep-most : (f : ℕ → Bool) (c : List ℕ) → length (keep f c) ≤ length c
keep-most f [] = omega arith
keep-most f (q ∷ qs) = go (f q) (keep-most f qs)
  where
    go : (b : Bool) → length (keep f qs) ≤ length qs → length (cond b (q ∷ keep f qs) (keep f qs)) ≤ suc (length qs)
    go true h = omega arith
    go false h = omega arith

all-many : length all ≡ 32
unfolding all
all-many = refl

pub sleepers-most : (b : Book) → sleepers b ≤ 32
unfolding sleepers
sleepers-most b = omega (arith, keep-most (λ p. eqb (state_of b p) 0) all, all-many)

pub starters-most : (now : ℕ) (b : Book) → length (starters now b) ≤ 32
unfolding starters
starters-most now b = omega (arith, keep-most (λ p. starts now (at b p)) all, all-many)

-- where the next start is before the end, somebody starts at it
count-length : (x : ℕ) (c : List ℕ) → count x c ≤ length c
count-length x [] = omega arith
count-length x (q ∷ qs) = omega (arith, count-length x qs, same-le x q)

pub next-starts : (end : ℕ) (b : Book) → length b.programs ≡ 32 → next_start end b.programs < end
    → 1 ≤ length (starters (next_start end b.programs) b)
unfolding starters
next-starts end b L h =
    let n : ℕ = next_start end b.programs in
    let s = next-some end b.programs h in
    let p : ℕ = suc s.place in
    let e : p - 1 ≡ s.place = omega arith in
    let t : starts n (at b p) ≡ true = ap (λ (k : ℕ). starts n (get_or b.programs k missing)) e ∙ s.does in
    let K : Known p = (omega arith, omega (arith, s.within, L)) in
    omega (
      arith,
      count-length p (keep (λ q. starts n (at b q)) all),
      count-keep (λ q. starts n (at b q)) p all ∙ ap (λ (x : Bool). cond x (count p all) 0) t,
      all_one p K,
    )
