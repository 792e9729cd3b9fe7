-- The lowest run is exactly that: it is found just where there is one, and none begins lower (demand 2). And what a run of one holder's
-- tracks is, what giving tracks to a holder does to each of them, and how many are free then. The search is told from `run` at each place,
-- and `run` from each track; the rest is arithmetic of counts.
-- Assumes nothing.
use Prim.Native.Nat.{ℕ, zero, suc, ◌+◌, ◌≤◌, ◌<◌}
use native.Mathlib.Omega.{arith}
use native.Mathlib.Decide.{ℕ_discrete, dec_le}
use mathlib.Core.Path.{◌≡◌, refl, sym, ap, ◌∙◌}
use mathlib.Core.Logic.{◌≢◌}
use mathlib.Core.Bool.{Bool, true, false, cond}
use mathlib.Core.List.{List, [], ◌∷◌}
use mathlib.Core.Option.{Option, none, some}
use lib.ListN.{length, get_or, set, drop, length-set, length-drop}
use lib.Seq.{get_or-set_same, get_or-set_other, get_or-drop}
use lib.Dec.{eqb}
use borrow.Author.Tests.{eq-eqb, eqb-true, eqb-false}
use Rattle.lists.specs.Lists.{same, count}
use Rattle.lists.proofs.Laws.{same_refl, same-ne}
use Rattle.tracks.specs.Tracks.{nobody, run, lowest, filled, replaced, FreeRun, LowestRun}

-- n tracks from i on are all h's
pub record HeldRun (xs : List ℕ) (h i n : ℕ) : Type 0 where
  pub within : i + n ≤ length xs
  pub held : (k : ℕ) → k < n → get_or xs (i + k) nobody ≡ h

-- what `run` means: the first n are h's
run_step : (b : Bool) (h n x : ℕ) (xs : List ℕ) → eqb x h ≡ b → elim b [ true ↦ run h n xs | false ↦ false ] ≡ true
    → (x ≡ h) × (run h n xs ≡ true)
run_step true h n x xs t e = (eqb-true x h t, e)
run_step false h n x xs t e = let z : ◌≡◌ {A = ℕ} 0 1 = cc in absurd (omega arith)

run_long : (h n : ℕ) (xs : List ℕ) → run h n xs ≡ true → n ≤ length xs
run_long h zero xs e = omega arith
run_long h (suc n) [] e = let z : ◌≡◌ {A = ℕ} 0 1 = cc in absurd (omega arith)
run_long h (suc n) (x ∷ xs) e = omega (arith, run_long h n xs (run_step (eqb x h) h n x xs refl e).1)

run-held : (h n : ℕ) (xs : List ℕ) → run h n xs ≡ true → (k : ℕ) → k < n → get_or xs k nobody ≡ h
run-held h zero xs e k l = absurd (omega arith)
run-held h (suc n) [] e k l = let z : ◌≡◌ {A = ℕ} 0 1 = cc in absurd (omega arith)
run-held h (suc n) (x ∷ xs) e zero l = (run_step (eqb x h) h n x xs refl e).0
run-held h (suc n) (x ∷ xs) e (suc k) l = run-held h n xs (run_step (eqb x h) h n x xs refl e).1 k (omega arith)

run-made : (h n : ℕ) (xs : List ℕ) → n ≤ length xs → ((k : ℕ) → k < n → get_or xs k nobody ≡ h) → run h n xs ≡ true
run-made h zero xs l f = refl
run-made h (suc n) [] l f = absurd (omega arith)
run-made h (suc n) (x ∷ xs) l f = rw (eq-eqb x h (f 0 (omega arith)), run) (run-made h n xs (omega arith) (λ k m. f (suc k) (omega arith)))

-- the same of a run that begins at s
pub run-true : (h n s : ℕ) (xs : List ℕ) → 1 ≤ n → run h n (drop s xs) ≡ true → HeldRun xs h s n
run-true h n s xs l e = record {
  within = omega (arith, run_long h n (drop s xs) e, length-drop s xs);
  held = λ k m. sym (get_or-drop s xs k nobody) ∙ run-held h n (drop s xs) e k m;
}

pub run_is : (h n s : ℕ) (xs : List ℕ) → HeldRun xs h s n → run h n (drop s xs) ≡ true
run_is h n s xs r =
    run-made h n (drop s xs) (omega (arith, length-drop s xs, r.within)) (λ k m. get_or-drop s xs k nobody ∙ r.held k m)

free-held : {xs : List ℕ} {i n : ℕ} → FreeRun xs i n → HeldRun xs nobody i n
free-held r = record { within = r.within; held = r.free }

held-free : {xs : List ℕ} {i n : ℕ} → HeldRun xs nobody i n → FreeRun xs i n
held-free r = record { within = r.within; free = r.held }

-- what the search finds, its first track numbered s: place k, the first where a run begins
record Hit (n s : ℕ) (xs : List ℕ) (i : ℕ) : Type 0 where
  place : ℕ
  counted : i ≡ s + place
  begins : run nobody n (drop place xs) ≡ true
  first : (j : ℕ) → j < place → run nobody n (drop j xs) ≡ false

hit-step : (b : Bool) (n s x : ℕ) (xs : List ℕ) (i : ℕ) → run nobody n (x ∷ xs) ≡ b → (lowest n (suc s) xs ≡ some i → Hit n (suc s) xs i)
    → elim b [ true ↦ some s | false ↦ lowest n (suc s) xs ] ≡ some i → Hit n s (x ∷ xs) i
hit-step true n s x xs i t ih e =
    let z : s ≡ i = cc in
    record { place = 0; counted = omega arith; begins = t; first = λ j m. absurd (omega arith) }
hit-step false n s x xs i t ih e =
    let r = ih e in
    record { place = suc r.place; counted = omega (arith, r.counted); begins = r.begins; first = before r }
  where
    before : (r : Hit n (suc s) xs i) (j : ℕ) → j < suc r.place → run nobody n (drop j (x ∷ xs)) ≡ false
    before r zero m = t
    before r (suc j) m = r.first j (omega arith)

hit : (n s : ℕ) (xs : List ℕ) (i : ℕ) → lowest n s xs ≡ some i → Hit n s xs i
hit n s [] i e = let z : ◌≡◌ {A = ℕ} 0 1 = cc in absurd (omega arith)
hit n s (x ∷ xs) i e = hit-step (run nobody n (x ∷ xs)) n s x xs i refl (hit n (suc s) xs i) e

miss-step : (b : Bool) (n s x : ℕ) (xs : List ℕ) → run nobody n (x ∷ xs) ≡ b
    → (lowest n (suc s) xs ≡ none → (j : ℕ) → j < length xs → run nobody n (drop j xs) ≡ false)
    → ◌≡◌ {A = Option ℕ} (elim b [ true ↦ some s | false ↦ lowest n (suc s) xs ]) none → (j : ℕ) → j < suc (length xs)
    → run nobody n (drop j (x ∷ xs)) ≡ false
miss-step true n s x xs t ih e j m = let z : ◌≡◌ {A = ℕ} 0 1 = cc in absurd (omega arith)
miss-step false n s x xs t ih e zero m = t
miss-step false n s x xs t ih e (suc j) m = ih e j (omega arith)

miss : (n s : ℕ) (xs : List ℕ) → lowest n s xs ≡ none → (j : ℕ) → j < length xs → run nobody n (drop j xs) ≡ false
miss n s [] e j m = absurd (omega arith)
miss n s (x ∷ xs) e j m = miss-step (run nobody n (x ∷ xs)) n s x xs refl (miss n (suc s) xs) e j m

no_run : (n j : ℕ) (xs : List ℕ) → run nobody n (drop j xs) ≡ false → FreeRun xs j n → ⊥
no_run n j xs e r =
    let y : run nobody n (drop j xs) ≡ true = run_is nobody n j xs (free-held r) in
    let z : ◌≡◌ {A = ℕ} 0 1 = cc in
    omega arith

-- it finds the lowest run, and it finds it where there is one
pub lowest-found : (n : ℕ) (xs : List ℕ) (i : ℕ) → 1 ≤ n → lowest n 0 xs ≡ some i → LowestRun xs i n
lowest-found n xs i h e =
    let r = hit n 0 xs i e in
    let p : i ≡ r.place = omega (arith, r.counted) in
    rw p (record { there = held-free (run-true nobody n r.place xs h r.begins); least = least r })
  where
    least : (r : Hit n 0 xs i) (j : ℕ) → FreeRun xs j n → r.place ≤ j
    least r j f = go (dec_le r.place j)
      where
        go : Dec (r.place ≤ j) → r.place ≤ j
        go (yes y) = y
        go (no y) = absurd (no_run n j xs (r.first j (omega (arith, y))) f)

pub lowest-none : (n : ℕ) (xs : List ℕ) → 1 ≤ n → lowest n 0 xs ≡ none → (i : ℕ) → FreeRun xs i n → ⊥
lowest-none n xs h e i f = no_run n i xs (miss n 0 xs e i (omega (arith, f.within))) f

pub lowest-is : (n : ℕ) (xs : List ℕ) (i : ℕ) → 1 ≤ n → LowestRun xs i n → lowest n 0 xs ≡ some i
lowest-is n xs i h r = go (lowest n 0 xs) refl
  where
    go : (o : Option ℕ) → lowest n 0 xs ≡ o → o ≡ some i
    go none e = absurd (lowest-none n xs h e i r.there)
    go (some j) e =
        let s = lowest-found n xs j h e in
        let p : j ≡ i = omega (arith, s.least i r.there, r.least j s.there) in
        ap some p

pub lowest-no : (n : ℕ) (xs : List ℕ) → 1 ≤ n → ((i : ℕ) → FreeRun xs i n → ⊥) → lowest n 0 xs ≡ none
lowest-no n xs h f = go (lowest n 0 xs) refl
  where
    go : (o : Option ℕ) → lowest n 0 xs ≡ o → o ≡ none
    go none e = refl
    go (some j) e = absurd (f j (lowest-found n xs j h e).there)

-- n tracks from i on become h's, and the others stay
pub filled-long : (i n h : ℕ) (xs : List ℕ) → length (filled i n h xs) ≡ length xs
filled-long i zero h xs = refl
filled-long i (suc n) h xs = length-set (filled i n h xs) (i + n) h ∙ filled-long i n h xs

pub filled-out : (i n h : ℕ) (xs : List ℕ) (j : ℕ) → (i ≤ j → i + n ≤ j) → get_or (filled i n h xs) j nobody ≡ get_or xs j nobody
filled-out i zero h xs j f = refl
filled-out i (suc n) h xs j f =
    get_or-set_other (filled i n h xs) (i + n) j h nobody (λ e. omega (arith, f (omega arith)))
    ∙ filled-out i n h xs j (λ l. omega (arith, f l))

pub filled_in : (i n h : ℕ) (xs : List ℕ) → i + n ≤ length xs → (k : ℕ) → k < n → get_or (filled i n h xs) (i + k) nobody ≡ h
filled_in i zero h xs l k m = absurd (omega arith)
filled_in i (suc n) h xs l k m = go (ℕ_discrete k n) (filled_in i n h xs (omega arith) k)
  where
    go : Dec (k ≡ n) → (k < n → get_or (filled i n h xs) (i + k) nobody ≡ h) → get_or (set (filled i n h xs) (i + n) h) (i + k) nobody ≡ h
    go (yes e) ih = rw e (get_or-set_same (filled i n h xs) (i + n) h nobody (omega (arith, filled-long i n h xs)))
    go (no e) ih = get_or-set_other (filled i n h xs) (i + n) (i + k) h nobody (λ w. e (omega arith)) ∙ ih (omega (arith, e))

-- all of p's become h's, and the others stay
pub replaced-long : (p h : ℕ) (xs : List ℕ) → length (replaced p h xs) ≡ length xs
replaced-long p h [] = refl
replaced-long p h (x ∷ xs) = ap suc (replaced-long p h xs)

pub replaced-is : (p h : ℕ) (xs : List ℕ) (i : ℕ) → i < length xs
    → get_or (replaced p h xs) i nobody ≡ cond (eqb (get_or xs i nobody) p) h (get_or xs i nobody)
replaced-is p h [] i l = absurd (omega arith)
replaced-is p h (x ∷ xs) zero l = refl
replaced-is p h (x ∷ xs) (suc i) l = replaced-is p h xs i (omega arith)

-- counts
pub count_set : (x : ℕ) (xs : List ℕ) (j y : ℕ) → j < length xs → count x (set xs j y) + same x (get_or xs j nobody) ≡ count x xs + same x y
count_set x [] j y l = absurd (omega arith)
count_set x (q ∷ qs) zero y l = omega arith
count_set x (q ∷ qs) (suc j) y l = omega (arith, count_set x qs j y (omega arith))

-- tracks of a holder that are given back are free then, and none else
pub count-freed : (i n h : ℕ) (xs : List ℕ) → h ≢ nobody → HeldRun xs h i n → count nobody (filled i n nobody xs) ≡ count nobody xs + n
count-freed i zero h xs w r = omega arith
count-freed i (suc n) h xs w r =
    let was : get_or (filled i n nobody xs) (i + n) nobody ≡ h =
    filled-out i n nobody xs (i + n) (λ l. omega arith) ∙ r.held n (omega arith) in
    omega (
      arith,
      count_set nobody (filled i n nobody xs) (i + n) nobody (omega (arith, filled-long i n nobody xs, r.within)),
      ap (same nobody) was,
      same-ne nobody h (λ e. w (sym e)),
      same_refl nobody,
      count-freed i n h xs w (record { within = omega (arith, r.within); held = λ k m. r.held k (omega arith) }),
    )

pub count-replaced : (p : ℕ) (xs : List ℕ) → p ≢ nobody → count nobody (replaced p nobody xs) ≡ count nobody xs + count p xs
count-replaced p [] w = omega arith
count-replaced p (x ∷ xs) w = go (eqb x p) refl (count-replaced p xs w)
  where
    go : (b : Bool) → eqb x p ≡ b → count nobody (replaced p nobody xs) ≡ count nobody xs + count p xs
        → same nobody (cond b nobody x) + count nobody (replaced p nobody xs) ≡ count nobody (x ∷ xs) + count p (x ∷ xs)
    go true t ih =
        let e : x ≡ p = eqb-true x p t in
        omega (arith, same_refl nobody, same_refl p, ap (same p) e, ap (same nobody) e, same-ne nobody p (λ z. w (sym z)))
    go false t ih = omega (arith, same-ne p x (λ z. eqb-false x p t (sym z)))
