-- What a turn of each loop does, and what is there when it ends: a search and a count go on with what is left of the
-- list, a store has changed what it passed.
-- Assumes nothing.
use Prim.Native.Nat.{ℕ, zero, suc, ◌+◌, ◌-◌, ◌≤◌, ◌<◌}
use native.Mathlib.Numerals.{add-one}
use native.Mathlib.Omega.{arith}
use mathlib.Core.Path.{◌≡◌, refl, sym, ap, ap₂, ◌∙◌}
use mathlib.Core.Bool.{Bool, true, false, cond}
use mathlib.Core.List.{List, [], ◌∷◌, ◌++◌, append-nil, append_assoc}
use mathlib.Core.Option.{none, some}
use lib.ListN.{length, get_or, set, take, drop, replicate, drop_of_length-le, replicate-append-replicate}
use lib.Seq.{take_all, drop-cons, set-get_or, set-append_left, drop_at, take_at}
use lib.Dec.{eqb}
use native.Mathlib.Decide.{ℕ_discrete}
use native.Mathlib.Nat.{min-le_left}
use lib.ListN.{length-take}
use Rattle.std.specs.List.{count_by}
use Rattle.std.proofs.lemmas.List.Sums.{count_by-le-length}
use Rattle.std.proofs.lemmas.List.Recursion.{is_count_by}
use borrow.Author.Tests.{eq-eqb, ne_eqb}
use Rattle.lists.specs.Lists.{same, count}
use Rattle.lists.proofs.Laws.{same_refl, same-ne}
use Rattle.tracks.specs.declared.Tracks.{Tracks}
use Rattle.tracks.specs.Tracks.{nobody, places, table_at, holders, table_of, run, lowest, filled, replaced}
use Rattle.tracks.specs.Inner.{Fit}
use Rattle.tracks.proofs.Runs.{filled-long}
use Rattle.tracks.proofs.Fits.{laid, made}

-- what is left at a place within the list: what stands there, and what is left behind it
left : (xs : List ℕ) (i : ℕ) → i < length xs → drop i xs ≡ get_or xs i nobody ∷ drop (i + 1) xs
left xs i l = rw add-one (drop-cons xs i nobody l)

-- a run
run-test : (b : Bool) (h n i : ℕ) (xs : List ℕ) → i < length xs → eqb (get_or xs i nobody) h ≡ b
    → run h (suc n) (drop i xs) ≡ elim b [ true ↦ run h n (drop (i + 1) xs) | false ↦ false ]
run-test b h n i xs l t =
    ap (run h (suc n)) (left xs i l) ∙ ap (λ (b : Bool). elim b [ true ↦ run h n (drop (i + 1) xs) | false ↦ false ]) t

pub run_past : (h n i : ℕ) (xs : List ℕ) → 0 < n → length xs ≤ i → run h n (drop i xs) ≡ false
run_past h zero i xs m l = absurd (omega arith)
run_past h (suc n) i xs m l = ap (run h (suc n)) (drop_of_length-le xs {i = i} l)

pub run-stop : (h n i : ℕ) (xs : List ℕ) → 0 < n → i < length xs → (get_or xs i nobody ≡ h → ⊥) → run h n (drop i xs) ≡ false
run-stop h zero i xs m l e = absurd (omega arith)
run-stop h (suc n) i xs m l e = run-test false h n i xs l (ne_eqb (get_or xs i nobody) h e)

pub run-next : (h n i : ℕ) (xs : List ℕ) → 0 < n → i < length xs → get_or xs i nobody ≡ h
    → run h n (drop i xs) ≡ run h (n - 1) (drop (i + 1) xs)
run-next h zero i xs m l e = absurd (omega arith)
run-next h (suc n) i xs m l e =
    let k : n ≡ suc n - 1 = omega arith in
    run-test true h n i xs l (eq-eqb (get_or xs i nobody) h e) ∙ ap (λ (n : ℕ). run h n (drop (i + 1) xs)) k

-- the lowest run
pub lowest-past : (n i : ℕ) (xs : List ℕ) → length xs ≤ i → lowest n i (drop i xs) ≡ none
lowest-past n i xs l = ap (lowest n i) (drop_of_length-le xs {i = i} l)

pub lowest-turn : (b : Bool) (n i : ℕ) (xs : List ℕ) → i < length xs → run nobody n (drop i xs) ≡ b
    → lowest n i (drop i xs) ≡ elim b [ true ↦ some i | false ↦ lowest n (i + 1) (drop (i + 1) xs) ]
lowest-turn b n i xs l t =
    ap (lowest n i) (left xs i l)
    ∙ ap (λ (k : ℕ). elim (run nobody n (get_or xs i nobody ∷ drop (i + 1) xs)) [ true ↦ some i | false ↦ lowest n k (drop (i + 1) xs) ])
    (sym (add-one i))
    ∙ ap (λ (b : Bool). elim b [ true ↦ some i | false ↦ lowest n (i + 1) (drop (i + 1) xs) ]) (ap (run nobody n) (sym (left xs i l)) ∙ t)

-- a count
pub count_past : (p i : ℕ) (xs : List ℕ) → length xs ≤ i → count p (drop i xs) ≡ 0
count_past p i xs l = ap (count p) (drop_of_length-le xs {i = i} l)

count_turn : (p i : ℕ) (xs : List ℕ) → i < length xs → count p (drop i xs) ≡ same p (get_or xs i nobody) + count p (drop (i + 1) xs)
count_turn p i xs l = ap (count p) (left xs i l)

pub count-hit : (p i : ℕ) (xs : List ℕ) → i < length xs → get_or xs i nobody ≡ p → count p (drop i xs) ≡ 1 + count p (drop (i + 1) xs)
count-hit p i xs l e = omega (arith, count_turn p i xs l, ap (same p) e, same_refl p)

pub count-miss : (p i : ℕ) (xs : List ℕ) → i < length xs → (get_or xs i nobody ≡ p → ⊥) → count p (drop i xs) ≡ count p (drop (i + 1) xs)
count-miss p i xs l e = omega (arith, count_turn p i xs l, same-ne p (get_or xs i nobody) (λ w. e (sym w)))

-- tracks given, zs being the array: those from i to j - 1 have been
pub filled-turn : (i j h : ℕ) (xs zs : List ℕ) → i ≤ j → zs ≡ filled i (j - i) h xs → set zs j h ≡ filled i (j + 1 - i) h xs
filled-turn i j h xs zs l z =
    let at : j ≡ i + (j - i) = omega arith in
    let more : suc (j - i) ≡ j + 1 - i = omega arith in
    ap₂ (λ (ys : List ℕ) (k : ℕ). set ys k h) z at ∙ ap (λ (n : ℕ). filled i n h xs) more

-- the first of them, and then the others
pub filled-first : (i n h : ℕ) (xs : List ℕ) → filled (i + 1) n h (set xs i h) ≡ filled i (suc n) h xs
filled-first i zero h xs = let here : i ≡ i + 0 = omega arith in ap (λ (k : ℕ). set xs k h) here
filled-first i (suc n) h xs =
    let next : i + 1 + n ≡ i + suc n = omega arith in ap₂ (λ (ys : List ℕ) (k : ℕ). set ys k h) (filled-first i n h xs) next

-- those before them stand, and those behind
filled-behind : (i n h x : ℕ) (xs : List ℕ) → filled (i + 1) n h (x ∷ xs) ≡ x ∷ filled i n h xs
filled-behind i zero h x xs = refl
filled-behind i (suc n) h x xs =
    let next : i + 1 + n ≡ suc (i + n) = omega arith in ap₂ (λ (ys : List ℕ) (k : ℕ). set ys k h) (filled-behind i n h x xs) next

filled-front : (n h : ℕ) (xs : List ℕ) → n ≤ length xs → replicate n h ++ drop n xs ≡ filled 0 n h xs
filled-front zero h xs l = refl
filled-front (suc n) h [] l = absurd (omega arith)
filled-front (suc n) h (x ∷ xs) l =
    ap (λ (ys : List ℕ). h ∷ ys) (filled-front n h xs (omega arith)) ∙ sym (filled-behind 0 n h h xs) ∙ filled-first 0 n h (x ∷ xs)

pub filled-mid : (i n h : ℕ) (xs : List ℕ) → i + n ≤ length xs → take i xs ++ (replicate n h ++ drop n (drop i xs)) ≡ filled i n h xs
filled-mid zero n h xs l = filled-front n h xs (omega arith)
filled-mid (suc i) n h [] l = absurd (omega arith)
filled-mid (suc i) n h (x ∷ xs) l =
    ap (λ (ys : List ℕ). x ∷ ys) (filled-mid i n h xs (omega arith)) ∙ sym (filled-behind i n h x xs)
    ∙ ap (λ (k : ℕ). filled k n h (x ∷ xs)) (let e : i + 1 ≡ suc i = omega arith in e)

filled-append : (i n h : ℕ) (xs ys : List ℕ) → i + n ≤ length xs → filled i n h (xs ++ ys) ≡ filled i n h xs ++ ys
filled-append i zero h xs ys l = refl
filled-append i (suc n) h xs ys l =
    ap (λ (zs : List ℕ). set zs (i + n) h) (filled-append i n h xs ys (omega arith))
    ∙ set-append_left (filled i n h xs) ys (i + n) h (omega (arith, filled-long i n h xs))

-- the table of the places with tracks given is the one of the holders with them given
pub filled-table : (t : Tracks) → Fit t → (i n h : ℕ) → i + n ≤ t.count
    → table_at t.count t.system (filled i n h (places t)) ≡ table_of t.count t.system (filled i n h (holders t))
filled-table t f i n h l =
    made t.count t.system (filled i n h (places t)) (filled i n h (holders t))
    (ap (filled i n h) (laid f)
    ∙ filled-append i n h (holders t) (replicate (256 - t.count) nobody) (omega (arith, f.long)))

pub filled-places : (t : Tracks) → Fit t → (first last h : ℕ) → first ≤ last → last < t.count
    → table_at t.count t.system (filled first (suc last - first) h (places t))
    ≡ table_of t.count t.system (filled first (suc last - first) h (holders t))
filled-places t f first last h l m = filled-table t f first (suc last - first) h (omega arith)

-- tracks that change their holder, zs being the array: those before i have
abbrev pub passed : ℕ → ℕ → ℕ → List ℕ → List ℕ
passed p h i xs = replaced p h (take i xs) ++ drop i xs

passed_here : (p h i : ℕ) (xs : List ℕ) → get_or (passed p h i xs) i nobody ≡ get_or xs i nobody
passed_here p h zero xs = refl
passed_here p h (suc i) [] = refl
passed_here p h (suc i) (x ∷ xs) = passed_here p h i xs

passed-test : (b : Bool) (p h i : ℕ) (xs : List ℕ) → i < length xs → eqb (get_or xs i nobody) p ≡ b
    → set (passed p h i xs) i (cond b h (get_or xs i nobody)) ≡ passed p h (suc i) xs
passed-test b p h i [] l t = absurd (omega arith)
passed-test b p h zero (x ∷ xs) l t = ap (λ (b : Bool). cond b h x ∷ xs) (sym t)
passed-test b p h (suc i) (x ∷ xs) l t = ap (λ (ys : List ℕ). cond (eqb x p) h x ∷ ys) (passed-test b p h i xs (omega arith) t)

module _ (p h i : ℕ) (xs zs : List ℕ) (z : zs ≡ passed p h i xs) (l : i < length xs) where
  here : get_or xs i nobody ≡ get_or zs i nobody
  here = sym (passed_here p h i xs) ∙ ap (λ (ys : List ℕ). get_or ys i nobody) (sym z)

  pub passed-hit : get_or zs i nobody ≡ p → set zs i h ≡ passed p h (i + 1) xs
  passed-hit e = rw add-one (ap (λ (ys : List ℕ). set ys i h) z ∙ passed-test true p h i xs l (eq-eqb (get_or xs i nobody) p (here ∙ e)))

  pub passed-miss : (get_or zs i nobody ≡ p → ⊥) → zs ≡ passed p h (i + 1) xs
  passed-miss e =
      rw add-one
      (sym (set-get_or zs i nobody)
      ∙ ap₂ (λ (ys : List ℕ) (v : ℕ). set ys i v) z (sym here)
      ∙ passed-test false p h i xs l (ne_eqb (get_or xs i nobody) p (λ w. e (sym here ∙ w))))

pub passed-all : (p h i : ℕ) (xs : List ℕ) → length xs ≤ i → passed p h i xs ≡ replaced p h xs
passed-all p h i xs l =
    ap (λ (ys : List ℕ). replaced p h ys ++ drop i xs) (take_all i xs l)
    ∙ ap (λ (ys : List ℕ). replaced p h xs ++ ys) (drop_of_length-le xs {i = i} l)
    ∙ append-nil (replaced p h xs)

pub nobody-behind : (t : Tracks) → Fit t → drop t.count t.holders ≡ replicate (256 - t.count) nobody
nobody-behind t f = ap (drop t.count) (laid f) ∙ drop_at (holders t) (replicate (256 - t.count) nobody) t.count f.long

-- fresh tracks: the first are the system's
pub fresh-done : (a b N T S : ℕ) → S ≤ T → T ≤ N
    → replicate S a ++ replicate (N - S) b ≡ (replicate S a ++ replicate (T - S) b) ++ replicate (N - T) b
fresh-done a b N T S l m =
    let e : N - S ≡ (T - S) + (N - T) = omega arith in
    ap (λ (k : ℕ). replicate S a ++ replicate k b) e
    ∙ ap (λ (ys : List ℕ). replicate S a ++ ys) (sym (replicate-append-replicate (T - S) (N - T) b))
    ∙ sym (append_assoc (replicate S a) (replicate (T - S) b) (replicate (N - T) b))

-- counts by the library's word
pub counted : (p : ℕ) (xs : List ℕ) → count p xs ≡ count_by (λ x. eqb x p) xs
counted p xs = is_count_by (count p) (λ x. eqb x p) refl step xs
  where
    step : (x : ℕ) (xs : List ℕ) → same p x + count p xs ≡ cond (eqb x p) (1 + count p xs) (count p xs)
    step x xs = go (ℕ_discrete x p)
      where
        go : Dec (x ≡ p) → same p x + count p xs ≡ cond (eqb x p) (1 + count p xs) (count p xs)
        go (yes w) = rw (eq-eqb x p w) (omega (arith, ap (same p) w, same_refl p))
        go (no w) = rw (ne_eqb x p w) (omega (arith, same-ne p x (λ e. w (sym e))))

eqb-suc : (a b : ℕ) → eqb (suc a) (suc b) ≡ eqb a b
eqb-suc a b = go (ℕ_discrete a b)
  where
    go : Dec (a ≡ b) → eqb (suc a) (suc b) ≡ eqb a b
    go (yes w) = eq-eqb (suc a) (suc b) (ap suc w) ∙ sym (eq-eqb a b w)
    go (no w) = ne_eqb (suc a) (suc b) (λ e. w (omega arith)) ∙ sym (ne_eqb a b w)

-- n tracks are a run where n of the first n are h's
run-count : (h n : ℕ) (xs : List ℕ) → eqb (count h (take n xs)) n ≡ run h n xs
run-count h zero xs = refl
run-count h (suc n) [] = ne_eqb 0 (suc n) (λ e. omega arith)
run-count h (suc n) (x ∷ xs) = go (ℕ_discrete x h) (run-count h n xs)
  where
    few : count h (take n xs) ≤ n
    few = omega (arith, counted h (take n xs), count_by-le-length (λ (y : ℕ). eqb y h) (take n xs), length-take n xs, min-le_left n (length xs))

    go : Dec (x ≡ h) → eqb (count h (take n xs)) n ≡ run h n xs
        → eqb (same h x + count h (take n xs)) (suc n) ≡ elim (eqb x h) [ true ↦ run h n xs | false ↦ false ]
    go (yes w) e =
        let one : same h x + count h (take n xs) ≡ suc (count h (take n xs)) = omega (arith, ap (same h) w, same_refl h) in
        rw (eq-eqb x h w, one) (eqb-suc (count h (take n xs)) n ∙ e)
    go (no w) e = rw (ne_eqb x h w) (ne_eqb (same h x + count h (take n xs)) (suc n) (λ k. omega (arith, few, same-ne h x (λ z. w (sym z)))))

pub run-counted : (h n : ℕ) (xs : List ℕ) → eqb (count_by (λ x. eqb x h) (take n xs)) n ≡ run h n xs
run-counted h n xs = ap (λ (k : ℕ). eqb k n) (sym (counted h (take n xs))) ∙ run-count h n xs

-- Laws of the tracks that are passed on and of fresh ones, a track at a time, for whoever proves about them.
pub passed-done : (t : Tracks) → Fit t → length (holders t) ≡ t.count → (p h : ℕ)
    → passed p h t.count t.holders ≡ replaced p h (holders t) ++ replicate (256 - t.count) nobody
passed-done t f e p h =
    ap (passed p h t.count) (laid f)
    ∙ ap₂ (λ (a b : List ℕ). replaced p h a ++ b)
    (take_at (holders t) (replicate (256 - t.count) nobody) t.count e)
    (drop_at (holders t) (replicate (256 - t.count) nobody) t.count e)

-- fresh tracks, zs being the array: those before i are the system's
fresh_step : (a b i m : ℕ) → set (replicate i a ++ replicate (suc m) b) i a ≡ replicate (suc i) a ++ replicate m b
fresh_step a b zero m = refl
fresh_step a b (suc i) m = ap (λ (ys : List ℕ). a ∷ ys) (fresh_step a b i m)

pub fresh-turn : (a b N i : ℕ) (zs : List ℕ) → i < N → zs ≡ replicate i a ++ replicate (N - i) b
    → set zs i a ≡ replicate (i + 1) a ++ replicate (N - (i + 1)) b
fresh-turn a b N i zs l z =
    let e : N - i ≡ suc (N - (i + 1)) = omega arith in
    ap (λ (ys : List ℕ). set ys i a) z
    ∙ ap (λ (k : ℕ). set (replicate i a ++ replicate k b) i a) e
    ∙ fresh_step a b i (N - (i + 1))
    ∙ ap (λ (k : ℕ). replicate k a ++ replicate (N - (i + 1)) b) (sym (add-one i))
