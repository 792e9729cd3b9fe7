-- The held tracks of a page, read back: the runs that have a line, filled one by one into fresh tracks, are the holders. A run that
-- grows by a track is that track and the run behind it, so the runs fill what the tracks one by one do.
-- Assumes nothing.
use Prim.Native.Nat.{ℕ, zero, suc, ◌+◌, ◌-◌, ◌≤◌, ◌<◌}
use native.Mathlib.Omega.{arith}
use native.Mathlib.Decide.{dec_lt}
use mathlib.Core.Path.{◌≡◌, refl, sym, ap, ap₂, ◌∙◌}
use mathlib.Core.Bool.{Bool, true, false, cond, ◌||◌}
use mathlib.Core.List.{List, [], ◌∷◌, ◌++◌, map}
use mathlib.Core.Option.{Option, none, some}
use lib.Dec.{eqb}
use lib.ListN.{length, get_or, set, replicate, length-append, length-replicate, get_or-replicate, get_or-append}
use lib.Seq.{append_snoc, set_at, get_or-append-add}
use borrow.Author.Tests.{eqb-true, le-leb, lt-ltb}
use Rattle.lists.specs.Lists.{same, count, join}
use Rattle.lists.proofs.Tests.{and, otherwise}
use Rattle.text.specs.Text.{text, behind}
use Rattle.tracks.specs.declared.held.Run.{Run}
use Rattle.tracks.specs.Tracks.{nobody, system, filled}
use Rattle.tracks.specs.Runs.{run_of, joined, runs_of}
use Rattle.rules.specs.Book.{Book, holder_of, with_holders}
use Rattle.rules.specs.Keeper.{lists, State}
use Rattle.rules.specs.Sound.{Limits, System}
use Rattle.page.specs.Page.{Line, line, held_key, held_line, held_lines}
use Rattle.shapes.specs.Shapes.{there, run_in}
use Rattle.reader.specs.Order.{value_behind, holding}
use Rattle.reader.specs.Said.{on_book, with_run, with_line, rest_said}
use Rattle.shapes.proofs.Pieces.{clean_line}
use Rattle.reader.proofs.Text.{told, told-append, Clean, clean-none, clean-more, clean-append}
use Rattle.shapes.proofs.Joined.{run_text, run-back, run-clean}
use Rattle.reader.proofs.ScanLaws.{Good, held-step}

-- ONE RUN, which has no line where it is free or the system's
abbrev plain : ℕ → Bool
plain h = eqb h nobody || eqb h system

abbrev line_if : Run → Bool → List Line
line_if g b = cond b [] (line held_key (run_text g.first g.last g.holder) ∷ [])

-- a run of the first T tracks
record Within (T : ℕ) (g : Run) : Type 0 where
  low : g.first ≤ g.last
  high : g.last < T
  few : T ≤ 256
  holder : g.holder ≤ system

key-clean : count 10 (text held_key) ≡ 0
unfolding same
key-clean = refl

one-clean : (g : Run) → Clean (held_line g)
unfolding held_line
one-clean g = go (plain g.holder)
  where
    go : (b : Bool) → Clean (line_if g b)
    go true = clean-none
    go false =
        clean-more (clean_line (text held_key) (run_text g.first g.last g.holder) key-clean
        (run-clean g.first g.last g.holder)) clean-none

module _ (T : ℕ) (g : Run) (K : Within T g) where
  back : run_in (run_text g.first g.last g.holder) ≡ some g
  back =
      run-back g.first g.last g.holder (omega (arith, K.low, K.high, K.few)) (omega (arith, K.high, K.few))
      (omega (arith, K.holder))

  one-good : (rs : List (List ℕ)) → Good holding rs → Good holding (told (held_line g) rs)
  unfolding held_line
  one-good rs h = go (plain g.holder)
    where
      go : (b : Bool) → Good holding (told (line_if g b) rs)
      go true = h
      go false = held-step (run_text g.first g.last g.holder) rs (ap there back) h

  line-said : (a : State lists) (rs : List (List ℕ)) (b : Bool)
      → rest_said a (told (line_if g b) rs) ≡ rest_said (cond b a (with_run g a)) rs
  unfolding rest_said with_line value_behind behind
  line-said a rs true = refl
  line-said a rs false = ap (λ (o : Option Run). rest_said (elim o [ none ↦ a | some y ↦ with_run y a ]) rs) back

  one-said : (a : State lists) (rs : List (List ℕ))
      → rest_said a (told (held_line g) rs) ≡ rest_said (cond (plain g.holder) a (with_run g a)) rs
  unfolding held_line
  one-said a rs = line-said a rs (plain g.holder)

-- ALL OF THEM
abbrev pub with_tracks : List ℕ → State lists → State lists
with_tracks xs a = on_book (with_holders xs) a

abbrev fill : Run → List ℕ → List ℕ
fill g xs = cond (plain g.holder) xs (filled g.first (suc g.last - g.first) g.holder xs)

abbrev fill_all : List Run → List ℕ → List ℕ
fill_all [] xs = xs
fill_all (g ∷ gs) xs = fill_all gs (fill g xs)

fill-with : (g : Run) (xs : List ℕ) (a : State lists) → Within a.book.tracks g → (b : Bool)
    → cond b (with_tracks xs a) (with_run g (with_tracks xs a))
    ≡ with_tracks (cond b xs (filled g.first (suc g.last - g.first) g.holder xs)) a
fill-with g xs a K true = refl
fill-with g xs a K false =
    ap (λ (t : Bool). record {
      book = cond t (with_holders (filled g.first (suc g.last - g.first) g.holder xs) a.book) (with_holders xs a.book);
      kept = a.kept;
    })
    (and (le-leb g.first g.last K.low) (lt-ltb g.last a.book.tracks K.high))

abbrev All : ℕ → List Run → Type 0
All T [] = Unit {0}
All T (g ∷ gs) = Within T g × All T gs

each-clean : (gs : List Run) → Clean (join (map held_line gs))
each-clean [] = clean-none
each-clean (g ∷ gs) = clean-append (one-clean g) (each-clean gs)

each-good : (T : ℕ) (gs : List Run) → All T gs → (rs : List (List ℕ)) → Good holding rs → Good holding (told (join (map held_line gs)) rs)
each-good T [] K rs h = h
each-good T (g ∷ gs) K rs h =
    rw (told-append (held_line g) (join (map held_line gs)) rs)
    (one-good T g K.0 (told (join (map held_line gs)) rs) (each-good T gs K.1 rs h))

each-said : (a : State lists) (gs : List Run) → All a.book.tracks gs → (xs : List ℕ) (rs : List (List ℕ))
    → rest_said (with_tracks xs a) (told (join (map held_line gs)) rs) ≡ rest_said (with_tracks (fill_all gs xs) a) rs
each-said a [] K xs rs = refl
each-said a (g ∷ gs) K xs rs =
    ap (rest_said (with_tracks xs a)) (told-append (held_line g) (join (map held_line gs)) rs)
    ∙ one-said a.book.tracks g K.0 (with_tracks xs a) (told (join (map held_line gs)) rs)
    ∙ ap (λ (s : State lists). rest_said s (told (join (map held_line gs)) rs)) (fill-with g xs a K.0 (plain g.holder))
    ∙ each-said a gs K.1 (fill g xs) rs

-- THE RUNS OF SOME HOLDERS
-- the first begins at i
abbrev Begun : ℕ → List Run → Type 0
Begun i [] = Unit {0}
Begun i (g ∷ gs) = (g.first ≡ i) × (i ≤ g.last)

joined-begun : (i h : ℕ) (gs : List Run) → Begun (suc i) gs → Begun i (joined i h gs)
joined-begun i h [] B = (refl, omega arith)
joined-begun i h (g ∷ gs) B = go (eqb h g.holder)
  where
    go : (b : Bool) → Begun i (cond b (run_of i g.last h ∷ gs) (run_of i i h ∷ g ∷ gs))
    go true = (refl, omega arith)
    go false = (refl, omega arith)

runs-begun : (i : ℕ) (hs : List ℕ) → Begun i (runs_of i hs)
runs-begun i [] = tt
runs-begun i (h ∷ hs) = joined-begun i h (runs_of (suc i) hs) (runs-begun (suc i) hs)

joined-within : (T i h : ℕ) (gs : List Run) → i < T → T ≤ 256 → h ≤ system → Begun (suc i) gs → All T gs → All T (joined i h gs)
joined-within T i h [] l f k B K = (record { low = omega arith; high = l; few = f; holder = k }, tt)
joined-within T i h (g ∷ gs) l f k B K = go (eqb h g.holder)
  where
    go : (b : Bool) → All T (cond b (run_of i g.last h ∷ gs) (run_of i i h ∷ g ∷ gs))
    go true = (record { low = omega arith; high = K.0.high; few = f; holder = k }, K.1)
    go false = (record { low = omega arith; high = l; few = f; holder = k }, K)

runs-within : (T i : ℕ) (hs : List ℕ) → i + length hs ≡ T → T ≤ 256 → ((k : ℕ) → k < length hs → get_or hs k nobody ≤ system)
    → All T (runs_of i hs)
runs-within T i [] e f b = tt
runs-within T i (h ∷ hs) e f b =
    joined-within T i h (runs_of (suc i) hs) (omega arith) f (b 0 (omega arith)) (runs-begun (suc i) hs)
    (runs-within T (suc i) hs (omega arith) f (λ k l. b (suc k) (omega arith)))

-- track by track
abbrev stored : ℕ → ℕ → List ℕ → List ℕ
stored i h xs = cond (plain h) xs (set xs i h)

abbrev stored_all : ℕ → List ℕ → List ℕ → List ℕ
stored_all i [] xs = xs
stored_all i (h ∷ hs) xs = stored_all (suc i) hs (stored i h xs)

fill_one : (i h : ℕ) (xs : List ℕ) → fill (run_of i i h) xs ≡ stored i h xs
fill_one i h xs =
    let e : suc i - i ≡ 1 = omega arith in
    let z : i + 0 ≡ i = omega arith in
    ap (λ (n : ℕ). cond (plain h) xs (filled i n h xs)) e ∙ ap (λ (j : ℕ). cond (plain h) xs (set xs j h)) z

filled-first : (i n h : ℕ) (xs : List ℕ) → filled i (suc n) h xs ≡ filled (suc i) n h (set xs i h)
filled-first i zero h xs = let z : i + 0 ≡ i = omega arith in ap (λ (j : ℕ). set xs j h) z
filled-first i (suc n) h xs =
    let e : i + suc n ≡ suc i + n = omega arith in
    ap₂ (λ (ys : List ℕ) (j : ℕ). set ys j h) (filled-first i n h xs) e

fill-grown : (i j h : ℕ) (xs : List ℕ) → suc i ≤ j → (b : Bool)
    → cond b xs (filled i (suc j - i) h xs) ≡ cond b (cond b xs (set xs i h)) (filled (suc i) (suc j - suc i) h (cond b xs (set xs i h)))
fill-grown i j h xs l true = refl
fill-grown i j h xs l false =
    let e : suc j - i ≡ suc (suc j - suc i) = omega arith in
    ap (λ (n : ℕ). filled i n h xs) e ∙ filled-first i (suc j - suc i) h xs

joined-fill : (i h : ℕ) (gs : List Run) (xs : List ℕ) → Begun (suc i) gs → fill_all (joined i h gs) xs ≡ fill_all gs (stored i h xs)
joined-fill i h [] xs B = fill_one i h xs
joined-fill i h (g ∷ gs) xs B = go (eqb h g.holder) refl
  where
    go : (b : Bool) → eqb h g.holder ≡ b
        → fill_all (cond b (run_of i g.last h ∷ gs) (run_of i i h ∷ g ∷ gs)) xs ≡ fill_all gs (fill g (stored i h xs))
    go true e =
        ap (fill_all gs) (fill-grown i g.last h xs B.1 (plain h)
        ∙ ap₂ (λ (f k : ℕ). fill (run_of f g.last k) (stored i h xs)) (sym B.0) (eqb-true h g.holder e))
    go false e = ap (λ (ys : List ℕ). fill_all gs (fill g ys)) (fill_one i h xs)

runs-fill : (i : ℕ) (hs xs : List ℕ) → fill_all (runs_of i hs) xs ≡ stored_all i hs xs
runs-fill i [] xs = refl
runs-fill i (h ∷ hs) xs = joined-fill i h (runs_of (suc i) hs) xs (runs-begun (suc i) hs) ∙ runs-fill (suc i) hs (stored i h xs)

-- what has no line is there already
abbrev Fresh : List ℕ → List ℕ → Type 0
Fresh hs xs = (k : ℕ) → k < length hs → plain (get_or hs k nobody) ≡ true → get_or xs k nobody ≡ get_or hs k nobody

stored-all : (i : ℕ) (pre hs xs : List ℕ) → length pre ≡ i → length xs ≡ length hs → Fresh hs xs → stored_all i hs (pre ++ xs) ≡ pre ++ hs
stored-all i pre [] [] p l f = refl
stored-all i pre [] (x ∷ xs) p l f = absurd (omega arith)
stored-all i pre (h ∷ hs) [] p l f = absurd (omega arith)
stored-all i pre (h ∷ hs) (x ∷ xs) p l f =
    ap (stored_all (suc i) hs) (here (plain h) refl ∙ sym (append_snoc pre h xs))
    ∙ stored-all (suc i) (pre ++ (h ∷ [])) hs xs (omega (arith, length-append pre (h ∷ []))) (omega arith) (λ k m. f (suc k) (omega arith))
    ∙ append_snoc pre h hs
  where
    here : (b : Bool) → plain h ≡ b → cond b (pre ++ (x ∷ xs)) (set (pre ++ (x ∷ xs)) i h) ≡ pre ++ (h ∷ xs)
    here true e = ap (λ (y : ℕ). pre ++ (y ∷ xs)) (f 0 (omega arith) e)
    here false e = set_at pre x xs h i p

-- fresh tracks, and those of a sound book filled into them
abbrev pub fresh_tracks : ℕ → ℕ → List ℕ
fresh_tracks T S = replicate S system ++ replicate (T - S) nobody

module _ (b : Book) (l : length b.holders ≡ b.tracks) (L : Limits b) (Y : System b) where
  all-within : All b.tracks (runs_of 0 b.holders)
  all-within = runs-within b.tracks 0 b.holders (omega arith) L.most (λ k h. L.holder k (omega arith))

  fresh-long : length (fresh_tracks b.tracks b.system) ≡ length b.holders
  fresh-long =
      length-append (replicate b.system system) (replicate (b.tracks - b.system) nobody)
      ∙ omega (arith, length-replicate b.system system, length-replicate (b.tracks - b.system) nobody, L.first)

  below : (k : ℕ) → k < b.system → get_or (fresh_tracks b.tracks b.system) k nobody ≡ system
  below k h =
      get_or-append (replicate b.system system) (replicate (b.tracks - b.system) nobody) nobody k
      (omega (arith, length-replicate b.system system))
      ∙ get_or-replicate b.system k system nobody h

  above : (k : ℕ) → b.system ≤ k → k < b.tracks
      → get_or (fresh_tracks b.tracks b.system) k nobody ≡ nobody
  above k h m =
      let e : k ≡ length (replicate b.system system) + (k - b.system) = omega (arith, length-replicate b.system system) in
      ap (λ (j : ℕ). get_or (fresh_tracks b.tracks b.system) j nobody) e
      ∙ get_or-append-add (replicate b.system system) (replicate (b.tracks - b.system) nobody) (k - b.system) nobody
      ∙ get_or-replicate (b.tracks - b.system) (k - b.system) nobody nobody (omega arith)

  fresh-there : Fresh b.holders (fresh_tracks b.tracks b.system)
  fresh-there k h e = go (dec_lt k b.system) (eqb (holder_of b k) nobody) refl
    where
      go : Dec (k < b.system) → (t : Bool) → eqb (holder_of b k) nobody ≡ t
          → get_or (fresh_tracks b.tracks b.system) k nobody ≡ holder_of b k
      go (yes s) t w = below k s ∙ sym (Y.below k (omega arith) s)
      go (no n) true w = above k (omega (arith, n)) (omega arith) ∙ sym (eqb-true (holder_of b k) nobody w)
      go (no n) false w =
          absurd (n (Y.just k (omega arith)
          (eqb-true (holder_of b k) system (otherwise (eqb (holder_of b k) nobody) (eqb (holder_of b k) system) e w))))

  pub held-clean : Clean (held_lines b.holders)
  unfolding held_lines
  held-clean = each-clean (runs_of 0 b.holders)

  pub held-good : (rs : List (List ℕ)) → Good holding rs → Good holding (told (held_lines b.holders) rs)
  unfolding held_lines
  held-good = each-good b.tracks (runs_of 0 b.holders) all-within

  pub held-said : (a : State lists) → a.book.tracks ≡ b.tracks → (rs : List (List ℕ))
      → rest_said (with_tracks (fresh_tracks b.tracks b.system) a) (told (held_lines b.holders) rs)
      ≡ rest_said (with_tracks b.holders a) rs
  unfolding held_lines
  held-said a e rs =
      each-said a (runs_of 0 b.holders) (rw e all-within) (fresh_tracks b.tracks b.system) rs
      ∙ ap (λ (xs : List ℕ). rest_said (with_tracks xs a) rs)
      (runs-fill 0 b.holders (fresh_tracks b.tracks b.system)
      ∙ stored-all 0 [] b.holders (fresh_tracks b.tracks b.system) refl fresh-long fresh-there)
