-- Figures in the tables' bytes: those of a sound state are small enough to stay, so a state that is judged read is judged so with its
-- figures narrowed, and the other way.
-- Assumes nothing.
use Prim.Native.Nat.{ℕ, zero, suc, ◌-◌, ◌≤◌, ◌<◌}
use native.Mathlib.Omega.{arith}
use mathlib.Core.Path.{◌≡◌, refl, sym, ap, ap₂, ◌∙◌, subst}
use mathlib.Core.Bool.{Bool, true, false, cond, ◌||◌}
use mathlib.Core.List.{List, [], ◌∷◌, map}
use lib.Dec.{eqb}
use lib.ListN.{length, get_or, length-map}
use borrow.Author.Tests.{eqb-true, lt-ltb}
use Rattle.lists.specs.Lists.{count, alike, up_to}
use Rattle.lists.proofs.Laws.{same_refl}
use Rattle.lists.proofs.Tests.{both, up_to-true, alike-true}
use Rattle.text.specs.Text.{parts}
use Rattle.records.specs.declared.Why.{Why}
use Rattle.records.specs.declared.Why.TheVariants.{Nothing, Tracks, Son, Lock, Number}
use Rattle.records.specs.Records.{Known, known, missing}
use Rattle.records.specs.Numbers.{free, number_at}
use Rattle.tracks.specs.Tracks.{nobody}
use Rattle.rules.specs.Book.{Book, at, state_of, why_of}
use Rattle.rules.specs.Keeper.{lists, State}
use Rattle.rules.specs.Sound.{suits, Whys, Limits, Sound}
use Rattle.tables.specs.declared.Tables.{Tables}
use Rattle.tables.specs.Tables.{plain, lay, Arrays}
use Rattle.tables.specs.Sound.{sound}
use Rattle.tables.proofs.Agree.{sound-clauses}
use Rattle.tables.proofs.Plain.{sound-plain}
use Rattle.page.specs.Page.{page}
use Rattle.reader.specs.Said.{said}
use Rattle.reader.specs.Reading.{was_read, not_read, writes, judged}
use Rattle.shapes.specs.Inner.{byte, two_bytes, narrow_why, narrow_resource}
use Rattle.reader.specs.Inner.{narrow_record}
use Rattle.reader.specs.Walks.{narrow}
use Rattle.reader.proofs.Lengths.{Sized, said-sized, sized-arrays}
use Rattle.reader.proofs.RoundTrip.{page-said}

-- small numbers stay, and lists of what stays
byte_small : (n : ℕ) → n < 256 → byte n ≡ n
byte_small n h = ap (λ (b : Bool). cond b n 255) (lt-ltb n 256 h)

two-small : (n : ℕ) → n < 65536 → two_bytes n ≡ n
two-small n h = ap (λ (b : Bool). cond b n 65535) (lt-ltb n 65536 h)

map_same : {A : Type 0} (f : A → A) (d : A) (xs : List A) → ((i : ℕ) → i < length xs → f (get_or xs i d) ≡ get_or xs i d) → map f xs ≡ xs
map_same f d [] h = refl
map_same f d (x ∷ xs) h = ap₂ ◌∷◌ (h 0 (omega arith)) (map_same f d xs (λ i l. h (suc i) (omega arith)))

bytes_same : (c : List ℕ) → ((x : ℕ) → 1 ≤ count x c → x < 256) → map byte c ≡ c
bytes_same [] h = refl
bytes_same (q ∷ qs) h = ap₂ ◌∷◌ (byte_small q (h q (omega (arith, same_refl q)))) (bytes_same qs (λ x l. h x (omega arith)))

-- A RECORD: a why that fits, and its state
module _ (b : Book) (L : Limits b) (p s : ℕ) where
  idle : (x y : Bool) → eqb s 0 ≡ x → eqb s 1 ≡ y → (x || y || eqb s 6) ≡ true → s < 256
  idle true y h k e = omega (arith, eqb-true s 0 h)
  idle false true h k e = omega (arith, eqb-true s 1 k)
  idle false false h k e = omega (arith, eqb-true s 6 e)

  why-same : (w : Why) → suits b p s w ≡ true → (s < 256) × (narrow_why w ≡ w)
  why-same Nothing e = (idle (eqb s 0) (eqb s 1) refl refl e, refl)
  why-same (Tracks n) e =
      let h = both (eqb s 5) (up_to 1 b.tracks n) e in
      (omega (arith, eqb-true s 5 h.0), ap Tracks (two-small n (omega (arith, up_to-true 1 b.tracks n h.1, L.most))))
  why-same (Son k) e =
      let h = both (eqb s 3) (known k) (both _ _ (both _ _ (both _ _ e).0).0).0 in
      (omega (arith, eqb-true s 3 h.0), ap Son (byte_small k (omega (arith, up_to-true 1 32 k h.1))))
  why-same (Lock r) e =
      let h = both (eqb s 3) (up_to 1 b.numbers r) e in
      (omega (arith, eqb-true s 3 h.0), ap Lock (byte_small r (omega (arith, up_to-true 1 b.numbers r h.1, L.few))))
  why-same Number e = (omega (arith, eqb-true s 3 e), refl)

record_same : (b : Book) → Whys b → Limits b → (p : ℕ) → Known p → narrow_record (at b p) ≡ at b p
record_same b W L p P =
    let w = why-same b L p (state_of b p) (why_of b p) (W.fitting p P) in
    let n = two-small (at b p).priority (omega (arith, L.priority p P)) in
    let s = byte_small (at b p).state w.0 in
    let y = w.1 in
    λ i. record {
      used = (at b p).used;
      name = (at b p).name;
      priority = n i;
      state = s i;
      why = y i;
      due = (at b p).due;
      interval = (at b p).interval;
      suspend = (at b p).suspend;
    }

-- A SOUND STATE
module _ (a : State lists) (S : Sound a) where
  programs-same : map narrow_record a.book.programs ≡ a.book.programs
  programs-same =
      map_same narrow_record missing a.book.programs λ i l.
      let e : suc i - 1 ≡ i = omega arith in
      subst (λ (j : ℕ). narrow_record (get_or a.book.programs j missing) ≡ get_or a.book.programs j missing) e
      (record_same a.book S.whys S.limits (suc i) (omega arith, omega (arith, S.shape.programs)))

  holders-same : map byte a.book.holders ≡ a.book.holders
  holders-same =
      map_same byte nobody a.book.holders λ i l.
      byte_small (get_or a.book.holders i nobody) (omega (arith, S.limits.holder i (omega (arith, S.shape.holders))))

  resources-same : map narrow_resource a.book.resources ≡ a.book.resources
  resources-same =
      map_same narrow_resource free a.book.resources λ i l.
      let e : suc i - 1 ≡ i = omega arith in
      subst (λ (j : ℕ). narrow_resource (get_or a.book.resources j free) ≡ get_or a.book.resources j free) e
      (one (suc i) (omega arith) (omega (arith, S.shape.resources)))
    where
      one : (r : ℕ) → 1 ≤ r → r ≤ a.book.numbers → narrow_resource (number_at a.book.resources r) ≡ number_at a.book.resources r
      one r low high =
          let o = byte_small (number_at a.book.resources r).owner (omega (arith, S.limits.owner r (low, high))) in
          let k = byte_small (number_at a.book.resources r).lock (omega (arith, S.limits.locker r (low, high))) in
          λ i. record { owner = o i; lock = k i }

  chains-same : map (map byte) a.kept ≡ a.kept
  chains-same = map_same (map byte) [] a.kept chain
    where
      chain : (i : ℕ) → i < length a.kept → map byte (get_or a.kept i []) ≡ get_or a.kept i []
      chain zero l = rw S.shape.dormant
      chain (suc i) l =
          bytes_same (get_or a.kept (suc i) [])
          (λ x h. omega (arith, S.chains.within (suc i) x (omega arith) (omega (arith, S.shape.chains)) h))

  pub narrow-sound : narrow a ≡ a
  narrow-sound =
      let b = a.book in
      let p = programs-same in
      let h = holders-same in
      let r = resources-same in
      let k = chains-same in
      λ i. record {
        book = record {
          programs = p i;
          clock = b.clock;
          year = b.year;
          tracks = b.tracks;
          system = b.system;
          numbers = b.numbers;
          holders = h i;
          resources = r i;
        };
        kept = k i;
      }

-- WHAT IS JUDGED
narrow-arrays : (a : State lists) → Sized a.book → Arrays (lay (narrow a))
narrow-arrays a Z =
    sized-arrays (narrow a)
    (record {
      programs = length-map a.book.programs narrow_record ∙ Z.programs;
      holders = length-map a.book.holders byte ∙ Z.holders;
      tracks = Z.tracks;
      resources = length-map a.book.resources narrow_resource ∙ Z.resources;
      numbers = Z.numbers;
    })

module _ (s : List ℕ) where
  abbrev told : State lists
  told = said (parts 10 s)

  -- where some tables are written as these bytes, these say a sound state
  told_same : (t : Tables) → Arrays t → writes t s ≡ true → narrow told ≡ told
  unfolding writes
  told_same t A w =
      let b = both (sound t) (alike (page (plain t)) s) w in
      let S : Sound (plain t) = sound-plain t A (sound-clauses t b.0) in
      let e : plain t ≡ told =
      sym (page-said (plain t) S) ∙ ap (λ (u : List ℕ). said (parts 10 u)) (alike-true (page (plain t)) s b.1) in
      narrow-sound told (subst Sound e S)

  pub narrow-judged : judged s 0 (lay (narrow told)) ≡ judged s 0 (lay told)
  narrow-judged = go (writes (lay (narrow told)) s) (writes (lay told) s) refl refl
    where
      go : (x y : Bool) → writes (lay (narrow told)) s ≡ x → writes (lay told) s ≡ y
          → judged s 0 (lay (narrow told)) ≡ judged s 0 (lay told)
      go true y e f =
          ap (λ (a : State lists). judged s 0 (lay a)) (told_same (lay (narrow told)) (narrow-arrays told (said-sized (parts 10 s))) e)
      go false true e f =
          ap (λ (a : State lists). judged s 0 (lay a)) (told_same (lay told) (sized-arrays told (said-sized (parts 10 s))) f)
      go false false e f =
          ap (λ (b : Bool). elim b [ true ↦ was_read (lay (narrow told)) | false ↦ not_read 0 ]) e
          ∙ sym (ap (λ (b : Bool). elim b [ true ↦ was_read (lay told) | false ↦ not_read 0 ]) f)
