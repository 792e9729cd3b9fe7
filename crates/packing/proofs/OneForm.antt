-- Packed form: bytes are in it exactly where they are some tables packed, whose arrays are as long and whose numbers as small as
-- their types say. The tables that bytes say are such tables; and such tables are not lost by packing (`lossless`), so that packing
-- what their bytes say gives the bytes.
-- Assumes nothing.
use Prim.Native.Nat.{ℕ, zero, suc, ◌+◌, ◌*◌, ◌%◌, ◌<◌, ◌≤◌}
use native.Mathlib.Omega.{arith}
use mathlib.Core.Path.{◌≡◌, refl, sym, ap, ◌∙◌}
use mathlib.Core.Logic.{◌≢◌, ◌↔◌}
use mathlib.Core.Bool.{Bool, true, false, cond, ◌&&◌}
use mathlib.Core.List.{List, [], ◌∷◌, map}
use lib.Dec.{eqb}
use lib.Pointwise.{pointwise}
use lib.ListN.{length, get_or, take, drop, length-append, length-drop}
use lib.Seq.{length-take-le, get_or-drop}
use borrow.Author.Tests.{eq-eqb, ne_eqb, eqb-true}
use Rattle.std.proofs.Common.{nat_eq}
use Rattle.lists.specs.Lists.{from, alike, join}
use Rattle.lists.proofs.Tests.{both, and, alike-true, alike_is}
use Rattle.records.specs.declared.Program.{Program}
use Rattle.records.specs.declared.Why.TheVariants.{Nothing, Tracks, Son, Lock, Number}
use Rattle.tables.specs.declared.Tables.{Tables}
use Rattle.tables.specs.Tables.{Arrays}
use Rattle.text.proofs.Fields.{same_bytes}
use Rattle.packing.specs.Packed.{of_bytes, figure_at, why_of, pack_program, program_at, packed, unpacked, is_packed, programs_place, packed_length}
use Rattle.packing.proofs.Pieces.{resources-length, program-length}
use Rattle.packing.proofs.Lossless.{wide, FitWhy, FitProgram, Each, FitTables, lossless}

-- HOW LONG PACKED TABLES ARE
abbrev Named : Program → Type 0
Named r = length r.name ≡ 5

names-length : (xs : List Program) → Each Named xs → length (join (map pack_program xs)) ≡ 29 * length xs
names-length [] h = refl
names-length (x ∷ xs) h =
    omega (arith, length-append (pack_program x) (join (map pack_program xs)), program-length x h.0, names-length xs h.1)

pub packed-length : (t : Tables) → Arrays t → Each Named t.ledger.programs → length (packed t) ≡ packed_length
unfolding packed
packed-length t A h =
    simp length-append (omega (
      arith,
      A.programs,
      A.holders,
      A.links,
      A.resources,
      resources-length t.ledger.numbers.resources,
      names-length t.ledger.programs h,
    ))

-- THE TABLES THAT BYTES SAY
each_from : {A : Type 0} (P : A → Type 0) (f : ℕ → A) (p n : ℕ) → ((i : ℕ) → i < p + n → P (f i)) → Each P (map f (from p n))
each_from P f p zero h = tt
each_from P f p (suc n) h = (h p (omega arith), each_from P f (suc p) n (λ i k. h i (omega arith)))

module _ (s : List ℕ) (long : length s ≡ packed_length) where
  part_length : (o k : ℕ) → o + k ≤ packed_length → length (take k (drop o s)) ≡ k
  part_length o k h = length-take-le k (drop o s) (omega (arith, length-drop o s))

  pub unpacked-arrays : Arrays (unpacked s)
  unfolding unpacked
  unpacked-arrays =
      record { programs = refl; links = part_length 303 40 (omega arith); holders = part_length 15 256 (omega arith); resources = refl }

  unpacked-names : Each Named (unpacked s).ledger.programs
  unfolding unpacked program_at
  unpacked-names =
      each_from Named (λ i. program_at s (programs_place + 29 * i)) 0 32 (λ i h. part_length (programs_place + 29 * i + 1) 5 (omega arith))

  pub unpacked-length : length (packed (unpacked s)) ≡ packed_length
  unpacked-length = packed-length (unpacked s) unpacked-arrays unpacked-names

-- the numbers that bytes say are small
abbrev pub Bytes : List ℕ → Type 0
Bytes s = (i : ℕ) → get_or s i 0 < 256

of-small : (k : ℕ) (s : List ℕ) → Bytes s → of_bytes k s < wide k
of-small zero s b = omega arith
of-small (suc k) [] b = omega (arith, of-small k [] b)
of-small (suc k) (x ∷ xs) b = omega (arith, b 0, of-small k xs (λ i. b (suc i)))

module _ (s : List ℕ) (b : Bytes s) where
  figure-small : (k i : ℕ) → figure_at k s i < wide k
  figure-small k i = of-small k (drop i s) (λ j. rw (get_or-drop i s j 0) (b (i + j)))

  why-fits : (kind n : ℕ) → n < wide 2 → FitWhy (why_of kind n)
  unfolding why_of
  why-fits kind n h = go (eqb kind 0) (eqb kind 1) (eqb kind 2) (eqb kind 3)
    where
      go : (b₀ b₁ b₂ b₃ : Bool) → FitWhy (cond b₀ Nothing (cond b₁ (Tracks n) (cond b₂ (Son (n % 256)) (cond b₃ (Lock (n % 256)) Number))))
      go true b₁ b₂ b₃ = tt
      go false true b₂ b₃ = h
      go false false true b₃ = omega arith
      go false false false true = omega arith
      go false false false false = tt

  pub unpacked-fits : length s ≡ packed_length → FitTables (unpacked s)
  unfolding unpacked program_at
  unpacked-fits long = record {
    clock = figure-small 8 0;
    year = figure-small 2 8;
    tracks = figure-small 2 10;
    system = figure-small 2 12;
    programs =
        each_from FitProgram (λ i. program_at s (programs_place + 29 * i)) 0 32
        (λ i h.
        let o = programs_place + 29 * i in
        record {
          name = part_length s long (o + 1) 5 (omega arith);
          priority = figure-small 2 (o + 6);
          why = why-fits (get_or s (o + 9) 0) (figure_at 2 s (o + 10)) (figure-small 2 (o + 10));
          due = figure-small 8 (o + 12);
          interval = figure-small 8 (o + 20);
        });
  }

-- THE TEST
module _ (s : List ℕ) where
  by_length : (b : Bool) → eqb (length s) packed_length ≡ b → is_packed s ≡ (b && alike (packed (unpacked s)) s)
  unfolding is_packed
  by_length b e = ap (λ (x : Bool). x && alike (packed (unpacked s)) s) e

  pub packed-other : length s ≢ packed_length → false ≡ is_packed s
  packed-other n = sym (by_length false (ne_eqb (length s) packed_length n))

  -- what the code has in hand: the tables that the bytes say, packed anew
  pub packed-is : (form : List ℕ) (r : Bool) → length s ≡ packed_length → form ≡ packed (unpacked s) → r ≡ pointwise nat_eq form s
      → r ≡ is_packed s
  packed-is form r long e t =
      t ∙ same_bytes form s ∙ ap (λ (x : List ℕ). alike x s) e ∙ sym (by_length true (eq-eqb (length s) packed_length long))

  pub is-length : is_packed s ≡ true → length s ≡ packed_length
  unfolding is_packed
  is-length e = eqb-true (length s) packed_length (both (eqb (length s) packed_length) (alike (packed (unpacked s)) s) e).0

  pub packed-back : is_packed s ≡ true → packed (unpacked s) ≡ s
  unfolding is_packed
  packed-back e = alike-true (packed (unpacked s)) s (both (eqb (length s) packed_length) (alike (packed (unpacked s)) s) e).1

-- THE FORM: bytes that are some tables packed. A field of one byte stands as it is, and is as small as that byte.
pub record Form (s : List ℕ) : Type 0 where
  pub tables : Tables
  pub arrays : Arrays tables
  pub fit : FitTables tables
  pub is : s ≡ packed tables

fit-named : (xs : List Program) → Each FitProgram xs → Each Named xs
fit-named [] h = tt
fit-named (x ∷ xs) h = (h.0.name, fit-named xs h.1)

pub form-packed : (s : List ℕ) → Form s → is_packed s ≡ true
unfolding is_packed
form-packed s F =
    let t = F.tables in
    let long : length s ≡ packed_length =
    ap length F.is ∙ packed-length t F.arrays (fit-named t.ledger.programs F.fit.programs) in
    let same : packed (unpacked s) ≡ s = ap (λ (x : List ℕ). packed (unpacked x)) F.is ∙ ap packed (lossless t F.arrays F.fit)
    ∙ sym F.is in
    and (eq-eqb (length s) packed_length long) (alike_is (packed (unpacked s)) s same)

pub packed-form : (s : List ℕ) → Bytes s → (is_packed s ≡ true) ↔ Form s
packed-form s b = (
  λ e. record {
    tables = unpacked s;
    arrays = unpacked-arrays s (is-length s e);
    fit = unpacked-fits s b (is-length s e);
    is = sym (packed-back s e);
  },
  form-packed s,
)
