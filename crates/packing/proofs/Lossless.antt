-- Nothing is lost by packing: tables that are packed and read back are the same tables, where their fields fit their bytes.
-- A single byte stands as it is, so it is asked of the fields of more bytes alone, of a why's number, and that a name has five bytes.
-- The idea: from each place on stand a field's bytes and then the others', and so place after place. Assumes nothing.
use Prim.Native.Nat.{ℕ, zero, suc, ◌+◌, ◌*◌, ◌/◌, ◌%◌, ◌<◌}
use native.Mathlib.Nat.{add-zero}
use native.Mathlib.Omega.{arith}
use mathlib.Core.Path.{◌≡◌, refl, sym, ap, ap₂, ◌∙◌}
use mathlib.Core.Bool.{Bool, true, false}
use mathlib.Core.List.{List, [], ◌∷◌, ◌++◌, map, append_assoc, append-nil}
use lib.Dec.{ltb}
use lib.ListN.{length, get_or, take, drop}
use lib.Seq.{take_at, drop_at, drop-drop, get_or-drop}
use Rattle.lists.specs.Lists.{hit, from, join}
use Rattle.records.specs.declared.Program.{Program}
use Rattle.records.specs.declared.Resource.{Resource}
use Rattle.records.specs.declared.Why.{Why}
use Rattle.records.specs.declared.Why.TheVariants.{Nothing, Tracks, Son, Lock, Number}
use Rattle.tracks.specs.Tracks.{places, table_at}
use Rattle.tables.specs.declared.Tables.{Tables}
use Rattle.tables.specs.Tables.{Arrays}
use Rattle.packing.specs.Packed.{in_bytes, of_bytes, figure_at, kind_of, count_of, why_of, pack_program, program_at, pack_resource, resource_at}
use Rattle.packing.specs.Packed.{packed, unpacked, programs_place, resources_place}
use Rattle.packing.proofs.Pieces.{program-length, resources-length}

-- 256 ^ k, by steps that `omega` reads
abbrev pub wide : ℕ → ℕ
wide zero = 1
wide (suc k) = 256 * wide k

-- the fields fit their bytes
abbrev pub FitWhy : Why → Type 0
FitWhy Nothing = Unit {0}
FitWhy (Tracks n) = n < wide 2
FitWhy (Son k) = k < wide 1
FitWhy (Lock r) = r < wide 1
FitWhy Number = Unit {0}

pub record FitProgram (r : Program) : Type 0 where
  pub name : length r.name ≡ 5
  pub priority : r.priority < wide 2
  pub why : FitWhy r.why
  pub due : r.due < wide 8
  pub interval : r.interval < wide 8

abbrev pub Each : {A : Type 0} → (A → Type 0) → List A → Type 0
Each P [] = Unit {0}
Each P (x ∷ xs) = P x × Each P xs

pub record FitTables (t : Tables) : Type 0 where
  pub clock : t.ledger.clock.ticks < wide 8
  pub year : t.ledger.clock.year < wide 2
  pub tracks : t.ledger.tracks.count < wide 2
  pub system : t.ledger.tracks.system < wide 2
  pub programs : Each FitProgram t.ledger.programs

-- a number's bytes say the number, whatever stands behind them
bytes_back : (k n : ℕ) (rest : List ℕ) → n < wide k → of_bytes k (in_bytes k n ++ rest) ≡ n
bytes_back zero n rest h = omega arith
bytes_back (suc k) n rest h = omega (arith, bytes_back k (n / 256) rest (omega arith))

why-back : (w : Why) → FitWhy w → why_of (kind_of w) (count_of w) ≡ w
unfolding why_of
why-back Nothing h = refl
why-back (Tracks n) h = refl
why-back (Son k) h = let e : k % 256 ≡ k = omega arith in ap Son e
why-back (Lock r) h = let e : r % 256 ≡ r = omega arith in ap Lock e
why-back Number h = refl

count_fits : (w : Why) → FitWhy w → count_of w < wide 2
count_fits Nothing h = omega arith
count_fits (Tracks n) h = h
count_fits (Son k) h = omega arith
count_fits (Lock r) h = omega arith
count_fits Number h = omega arith

hit-back : (b : Bool) → ltb 0 (hit b) ≡ b
hit-back true = refl
hit-back false = refl

-- what stands at place o: a byte, a number, a list; and what stands behind it
module _ (s : List ℕ) (o : ℕ) where
  byte_at : {x : ℕ} {rest : List ℕ} → drop o s ≡ x ∷ rest → get_or s o 0 ≡ x
  byte_at e = ap (λ (k : ℕ). get_or s k 0) (sym (add-zero o)) ∙ sym (get_or-drop o s 0 0) ∙ ap (λ (l : List ℕ). get_or l 0 0) e

  number-at : (k n : ℕ) (rest : List ℕ) → n < wide k → drop o s ≡ in_bytes k n ++ rest → figure_at k s o ≡ n
  number-at k n rest h e = ap (of_bytes k) e ∙ bytes_back k n rest h

  list_at : (k : ℕ) (x rest : List ℕ) → length x ≡ k → drop o s ≡ x ++ rest → take k (drop o s) ≡ x
  list_at k x rest h e = ap (take k) e ∙ take_at x rest k h

  behind : (j : ℕ) (x : List ℕ) {rest : List ℕ} → j ≡ o + length x → drop o s ≡ x ++ rest → drop j s ≡ rest
  behind j x {rest} h e =
      ap (λ (k : ℕ). drop k s) h ∙ sym (drop-drop (length x) o s) ∙ ap (drop (length x)) e ∙ drop_at x rest (length x) refl

-- the items of an array, each w bytes wide, from place `at p` on
module _ {A : Type 0} (P : A → Type 0) (pack : A → List ℕ) (w : ℕ) (wide_each : (x : A) → P x → length (pack x) ≡ w) (s : List ℕ)
    (at : ℕ → ℕ) (next : (i : ℕ) → at (suc i) ≡ at i + w)
    (read : ℕ → A) (back : (x : A) (o : ℕ) (rest : List ℕ) → P x → drop o s ≡ pack x ++ rest → read o ≡ x) where
  items_back : (xs : List A) (p : ℕ) (rest : List ℕ) → Each P xs → drop (at p) s ≡ join (map pack xs) ++ rest
      → map (λ i. read (at i)) (from p (length xs)) ≡ xs
  items_back [] p rest h e = refl
  items_back (x ∷ xs) p rest h e =
      let f : drop (at p) s ≡ pack x ++ (join (map pack xs) ++ rest) = e ∙ append_assoc (pack x) (join (map pack xs)) rest in
      ap₂ (λ y ys. y ∷ ys) (back x (at p) (join (map pack xs) ++ rest) h.0 f)
      (items_back xs (suc p) rest h.1
      (behind s (at p) (at (suc p)) (pack x) (next p ∙ ap (λ (k : ℕ). at p + k) (sym (wide_each x h.0))) f))

resource-back : (s : List ℕ) (x : Resource) (o : ℕ) (rest : List ℕ) → Unit {0} → drop o s ≡ pack_resource x ++ rest → resource_at s o ≡ x
resource-back s x o rest h e = λ i. record {
  owner = byte_at s o e i;
  lock = byte_at s (o + 1) (behind s o (o + 1) (x.owner ∷ []) refl e) i;
}

anyone : (xs : List Resource) → Each (λ (x : Resource). Unit {0}) xs
anyone [] = tt
anyone (x ∷ xs) = (tt, anyone xs)

program-parts : (r : Program) (rest : List ℕ)
    → pack_program r ++ rest
    ≡ (hit r.used ∷ []) ++ (r.name ++ (in_bytes 2 r.priority
    ++ (r.state ∷ kind_of r.why ∷ (in_bytes 2 (count_of r.why) ++ (in_bytes 8 r.due ++ (in_bytes 8 r.interval ++ (hit r.suspend ∷ rest)))))))
unfolding pack_program
program-parts r rest = simp append_assoc

program-back : (s : List ℕ) (r : Program) (o : ℕ) (rest : List ℕ) → FitProgram r → drop o s ≡ pack_program r ++ rest → program_at s o ≡ r
unfolding program_at
program-back s r o rest F whole =
    let m = hit r.suspend ∷ rest in
    let g = in_bytes 8 r.interval ++ m in
    let f = in_bytes 8 r.due ++ g in
    let e = in_bytes 2 (count_of r.why) ++ f in
    let c = in_bytes 2 r.priority ++ (r.state ∷ kind_of r.why ∷ e) in
    let p₀ : drop o s ≡ (hit r.used ∷ []) ++ (r.name ++ c) = whole ∙ program-parts r rest in
    let p₁ : drop (o + 1) s ≡ r.name ++ c = behind s o (o + 1) (hit r.used ∷ []) refl p₀ in
    let p₆ : drop (o + 6) s ≡ c = behind s (o + 1) (o + 6) r.name (omega (arith, F.name)) p₁ in
    let p₈ : drop (o + 8) s ≡ r.state ∷ kind_of r.why ∷ e = behind s (o + 6) (o + 8) (in_bytes 2 r.priority) (omega arith) p₆ in
    let p₉ : drop (o + 9) s ≡ kind_of r.why ∷ e = behind s (o + 8) (o + 9) (r.state ∷ []) (omega arith) p₈ in
    let p₁₀ : drop (o + 10) s ≡ e = behind s (o + 9) (o + 10) (kind_of r.why ∷ []) (omega arith) p₉ in
    let p₁₂ : drop (o + 12) s ≡ f = behind s (o + 10) (o + 12) (in_bytes 2 (count_of r.why)) (omega arith) p₁₀ in
    let p₂₀ : drop (o + 20) s ≡ g = behind s (o + 12) (o + 20) (in_bytes 8 r.due) (omega arith) p₁₂ in
    let p₂₈ : drop (o + 28) s ≡ m = behind s (o + 20) (o + 28) (in_bytes 8 r.interval) (omega arith) p₂₀ in
    λ i. record {
      used = (ap (ltb 0) (byte_at s o p₀) ∙ hit-back r.used) i;
      name = list_at s (o + 1) 5 r.name c F.name p₁ i;
      priority = number-at s (o + 6) 2 r.priority (r.state ∷ kind_of r.why ∷ e) F.priority p₆ i;
      state = byte_at s (o + 8) p₈ i;
      why = (ap₂ why_of (byte_at s (o + 9) p₉) (number-at s (o + 10) 2 (count_of r.why) f (count_fits r.why F.why) p₁₀)
          ∙ why-back r.why F.why) i;
      due = number-at s (o + 12) 8 r.due g F.due p₁₂ i;
      interval = number-at s (o + 20) 8 r.interval m F.interval p₂₀ i;
      suspend = (ap (ltb 0) (byte_at s (o + 28) p₂₈) ∙ hit-back r.suspend) i;
    }

tables-parts : (t : Tables)
    → packed t
    ≡ in_bytes 8 t.ledger.clock.ticks
    ++ (in_bytes 2 t.ledger.clock.year
    ++ (in_bytes 2 t.ledger.tracks.count ++ (in_bytes 2 t.ledger.tracks.system ++ ((t.ledger.numbers.count ∷ [])
    ++ (places t.ledger.tracks
    ++ (join (map pack_resource t.ledger.numbers.resources) ++ (t.links ++ join (map pack_program t.ledger.programs))))))))
unfolding packed
tables-parts t = simp append_assoc

pub lossless : (t : Tables) → Arrays t → FitTables t → unpacked (packed t) ≡ t
unfolding unpacked
lossless t A F =
    let s = packed t in
    let ps = t.ledger.programs in
    let rs = t.ledger.numbers.resources in
    let l = t.links ++ join (map pack_program ps) in
    let r = join (map pack_resource rs) ++ l in
    let h = places t.ledger.tracks ++ r in
    let n = (t.ledger.numbers.count ∷ []) ++ h in
    let y = in_bytes 2 t.ledger.tracks.system ++ n in
    let x = in_bytes 2 t.ledger.tracks.count ++ y in
    let w = in_bytes 2 t.ledger.clock.year ++ x in
    let p₀ : drop 0 s ≡ in_bytes 8 t.ledger.clock.ticks ++ w = tables-parts t in
    let p₈ : drop 8 s ≡ w = behind s 0 8 (in_bytes 8 t.ledger.clock.ticks) refl p₀ in
    let p₁₀ : drop 10 s ≡ x = behind s 8 10 (in_bytes 2 t.ledger.clock.year) refl p₈ in
    let p₁₂ : drop 12 s ≡ y = behind s 10 12 (in_bytes 2 t.ledger.tracks.count) refl p₁₀ in
    let p₁₄ : drop 14 s ≡ n = behind s 12 14 (in_bytes 2 t.ledger.tracks.system) refl p₁₂ in
    let p₁₅ : drop 15 s ≡ h = behind s 14 15 (t.ledger.numbers.count ∷ []) refl p₁₄ in
    let p₂₇₁ : drop 271 s ≡ r = behind s 15 271 (places t.ledger.tracks) (omega (arith, A.holders)) p₁₅ in
    let p₃₀₃ : drop 303 s ≡ l = behind s 271 303 (join (map pack_resource rs)) (omega (arith, A.resources, resources-length rs)) p₂₇₁ in
    let p₃₄₃ : drop 343 s ≡ join (map pack_program ps) = behind s 303 343 t.links (omega (arith, A.links)) p₃₀₃ in
    λ i. record {
      ledger = record {
        programs =
            (ap (λ (k : ℕ). map (λ i. program_at s (programs_place + 29 * i)) (from 0 k)) (sym A.programs)
            ∙ items_back FitProgram pack_program 29 (λ r f. program-length r f.name) s (λ i. programs_place + 29 * i) (λ i. omega arith)
            (program_at s) (program-back s) ps 0 [] F.programs (p₃₄₃ ∙ sym (append-nil (join (map pack_program ps)))))
            i;
        clock = record {
          ticks = number-at s 0 8 t.ledger.clock.ticks w F.clock p₀ i;
          year = number-at s 8 2 t.ledger.clock.year x F.year p₈ i;
        };
        tracks =
            table_at (number-at s 10 2 t.ledger.tracks.count y F.tracks p₁₀ i)
            (number-at s 12 2 t.ledger.tracks.system n F.system p₁₂ i)
            (list_at s 15 256 (places t.ledger.tracks) r A.holders p₁₅ i);
        numbers = record {
          count = byte_at s 14 p₁₄ i;
          resources =
              (ap (λ (k : ℕ). map (λ i. resource_at s (resources_place + 2 * i)) (from 0 k)) (sym A.resources)
              ∙ items_back (λ x. Unit {0}) pack_resource 2 (λ x f. refl) s (λ i. resources_place + 2 * i) (λ i. omega arith) (resource_at s)
              (resource-back s) rs 0 l (anyone rs) p₂₇₁)
              i;
        };
      };
      links = list_at s 303 40 t.links (join (map pack_program ps)) A.links p₃₀₃ i;
    }
