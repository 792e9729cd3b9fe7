-- The value of a refused reading tells the first line that is not well formed; 0 tells that all lines are, and that no sound tables write
-- these bytes. The idea: the scan from any place, with any number for its first line, stops at the line that is not formed there.
-- Assumes nothing.
use Prim.Native.Nat.{ℕ, zero, suc, ◌+◌, ◌≤◌, ◌<◌}
use native.Mathlib.Omega.{arith}
use mathlib.Core.Path.{◌≡◌, refl, sym, ap, ap₂, ◌∙◌, subst}
use mathlib.Core.Bool.{Bool, true, false}
use mathlib.Core.List.{List, [], ◌∷◌}
use mathlib.Core.Option.{Option, none, some, none-ne-some}
use lib.ListN.{length, get_or, take}
use lib.Seq.{take-nil}
use Rattle.lists.specs.Lists.{alike}
use Rattle.lists.proofs.Tests.{both, alike-true}
use Rattle.text.specs.Text.{parts}
use Rattle.tables.specs.declared.Tables.{Tables}
use Rattle.tables.specs.Tables.{plain, lay}
use Rattle.tables.specs.Sound.{sound}
use Rattle.tables.specs.Calls.{Result}
use Rattle.tables.proofs.Agree.{sound-clauses}
use Rattle.page.specs.Page.{page}
use Rattle.reader.specs.Order.{Place, opening, heading, recording, perhaps, chaining, holding, numbering, ended, page_ahead, behind_line}
use Rattle.reader.specs.Order.{behind_all, first_bad}
use Rattle.reader.specs.Said.{said}
use Rattle.reader.specs.Reading.{was_read, not_read, writes, judged, reading}
use Rattle.text.specs.Lines.{lines_ended, last_bytes}
use Rattle.reader.specs.Lines.{behind_these, FirstNot, not-formed, not_there, AllFormed, WrittenBy}
use Rattle.shapes.proofs.Marks.{some-part}
use Rattle.reader.proofs.Lengths.{said-arrays}
use Rattle.reader.proofs.Exact.{written_read}

-- THE BYTES BEHIND THE LAST LINE, taken for line n
nothing-not : (c : ℕ) (cs : List ℕ) → c ∷ cs ≡ [] → ⊥
nothing-not c cs e = let z : suc (length cs) ≡ 0 = ap length e in omega arith

-- the page is not at its end there
abbrev Short : Place → List ℕ → Type 0
Short p l = p ≡ ended → l ≡ [] → ⊥

all-not : (p : Place) (n : ℕ) (l : List ℕ) → Short p l → behind_all p n l ≡ n
all-not ended n [] h = absurd (h refl refl)
all-not ended n (c ∷ cs) h = refl
all-not (opening fs) n l h = refl
all-not (heading fs) n l h = refl
all-not (recording fs k) n l h = refl
all-not (perhaps f q) n l h = refl
all-not (chaining fs) n l h = refl
all-not holding n l h = refl
all-not numbering n l h = refl

-- at its end, or not
data Last (p : Place) (n : ℕ) (l : List ℕ) : Type 0 where
  at-end : p ≡ ended → l ≡ [] → behind_all p n l ≡ 0 → Last p n l
  short : Short p l → behind_all p n l ≡ n → Last p n l

last-is : (p : Place) (n : ℕ) (l : List ℕ) → Last p n l
last-is ended n [] = at-end refl refl refl
last-is ended n (c ∷ cs) = short (λ e f. nothing-not c cs f) refl
last-is (opening fs) n l = short (λ e f. let z : ◌≡◌ {A = ℕ} 0 1 = cc in omega arith) refl
last-is (heading fs) n l = short (λ e f. let z : ◌≡◌ {A = ℕ} 0 1 = cc in omega arith) refl
last-is (recording fs k) n l = short (λ e f. let z : ◌≡◌ {A = ℕ} 0 1 = cc in omega arith) refl
last-is (perhaps f q) n l = short (λ e f. let z : ◌≡◌ {A = ℕ} 0 1 = cc in omega arith) refl
last-is (chaining fs) n l = short (λ e f. let z : ◌≡◌ {A = ℕ} 0 1 = cc in omega arith) refl
last-is holding n l = short (λ e f. let z : ◌≡◌ {A = ℕ} 0 1 = cc in omega arith) refl
last-is numbering n l = short (λ e f. let z : ◌≡◌ {A = ℕ} 0 1 = cc in omega arith) refl

-- THE SCAN
-- from a place, the line k behind the next is the first that is not well formed
data Stops (p : Place) (ls : List (List ℕ)) (k : ℕ) : Type 0 where
  formless : (q : Place) → behind_these p (take k (lines_ended ls)) ≡ some q → k < length (lines_ended ls)
      → behind_line q (get_or (lines_ended ls) k []) ≡ none → Stops p ls k
  missing : (q : Place) → behind_these p (take k (lines_ended ls)) ≡ some q → k ≡ length (lines_ended ls) → Short q (last_bytes ls)
      → Stops p ls k

-- all are, and the page is at its end
record Passes (p : Place) (ls : List (List ℕ)) : Type 0 where
  formed : behind_these p (lines_ended ls) ≡ some ended
  nothing : last_bytes ls ≡ []

-- one line more before them
abbrev after : List (List ℕ) → Option Place → Option Place
after ls o = elim o [ none ↦ none | some q ↦ behind_these q ls ]

stops-next : (p q : Place) (l m : List ℕ) (ms : List (List ℕ)) (k : ℕ) → behind_line p l ≡ some q → Stops q (m ∷ ms) k
    → Stops p (l ∷ m ∷ ms) (suc k)
stops-next p q l m ms k w (formless r e b u) =
    formless r (ap (after (take k (lines_ended (m ∷ ms)))) w ∙ e) (omega arith) u
stops-next p q l m ms k w (missing r e b h) =
    missing r (ap (after (take k (lines_ended (m ∷ ms)))) w ∙ e) (omega arith) h

-- what the scan comes to
data Scan (p : Place) (n : ℕ) (ls : List (List ℕ)) : Type 0 where
  passes : first_bad p n ls ≡ 0 → Passes p ls → Scan p n ls
  stops : (k : ℕ) → first_bad p n ls ≡ n + k → Stops p ls k → Scan p n ls

abbrev scanned : ℕ → List (List ℕ) → Option Place → ℕ
scanned n ls o = elim o [ none ↦ n | some q ↦ first_bad q (suc n) ls ]

scan : (p : Place) (n : ℕ) (ls : List (List ℕ)) → 1 ≤ length ls → Scan p n ls
unfolding first_bad
scan p n [] h = absurd (omega arith)
scan p n (l ∷ []) h = go (last-is p n l)
  where
    go : Last p n l → Scan p n (l ∷ [])
    go (at-end e f z) = passes z (record { formed = ap some e; nothing = f })
    go (short u z) = stops 0 (z ∙ omega arith) (missing p refl refl u)
scan p n (l ∷ m ∷ ms) h = go (behind_line p l) refl (λ q. scan q (suc n) (m ∷ ms) (omega arith))
  where
    on : (q : Place) → behind_line p l ≡ some q → Scan q (suc n) (m ∷ ms) → Scan p n (l ∷ m ∷ ms)
    on q w (passes z P) =
        passes (ap (scanned n (m ∷ ms)) w ∙ z)
        (record { formed = ap (after (lines_ended (m ∷ ms))) w ∙ P.formed; nothing = P.nothing })
    on q w (stops k z S) = stops (suc k) (ap (scanned n (m ∷ ms)) w ∙ z ∙ omega arith) (stops-next p q l m ms k w S)

    go : (o : Option Place) → behind_line p l ≡ o → ((q : Place) → Scan q (suc n) (m ∷ ms)) → Scan p n (l ∷ m ∷ ms)
    go none w ih = stops 0 (ap (scanned n (m ∷ ms)) w ∙ omega arith) (formless p refl (omega arith) w)
    go (some q) w ih = on q w (ih q)

-- and the other way
passed : (p : Place) (n : ℕ) (ls : List (List ℕ)) → 1 ≤ length ls → Passes p ls → first_bad p n ls ≡ 0
unfolding first_bad
passed p n [] h P = absurd (omega arith)
passed p n (l ∷ []) h P =
    let e : p ≡ ended = cc P.formed in
    ap₂ (λ (q : Place) (x : List ℕ). behind_all q n x) e P.nothing
passed p n (l ∷ m ∷ ms) h P = go (behind_line p l) P.formed (λ q Q. passed q (suc n) (m ∷ ms) (omega arith) Q)
  where
    go : (o : Option Place) → after (lines_ended (m ∷ ms)) o ≡ some ended
        → ((q : Place) → Passes q (m ∷ ms) → first_bad q (suc n) (m ∷ ms) ≡ 0) → scanned n (m ∷ ms) o ≡ 0
    go none e ih = absurd (none-ne-some ended e)
    go (some q) e ih = ih q (record { formed = e; nothing = P.nothing })

-- a line is passed on the way to where the scan stops
stopped-next : (p : Place) (n k : ℕ) (l m : List ℕ) (ms : List (List ℕ)) (q : Place)
    → after (take k (lines_ended (m ∷ ms))) (behind_line p l) ≡ some q
    → ((r : Place) → behind_these r (take k (lines_ended (m ∷ ms))) ≡ some q → first_bad r (suc n) (m ∷ ms) ≡ suc n + k)
    → first_bad p n (l ∷ m ∷ ms) ≡ n + suc k
unfolding first_bad
stopped-next p n k l m ms q e ih = go (behind_line p l) e
  where
    go : (o : Option Place) → after (take k (lines_ended (m ∷ ms))) o ≡ some q → scanned n (m ∷ ms) o ≡ n + suc k
    go none f = absurd (none-ne-some q f)
    go (some r) f = ih r f ∙ omega arith

stopped : (p : Place) (n : ℕ) (ls : List (List ℕ)) (k : ℕ) → Stops p ls k → first_bad p n ls ≡ n + k
unfolding first_bad
stopped p n [] k (formless q e b u) = absurd (omega arith)
stopped p n [] k (missing q e b h) = omega arith
stopped p n (l ∷ []) k (formless q e b u) = absurd (omega arith)
stopped p n (l ∷ []) k (missing q e b h) =
    let z : some p ≡ some q = ap (behind_these p) (sym (take-nil k)) ∙ e in
    let w : q ≡ p = cc in
    all-not p n l (λ f. h (w ∙ f)) ∙ omega arith
stopped p n (l ∷ m ∷ ms) zero (formless q e b u) =
    let w : p ≡ q = cc in
    ap (scanned n (m ∷ ms)) (ap (λ (r : Place). behind_line r l) w ∙ u) ∙ omega arith
stopped p n (l ∷ m ∷ ms) zero (missing q e b h) = absurd (omega arith)
stopped p n (l ∷ m ∷ ms) (suc k) (formless q e b u) =
    stopped-next p n k l m ms q e (λ r f. stopped r (suc n) (m ∷ ms) k (formless q f (omega arith) u))
stopped p n (l ∷ m ∷ ms) (suc k) (missing q e b h) =
    stopped-next p n k l m ms q e (λ r f. stopped r (suc n) (m ∷ ms) k (missing q f (omega arith) h))

-- WHAT IS JUDGED
abbrev judged_by : Tables → Bool → Result
judged_by t b = elim b [ true ↦ was_read t | false ↦ not_read 0 ]

abbrev value_in : Result → ℕ
value_in r = get_or r.values 0 0

-- a result that was not read tells the line
line-told : (s : List ℕ) (n k : ℕ) (t : Tables) → judged s n t ≡ not_read k → n ≡ k
line-told s zero k t e = go (writes t s) e
  where
    go : (b : Bool) → judged_by t b ≡ not_read k → 0 ≡ k
    go true f = let z : ◌≡◌ {A = ℕ} 0 15 = ap (λ (r : Result). r.number) f in absurd (omega arith)
    go false f = ap value_in f
line-told s (suc n) k t e = ap value_in e

module _ (s : List ℕ) where
  abbrev start : Place
  start = page_ahead

  some-lines : 1 ≤ length (parts 10 s)
  some-lines = let (l, ls, e) = some-part 10 s in rw e (omega arith)

  bad-is : (k : ℕ) → reading s ≡ not_read k → first_bad start 1 (parts 10 s) ≡ k
  unfolding reading
  bad-is k e = line-told s (first_bad start 1 (parts 10 s)) k (lay (said (parts 10 s))) e

  -- a line
  first_stops : (k : ℕ) → Stops start (parts 10 s) k → FirstNot s k
  first_stops k (formless q e b u) = not-formed q (record { there = omega arith; formed = e }) b u
  first_stops k (missing q e b h) = not_there q (record { there = omega arith; formed = e }) b h

  stops_first : (k : ℕ) → FirstNot s k → Stops start (parts 10 s) k
  stops_first k (not-formed q F b u) = formless q F.formed b u
  stops_first k (not_there q F b h) = missing q F.formed b h

  pub bad-line : (k : ℕ) → reading s ≡ not_read (suc k) → FirstNot s k
  bad-line k e = go (scan start 1 (parts 10 s) some-lines)
    where
      go : Scan start 1 (parts 10 s) → FirstNot s k
      go (passes z P) = let f = bad-is (suc k) e in absurd (omega arith)
      go (stops j z S) =
          let f = bad-is (suc k) e in
          let w : j ≡ k = omega arith in
          first_stops k (subst (Stops start (parts 10 s)) w S)

  pub first-not : (k : ℕ) → FirstNot s k → reading s ≡ not_read (suc k)
  unfolding reading
  first-not k F =
      let e : first_bad start 1 (parts 10 s) ≡ suc k = stopped start 1 (parts 10 s) k (stops_first k F) ∙ omega arith in
      ap (λ (n : ℕ). judged s n (lay (said (parts 10 s)))) e

  -- the tables
  not_written : reading s ≡ not_read 0 → (t : Tables) → WrittenBy t s → ⊥
  not_written e t W =
      let z : ◌≡◌ {A = ℕ} 0 15 = ap (λ (r : Result). r.number) (sym (written_read t s W) ∙ e) in
      omega arith

  pub bad-tables : reading s ≡ not_read 0 → AllFormed s × ((t : Tables) → WrittenBy t s → ⊥)
  bad-tables e = (go (scan start 1 (parts 10 s) some-lines), not_written e)
    where
      go : Scan start 1 (parts 10 s) → AllFormed s
      go (passes z P) = record { formed = P.formed; nothing = P.nothing }
      go (stops j z S) = let f = bad-is 0 e in absurd (omega arith)

  pub all-formed : AllFormed s → ((t : Tables) → WrittenBy t s → ⊥) → reading s ≡ not_read 0
  unfolding reading writes
  all-formed F n =
      let t : Tables = lay (said (parts 10 s)) in
      ap (λ (k : ℕ). judged s k t)
      (passed start 1 (parts 10 s) some-lines (record { formed = F.formed; nothing = F.nothing }))
      ∙ go (writes t s) refl
    where
      go : (b : Bool) → writes (lay (said (parts 10 s))) s ≡ b → judged_by (lay (said (parts 10 s))) b ≡ not_read 0
      go true w =
          let t : Tables = lay (said (parts 10 s)) in
          let b = both (sound t) (alike (page (plain t)) s) w in
          absurd (n t (record {
            arrays = said-arrays (parts 10 s);
            lawful = sound-clauses t b.0;
            bytes = alike-true (page (plain t)) s b.1;
          }))
      go false w = refl
