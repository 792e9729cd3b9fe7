-- The used records of a page, read back: put one by one into unused ones they are the programs.
-- Assumes nothing.
use Prim.Native.Nat.{ℕ, suc, ◌-◌, ◌≤◌}
use native.Mathlib.Omega.{arith}
use native.Mathlib.Decide.{ℕ_discrete}
use mathlib.Core.Path.{◌≡◌, refl, sym, ap, ap₂, ◌∙◌, subst}
use mathlib.Core.Bool.{Bool, true, false, cond, ◌||◌}
use mathlib.Core.List.{List, [], ◌∷◌, map}
use mathlib.Core.Option.{Option, some}
use lib.Dec.{ltb, eqb}
use lib.ListN.{length, get_or, drop, set, replicate, length-replicate, get_or-replicate}
use borrow.Author.Tests.{eqb-true, ltb-false}
use Rattle.lists.specs.Lists.{hit, same, count, keep, join, up_to}
use Rattle.lists.proofs.Laws.{same_refl, count-append, count-keep, keep-in}
use Rattle.lists.proofs.Tests.{false-true, both, up_to-true}
use Rattle.text.specs.Text.{text, decimal, behind}
use Rattle.records.specs.declared.Program.{Program}
use Rattle.records.specs.declared.Why.{Why}
use Rattle.records.specs.declared.Why.TheVariants.{Nothing, Tracks, Son, Lock, Number}
use Rattle.records.specs.Names.{legal, bare, name_of}
use Rattle.records.specs.Records.{Known, known, all, missing, unused, record_at}
use Rattle.rules.specs.Book.{Book, at, altered}
use Rattle.rules.specs.Keeper.{lists, State}
use Rattle.rules.specs.Sound.{suits, Names, Zeros, Whys, Limits, Dues}
use Rattle.rules.proofs.shared.Places.{known_is, all_in, all_one}
use Rattle.page.specs.Page.{id_key, name_key, priority_key, state_key, why_key, due_key, interval_key, tracks_word, son_word, lock_word}
use Rattle.page.specs.Page.{Line, chained, reason, or_dash, used_in, mark_line, recorded, record_lines}
use Rattle.shapes.specs.Shapes.{there, otherwise, figure, figure_or_dash, reason_of}
use Rattle.reader.specs.Order.{value_behind, records_ahead}
use Rattle.reader.specs.Said.{value_of, on_book, marked_by, with_record, chains_said, records_said}
use Rattle.shapes.proofs.Pieces.{decimal-only, clean_line}
use Rattle.reader.proofs.Text.{told, told-append, Clean, clean-none, clean-more, clean-append}
use Rattle.shapes.proofs.ValuesBack.{Short, figure-decimal, dash-back, Fitting, reason-back}
use Rattle.shapes.proofs.Joined.{dash-only}
use Rattle.shapes.proofs.NameBack.{name_back, name-clean}
use Rattle.reader.proofs.ScanLaws.{Good, record-step}
use Rattle.reader.proofs.MarkLaws.{mark-told, mark-good, mark-clean}
use Rattle.reader.proofs.HeadBack.{figure-there, figure-clean}
use Rattle.reader.proofs.Copying.{copied, Copies, copies-all}

-- a used record whose values are read back
record Readable (p : ℕ) (r : Program) : Type 0 where
  known : Known p
  used : r.used ≡ true
  name : legal r.name ≡ true
  priority : Short r.priority
  state : Short r.state
  why : Fitting r.why
  due : Short r.due
  interval : Short r.interval
  timeless : r.due ≡ 0 → r.interval ≡ 0

-- a why that fits, and its state
module _ (b : Book) (L : Limits b) (p s : ℕ) where
  idle : (x y : Bool) → eqb s 0 ≡ x → eqb s 1 ≡ y → (x || y || eqb s 6) ≡ true → Short s
  idle true y h k e = omega (arith, eqb-true s 0 h)
  idle false true h k e = omega (arith, eqb-true s 1 k)
  idle false false h k e = omega (arith, eqb-true s 6 e)

  why-fits : (w : Why) → suits b p s w ≡ true → Short s × Fitting w
  why-fits Nothing e = (idle (eqb s 0) (eqb s 1) refl refl e, tt)
  why-fits (Tracks n) e =
      let h = both (eqb s 5) (up_to 1 b.tracks n) e in
      (omega (arith, eqb-true s 5 h.0), omega (arith, up_to-true 1 b.tracks n h.1, L.most))
  why-fits (Son k) e =
      let h = both (eqb s 3) (known k) (both _ _ (both _ _ (both _ _ e).0).0).0 in
      (omega (arith, eqb-true s 3 h.0), omega (arith, up_to-true 1 32 k h.1))
  why-fits (Lock r) e =
      let h = both (eqb s 3) (up_to 1 b.numbers r) e in
      (omega (arith, eqb-true s 3 h.0), omega (arith, up_to-true 1 b.numbers r h.1, L.few))
  why-fits Number e = (omega (arith, eqb-true s 3 e), tt)

due-short : (b : Book) → Limits b → Dues b → (p : ℕ) → Known p → Short (at b p).due
due-short b L D p P = go (ℕ_discrete (at b p).due 0)
  where
    go : Dec ((at b p).due ≡ 0) → Short (at b p).due
    go (yes e) = omega arith
    go (no n) = omega (arith, D.near p P n, L.time)

readable : (b : Book) → Names b → Zeros b → Whys b → Limits b → Dues b → (p : ℕ) → Known p → (at b p).used ≡ true → Readable p (at b p)
readable b N Z W L D p P u =
    let w = why-fits b L p (at b p).state (at b p).why (W.fitting p P) in
    record {
      known = P;
      used = u;
      name = N.lawful p P u;
      priority = omega (arith, L.priority p P);
      state = w.0;
      why = w.1;
      due = due-short b L D p P;
      interval = omega (arith, D.steps p P);
      timeless = Z.timeless p P;
    }

-- ONE RECORD
abbrev read : Option (List ℕ) → Option ℕ → Option ℕ → Option Why → Option ℕ → Option ℕ → Bool → Program
read name priority state why due interval mark = record {
  used = true;
  name = otherwise [] name;
  priority = otherwise 0 priority;
  state = otherwise 0 state;
  why = otherwise Nothing why;
  due = otherwise 0 due;
  interval = otherwise 0 interval;
  suspend = mark;
}

reason-clean : (w : Why) → count 10 (reason w) ≡ 0
unfolding same
reason-clean Nothing = refl
reason-clean (Tracks n) = count-append 10 (text tracks_word) (decimal n) ∙ omega (arith, decimal-only 10 n (λ l. absurd (omega arith)))
reason-clean (Son k) = count-append 10 (text son_word) (decimal k) ∙ omega (arith, decimal-only 10 k (λ l. absurd (omega arith)))
reason-clean (Lock r) = count-append 10 (text lock_word) (decimal r) ∙ omega (arith, decimal-only 10 r (λ l. absurd (omega arith)))
reason-clean Number = refl

module _ (p : ℕ) (r : Program) (K : Readable p r) where
  due-back : figure_or_dash (or_dash (ltb 0 r.due) r.due) ≡ some r.due
  due-back = dash-back (ltb 0 r.due) r.due K.due (λ e. omega (arith, ltb-false 0 r.due e))

  interval-back : figure_or_dash (or_dash (ltb 0 r.due) r.interval) ≡ some r.interval
  interval-back = dash-back (ltb 0 r.due) r.interval K.interval (λ e. K.timeless (omega (arith, ltb-false 0 r.due e)))

  record-clean : Clean (recorded p r)
  unfolding same
  record-clean =
      clean-more (figure-clean (text id_key) refl p)
      (clean-more (clean_line (text name_key) (bare r.name) refl (name-clean r.name K.name))
      (clean-more (figure-clean (text priority_key) refl r.priority)
      (clean-more (figure-clean (text state_key) refl r.state)
      (clean-more (clean_line (text why_key) (reason r.why) refl (reason-clean r.why))
      (clean-more (clean_line (text due_key) (or_dash (ltb 0 r.due) r.due) refl
      (dash-only 10 (ltb 0 r.due) r.due (λ l. absurd (omega arith)) refl))
      (clean-more (clean_line (text interval_key) (or_dash (ltb 0 r.due) r.interval) refl
      (dash-only 10 (ltb 0 r.due) r.interval (λ l. absurd (omega arith)) refl)) (mark-clean r.suspend)))))))

  record-good : (n : ℕ) (rs : List (List ℕ)) → marked_by rs ≡ false → Good (records_ahead n) rs
      → Good (records_ahead (suc n)) (told (recorded p r) rs)
  record-good n rs u g =
      record-step (decimal p) (figure-there p (omega (arith, K.known)))
      (record-step (bare r.name) (ap there (name_back r.name K.name))
      (record-step (decimal r.priority) (figure-there r.priority K.priority)
      (record-step (decimal r.state) (figure-there r.state K.state)
      (record-step (reason r.why) (ap there (reason-back r.why K.why))
      (record-step (or_dash (ltb 0 r.due) r.due) (ap there due-back)
      (record-step (or_dash (ltb 0 r.due) r.interval) (ap there interval-back)
      (mark-good r.suspend n rs u g)))))))

  read_back : read (name_of (bare r.name)) (figure (decimal r.priority)) (figure (decimal r.state)) (reason_of (reason r.why))
      (figure_or_dash (or_dash (ltb 0 r.due) r.due)) (figure_or_dash (or_dash (ltb 0 r.due) r.interval)) r.suspend ≡ r
  read_back =
      ap₂ (λ (x : Option (List ℕ)) (y : Option ℕ). read x y (figure (decimal r.state)) (reason_of (reason r.why))
      (figure_or_dash (or_dash (ltb 0 r.due) r.due)) (figure_or_dash (or_dash (ltb 0 r.due) r.interval)) r.suspend)
      (name_back r.name K.name) (figure-decimal r.priority K.priority)
      ∙ ap₂ (λ (x : Option ℕ) (y : Option Why). read (some r.name) (some r.priority) x y
      (figure_or_dash (or_dash (ltb 0 r.due) r.due)) (figure_or_dash (or_dash (ltb 0 r.due) r.interval)) r.suspend)
      (figure-decimal r.state K.state) (reason-back r.why K.why)
      ∙ ap₂ (λ (x y : Option ℕ). read (some r.name) (some r.priority) (some r.state) (some r.why) x y r.suspend)
      due-back interval-back
      ∙ (let u = K.used in λ i. record {
        used = sym u i;
        name = r.name;
        priority = r.priority;
        state = r.state;
        why = r.why;
        due = r.due;
        interval = r.interval;
        suspend = r.suspend;
      })

  record-said : (n : ℕ) (a : State lists) (rs : List (List ℕ)) → marked_by rs ≡ false
      → records_said (suc n) a (told (recorded p r) rs) ≡ records_said n (with_record p r a) rs
  unfolding records_said value_of value_behind behind
  record-said n a rs u =
      let (e, f) = mark-told r.suspend rs u in
      let rest : List (List ℕ) = told (mark_line r.suspend) rs in
      ap (λ (m : Bool). records_said n (with_record (otherwise 0 (figure (decimal p))) (read (name_of (bare r.name))
      (figure (decimal r.priority)) (figure (decimal r.state)) (reason_of (reason r.why))
      (figure_or_dash (or_dash (ltb 0 r.due) r.due)) (figure_or_dash (or_dash (ltb 0 r.due) r.interval)) m) a)
      (drop (hit m) rest)) e
      ∙ (λ i. records_said n (with_record (otherwise 0 (figure-decimal p (omega (arith, K.known)) i)) (read_back i) a) (f i))

-- ALL OF THEM
-- the state with other programs
abbrev pub with_programs : List Program → State lists → State lists
with_programs qs a = on_book (λ b. altered b qs b.clock b.holders b.resources) a

module _ (ps : List Program) where
  abbrev lines_of : List ℕ → List Line
  lines_of c = join (map (λ p. recorded p (record_at ps p)) c)

  abbrev Each : List ℕ → Type 0
  Each c = (p : ℕ) → 1 ≤ count p c → Readable p (record_at ps p)

  first_of : (p : ℕ) (c : List ℕ) → Each (p ∷ c) → Readable p (record_at ps p)
  first_of p c R = R p (omega (arith, same_refl p))

  others-of : (p : ℕ) (c : List ℕ) → Each (p ∷ c) → Each c
  others-of p c R q h = R q (omega arith)

  each-clean : (c : List ℕ) → Each c → Clean (lines_of c)
  each-clean [] R = clean-none
  each-clean (p ∷ c) R = clean-append (record-clean p (record_at ps p) (first_of p c R)) (each-clean c (others-of p c R))

  -- what stands behind a record begins with an id, or is what stands behind all of them: no mark
  next-unmarked : (c : List ℕ) (rs : List (List ℕ)) → marked_by rs ≡ false → marked_by (told (lines_of c) rs) ≡ false
  unfolding value_behind behind
  next-unmarked [] rs u = u
  next-unmarked (p ∷ c) rs u = refl

  next-told : (p : ℕ) (c : List ℕ) (rs : List (List ℕ))
      → told (lines_of (p ∷ c)) rs ≡ told (recorded p (record_at ps p)) (told (lines_of c) rs)
  next-told p c rs = told-append (recorded p (record_at ps p)) (lines_of c) rs

  each-good : (c : List ℕ) → Each c → (rs : List (List ℕ)) → marked_by rs ≡ false → Good (records_ahead 0) rs
      → Good (records_ahead (length c)) (told (lines_of c) rs)
  each-good [] R rs u g = g
  each-good (p ∷ c) R rs u g =
      subst (Good (records_ahead (suc (length c)))) (sym (next-told p c rs))
      (record-good p (record_at ps p) (first_of p c R) (length c) (told (lines_of c) rs) (next-unmarked c rs u)
      (each-good c (others-of p c R) rs u g))

  put-with : (p : ℕ) → Known p → (r : Program) (qs : List Program) (a : State lists)
      → with_record p r (with_programs qs a) ≡ with_programs (set qs (p - 1) r) a
  put-with p P r qs a =
      ap (λ (t : Bool). record { book = cond t (with_programs (set qs (p - 1) r) a).book (with_programs qs a).book; kept = a.kept })
      (known_is p P)

  each-said : (c : List ℕ) → Each c → (qs : List Program) (a : State lists) (rs : List (List ℕ)) → marked_by rs ≡ false
      → records_said (length c) (with_programs qs a) (told (lines_of c) rs)
      ≡ chains_said chained (with_programs (copied missing (λ r. false) ps c qs) a) rs
  unfolding records_said
  each-said [] R qs a rs u = refl
  each-said (p ∷ c) R qs a rs u =
      let K = first_of p c R in
      ap (records_said (suc (length c)) (with_programs qs a)) (next-told p c rs)
      ∙ record-said p (record_at ps p) K (length c) (with_programs qs a) (told (lines_of c) rs) (next-unmarked c rs u)
      ∙ ap (λ (x : State lists). records_said (length c) x (told (lines_of c) rs)) (put-with p K.known (record_at ps p) qs a)
      ∙ each-said c (others-of p c R) (set qs (p - 1) (record_at ps p)) a rs u

-- the used ones of a sound book, put into unused ones
module _ (b : Book) (l : length b.programs ≡ 32) (N : Names b) (Z : Zeros b) (W : Whys b) (L : Limits b) (D : Dues b) where
  used-each : Each b.programs (used_in b.programs)
  unfolding used_in
  used-each p h =
      let k = keep-in (λ q. (record_at b.programs q).used) p all h in
      readable b N Z W L D p (all_in p k.1) k.0

  not-used : (p : ℕ) → Known p → count p (used_in b.programs) ≡ 0 → (at b p).used ≡ false
  unfolding used_in
  not-used p P h = go (at b p).used (count-keep (λ q. (record_at b.programs q).used) p all)
    where
      go : (t : Bool) → count p (keep (λ q. (record_at b.programs q).used) all) ≡ cond t (count p all) 0 → t ≡ false
      go true e = absurd (omega (arith, all_one p P))
      go false e = refl

  used-copies : Copies missing (λ r. false) b.programs (used_in b.programs) (replicate 32 unused)
  used-copies = record {
    long = length-replicate 32 unused ∙ sym l;
    left = λ j h k.
        let P : Known (suc j) = (omega arith, omega arith) in
        let e : suc j - 1 ≡ j = omega arith in
        get_or-replicate 32 j unused missing (omega arith) ∙ sym (Z.empty (suc j) P (not-used (suc j) P k))
        ∙ ap (λ (i : ℕ). get_or b.programs i missing) e;
    skipped = λ j h k. false-true k;
  }

  pub records-clean : Clean (record_lines b.programs)
  unfolding record_lines
  records-clean = each-clean b.programs (used_in b.programs) used-each

  pub records-good : (rs : List (List ℕ)) → marked_by rs ≡ false → Good (records_ahead 0) rs
      → Good (records_ahead (length (used_in b.programs))) (told (record_lines b.programs) rs)
  unfolding record_lines
  records-good = each-good b.programs (used_in b.programs) used-each

  pub records-said : (a : State lists) (rs : List (List ℕ)) → marked_by rs ≡ false
      → records_said (length (used_in b.programs)) (with_programs (replicate 32 unused) a) (told (record_lines b.programs) rs)
      ≡ chains_said chained (with_programs b.programs a) rs
  unfolding record_lines
  records-said a rs u =
      each-said b.programs (used_in b.programs) used-each (replicate 32 unused) a rs u
      ∙ ap (λ (qs : List Program). chains_said chained (with_programs qs a) rs)
      (copies-all missing (λ r. false) b.programs (used_in b.programs) (replicate 32 unused) used-copies)
