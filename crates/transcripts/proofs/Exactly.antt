-- What is listed is exactly the lines that differ or have no counterpart, each once, upward; nothing is listed exactly where every line
-- with a key has a counterpart with its bytes; and of a text against itself nothing is. The lines are gone through with those before them.
-- Assumes nothing.
use Prim.Native.Nat.{ℕ, suc, ◌+◌, ◌≤◌, ◌<◌}
use native.Mathlib.Omega.{arith}
use mathlib.Core.Path.{◌≡◌, refl, sym, ap, subst, ◌∙◌}
use mathlib.Core.Bool.{Bool, true, false, cond, not}
use mathlib.Core.List.{List, [], ◌∷◌, ◌++◌, map, append-nil, append_assoc}
use mathlib.Core.Option.{Option, none, some}
use lib.ListN.{length, length-append}
use Rattle.lists.specs.Lists.{alike, count, Ascending}
use Rattle.lists.proofs.Laws.{same_refl, among}
use Rattle.lists.proofs.Tests.{false-true, alike-true, alike_refl, alike_is}
use Rattle.text.proofs.Fields.{alike-not}
use Rattle.transcripts.specs.Transcripts.{Line, lines_in, key_of}
use Rattle.transcripts.specs.Listing.{counterpart_of, differs, Listed, listed_behind, listed_lines, numbers_listed}
use Rattle.transcripts.specs.Promises.{Unlike, missing, other, Differs, ListsExactly, AllAlike}
use Rattle.transcripts.specs.Inner.{occurrences, behind_others}
use Rattle.transcripts.proofs.KeyLaws.{has_some}
use Rattle.transcripts.proofs.OccurrenceLaws.{behind-hit, behind-append}
use Rattle.transcripts.proofs.WayLaws.{counted-from}
use Rattle.transcripts.proofs.FillLaws.{headed, by_key, no_more}

-- the numbers of some listed lines
abbrev numbers : List Listed → List ℕ
numbers ds = map (λ (d : Listed). d.number) ds

-- a line that differs, in the definition's words and in the theorem's
unlike-is : (x : Line) (y : Option Line) → differs x y ≡ true → Unlike x y
unlike-is x none e = missing refl
unlike-is x (some y) e = other y refl (λ q. clash (alike x.bytes y.bytes) e (alike_is x.bytes y.bytes q))
  where
    clash : {A : Type 0} (b : Bool) → not b ≡ true → b ≡ true → A
    clash true n t = false-true n
    clash false n t = false-true t

is-unlike : (x : Line) (y : Option Line) → Unlike x y → differs x y ≡ true
is-unlike x y (missing e) = ap (differs x) e
is-unlike x y (other z e n) = ap (differs x) e ∙ ap not (alike-not x.bytes z.bytes n)

alike-is-not : (x : Line) (y : Option Line) → differs x y ≡ false → (z : Line) × (y ≡ some z) × (x.bytes ≡ z.bytes)
alike-is-not x none e = false-true (sym e)
alike-is-not x (some z) e = (z, refl, alike-true x.bytes z.bytes (back (alike x.bytes z.bytes) e))
  where
    back : (b : Bool) → not b ≡ false → b ≡ true
    back true n = refl
    back false n = false-true (sym n)

module _ (o c : List ℕ) where
  -- where the lines behind `before` are gone through
  record At (before xs : List Line) : Type 0 where
    whole : lines_in o ≡ before ++ xs

  on : (before : List Line) (x : Line) (xs : List Line) → At before (x ∷ xs) → At (before ++ (x ∷ [])) xs
  on before x xs a = record { whole = a.whole ∙ sym (append_assoc before (x ∷ []) xs) }

  -- the line of a listed number, in front of what was so behind it
  found : (before : List Line) (x : Line) (xs : List Line) → At before (x ∷ xs) → (k : List ℕ) → key_of x.bytes ≡ some k
      → differs x (counterpart_of c before k) ≡ true → Differs o c (suc (length before))
  found before x xs a k e d = record {
    before = before;
    line = x;
    there = record { after = xs; whole = a.whole };
    number = refl;
    key = k;
    has = e;
    unlike = unlike-is x (counterpart_of c before k) d;
  }

  only-these : (xs before : List Line) → At before xs → (n : ℕ) → 1 ≤ count n (numbers (listed_behind c before xs)) → Differs o c n
  only-these [] before a n h = absurd (omega (arith, ap (λ (ds : List Listed). count n (numbers ds)) (no_more c before)))
  only-these (x ∷ xs) before a n h =
      go (key_of x.bytes) refl (rw (by_key c before x xs) at h) (only-these xs (before ++ (x ∷ [])) (on before x xs a) n)
    where
      pick : (k : List ℕ) → key_of x.bytes ≡ some k → (b : Bool) → differs x (counterpart_of c before k) ≡ b
          → 1 ≤ count n (numbers (cond b (record { number = suc (length before); line = x; counterpart = counterpart_of c before k }
          ∷ listed_behind c (before ++ (x ∷ [])) xs) (listed_behind c (before ++ (x ∷ [])) xs)))
          → (1 ≤ count n (numbers (listed_behind c (before ++ (x ∷ [])) xs)) → Differs o c n) → Differs o c n
      pick k e false d l ih = ih l
      pick k e true d l ih =
          among (Differs o c) (suc (length before)) n (numbers (listed_behind c (before ++ (x ∷ [])) xs)) (found before x xs a k e d) ih l

      go : (k : Option (List ℕ)) → key_of x.bytes ≡ k → 1 ≤ count n (numbers (headed c before x xs k))
          → (1 ≤ count n (numbers (listed_behind c (before ++ (x ∷ [])) xs)) → Differs o c n) → Differs o c n
      go none e l ih = ih l
      go (some k) e l ih = pick k e (differs x (counterpart_of c before k)) refl l ih

  -- a number stays listed with a line in front
  behind-still : (x : Line) (xs before : List Line) (n : ℕ) → 1 ≤ count n (numbers (listed_behind c (before ++ (x ∷ [])) xs))
      → 1 ≤ count n (numbers (listed_behind c before (x ∷ xs)))
  behind-still x xs before n h = rw (by_key c before x xs) (go (key_of x.bytes))
    where
      pick : (d : Listed) (b : Bool)
          → 1 ≤ count n (numbers (cond b (d ∷ listed_behind c (before ++ (x ∷ [])) xs) (listed_behind c (before ++ (x ∷ [])) xs)))
      pick d true = omega arith
      pick d false = h

      go : (k : Option (List ℕ)) → 1 ≤ count n (numbers (headed c before x xs k))
      go none = h
      go (some k) =
          pick (record { number = suc (length before); line = x; counterpart = counterpart_of c before k })
          (differs x (counterpart_of c before k))

  -- a line that differs is listed
  listed_here : (x : Line) (xs before : List Line) (k : List ℕ) → key_of x.bytes ≡ some k → differs x (counterpart_of c before k) ≡ true
      → 1 ≤ count (suc (length before)) (numbers (listed_behind c before (x ∷ xs)))
  listed_here x xs before k e d =
      let n : ℕ = suc (length before) in
      let item : Listed = record { number = n; line = x; counterpart = counterpart_of c before k } in
      let rest : List Listed = listed_behind c (before ++ (x ∷ [])) xs in
      let is = by_key c before x xs ∙ ap (headed c before x xs) e ∙ ap (λ (b : Bool). cond b (item ∷ rest) rest) d in
      omega (arith, ap (λ (ds : List Listed). count n (numbers ds)) is, same_refl n)

  listed-there : (mid before after : List Line) (x : Line) (k : List ℕ) → key_of x.bytes ≡ some k
      → differs x (counterpart_of c (before ++ mid) k) ≡ true
      → 1 ≤ count (suc (length (before ++ mid))) (numbers (listed_behind c before (mid ++ (x ∷ after))))
  listed-there [] before after x k e d =
      let same : before ++ [] ≡ before = append-nil before in
      rw same (listed_here x after before k e (rw same at d))
  listed-there (m ∷ mid) before after x k e d =
      let same : before ++ (m ∷ mid) ≡ (before ++ (m ∷ [])) ++ mid = sym (append_assoc before (m ∷ []) mid) in
      rw same (behind-still m (mid ++ (x ∷ after)) before _ (listed-there mid (before ++ (m ∷ [])) after x k e (rw same at d)))

  -- what is listed behind some lines has a higher number than these
  numbers-above : (xs before : List Line) (n : ℕ) → 1 ≤ count n (numbers (listed_behind c before xs)) → length before < n
  numbers-above [] before n h = absurd (omega (arith, ap (λ (ds : List Listed). count n (numbers ds)) (no_more c before)))
  numbers-above (x ∷ xs) before n h =
      go (key_of x.bytes) (rw (by_key c before x xs) at h) (λ l. higher (numbers-above xs (before ++ (x ∷ [])) n l))
    where
      higher : length (before ++ (x ∷ [])) < n → length before < n
      higher l = omega (arith, length-append before (x ∷ []))

      pick : (d : Listed) (b : Bool) → d.number ≡ suc (length before)
          → 1 ≤ count n (numbers (cond b (d ∷ listed_behind c (before ++ (x ∷ [])) xs) (listed_behind c (before ++ (x ∷ [])) xs)))
          → (1 ≤ count n (numbers (listed_behind c (before ++ (x ∷ [])) xs)) → length before < n) → length before < n
      pick d true e l ih =
          among (λ (m : ℕ). length before < m) d.number n (numbers (listed_behind c (before ++ (x ∷ [])) xs)) (omega (arith, e)) ih l
      pick d false e l ih = ih l

      go : (k : Option (List ℕ)) → 1 ≤ count n (numbers (headed c before x xs k))
          → (1 ≤ count n (numbers (listed_behind c (before ++ (x ∷ [])) xs)) → length before < n) → length before < n
      go none l ih = ih l
      go (some k) l ih =
          pick (record { number = suc (length before); line = x; counterpart = counterpart_of c before k })
          (differs x (counterpart_of c before k)) refl l ih

  rising : (xs before : List Line) → Ascending (λ m n. m < n) (numbers (listed_behind c before xs))
  rising [] before = subst (λ (ds : List Listed). Ascending (λ m n. m < n) (numbers ds)) (sym (no_more c before)) tt
  rising (x ∷ xs) before =
      subst (λ (ds : List Listed). Ascending (λ m n. m < n) (numbers ds)) (sym (by_key c before x xs))
      (go (key_of x.bytes) (rising xs (before ++ (x ∷ []))))
    where
      pick : (y : Option Line) (b : Bool) → Ascending (λ m n. m < n) (numbers (listed_behind c (before ++ (x ∷ [])) xs))
          → Ascending (λ m n. m < n) (numbers (cond b (record { number = suc (length before); line = x; counterpart = y }
          ∷ listed_behind c (before ++ (x ∷ [])) xs) (listed_behind c (before ++ (x ∷ [])) xs)))
      pick y true r = (
        λ n h. omega (arith, numbers-above xs (before ++ (x ∷ [])) n h, length-append before (x ∷ [])),
        r,
      )
      pick y false r = r

      go : (k : Option (List ℕ)) → Ascending (λ m n. m < n) (numbers (listed_behind c (before ++ (x ∷ [])) xs))
          → Ascending (λ m n. m < n) (numbers (headed c before x xs k))
      go none r = r
      go (some k) r = pick (counterpart_of c before k) (differs x (counterpart_of c before k)) r

  all-these : (n : ℕ) → Differs o c n → 1 ≤ count n (numbers (listed_lines o c))
  unfolding listed_lines
  all-these n d =
      let h = listed-there d.before [] d.there.after d.line d.key d.has (is-unlike d.line _ d.unlike) in
      rw d.number (rw d.there.whole h)

  pub lists-exactly : ListsExactly o c
  unfolding listed_lines
  lists-exactly = record {
    only = λ n h. only-these (lines_in o) [] (record { whole = refl }) n h;
    all = all-these;
    upward = rising (lines_in o) [];
  }

  pub none-listed : numbers_listed o c ≡ [] → AllAlike o c
  none-listed e before x l k h = go (differs x (counterpart_of c before k)) refl
    where
      go : (b : Bool) → differs x (counterpart_of c before k) ≡ b
          → (y : Line) × (counterpart_of c before k ≡ some y) × (x.bytes ≡ y.bytes)
      go false d = alike-is-not x (counterpart_of c before k) d
      go true d =
          let n : ℕ = suc (length before) in
          absurd (omega (arith, all-these n (found before x l.after (record { whole = l.whole }) k h d), ap (count n) e))

  pub all_alike : AllAlike o c → numbers_listed o c ≡ []
  all_alike f = go (numbers_listed o c) refl
    where
      impossible : (n : ℕ) → Differs o c n → ⊥
      impossible n d = against (f d.before d.line d.there d.key d.has) d.unlike
        where
          against : (y : Line) × (counterpart_of c d.before d.key ≡ some y) × (d.line.bytes ≡ y.bytes)
              → Unlike d.line (counterpart_of c d.before d.key) → ⊥
          against p (missing e) = let g = p.1 in let z : ◌≡◌ {A = ℕ} 0 1 = cc in absurd (omega arith)
          against p (other w e n) =
              let g = p.1 in
              let same : p.0 ≡ w = cc in
              n (p.2 ∙ ap (λ (y : Line). y.bytes) same)

      go : (ns : List ℕ) → numbers_listed o c ≡ ns → ns ≡ []
      go [] e = refl
      go (n ∷ ns) e = absurd (impossible n (lists-exactly.only n (omega (arith, ap (count n) e, same_refl n))))

-- a text against itself: each line is its own counterpart
pub itself : (s : List ℕ) → numbers_listed s s ≡ []
unfolding occurrences
itself s = all_alike s s own
  where
    own : AllAlike s s
    own before x l k h = (x, its, refl)
      where
        its : counterpart_of s before k ≡ some x
        its =
            let zero_more : occurrences k before ≡ occurrences k before + 0 = omega arith in
            counted-from k s (occurrences k before)
            ∙ ap (behind_others k (occurrences k before)) l.whole
            ∙ ap (λ (n : ℕ). behind_others k n (before ++ (x ∷ l.after))) zero_more
            ∙ behind-append k 0 before (x ∷ l.after)
            ∙ behind-hit k x l.after (has_some k x.bytes k h ∙ alike_refl k)
