-- A walk over the original, line by line, with a place in the copy: the lines up to there go together, key by key, so what a line's
-- counterpart is can be read off the lines behind these places.
-- Assumes nothing.
use Prim.Native.Nat.{ℕ, suc, ◌+◌, ◌-◌, ◌<◌}
use native.Mathlib.Omega.{arith}
use mathlib.Core.Path.{◌≡◌, refl, sym, ap, ap₂, subst, ◌∙◌}
use mathlib.Core.Bool.{Bool, true, false}
use mathlib.Core.List.{List, [], ◌∷◌, ◌++◌, append-nil, append_assoc}
use mathlib.Core.Option.{Option, none, some}
use lib.ListN.{length, get_elem?}
use lib.Seq.{slice}
use Rattle.lists.specs.Lists.{hit}
use Rattle.text.specs.Inner.{PartEnd}
use Rattle.transcripts.specs.Transcripts.{Line, lines_in, key_of, is_key, has_key, with_key, occurrence}
use Rattle.transcripts.specs.Listing.{counterpart_of}
use Rattle.transcripts.specs.Inner.{lines_from, line_at, first_or, first_keyed, on_keys, keys_in, Between, here, next}
use Rattle.transcripts.specs.Inner.{occurrences, behind_others, Even, even, spent, OnWay}
use Rattle.transcripts.proofs.LineLaws.{from_next, from_start}
use Rattle.transcripts.proofs.KeyLaws.{has-none, has_some, key-is}
use Rattle.transcripts.proofs.OccurrenceLaws.{count_none, count-miss, count-hit, count-append}
use Rattle.transcripts.proofs.OccurrenceLaws.{behind-miss, behind-hit, behind-append}
use Rattle.transcripts.proofs.Standing.{by_lines}

-- the same keys, so as many of each
times_in : List ℕ → List (List ℕ) → ℕ
times_in k [] = 0
times_in k (j ∷ js) = hit (is_key k (some j)) + times_in k js

count-keys : (k : List ℕ) (xs : List Line) → occurrences k xs ≡ times_in k (keys_in xs)
unfolding times_in
count-keys k [] = count_none k
count-keys k (x ∷ xs) = go (key_of x.bytes) refl (count-keys k xs)
  where
    go : (o : Option (List ℕ)) → key_of x.bytes ≡ o → occurrences k xs ≡ times_in k (keys_in xs)
        → occurrences k (x ∷ xs) ≡ times_in k (on_keys o (keys_in xs))
    go none e ih = count-miss k x xs (has-none k x.bytes e) ∙ ih
    go (some j) e ih = test (is_key k (some j)) (has_some k x.bytes j e)
      where
        test : (b : Bool) → has_key k x.bytes ≡ b → occurrences k (x ∷ xs) ≡ hit b + times_in k (keys_in xs)
        test true h = omega (arith, count-hit k x xs h, ih)
        test false h = omega (arith, count-miss k x xs h, ih)

pub same_count : (k : List ℕ) (xs ys : List Line) → keys_in xs ≡ keys_in ys → occurrences k xs ≡ occurrences k ys
same_count k xs ys e = count-keys k xs ∙ ap (times_in k) e ∙ sym (count-keys k ys)

pub keys-append : (xs ys : List Line) → keys_in (xs ++ ys) ≡ keys_in xs ++ keys_in ys
keys-append [] ys = refl
keys-append (x ∷ xs) ys = go (key_of x.bytes) (keys-append xs ys)
  where
    go : (o : Option (List ℕ)) → keys_in (xs ++ ys) ≡ keys_in xs ++ keys_in ys
        → on_keys o (keys_in (xs ++ ys)) ≡ on_keys o (keys_in xs) ++ keys_in ys
    go none e = e
    go (some k) e = ap (λ (ks : List (List ℕ)). k ∷ ks) e

-- where the first is missing, all are
with_none : (k : List ℕ) (xs : List Line) → behind_others k 0 xs ≡ none → with_key k xs ≡ []
unfolding behind_others
with_none k xs e = go (with_key k xs) e
  where
    go : (ys : List Line) → get_elem? ys 0 ≡ none → ys ≡ []
    go [] q = refl
    go (y ∷ ys) q = let z : ◌≡◌ {A = ℕ} 0 1 = cc in absurd (omega arith)

none-all : (k : List ℕ) (n : ℕ) (xs : List Line) → behind_others k 0 xs ≡ none → behind_others k n xs ≡ none
unfolding behind_others
none-all k n xs e = ap (λ (ys : List Line). get_elem? ys n) (with_none k xs e)

none-count : (k : List ℕ) (xs : List Line) → behind_others k 0 xs ≡ none → occurrences k xs ≡ 0
unfolding occurrences
none-count k xs e = ap length (with_none k xs e)

count-zero : (k : List ℕ) (xs : List Line) → occurrences k xs ≡ 0 → behind_others k 0 xs ≡ none
unfolding occurrences behind_others
count-zero k xs e = go (with_key k xs) e
  where
    go : (ys : List Line) → length ys ≡ 0 → get_elem? ys 0 ≡ none
    go [] q = refl
    go (y ∷ ys) q = absurd (omega arith)

-- the line n others with its key stand before, by the definition
pub counted-from : (k s : List ℕ) (n : ℕ) → occurrence k (suc n) (lines_in s) ≡ behind_others k n (lines_in s)
unfolding occurrence behind_others
counted-from k s n = let e : suc n - 1 ≡ n = omega arith in ap (get_elem? (with_key k (lines_in s))) e

module _ {o c : List ℕ} {at base other : ℕ} {before : List Line} (w : OnWay o c at base other before) where
  pub counterpart-behind : (k : List ℕ) → counterpart_of c before k ≡ behind_others k (occurrences k w.since) (lines_from c other)
  unfolding occurrences
  counterpart-behind k = counted-from k c (occurrences k before) ∙ go (w.together k)
    where
      all : occurrences k before ≡ occurrences k w.front + occurrences k w.since
      all = ap (occurrences k) w.split ∙ count-append k w.front w.since

      -- behind those in front in the copy
      past : (d : ℕ) → occurrences k before ≡ occurrences k w.fore + d → behind_others k (occurrences k before) (lines_in c)
          ≡ behind_others k d (lines_from c other)
      past d n = ap₂ (λ (i : ℕ) (xs : List Line). behind_others k i xs) n w.there ∙ behind-append k d w.fore (lines_from c other)

      go : Even k w.front w.fore (lines_from c other)
          → behind_others k (occurrences k before) (lines_in c) ≡ behind_others k (occurrences k w.since) (lines_from c other)
      go (even e) = past (occurrences k w.since) (omega (arith, all, e))
      go (spent h e) =
          past (occurrences k before - occurrences k w.fore) (omega (arith, all, h))
          ∙ none-all k (occurrences k before - occurrences k w.fore) (lines_from c other) e
          ∙ sym (none-all k (occurrences k w.since) (lines_from c other) e)

  module _ (e : ℕ) (h : at < length o) (p : PartEnd 10 o at e) where
    abbrev line : Line
    line = line_at o at e

    further : lines_in o ≡ (before ++ (line ∷ [])) ++ lines_from o (e + 1)
    further =
        w.here ∙ ap (λ (xs : List Line). before ++ xs) (from_next o at e h p)
        ∙ sym (append_assoc before (line ∷ []) (lines_from o (e + 1)))

    -- the line is one of those since the places
    between_more : {from : ℕ} {xs : List Line} → Between o at from xs → Between o (e + 1) from (xs ++ (line ∷ []))
    between_more (here q) =
        subst (λ (i : ℕ). Between o (e + 1) i (line ∷ [])) (sym q)
        (next {at = at} e [] (omega (arith, p.low)) h p (here refl))
    between_more (next {at = i} f ys l m q b) = next {at = i} f (ys ++ (line ∷ [])) (omega (arith, p.low)) m q (between_more b)

    pub stays : OnWay o c (e + 1) base other (before ++ (line ∷ []))
    stays = record {
      here = further;
      front = w.front;
      since = w.since ++ (line ∷ []);
      split = ap (λ (xs : List Line). xs ++ (line ∷ [])) w.split ∙ append_assoc w.front w.since (line ∷ []);
      between = between_more w.between;
      fore = w.fore;
      there = w.there;
      together = w.together;
    }

    -- the places are here: nothing stands since them
    module _ (q : base ≡ at) where
      pub none-since : w.since ≡ []
      none-since = go w.since w.between
        where
          go : (xs : List Line) → Between o at base xs → xs ≡ []
          go xs (here r) = refl
          go xs (next f ys l m r b) = absurd (omega arith)

      all-front : before ≡ w.front
      all-front = w.split ∙ ap (λ (xs : List Line). w.front ++ xs) none-since ∙ append-nil w.front

      -- with the line, the original has so many of a key
      with-line : (k : List ℕ) → occurrences k (before ++ (line ∷ [])) ≡ occurrences k w.front + occurrences k (line ∷ [])
      with-line k = count-append k before (line ∷ []) ∙ ap (λ (xs : List Line). occurrences k xs + occurrences k (line ∷ [])) all-front

      -- on to behind the line, and in the copy to behind lines that go together with it
      moves : (more : List Line) (other' : ℕ) → lines_from c other ≡ more ++ lines_from c other'
          → ((k : List ℕ) → Even k (before ++ (line ∷ [])) (w.fore ++ more) (lines_from c other'))
          → OnWay o c (e + 1) (e + 1) other' (before ++ (line ∷ []))
      moves more other' t g = record {
        here = further;
        front = before ++ (line ∷ []);
        since = [];
        split = sym (append-nil (before ++ (line ∷ [])));
        between = here refl;
        fore = w.fore ++ more;
        there = w.there ∙ ap (λ (xs : List Line). w.fore ++ xs) t ∙ sym (append_assoc w.fore more (lines_from c other'));
        together = g;
      }

      -- lines with the same keys
      pub steps : (more : List Line) (other' : ℕ) → lines_from c other ≡ more ++ lines_from c other' → keys_in (line ∷ []) ≡ keys_in more
          → OnWay o c (e + 1) (e + 1) other' (before ++ (line ∷ []))
      steps more other' t q' = moves more other' t (λ k. go k (w.together k))
        where
          go : (k : List ℕ) → Even k w.front w.fore (lines_from c other)
              → Even k (before ++ (line ∷ [])) (w.fore ++ more) (lines_from c other')
          go k (even r) = even (omega (arith, with-line k, count-append k w.fore more, same_count k (line ∷ []) more q', r))
          go k (spent r n) =
              let none = none-count k (lines_from c other) n in
              let split = ap (occurrences k) t ∙ count-append k more (lines_from c other') in
              spent (omega (arith, with-line k, count-append k w.fore more, same_count k (line ∷ []) more q', r))
              (count-zero k (lines_from c other') (omega (arith, none, split)))

      -- no line, where the copy has none of this key ahead: it will have none for later ones either
      pub passes : (j : List ℕ) → key_of line.bytes ≡ some j → behind_others j 0 (lines_from c other) ≡ none
          → OnWay o c (e + 1) (e + 1) other (before ++ (line ∷ []))
      passes j r n = moves [] other refl (λ k. go k (has_key k line.bytes) refl (w.together k))
        where
          same : (k : List ℕ) → has_key k line.bytes ≡ true → j ≡ k
          same k h = let f : some j ≡ some k = sym r ∙ key-is k line.bytes h in cc

          go : (k : List ℕ) (b : Bool) → has_key k line.bytes ≡ b → Even k w.front w.fore (lines_from c other)
              → Even k (before ++ (line ∷ [])) (w.fore ++ []) (lines_from c other)
          go k true h (even f) =
              spent (omega (arith, with-line k, count-append k w.fore [], count_none k, f))
              (subst (λ (i : List ℕ). behind_others i 0 (lines_from c other) ≡ none) (same k h) n)
          go k true h (spent f m) = spent (omega (arith, with-line k, count-append k w.fore [], count_none k, f)) m
          go k false h (even f) =
              even (omega (arith, with-line k, count-append k w.fore [], count_none k, count-miss k line [] h, f))
          go k false h (spent f m) = spent (omega (arith, with-line k, count-append k w.fore [], count_none k, f)) m

-- at the start
pub way-start : (o c : List ℕ) → OnWay o c 0 0 0 []
way-start o c = record {
  here = from_start o;
  front = [];
  since = [];
  split = refl;
  between = here refl;
  fore = [];
  there = from_start c;
  together = λ k. even refl;
}

-- of the lines up to the first with a key, that one alone has one
pub record FirstIn (s : List ℕ) (xs : List Line) (y : Line) : Type 0 where
  pub passed : List Line
  pub split : xs ≡ (passed ++ (y ∷ [])) ++ lines_from s (y.ends + 1)
  pub keyless : keys_in passed ≡ []

pub first-in : (s : List ℕ) (at : ℕ) (y : Line) → first_keyed (lines_from s at) ≡ some y → FirstIn s (lines_from s at) y
first-in s = by_lines s (λ i xs. (y : Line) → first_keyed xs ≡ some y → FirstIn s xs y)
    (λ i h y e. let z : ◌≡◌ {A = ℕ} 0 1 = cc in absurd (omega arith)) more
  where
    more : (at e : ℕ) → at < length s → PartEnd 10 s at e
        → ((y : Line) → first_keyed (lines_from s (e + 1)) ≡ some y → FirstIn s (lines_from s (e + 1)) y)
        → (y : Line) → first_keyed (line_at s at e ∷ lines_from s (e + 1)) ≡ some y → FirstIn s (line_at s at e ∷ lines_from s (e + 1)) y
    more at e h p ih y f = go (key_of (slice at e s)) refl f
      where
        go : (o : Option (List ℕ)) → key_of (slice at e s) ≡ o → first_or o (line_at s at e) (first_keyed (lines_from s (e + 1))) ≡ some y
            → FirstIn s (line_at s at e ∷ lines_from s (e + 1)) y
        go none q g =
            let i = ih y g in
            record {
              passed = line_at s at e ∷ i.passed;
              split = ap (λ (ls : List Line). line_at s at e ∷ ls) i.split;
              keyless = ap (λ (r : Option (List ℕ)). on_keys r (keys_in i.passed)) q ∙ i.keyless;
            }
        go (some k) q g =
            let same : line_at s at e ≡ y = cc in
            record {
              passed = [];
              split = ap₂ (λ (z : Line) (n : ℕ). z ∷ lines_from s (n + 1)) same (ap (λ (z : Line). z.ends) same);
              keyless = refl;
            }

-- what has the first key is the first with that key
pub first-behind : (k : List ℕ) (xs : List Line) (y : Line) → first_keyed xs ≡ some y → has_key k y.bytes ≡ true
    → behind_others k 0 xs ≡ some y
first-behind k [] y e h = let z : ◌≡◌ {A = ℕ} 0 1 = cc in absurd (omega arith)
first-behind k (x ∷ xs) y e h = go (key_of x.bytes) refl e (first-behind k xs y)
  where
    go : (o : Option (List ℕ)) → key_of x.bytes ≡ o → first_or o x (first_keyed xs) ≡ some y
        → (first_keyed xs ≡ some y → has_key k y.bytes ≡ true → behind_others k 0 xs ≡ some y) → behind_others k 0 (x ∷ xs) ≡ some y
    go none r f ih = behind-miss k x xs 0 (has-none k x.bytes r) ∙ ih f h
    go (some j) r f ih =
        let same : x ≡ y = cc in
        behind-hit k x xs (ap (λ (z : Line). has_key k z.bytes) same ∙ h) ∙ f
