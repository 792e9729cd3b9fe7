-- What a turn comes to, by the way it went: a line without a key; the next line of the copy with a key; no line ahead; a counterpart that
-- is counted off.
-- Assumes nothing.
use Prim.Native.Nat.{ℕ, ◌+◌, ◌-◌, ◌<◌}
use native.Mathlib.Omega.{arith}
use mathlib.Core.Path.{◌≡◌, refl, sym, ap, ap₂, subst, ◌∙◌}
use mathlib.Core.Bool.{true, false}
use mathlib.Core.List.{List, [], ◌∷◌, ◌++◌}
use mathlib.Core.Option.{Option, none, some}
use lib.ListN.{length, take, drop}
use lib.Seq.{slice}
use Rattle.text.specs.Inner.{PartEnd}
use Rattle.std.specs.Prelude.{None}
use Rattle.transcripts.specs.Inner.{at_span}
use Rattle.transcripts.specs.declared.listing.Held.{Held}
use Rattle.transcripts.specs.declared.listing.Turn.{Turn}
use Rattle.transcripts.specs.Transcripts.{Line, key_of, has_key}
use Rattle.transcripts.specs.Listing.{counterpart_of, differs, begin_of}
use Rattle.transcripts.specs.Promises.{StandsIn}
use Rattle.transcripts.specs.Inner.{lines_from, line_at, span_of, first_keyed, on_keys, keys_in, occurrences, behind_others, OnWay}
use Rattle.transcripts.specs.Inner.{held_at, Tells, Turned, KeyedLine, TakesTurn, TurnedApart}
use Rattle.transcripts.proofs.LineLaws.{part-taken, span_is}
use Rattle.transcripts.proofs.KeyLaws.{key-is}
use Rattle.transcripts.proofs.OccurrenceLaws.{count_none}
use Rattle.transcripts.proofs.Standing.{OneStands, first-stands, behind-stands, held-is}
use Rattle.transcripts.proofs.WayLaws.{counterpart-behind, stays, none-since, steps, passes}
use Rattle.transcripts.proofs.WayLaws.{FirstIn, first-in, first-behind, keys-append}

-- a line at a place
pub record Found (y : Option Line) (a f : ℕ) : Type 0 where
  pub line : Line
  pub is : y ≡ some line
  pub begins : line.begins ≡ a
  pub ends : line.ends ≡ f

at-place : (y : Option Line) (a f : ℕ) → at_span a f ≡ span_of y → Found y a f
at-place none a f e = let z : ◌≡◌ {A = ℕ} 0 1 = cc in absurd (omega arith)
at-place (some x) a f e = record { line = x; is = refl; begins = (span_is e).0; ends = (span_is e).1 }

-- a turn, with its end and its places as they are called
turned_as : (o c : List ℕ) (at : ℕ) (before : List Line) (r : Turn) (e base other : ℕ) → r.end ≡ e → r.base ≡ base → r.other ≡ other
    → Tells c before (line_at o at e) r (key_of (slice at e o)) → OnWay o c (e + 1) base other (before ++ (line_at o at e ∷ []))
    → Turned o c at before r
turned_as o c at before r e base other i j k t w = record {
  tells = subst (λ (n : ℕ). Tells c before (line_at o at n) r (key_of (slice at n o))) (sym i) t;
  onward =
      subst (λ (n : ℕ). OnWay o c (n + 1) r.base r.other (before ++ (line_at o at n ∷ []))) (sym i)
      (subst (λ (n : ℕ). OnWay o c (e + 1) n r.other (before ++ (line_at o at e ∷ []))) (sym j)
      (subst (λ (n : ℕ). OnWay o c (e + 1) base n (before ++ (line_at o at e ∷ []))) (sym k) w));
}

-- a line without a key
module _ (o c : List ℕ) (at base other e : ℕ) (h : at < length o) (p : PartEnd 10 o at e) (none-there : key_of (slice at e o) ≡ none) where
  silent : (before : List Line) (r : Turn) → r.listed ≡ false → Tells c before (line_at o at e) r (key_of (slice at e o))
  silent before r f = subst (Tells c before (line_at o at e) r) (sym none-there) f

  pub keyless-here : base ≡ at → TakesTurn o c at base other (record { end = e; listed = false; begins = 0; base = e + 1; other = other })
  keyless-here b = record {
    end = p;
    right = λ before w. record {
      tells = silent before (record { end = e; listed = false; begins = 0; base = e + 1; other = other }) refl;
      onward = steps w e h p b [] other refl (ap (λ (k : Option (List ℕ)). on_keys k []) none-there);
    };
  }

  pub keyless : TakesTurn o c at base other (record { end = e; listed = false; begins = 0; base = base; other = other })
  keyless = record { end = p; right = λ before w. record { tells = silent before (record { end = e; listed = false; begins = 0; base = base; other = other }) refl; onward = stays w e h p } }

-- a line with one
module _ (o c : List ℕ) (at e : ℕ) (key : List ℕ) (l : KeyedLine o at e key) (other : ℕ) where
  abbrev h : at < length o
  h = l.begins

  abbrev p : PartEnd 10 o at e
  p = l.ends

  told : (before : List Line) (r : Turn) (y : Option Line) → counterpart_of c before key ≡ y
      → ◌≡◌ {A = Held} (record { listed = r.listed; begins = r.begins })
      (record { listed = differs (line_at o at e) y; begins = begin_of c y })
      → Tells c before (line_at o at e) r (key_of (slice at e o))
  told before r y k g =
      subst (Tells c before (line_at o at e) r) (sym l.key) (
        ap (λ (x : Held). x.listed) g ∙ ap (differs (line_at o at e)) (sym k),
        ap (λ (x : Held). x.begins) g ∙ ap (begin_of c) (sym k),
      )

  pub apart : (base : ℕ) (r : Turn) → TurnedApart o c at e key base other r → TakesTurn o c at base other r
  apart base r t = record {
    end = subst (PartEnd 10 o at) (sym t.ends) p;
    right = λ before w. turned_as o c at before r e base other t.ends t.based t.others (tells before w) (stays w e h p);
  }
    where
      tells : (before : List Line) → OnWay o c at base other before → Tells c before (line_at o at e) r (key_of (slice at e o))
      tells before w =
          let y : Option Line = behind_others key (occurrences key w.since) (lines_from c other) in
          told before r y (counterpart-behind w key)
          (t.held w.since w.between
          ∙ held-is c (line_at o at e) y (behind-stands c key (occurrences key w.since) other))

  -- the places are here: its counterpart is the first ahead with its key
  first-ahead : (before : List Line) → OnWay o c at at other before → counterpart_of c before key ≡ behind_others key 0 (lines_from c other)
  first-ahead before w =
      counterpart-behind w key
      ∙ ap (λ (i : ℕ). behind_others key i (lines_from c other)) (ap (occurrences key) (none-since w e h p refl) ∙ count_none key)

  -- it has none ahead
  pub missing-one : None ≡ span_of (behind_others key 0 (lines_from c other))
      → TakesTurn o c at at other (record { end = e; listed = true; begins = length c; base = e + 1; other = other })
  missing-one s = record {
    end = p;
    right = λ before w. record {
      tells = told before (record { end = e; listed = true; begins = length c; base = e + 1; other = other }) none (first-ahead before w ∙ gone) refl;
      onward = passes w e h p refl key l.key gone;
    };
  }
    where
      nowhere : (y : Option Line) → None ≡ span_of y → y ≡ none
      nowhere none q = refl
      nowhere (some y) q = let z : ◌≡◌ {A = ℕ} 0 1 = cc in absurd (omega arith)

      gone : behind_others key 0 (lines_from c other) ≡ none
      gone = nowhere (behind_others key 0 (lines_from c other)) s

  -- it is the next line of the copy with a key
  module _ (a f : ℕ) (s : at_span a f ≡ span_of (first_keyed (lines_from c other))) (k : true ≡ has_key key (take (f - a) (drop a c))) where
    placed : Found (first_keyed (lines_from c other)) a f
    placed = at-place (first_keyed (lines_from c other)) a f s

    abbrev y : Line
    y = placed.line

    stands : StandsIn c y
    stands = subst (OneStands c) placed.is (first-stands c other)

    has : has_key key y.bytes ≡ true
    has =
        ap (has_key key) (stands.bytes ∙ ap₂ (λ (i j : ℕ). slice i j c) placed.begins placed.ends
        ∙ sym (part-taken c a f (omega (arith, stands.low, placed.begins, placed.ends))))
        ∙ sym k

    first : FirstIn c (lines_from c other) y
    first = first-in c other y placed.is

    same_keys : keys_in (line_at o at e ∷ []) ≡ keys_in (first.passed ++ (y ∷ []))
    same_keys =
        ap (λ (j : Option (List ℕ)). on_keys j []) (l.key ∙ sym (key-is key y.bytes has))
        ∙ sym (keys-append first.passed (y ∷ []) ∙ ap (λ (ks : List (List ℕ)). ks ++ keys_in (y ∷ [])) first.keyless)

    on-to : lines_from c other ≡ (first.passed ++ (y ∷ [])) ++ lines_from c (f + 1)
    on-to = first.split ∙ ap (λ (i : ℕ). (first.passed ++ (y ∷ [])) ++ lines_from c (i + 1)) placed.ends

    its : (before : List Line) → OnWay o c at at other before → counterpart_of c before key ≡ some y
    its before w = first-ahead before w ∙ first-behind key (lines_from c other) y placed.is has

    pub next_one : (r : Held) → r ≡ held_at (slice at e o) c (at_span a f)
        → TakesTurn o c at at other (record { end = e; listed = r.listed; begins = r.begins; base = e + 1; other = f + 1 })
    next_one r g = record {
      end = p;
      right = λ before w. record {
        tells = told before (record { end = e; listed = r.listed; begins = r.begins; base = e + 1; other = f + 1 }) (some y) (its before w)
            (g ∙ ap₂ (λ (i j : ℕ). held_at (slice at e o) c (at_span i j)) (sym placed.begins) (sym placed.ends)
            ∙ held-is c (line_at o at e) (some y) stands);
        onward = steps w e h p refl (first.passed ++ (y ∷ [])) (f + 1) on-to same_keys;
      };
    }
