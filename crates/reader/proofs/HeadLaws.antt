-- The head of a page, line by line: the scan over its lines and what they say.
-- Assumes nothing.
use Prim.Native.Nat.{ℕ, suc, ◌+◌, ◌≤◌}
use native.Mathlib.Omega.{arith}
use mathlib.Core.Path.{◌≡◌, refl, ap, ap₂, ◌∙◌}
use mathlib.Core.Bool.{Bool, true}
use mathlib.Core.List.{List, [], ◌∷◌, ◌++◌}
use mathlib.Core.Option.{Option, none, some}
use lib.ListN.{length, take, drop}
use Rattle.limits.specs.Limits.{usual_year}
use Rattle.lists.specs.Lists.{hit}
use Rattle.text.specs.Text.{text, behind}
use Rattle.rules.specs.Keeper.{lists, State}
use Rattle.page.specs.Page.{first_word, page_key, clock_key, year_key, tracks_key, system_key, numbers_key, programs_key}
use Rattle.reader.specs.declared.parts.Year.{Year}
use Rattle.shapes.specs.Shapes.{otherwise, figure}
use Rattle.reader.specs.Order.{Place, opening, heading, first_forms, year_form, size_forms, records_ahead, value_behind, first_bad}
use Rattle.reader.specs.Said.{value_of, figure_of, begins_with, year_said, started, records_said, said}
use Rattle.shapes.specs.Inner.{LineIs, NoLine, unended, keyless, shapeless, word_is}
use Rattle.reader.specs.Walks.{ahead, YearRead, HeadIs}
use Rattle.reader.proofs.ScanLaws.{value-behind}
use Rattle.reader.proofs.LineLaws.{scan-on, scan-off, word-there}
use Rattle.reader.proofs.PerhapsLaws.{there-begins, there-scan, none-begins, none-scan}

-- THE YEAR
year-value : (v : List ℕ) (ls : List (List ℕ)) → year_said ((text year_key ++ (61 ∷ v)) ∷ ls) ≡ otherwise usual_year (figure v)
year-value v ls =
    ap (λ (o : Option (List ℕ)). elim o [ some w ↦ otherwise usual_year (figure w) | none ↦ usual_year ]) (value-behind (text year_key) v)

pub year-on : (s : List ℕ) (g : ℕ) {y h : ℕ} → LineIs figure s g (text year_key) y h → YearRead s g (record { lines = 1; at = h; year = y })
year-on s g {y} {h} l =
    let b = there-begins year_form (heading size_forms) (λ k m. refl) figure (λ v. refl) s g l in
    record {
      few = omega arith;
      beyond = omega (arith, l.beyond);
      within = l.within;
      scan = there-scan year_form (heading size_forms) (λ k m. refl) figure (λ v. refl) s g l;
      says = λ n. (
        ap year_said l.cut ∙ year-value l.value (ahead s h) ∙ ap (otherwise usual_year) l.shaped,
        ap₂ (λ (t : Bool) (x : List (List ℕ)). drop (hit t) x) b l.cut,
      );
    }

year-none : (s : List ℕ) (g : ℕ) → NoLine figure s g (text year_key) → 2 ≤ length (ahead s g) → year_said (ahead s g) ≡ usual_year
unfolding value_behind
year-none s g (unended l e) h = absurd (omega (arith, ap length e))
year-none s g (keyless l next e k) h =
    ap year_said e ∙ ap (λ (o : Option (List ℕ)). elim o [ some w ↦ otherwise usual_year (figure w) | none ↦ usual_year ]) k
year-none s g (shapeless v next e k) h = ap year_said e ∙ year-value v (ahead s next) ∙ ap (otherwise usual_year) k

pub year-off : (s : List ℕ) (g : ℕ) → g ≤ length s → NoLine figure s g (text year_key)
    → YearRead s g (record { lines = 0; at = g; year = usual_year })
year-off s g i l = record {
  few = omega arith;
  beyond = omega arith;
  within = i;
  scan = none-scan year_form (heading size_forms) (λ k m. refl) figure (λ v. refl) s g l;
  says = λ n. (
    year-none s g l n,
    ap (λ (t : Bool). drop (hit t) (ahead s g)) (none-begins year_form (heading size_forms) (λ k m. refl) figure (λ v. refl) s g l n),
  );
}

-- THE LINES
-- the place behind k lines of those before the year, and of those behind it
abbrev behind_first : ℕ → Place
behind_first k = opening (drop k first_forms)

abbrev behind_size : ℕ → Place
behind_size k = heading (drop k size_forms)

-- what lines say, by what their values are: two of them, and then four
abbrev pub started_by : List (List ℕ) → Option ℕ → Option ℕ → Option ℕ → Option ℕ → ℕ → Option ℕ → State lists
started_by rs clock T S R Y n = records_said (otherwise 0 n) (started (otherwise 0 clock) (otherwise 0 T) (otherwise 0 S) (otherwise 0 R) Y) rs

abbrev pub sized_by : Option ℕ → ℕ → List (List ℕ) → State lists
sized_by clock Y ls =
    let own = take 4 ls in
    records_said (figure_of programs_key own)
    (started (otherwise 0 clock) (figure_of tracks_key own) (figure_of system_key own) (figure_of numbers_key own) Y) (drop 4 ls)

pub two : (v₁ v₂ : List ℕ) (rs : List (List ℕ)) → said ((text page_key ++ (61 ∷ v₁)) ∷ (text clock_key ++ (61 ∷ v₂)) ∷ rs)
    ≡ sized_by (figure v₂) (year_said rs) (drop (hit (begins_with year_form rs)) rs)
unfolding said value_of value_behind behind
two v₁ v₂ rs = refl

pub four : (clock : Option ℕ) (Y : ℕ) (v₃ v₄ v₅ v₆ : List ℕ) (rs : List (List ℕ))
    → sized_by clock Y ((text tracks_key ++ (61 ∷ v₃)) ∷ (text system_key ++ (61 ∷ v₄)) ∷ (text numbers_key ++ (61 ∷ v₅))
    ∷ (text programs_key ++ (61 ∷ v₆)) ∷ rs)
    ≡ started_by rs clock (figure v₃) (figure v₄) (figure v₅) Y (figure v₆)
unfolding value_of value_behind behind
four clock Y v₃ v₄ v₅ v₆ rs = refl

module _ (s : List ℕ) (at : ℕ) where
  pub stop-1 : NoLine (word_is (text first_word)) s at (text page_key) → first_bad (behind_first 0) 1 (ahead s at) ≡ 1
  stop-1 l = scan-off (word_is (text first_word)) s at (behind_first 0) _ refl (λ n m. refl) (word-there (text first_word)) l 1

  module _ {a : ℕ} (l1 : LineIs (word_is (text first_word)) s at (text page_key) true a) where
    scan-1 : first_bad (behind_first 0) 1 (ahead s at) ≡ first_bad (behind_first 1) 2 (ahead s a)
    scan-1 = scan-on (word_is (text first_word)) s at (behind_first 0) _ [] refl l1 (word-there (text first_word) l1.value) 1

    pub stop-2 : NoLine figure s a (text clock_key) → first_bad (behind_first 0) 1 (ahead s at) ≡ 2
    stop-2 l = scan-1 ∙ scan-off figure s a (behind_first 1) _ refl (λ n m. refl) (λ v. refl) l 2

    module _ {clock b : ℕ} (l2 : LineIs figure s a (text clock_key) clock b) (y : Year) (ly : YearRead s b y) where
      scan-2 : first_bad (behind_first 0) 1 (ahead s at) ≡ first_bad (behind_size 0) (3 + y.lines) (ahead s y.at)
      scan-2 = scan-1 ∙ scan-on figure s a (behind_first 1) _ [] refl l2 refl 2 ∙ ly.scan 3

      pub stop-3 : NoLine figure s y.at (text tracks_key) → first_bad (behind_first 0) 1 (ahead s at) ≡ 3 + y.lines
      stop-3 l = scan-2 ∙ scan-off figure s y.at (behind_size 0) _ refl (λ n m. refl) (λ v. refl) l (3 + y.lines)

      module _ {T c : ℕ} (l3 : LineIs figure s y.at (text tracks_key) T c) where
        scan-3 : first_bad (behind_first 0) 1 (ahead s at) ≡ first_bad (behind_size 1) (suc (3 + y.lines)) (ahead s c)
        scan-3 = scan-2 ∙ scan-on figure s y.at (behind_size 0) _ [] refl l3 refl (3 + y.lines)

        pub stop-4 : NoLine figure s c (text system_key) → first_bad (behind_first 0) 1 (ahead s at) ≡ suc (3 + y.lines)
        stop-4 l = scan-3 ∙ scan-off figure s c (behind_size 1) _ refl (λ n m. refl) (λ v. refl) l (suc (3 + y.lines))

        module _ {S d : ℕ} (l4 : LineIs figure s c (text system_key) S d) where
          scan-4 : first_bad (behind_first 0) 1 (ahead s at) ≡ first_bad (behind_size 2) (suc (suc (3 + y.lines))) (ahead s d)
          scan-4 = scan-3 ∙ scan-on figure s c (behind_size 1) _ [] refl l4 refl (suc (3 + y.lines))

          pub stop-5 : NoLine figure s d (text numbers_key) → first_bad (behind_first 0) 1 (ahead s at) ≡ suc (suc (3 + y.lines))
          stop-5 l = scan-4 ∙ scan-off figure s d (behind_size 2) _ refl (λ n m. refl) (λ v. refl) l (suc (suc (3 + y.lines)))

          module _ {R e : ℕ} (l5 : LineIs figure s d (text numbers_key) R e) where
            scan-5 : first_bad (behind_first 0) 1 (ahead s at) ≡ first_bad (behind_size 3) (suc (suc (suc (3 + y.lines)))) (ahead s e)
            scan-5 = scan-4 ∙ scan-on figure s d (behind_size 2) _ [] refl l5 refl (suc (suc (3 + y.lines)))

            pub stop-6 : NoLine figure s e (text programs_key) → first_bad (behind_first 0) 1 (ahead s at) ≡ suc (suc (suc (3 + y.lines)))
            stop-6 l = scan-5 ∙ scan-off figure s e (behind_size 3) _ refl (λ n m. refl) (λ v. refl) l (suc (suc (suc (3 + y.lines))))

            module _ {n f : ℕ} (l6 : LineIs figure s e (text programs_key) n f) where
              scan-6 : first_bad (behind_first 0) 1 (ahead s at) ≡ first_bad (records_ahead n) (7 + y.lines) (ahead s f)
              scan-6 =
                  scan-5 ∙ scan-on figure s e (behind_size 3) _ [] refl l6 refl (suc (suc (suc (3 + y.lines))))
                  ∙ ap₂ (λ (o : Option ℕ) (k : ℕ). first_bad (records_ahead (otherwise 0 o)) k (ahead s f)) l6.shaped
                  (let i : suc (suc (suc (suc (3 + y.lines)))) ≡ 7 + y.lines = omega arith in i)

              cut-1 : ahead s at ≡ (text page_key ++ (61 ∷ l1.value)) ∷ (text clock_key ++ (61 ∷ l2.value)) ∷ ahead s b
              cut-1 = l1.cut ∙ ap (λ (x : List (List ℕ)). (text page_key ++ (61 ∷ l1.value)) ∷ x) l2.cut

              cut-3 : ahead s y.at ≡ (text tracks_key ++ (61 ∷ l3.value)) ∷ (text system_key ++ (61 ∷ l4.value))
                  ∷ (text numbers_key ++ (61 ∷ l5.value)) ∷ (text programs_key ++ (61 ∷ l6.value)) ∷ ahead s f
              cut-3 =
                  l3.cut ∙ ap (λ (x : List (List ℕ)). (text tracks_key ++ (61 ∷ l3.value)) ∷ x) (l4.cut
                  ∙ ap (λ (x : List (List ℕ)). (text system_key ++ (61 ∷ l4.value)) ∷ x) (l5.cut
                  ∙ ap (λ (x : List (List ℕ)). (text numbers_key ++ (61 ∷ l5.value)) ∷ x) l6.cut))

              head-says : said (ahead s at) ≡ records_said n (started clock T S R y.year) (ahead s f)
              head-says =
                  let (p, q) = ly.says (omega (arith, ap length cut-3)) in
                  ap said cut-1 ∙ two l1.value l2.value (ahead s b)
                  ∙ (λ i. sized_by (l2.shaped i) (p i) (q i))
                  ∙ ap (sized_by (some clock) y.year) cut-3
                  ∙ four (some clock) y.year l3.value l4.value l5.value l6.value (ahead s f)
                  ∙ (λ i. started_by (ahead s f) (some clock) (l3.shaped i) (l4.shaped i) (l5.shaped i) y.year (l6.shaped i))

              pub head_read : HeadIs s at (record {
                at = f;
                line = 7 + y.lines;
                clock = clock;
                tracks = T;
                system = S;
                numbers = R;
                year = y.year;
                programs = n;
              })
              head_read =
                  record {
                    beyond = omega (arith, l1.beyond, l2.beyond, ly.beyond, l3.beyond, l4.beyond, l5.beyond, l6.beyond);
                    within = l6.within;
                    few = omega (arith, ly.few);
                    some = omega arith;
                    scan = scan-6;
                    says = head-says;
                  }
