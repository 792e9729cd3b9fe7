-- Values of several parts, read back: a run of tracks, a resource number.
-- Assumes nothing.
use Prim.Native.Nat.{ℕ, ◌≤◌, ◌<◌}
use native.Mathlib.Omega.{arith}
use native.Mathlib.Decide.{ℕ_discrete}
use mathlib.Core.Path.{◌≡◌, refl, ap, ap₂, ◌∙◌}
use mathlib.Core.Bool.{Bool, true, false}
use mathlib.Core.List.{List, [], ◌∷◌, ◌++◌, append_assoc}
use mathlib.Core.Option.{Option, none, some}
use lib.Dec.{ltb}
use borrow.Author.Tests.{ltb-false}
use Rattle.lists.specs.Lists.{same, count}
use Rattle.lists.proofs.Laws.{count-append}
use Rattle.text.specs.Text.{text, decimal, parts}
use Rattle.records.specs.Numbers.{globally}
use Rattle.tracks.specs.declared.held.Run.{Run}
use Rattle.tracks.specs.Runs.{run_of}
use Rattle.page.specs.Page.{dash, global_word, or_dash, party}
use Rattle.page.proofs.Writing.{party-global, party-program}
use Rattle.shapes.specs.Shapes.{figure, figure_or_dash, party_of, next, over, Span, span_of, run_in, Numbered, numbered}
use Rattle.shapes.proofs.Pieces.{decimal-only, parts_at, parts_last}
use Rattle.shapes.proofs.ValuesBack.{Short, figure-decimal, dash-back, party-back}

-- bytes that a party or a number that may be absent has not
pub party-only : (c h : ℕ) → (48 ≤ c → 57 < c) → count c (text global_word) ≡ 0 → count c (party h) ≡ 0
party-only c h k g = go (ℕ_discrete h globally)
  where
    go : Dec (h ≡ globally) → count c (party h) ≡ 0
    go (yes e) = ap (count c) (party-global h e) ∙ g
    go (no n) = ap (count c) (party-program h n) ∙ decimal-only c h k

pub dash-only : (c : ℕ) (b : Bool) (n : ℕ) → (48 ≤ c → 57 < c) → count c (text dash) ≡ 0 → count c (or_dash b n) ≡ 0
dash-only c true n k d = decimal-only c n k
dash-only c false n k d = d

-- `first-last:holder`
abbrev pub run_text : ℕ → ℕ → ℕ → List ℕ
run_text f l h = decimal f ++ text "-" ++ decimal l ++ text ":" ++ party h

abbrev tracks : ℕ → ℕ → List ℕ
tracks f l = decimal f ++ (45 ∷ decimal l)

run-joined : (f l h : ℕ) → run_text f l h ≡ tracks f l ++ (58 ∷ party h)
run-joined f l h = simp append_assoc

tracks-only : (c f l : ℕ) → (48 ≤ c → 57 < c) → same c 45 ≡ 0 → count c (tracks f l) ≡ 0
tracks-only c f l h e = omega (arith, count-append c (decimal f) (45 ∷ decimal l), decimal-only c f h, decimal-only c l h)

run-parts : (f l h : ℕ) → parts 58 (run_text f l h) ≡ tracks f l ∷ party h ∷ []
unfolding same
run-parts f l h =
    ap (parts 58) (run-joined f l h)
    ∙ parts_at 58 (tracks f l) (party h) (tracks-only 58 f l (λ k. omega arith) refl)
    ∙ ap (λ (r : List (List ℕ)). tracks f l ∷ r) (parts_last 58 (party h) (party-only 58 h (λ k. omega arith) refl))

abbrev spanning : Option ℕ → Option ℕ → Option Span
spanning a b = elim a [ none ↦ none | some f ↦ elim b [ none ↦ none | some l ↦ some (record { first = f; last = l }) ] ]

span-back : (f l : ℕ) → Short f → Short l → span_of (tracks f l) ≡ some (record { first = f; last = l })
span-back f l s t =
    ap (next figure (λ a. next figure (λ b. over (record { first = a; last = b }))))
    (parts_at 45 (decimal f) (decimal l) (decimal-only 45 f (λ k. absurd (omega arith)))
    ∙ ap (λ (r : List (List ℕ)). decimal f ∷ r) (parts_last 45 (decimal l) (decimal-only 45 l (λ k. absurd (omega arith)))))
    ∙ ap₂ spanning (figure-decimal f s) (figure-decimal l t)

abbrev running : Option Span → Option ℕ → Option Run
running a b = elim a [ none ↦ none | some s ↦ elim b [ none ↦ none | some h ↦ some (run_of s.first s.last h) ] ]

pub run-back : (f l h : ℕ) → Short f → Short l → Short h → run_in (run_text f l h) ≡ some (run_of f l h)
run-back f l h s t u =
    ap (next span_of (λ s. next party_of (λ h. over (run_of s.first s.last h)))) (run-parts f l h)
    ∙ ap₂ running (span-back f l s t) (party-back h u)

pub run-clean : (f l h : ℕ) → count 10 (run_text f l h) ≡ 0
unfolding same
run-clean f l h =
    ap (count 10) (run-joined f l h)
    ∙ omega (
      arith,
      count-append 10 (tracks f l) (58 ∷ party h),
      tracks-only 10 f l (λ k. absurd (omega arith)) refl,
      party-only 10 h (λ k. absurd (omega arith)) refl,
    )

-- `r:owner:lock`
abbrev pub number_text : ℕ → ℕ → ℕ → List ℕ
number_text r o l = decimal r ++ text ":" ++ party o ++ text ":" ++ or_dash (ltb 0 l) l

number-joined : (r o l : ℕ) → number_text r o l ≡ decimal r ++ (58 ∷ (party o ++ (58 ∷ or_dash (ltb 0 l) l)))
number-joined r o l = simp append_assoc

number-parts : (r o l : ℕ) → parts 58 (number_text r o l) ≡ decimal r ∷ party o ∷ or_dash (ltb 0 l) l ∷ []
unfolding same
number-parts r o l =
    ap (parts 58) (number-joined r o l)
    ∙ parts_at 58 (decimal r) (party o ++ (58 ∷ or_dash (ltb 0 l) l)) (decimal-only 58 r (λ k. omega arith))
    ∙ ap (λ (s : List (List ℕ)). decimal r ∷ s)
    (parts_at 58 (party o) (or_dash (ltb 0 l) l) (party-only 58 o (λ k. omega arith) refl)
    ∙ ap (λ (s : List (List ℕ)). party o ∷ s)
    (parts_last 58 (or_dash (ltb 0 l) l) (dash-only 58 (ltb 0 l) l (λ k. omega arith) refl)))

abbrev pub number_of : ℕ → ℕ → ℕ → Numbered
number_of r o l = record { number = r; resource = record { owner = o; lock = l } }

abbrev numbering : Option ℕ → Option ℕ → Option ℕ → Option Numbered
numbering a b c = elim a [
  | none ↦ none
  | some r ↦ elim b [ none ↦ none | some o ↦ elim c [ none ↦ none | some l ↦ some (number_of r o l) ] ]
]

pub number-back : (r o l : ℕ) → Short r → Short o → Short l → numbered (number_text r o l) ≡ some (number_of r o l)
number-back r o l s t u =
    ap (next figure (λ r. next party_of (λ o. next figure_or_dash (λ l. over (number_of r o l))))) (number-parts r o l)
    ∙ ap (λ (a : Option ℕ). numbering a (party_of (party o)) (figure_or_dash (or_dash (ltb 0 l) l))) (figure-decimal r s)
    ∙ ap₂ (numbering (some r)) (party-back o t) (dash-back (ltb 0 l) l u (λ e. omega (arith, ltb-false 0 l e)))

pub number-clean : (r o l : ℕ) → count 10 (number_text r o l) ≡ 0
unfolding same
number-clean r o l =
    ap (count 10) (number-joined r o l)
    ∙ omega (
      arith,
      count-append 10 (decimal r) (58 ∷ (party o ++ (58 ∷ or_dash (ltb 0 l) l))),
      count-append 10 (party o) (58 ∷ or_dash (ltb 0 l) l),
      decimal-only 10 r (λ k. absurd (omega arith)),
      party-only 10 o (λ k. absurd (omega arith)) refl,
      dash-only 10 (ltb 0 l) l (λ k. absurd (omega arith)) refl,
    )
