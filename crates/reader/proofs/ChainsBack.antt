-- The chains of a page, read back. The chains that no page shows are empty in sound states: no why fits their states.
-- Assumes nothing.
use Prim.Native.Nat.{ℕ, ◌≤◌, ◌<◌}
use native.Mathlib.Omega.{arith}
use mathlib.Core.Path.{◌≡◌, refl, sym, ap, ◌∙◌}
use mathlib.Core.Bool.{true, false}
use mathlib.Core.List.{List, [], ◌∷◌, map}
use mathlib.Core.Option.{Option}
use lib.Dec.{eqb}
use lib.ListN.{length, get_or, replicate}
use Rattle.limits.specs.Limits.{states}
use Rattle.lists.specs.Lists.{same, count}
use Rattle.lists.proofs.Laws.{same_refl, same-ne, count-append}
use Rattle.lists.proofs.Tests.{clash}
use Rattle.text.specs.Text.{text, decimal, behind, between}
use Rattle.records.specs.declared.Why.{Why}
use Rattle.records.specs.declared.Why.TheVariants.{Nothing, Tracks, Son, Lock, Number}
use Rattle.records.specs.Records.{Known}
use Rattle.rules.specs.Book.{Book, state_of, why_of}
use Rattle.rules.specs.Keeper.{lists, State}
use Rattle.rules.specs.Sound.{suits, Chains, Whys}
use Rattle.rules.proofs.shared.Places.{known-or, none_other}
use Rattle.page.specs.Page.{chain_key, chained, key_of_chain, chain_line, chain_lines}
use Rattle.shapes.specs.Shapes.{there, otherwise, listed}
use Rattle.reader.specs.Order.{value_behind, holding, records_ahead}
use Rattle.reader.specs.Said.{marked_by, with_chain, rest_said, chains_said}
use Rattle.shapes.proofs.Pieces.{decimal-only, clean_line}
use Rattle.reader.proofs.Text.{content, told, Clean, clean-none, clean-more}
use Rattle.shapes.proofs.ValuesBack.{Short, listed_back}
use Rattle.reader.proofs.ScanLaws.{Good, value-behind, chain-step}

-- a chain's line
between-clean : (c : List ℕ) → count 10 (between 44 (map decimal c)) ≡ 0
unfolding same
between-clean [] = refl
between-clean (x ∷ []) = decimal-only 10 x (λ l. absurd (omega arith))
between-clean (x ∷ y ∷ ys) = omega (
  arith,
  count-append 10 (decimal x) (44 ∷ between 44 (map decimal (y ∷ ys))),
  decimal-only 10 x (λ l. absurd (omega arith)),
  between-clean (y ∷ ys),
)

chain-clean : (s : ℕ) (c : List ℕ) → count 10 (content (chain_line s c)) ≡ 0
unfolding same
chain-clean s c =
    clean_line (key_of_chain s) (between 44 (map decimal c))
    (count-append 10 (text chain_key) (decimal s) ∙ omega (arith, decimal-only 10 s (λ l. absurd (omega arith)))) (between-clean c)

chain-said : (s : ℕ) (ss : List ℕ) (c : List ℕ) → ((x : ℕ) → 1 ≤ count x c → Short x) → (a : State lists) (rs : List (List ℕ))
    → chains_said (s ∷ ss) a (content (chain_line s c) ∷ rs) ≡ chains_said ss (with_chain s c a) rs
unfolding chains_said
chain-said s ss c h a rs =
    ap (λ (o : Option (List ℕ)). chains_said ss (with_chain s (otherwise [] (listed (otherwise [] o))) a) rs)
    (value-behind (key_of_chain s) (between 44 (map decimal c)))
    ∙ ap (λ (o : Option (List ℕ)). chains_said ss (with_chain s (otherwise [] o) a) rs) (listed_back c h)

-- the first line of chains is no mark
pub chains-unmarked : (m : List (List ℕ)) (rs : List (List ℕ)) → marked_by (told (chain_lines m) rs) ≡ false
unfolding chain_lines value_behind behind
chains-unmarked m rs = refl

-- seven chains, of which four are shown
seven : (m : List (List ℕ)) → length m ≡ 7 → get_or m 0 [] ≡ [] → get_or m 2 [] ≡ [] → get_or m 4 [] ≡ []
    → [] ∷ get_or m 1 [] ∷ [] ∷ get_or m 3 [] ∷ [] ∷ get_or m 5 [] ∷ get_or m 6 [] ∷ [] ≡ m
seven [] l x y z = absurd (omega arith)
seven (a ∷ []) l x y z = absurd (omega arith)
seven (a ∷ b ∷ []) l x y z = absurd (omega arith)
seven (a ∷ b ∷ c ∷ []) l x y z = absurd (omega arith)
seven (a ∷ b ∷ c ∷ d ∷ []) l x y z = absurd (omega arith)
seven (a ∷ b ∷ c ∷ d ∷ e ∷ []) l x y z = absurd (omega arith)
seven (a ∷ b ∷ c ∷ d ∷ e ∷ f ∷ []) l x y z = absurd (omega arith)
seven (a ∷ b ∷ c ∷ d ∷ e ∷ f ∷ g ∷ []) l x y z = λ i. sym x i ∷ b ∷ sym y i ∷ d ∷ sym z i ∷ f ∷ g ∷ []
seven (a ∷ b ∷ c ∷ d ∷ e ∷ f ∷ g ∷ h ∷ m) l x y z = absurd (omega arith)

nobody-in : (c : List ℕ) → ((x : ℕ) → count x c ≡ 0) → c ≡ []
nobody-in [] h = refl
nobody-in (x ∷ xs) h = absurd (omega (arith, h x, same_refl x))

module _ (b : Book) (m : List (List ℕ)) (C : Chains b m) where
  short : (s : ℕ) → 1 ≤ s → s < states → (x : ℕ) → 1 ≤ count x (get_or m s []) → Short x
  short s h k x l = omega (arith, C.within s x h k l)

  listed-there : (s : ℕ) → 1 ≤ s → s < states → there (listed (between 44 (map decimal (get_or m s [])))) ≡ true
  listed-there s h k = ap there (listed_back (get_or m s []) (short s h k))

  abbrev value : ℕ → List ℕ
  value s = between 44 (map decimal (get_or m s []))

  pub chains-clean : Clean (chain_lines m)
  unfolding chain_lines
  chains-clean =
      clean-more (chain-clean 1 (get_or m 1 []))
      (clean-more (chain-clean 3 (get_or m 3 []))
      (clean-more (chain-clean 5 (get_or m 5 []))
      (clean-more (chain-clean 6 (get_or m 6 [])) clean-none)))

  pub chains-good : (rs : List (List ℕ)) → Good holding rs → Good (records_ahead 0) (told (chain_lines m) rs)
  unfolding chain_lines
  chains-good rs g =
      chain-step (value 1) (listed-there 1 (omega arith) (omega arith))
      (chain-step (value 3) (listed-there 3 (omega arith) (omega arith))
      (chain-step (value 5) (listed-there 5 (omega arith) (omega arith))
      (chain-step (value 6) (listed-there 6 (omega arith) (omega arith)) g)))

  -- a state that no why fits has no program
  module _ (W : Whys b) (k : ℕ) (low : 1 ≤ k) (high : k < states) (un : (p : ℕ) (w : Why) → suits b p k w ≡ false) where
    unfit : (p : ℕ) → Known p → state_of b p ≡ k → ⊥
    unfit p P e = clash (ap (λ (s : ℕ). suits b p s (why_of b p)) (sym e) ∙ W.fitting p P) (un p (why_of b p))

    unshown : get_or m k [] ≡ []
    unshown = nobody-in (get_or m k []) λ x. go x (known-or x)
      where
        go : (x : ℕ) → Dec (Known x) → count x (get_or m k []) ≡ 0
        go x (yes P) = C.member k x low high P ∙ same-ne (state_of b x) k (unfit x P)
        go x (no n) = none_other (get_or m k []) x (C.within k x low high) n

  no-why : (k : ℕ) → eqb k 0 ≡ false → eqb k 1 ≡ false → eqb k 6 ≡ false → eqb k 5 ≡ false → eqb k 3 ≡ false → (p : ℕ) (w : Why)
      → suits b p k w ≡ false
  no-why k z o s f t p Nothing = rw (z, o, s)
  no-why k z o s f t p (Tracks n) = rw f
  no-why k z o s f t p (Son j) = rw t
  no-why k z o s f t p (Lock r) = rw t
  no-why k z o s f t p Number = t

  pub chains-said : Whys b → length m ≡ states → get_or m 0 [] ≡ [] → (c : Book) (rs : List (List ℕ))
      → chains_said chained (record { book = c; kept = replicate states [] }) (told (chain_lines m) rs)
      ≡ rest_said (record { book = c; kept = m }) rs
  unfolding chain_lines chains_said
  chains-said W l z c rs =
      let a : State lists = record { book = c; kept = replicate states [] } in
      let a1 : State lists = with_chain 1 (get_or m 1 []) a in
      let a3 : State lists = with_chain 3 (get_or m 3 []) a1 in
      let a5 : State lists = with_chain 5 (get_or m 5 []) a3 in
      let r6 : List (List ℕ) = content (chain_line 6 (get_or m 6 [])) ∷ rs in
      let r5 : List (List ℕ) = content (chain_line 5 (get_or m 5 [])) ∷ r6 in
      let r3 : List (List ℕ) = content (chain_line 3 (get_or m 3 [])) ∷ r5 in
      chain-said 1 (3 ∷ 5 ∷ 6 ∷ []) (get_or m 1 []) (short 1 (omega arith) (omega arith)) a r3
      ∙ chain-said 3 (5 ∷ 6 ∷ []) (get_or m 3 []) (short 3 (omega arith) (omega arith)) a1 r5
      ∙ chain-said 5 (6 ∷ []) (get_or m 5 []) (short 5 (omega arith) (omega arith)) a3 r6
      ∙ chain-said 6 [] (get_or m 6 []) (short 6 (omega arith) (omega arith)) a5 rs
      ∙ ap (λ (k : List (List ℕ)). rest_said (record { book = c; kept = k }) rs)
      (seven m l z
      (unshown W 2 (omega arith) (omega arith) (no-why 2 refl refl refl refl refl))
      (unshown W 4 (omega arith) (omega arith) (no-why 4 refl refl refl refl refl)))
