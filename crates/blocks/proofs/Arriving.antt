-- However a text is cut into blocks, what is kept and shown is what is kept and shown for the whole. The lines that end in a block end in the
-- whole too; and of a line that goes on behind the block 73 bytes are enough, since they stand in front of the same bytes, for a taker to whom
-- they tell all there is to tell. `sheet` is one: a line of more than 72 bytes is not understood whatever they are.
-- Assumes nothing.
use Prim.Native.Nat.{ℕ}
use mathlib.Core.Path.{◌≡◌, refl, sym, ap, ap₂, ◌∙◌}
use mathlib.Core.Bool.{Bool, true, false}
use mathlib.Core.List.{List, [], ◌∷◌, ◌++◌, append-nil, append_assoc}
use lib.ListN.{take}
use Rattle.lists.specs.Lists.{join}
use Rattle.text.specs.Text.{parts}
use Rattle.text.specs.Lines.{drop_empty, lines_of, lines_ended, last_bytes}
use Rattle.text.proofs.Fields.{parts_cut}
use Rattle.tables.specs.declared.Tables.{Tables}
use Rattle.tables.specs.Tables.{smallest}
use Rattle.tables.specs.Sound.{sound}
use Rattle.rules.specs.Engine.{beside, not_sound}
use Rattle.page.specs.Paging.{Written}
use Rattle.console.specs.Line.{Line, line_of}
use Rattle.console.specs.Console.{obeyed, keyed, keyed_in}
use Rattle.console.specs.Sheet.{lent, shown, bytes_for, printed, sheet}
use Rattle.console.proofs.LongLines.{cut_line}
use Rattle.blocks.specs.Blocks.{most, Taker, Taken, kept_after, shown_for, taken, arriving, on_sheet, tables_after}
use Rattle.blocks.proofs.Cuts.{Plain, none, plain-take, parts-on, parts-plain, last_bytes-plain, parts-append}

-- what 73 bytes of a line tell, behind which others come, is all there is to tell: `most` bytes of it are enough
pub record Cuts (K : Taker) : Type 0 where
  pub next : (k : K.Kept) (o f : List ℕ) → K.next k (take most o ++ f) ≡ K.next k (o ++ f)
  pub shows : (k : K.Kept) (o f : List ℕ) → K.shows k (take most o ++ f) ≡ K.shows k (o ++ f)

-- lines behind lines
module _ (K : Taker) where
  pub kept_append : (k : K.Kept) (ls ms : List (List ℕ)) → kept_after K k (ls ++ ms) ≡ kept_after K (kept_after K k ls) ms
  unfolding kept_after
  kept_append k [] ms = refl
  kept_append k (l ∷ ls) ms = kept_append (K.next k l) ls ms

  pub shown-append : (k : K.Kept) (ls ms : List (List ℕ))
      → shown_for K k (ls ++ ms) ≡ shown_for K k ls ++ shown_for K (kept_after K k ls) ms
  unfolding kept_after shown_for
  shown-append k [] ms = refl
  shown-append k (l ∷ ls) ms =
      ap (λ (xs : List ℕ). K.shows k l ++ xs) (shown-append (K.next k l) ls ms)
      ∙ sym (append_assoc (K.shows k l) (shown_for K (K.next k l) ls) (shown_for K (kept_after K (K.next k l) ls) ms))

  -- what was shown before, and then the rest
  abbrev behind : List ℕ → Taken K.Kept → Taken K.Kept
  behind xs r = record { kept = r.kept; bytes = xs ++ r.bytes }

  taken-append : (k : K.Kept) (ls ms : List (List ℕ)) → taken K k (ls ++ ms) ≡ behind (shown_for K k ls) (taken K (kept_after K k ls) ms)
  taken-append k ls ms = λ i. record { kept = kept_append k ls ms i; bytes = shown-append k ls ms i }

-- a last line that is empty is dropped behind lines, too
drop-empty : (ls : List (List ℕ)) (m : List ℕ) (ms : List (List ℕ)) → drop_empty (ls ++ (m ∷ ms)) ≡ ls ++ drop_empty (m ∷ ms)
drop-empty [] m ms = refl
drop-empty (l ∷ []) m ms = head l
  where
    head : (l : List ℕ) → drop_empty (l ∷ m ∷ ms) ≡ l ∷ drop_empty (m ∷ ms)
    head [] = refl
    head (x ∷ xs) = refl
drop-empty (l ∷ k ∷ ls) m ms = head l ∙ ap (λ (xs : List (List ℕ)). l ∷ xs) (drop-empty (k ∷ ls) m ms)
  where
    head : (l : List ℕ) → drop_empty (l ∷ k ∷ (ls ++ (m ∷ ms))) ≡ l ∷ drop_empty (k ∷ (ls ++ (m ∷ ms)))
    head [] = refl
    head (x ∷ xs) = refl

-- lines that ended, and then the rest
lines-append : (s y : List ℕ) → drop_empty (parts 10 (s ++ y)) ≡ lines_ended (parts 10 s) ++ drop_empty (parts 10 (last_bytes (parts 10 s) ++ y))
lines-append s y =
    let e = parts_cut 10 (last_bytes (parts 10 s) ++ y) in
    ap drop_empty (parts-append s y)
    ∙ ap (λ (ls : List (List ℕ)). drop_empty (lines_ended (parts 10 s) ++ ls)) e
    ∙ drop-empty (lines_ended (parts 10 s)) _ _
    ∙ ap (λ (ls : List (List ℕ)). lines_ended (parts 10 s) ++ drop_empty ls) (sym e)

module _ (K : Taker) (c : Cuts K) where
  first-cut : (k : K.Kept) (o f : List ℕ) (ls : List (List ℕ)) → taken K k ((take most o ++ f) ∷ ls) ≡ taken K k ((o ++ f) ∷ ls)
  unfolding kept_after shown_for
  first-cut k o f ls =
      λ i. record { kept = kept_after K (c.next k o f i) ls; bytes = c.shows k o f i ++ shown_for K (c.next k o f i) ls }

  -- the front of a line that is cut is empty where the line is
  cut-first : (k : K.Kept) (f o : List ℕ) (fs : List (List ℕ))
      → taken K k (drop_empty ((take most o ++ f) ∷ fs)) ≡ taken K k (drop_empty ((o ++ f) ∷ fs))
  cut-first k f [] fs = refl
  cut-first k f (x ∷ o) [] = first-cut k (x ∷ o) f []
  cut-first k f (x ∷ o) (g ∷ gs) = first-cut k (x ∷ o) f (drop_empty (g ∷ gs))

  cut-plain : (k : K.Kept) {o : List ℕ} → Plain o → (y : List ℕ)
      → taken K k (drop_empty (parts 10 (take most o ++ y))) ≡ taken K k (drop_empty (parts 10 (o ++ y)))
  cut-plain k {o} p y = go _ _ (parts_cut 10 y)
    where
      go : (f : List ℕ) (fs : List (List ℕ)) → parts 10 y ≡ f ∷ fs
          → taken K k (drop_empty (parts 10 (take most o ++ y))) ≡ taken K k (drop_empty (parts 10 (o ++ y)))
      go f fs e =
          ap (λ (ls : List (List ℕ)). taken K k (drop_empty ls)) (parts-on (plain-take most p) y f fs e)
          ∙ cut-first k f o fs
          ∙ ap (λ (ls : List (List ℕ)). taken K k (drop_empty ls)) (sym (parts-on p y f fs e))

  pub arrives : (k : K.Kept) {held : List ℕ} → Plain held → (bs : List (List ℕ))
      → arriving K k held bs ≡ taken K k (lines_of (held ++ join bs))
  unfolding arriving lines_of
  arrives k {held} p [] =
      ap (λ (ls : List (List ℕ)). taken K k (drop_empty ls)) (sym (parts-plain p) ∙ ap (parts 10) (sym (append-nil held)))
  arrives k {held} p (b ∷ bs) =
      let s : List ℕ = held ++ b in
      let ls : List (List ℕ) = lines_ended (parts 10 s) in
      let o : List ℕ = last_bytes (parts 10 s) in
      let k' : K.Kept = kept_after K k ls in
      ap (behind K (shown_for K k ls)) (arrives k' (plain-take most (last_bytes-plain s)) bs ∙ cut-plain k' (last_bytes-plain s) (join bs))
      ∙ sym (taken-append K k ls (drop_empty (parts 10 (o ++ join bs))))
      ∙ ap (taken K k) (sym (lines-append s (join bs)))
      ∙ ap (λ (xs : List ℕ). taken K k (drop_empty (parts 10 xs))) (append_assoc held b (join bs))

  pub whole_of : (k : K.Kept) (bs : List (List ℕ)) → arriving K k [] bs ≡ taken K k (lines_of (join bs))
  whole_of k bs = arrives k none bs

-- what a line does hangs on what it says
pub keyed-says : (t : Tables) (l m : List ℕ) → line_of l ≡ line_of m → keyed t l lent ≡ keyed t m lent
unfolding keyed_in
keyed-says t l m e = ap (λ (x : Line). doing (sound t) x) e
  where
    doing : Bool → Line → Written
    doing b x = elim b [ true ↦ obeyed t lent x | false ↦ beside lent (not_sound t) ]

pub sheet-cuts : Cuts on_sheet
sheet-cuts = record {
  next = λ t o f. ap (λ (w : Written). w.tables) (says t o f);
  shows = λ t o f. λ i. shown (cut_line o f i) t (says t o f i);
}
  where
    says : (t : Tables) (o f : List ℕ) → keyed t (take most o ++ f) lent ≡ keyed t (o ++ f) lent
    says t o f = keyed-says t (take most o ++ f) (o ++ f) (cut_line o f)

pub shown-printed : (t : Tables) (ls : List (List ℕ)) → shown_for on_sheet t ls ≡ printed t ls
unfolding shown_for printed
shown-printed t [] = refl
shown-printed t (l ∷ ls) = ap (λ (xs : List ℕ). bytes_for t l ++ xs) (shown-printed (keyed t l lent).tables ls)

pub printed-append : (t : Tables) (ls ms : List (List ℕ)) → printed t (ls ++ ms) ≡ printed t ls ++ printed (tables_after t ls) ms
printed-append t ls ms =
    sym (shown-printed t (ls ++ ms))
    ∙ shown-append on_sheet t ls ms
    ∙ ap₂ (λ (xs : List ℕ) (ys : List ℕ). xs ++ ys) (shown-printed t ls) (shown-printed (tables_after t ls) ms)

pub after-append : (t : Tables) (ls ms : List (List ℕ)) → tables_after t (ls ++ ms) ≡ tables_after (tables_after t ls) ms
after-append t ls ms = kept_append on_sheet t ls ms

pub whole : (bs : List (List ℕ)) → (arriving on_sheet smallest [] bs).bytes ≡ sheet (join bs)
unfolding sheet
whole bs = ap (λ (x : Taken Tables). x.bytes) (whole_of on_sheet sheet-cuts smallest bs) ∙ shown-printed smallest (lines_of (join bs))
