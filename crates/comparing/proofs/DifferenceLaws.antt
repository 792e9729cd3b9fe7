-- What is said of a difference: its pieces, and how long it is. And what is put piece by piece.
-- Assumes nothing.
use Prim.Native.Nat.{ℕ, ◌+◌, ◌≤◌, ◌<◌}
use native.Mathlib.Omega.{arith}
use mathlib.Core.Path.{◌≡◌, sym, ap, ap₂, subst, ◌∙◌}
use mathlib.Core.Bool.{Bool, true, false, cond}
use mathlib.Core.List.{List, [], ◌∷◌, ◌++◌, append-nil, append_assoc}
use mathlib.Core.Option.{none}
use lib.ListN.{length, take, drop, length-append}
use lib.Seq.{sets, sets-eq, drop-drop, length-slice}
use lib.Dec.{eqb, ltb}
use borrow.Rule.Slice.PartMut.{put_mid}
use borrow.Author.Tests.{eq-eqb, ne_eqb, lt-ltb, le-ltb}
use Rattle.limits.specs.Limits.{page_room}
use Rattle.lists.specs.Lists.{join}
use Rattle.text.specs.Text.{text, decimal}
use Rattle.text.proofs.Laws.{decimal-most, wrote-length}
use Rattle.console.specs.Sheet.{line_end}
use Rattle.console.proofs.LineEnds.{line-end}
use Rattle.comparing.specs.Verdicts.{side, sides}
use Rattle.comparing.specs.Inner.{line_from, said_of, parted_at, piece_room}
use Rattle.comparing.specs.Sinks.{SinkLaws}
use Rattle.text.specs.Inner.{Wrote}

said-length : (what : List ℕ) (n : ℕ) (x y : List ℕ)
    → length (what ++ sides n x y) ≡ length what + length (decimal n) + length x + length y + 34
said-length what n x y = simp length-append (omega arith)

-- it has a byte, and no more than the room for it where each side is within a page
pub said-byte : (what : List ℕ) (n : ℕ) (x y : List ℕ) → 1 ≤ length (what ++ sides n x y)
said-byte what n x y = omega (arith, said-length what n x y)

pub said-room : (what : List ℕ) (n : ℕ) (x y : List ℕ) → length what ≤ 13 → length x ≤ page_room → length y ≤ page_room
    → length (what ++ sides n x y) ≤ piece_room
said-room what n x y a b c = omega (arith, said-length what n x y, decimal-most n)

line-room : (s : List ℕ) (at : ℕ) → length s ≤ page_room → length (line_from s at) ≤ page_room
line-room s at r = let h = (line-end s at).high in omega (arith, length-slice at (line_end s at) s h)

-- what is said of a listed line, where it has no counterpart and where it has one
module _ (o c : List ℕ) (n begins other : ℕ) where
  abbrev lacking : Bool → List ℕ
  lacking b = text "line " ++ sides n (line_from o begins) (cond b (side none) (line_from c other))

  abbrev written : Bool → List ℕ
  written b = cond b (text "written line " ++ sides n (side none) (line_from o begins)) []

  pub said-lacking : (g : Bool) (x : List ℕ) → g ≡ true → x ≡ line_from o begins → other ≡ length c
      → text "line " ++ sides n x (side none) ≡ said_of g o c n begins other
  said-lacking g x e k h =
      ap (λ (l : List ℕ). text "line " ++ sides n l (side none)) k ∙ ap lacking (sym (eq-eqb other (length c) h))
      ∙ ap (λ (b : Bool). said_of b o c n begins other) (sym e)

  pub said-both : (g : Bool) (x y : List ℕ) → g ≡ true → x ≡ line_from o begins → y ≡ line_from c other → (other ≡ length c → ⊥)
      → text "line " ++ sides n x y ≡ said_of g o c n begins other
  said-both g x y e k l h =
      ap₂ (λ (a b : List ℕ). text "line " ++ sides n a b) k l ∙ ap lacking (sym (ne_eqb other (length c) h))
      ∙ ap (λ (b : Bool). said_of b o c n begins other) (sym e)

  pub said-written : (g : Bool) (x : List ℕ) → g ≡ false → x ≡ line_from o begins → other ≡ length c
      → text "written line " ++ sides n (side none) x ≡ said_of g o c n begins other
  said-written g x e k h =
      ap (λ (l : List ℕ). text "written line " ++ sides n (side none) l) k ∙ ap written (sym (eq-eqb other (length c) h))
      ∙ ap (λ (b : Bool). said_of b o c n begins other) (sym e)

  pub said-nothing : (g : Bool) → g ≡ false → (other ≡ length c → ⊥) → [] ≡ said_of g o c n begins other
  said-nothing g e h = ap written (sym (ne_eqb other (length c) h)) ∙ ap (λ (b : Bool). said_of b o c n begins other) (sym e)

  pub listed-room : (g : Bool) → length o ≤ page_room → length c ≤ page_room → length (said_of g o c n begins other) ≤ piece_room
  listed-room true p q = go (eqb other (length c))
    where
      go : (b : Bool) → length (lacking b) ≤ piece_room
      go true = said-room (text "line ") n (line_from o begins) (side none) (omega arith) (line-room o begins p) (omega arith)
      go false =
          said-room (text "line ") n (line_from o begins) (line_from c other) (omega arith) (line-room o begins p)
          (line-room c other q)
  listed-room false p q = go (eqb other (length c))
    where
      go : (b : Bool) → length (written b) ≤ piece_room
      go true =
          said-room (text "written line ") n (side none) (line_from o begins) (omega arith) (omega arith) (line-room o begins p)
      go false = omega arith

-- and of line n of two texts, by which of them have it
module _ (s : List ℕ) (a : ℕ) (w : List ℕ) (b n : ℕ) where
  abbrev first : List ℕ → List ℕ
  first y = text "line " ++ sides n (line_from s a) y

  abbrev second : List ℕ → List ℕ
  second x = text "line " ++ sides n x (line_from w b)

  abbrev parted : Bool → Bool → List ℕ
  parted p q = cond p (first (cond q (line_from w b) (side none))) (cond q (second (side none)) [])

  pub parted-both : (x y : List ℕ) → a < length s → b < length w → x ≡ line_from s a → y ≡ line_from w b
      → text "line " ++ sides n x y ≡ parted_at s a w b n
  parted-both x y h k e f =
      ap₂ (λ (i j : List ℕ). text "line " ++ sides n i j) e f
      ∙ ap₂ parted (sym (lt-ltb a (length s) h)) (sym (lt-ltb b (length w) k))

  pub parted-first : (x : List ℕ) → a < length s → length w ≤ b → x ≡ line_from s a
      → text "line " ++ sides n x (side none) ≡ parted_at s a w b n
  parted-first x h k e =
      ap (λ (i : List ℕ). text "line " ++ sides n i (side none)) e
      ∙ ap₂ parted (sym (lt-ltb a (length s) h)) (sym (le-ltb b (length w) k))

  pub parted-second : (y : List ℕ) → length s ≤ a → b < length w → y ≡ line_from w b
      → text "line " ++ sides n (side none) y ≡ parted_at s a w b n
  parted-second y h k e =
      ap (λ (i : List ℕ). text "line " ++ sides n (side none) i) e
      ∙ ap₂ parted (sym (le-ltb a (length s) h)) (sym (lt-ltb b (length w) k))

  pub parted-none : length s ≤ a → length w ≤ b → [] ≡ parted_at s a w b n
  parted-none h k = ap₂ parted (sym (le-ltb a (length s) h)) (sym (le-ltb b (length w) k))

  pub parted-room : length s ≤ page_room → length w ≤ page_room → length (parted_at s a w b n) ≤ piece_room
  parted-room h k = go (ltb a (length s)) (ltb b (length w))
    where
      go : (p q : Bool) → length (parted p q) ≤ piece_room
      go true true =
          said-room (text "line ") n (line_from s a) (line_from w b) (omega arith) (line-room s a h) (line-room w b k)
      go true false =
          said-room (text "line ") n (line_from s a) (side none) (omega arith) (line-room s a h) (omega arith)
      go false true =
          said-room (text "line ") n (side none) (line_from w b) (omega arith) (omega arith) (line-room w b k)
      go false false = omega arith

-- what the check wants of what is said
pub ruleset said_put = (append_assoc, length-append)

-- what was put behind nothing stands alone
pub alone : {s y before x z : List ℕ} → s ≡ y → y ≡ before ++ x → before ≡ [] → x ≡ z → s ≡ z
alone {s} {y} {before} {x} p q e r = p ∙ q ∙ ap (λ (b : List ℕ). b ++ x) e ∙ r

-- a piece that is copied to its place
pub copied : (l x : List ℕ) (at n : ℕ) {part : List ℕ} → n ≡ length x → at + length x ≤ length l → part ≡ x
    → put_mid at n l part ≡ sets l at x
copied l x at n {part} k h p =
    ap₂ (λ (i : ℕ) (y : List ℕ). put_mid at i l y) k p ∙ ap (λ (r : List ℕ). take at l ++ (x ++ r)) (drop-drop (length x) at l)
    ∙ sym (append_assoc (take at l) x (drop (at + length x) l)) ∙ sym (sets-eq x l at h)

-- what comes of s₀ once `all` is put into it comes of s once these pieces are put: they are due
pub record Due {S : Type 0} (after : S → List ℕ → S) (s₀ : S) (all : List ℕ) (s : S) (ps : List (List ℕ)) : Type 0 where
  pub whole : after s (join ps) ≡ after s₀ all

module _ {S : Type 0} {after : S → List ℕ → S} {place end : S → ℕ} (laws : SinkLaws after place end) {s₀ s : S} {all : List ℕ} where
  pub due-step : {x : List ℕ} {s' : S} {ps : List (List ℕ)} → Due after s₀ all s (x ∷ ps) → s' ≡ after s x → Due after s₀ all s' ps
  due-step {x} {s'} {ps} d e = record { whole = ap (λ (t : S). after t (join ps)) e ∙ laws.joined s x (join ps) ∙ d.whole }

  pub due-as : {x y : List ℕ} {ps : List (List ℕ)} → x ≡ y → Due after s₀ all s (x ∷ ps) → Due after s₀ all s (y ∷ ps)
  due-as {x} {y} {ps} e d = subst (λ (z : List ℕ). Due after s₀ all s (z ∷ ps)) e d

  pub due-empty : {ps : List (List ℕ)} → Due after s₀ all s ([] ∷ ps) → Due after s₀ all s ps
  due-empty d = record { whole = d.whole }

  pub due-end : Due after s₀ all s [] → s ≡ after s₀ all
  due-end d = sym (laws.none s) ∙ d.whole

  -- there is room for the piece that stands first
  pub due-room : {x : List ℕ} {ps : List (List ℕ)} → Due after s₀ all s (x ∷ ps) → place s₀ + length all ≤ end s₀
      → place s + length x ≤ end s
  due-room {x} {ps} d room =
      omega (
        arith,
        room,
        laws.moved s₀ all,
        laws.kept s₀ all,
        laws.moved s (x ++ join ps),
        laws.kept s (x ++ join ps),
        ap place d.whole,
        ap end d.whole,
        length-append x (join ps),
      )

-- Laws of what is said of a difference, for whoever proves about it: its pieces.
abbrev pub said_pieces : List ℕ → ℕ → List ℕ → List ℕ → List (List ℕ)
said_pieces what n x y =
    what ∷ decimal n ∷ text ": " ∷ x ∷ text " on the sheet, " ∷ y ∷ text " by the requests" ∷ (10 ∷ []) ∷ []

pub said-pieces : (what : List ℕ) (n : ℕ) (x y : List ℕ) → what ++ sides n x y ≡ join (said_pieces what n x y)
said-pieces what n x y = simp append_assoc

-- what was put at the front of a buffer, as the code takes it

pub front-within : {l x l' : List ℕ} {n : ℕ} → Wrote l 0 x l' n → length x ≤ length l → n ≤ length l'
front-within h room = omega (arith, h.place, wrote-length h)
