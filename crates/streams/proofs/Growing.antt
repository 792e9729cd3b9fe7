-- A front of what was to be let out is one of what waited and a piece, in the cases that `put` has.
-- Assumes nothing.
use Rattle.std.proofs.Common.{ℕ, List, [], ◌++◌, None, Some, refl, sym, ap, ◌∙◌, append_assoc, append-nil}
use Rattle.std.specs.declared.option.Option.{Option}
use Rattle.std.specs.Io.KnownBytes.{Appends}
use Rattle.std.proofs.KnownBytes.{Appends-trans}
use Rattle.streams.specs.Fronts.{AppendsFront}

-- nothing was let out
pub front_none : (a : Option (List ℕ)) (bytes : List ℕ) → AppendsFront a a bytes
front_none None bytes = (bytes, record { front = []; whole = refl; grown = tt })
front_none (Some x) bytes = (bytes, record { front = []; whole = refl; grown = sym (append-nil x) })

-- a front of what waits is one of what waits and a piece
pub front_wider : {a b : Option (List ℕ)} (bytes piece : List ℕ) → AppendsFront a b bytes → AppendsFront a b (bytes ++ piece)
front_wider bytes piece (rest, w) = (
  rest ++ piece,
  record {
    front = w.front;
    whole = ap (λ (l : List ℕ). l ++ piece) w.whole ∙ append_assoc w.front rest piece;
    grown = w.grown;
  },
)

-- what waits went out, and of the piece a front
pub front_behind : {a b d : Option (List ℕ)} (bytes piece : List ℕ) → Appends a b bytes → AppendsFront b d piece → AppendsFront a d (bytes ++ piece)
front_behind {a} {b} {d} bytes piece g (rest, w) = (
  rest,
  record {
    front = bytes ++ w.front;
    whole = ap (λ (l : List ℕ). bytes ++ l) w.whole ∙ sym (append_assoc bytes w.front rest);
    grown = Appends-trans a b d bytes w.front g w.grown;
  },
)
