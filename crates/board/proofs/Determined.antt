-- The contracts determine what is handed back: two outcomes that satisfy one are equal. Assumes nothing.
use Prim.Native.Nat.{ℕ}
use mathlib.Core.Path.{◌≡◌, sym, ◌∙◌}
use mathlib.Core.List.{List}
use Rattle.board.specs.Board.{Ran, ran, Boarded, boarded, soundly, ReadBack, read_back}
use Rattle.board.specs.Desk.{FoundBy, found_by, ListedBy, listed_by}

pub run-determined : (text out answer : List ℕ) (x y : Ran) → x ≡ ran text out answer → y ≡ ran text out answer → x ≡ y
run-determined text out answer x y e f = e ∙ sym f

pub ask-determined : (tables line page answer : List ℕ) (x y : Boarded) → x ≡ boarded tables line page answer
    → y ≡ boarded tables line page answer → x ≡ y
ask-determined tables line page answer x y e f = e ∙ sym f

pub sound-determined : (tables : List ℕ) (x y : ℕ) → x ≡ soundly tables → y ≡ soundly tables → x ≡ y
sound-determined tables x y e f = e ∙ sym f

pub read-determined : (page tables answer : List ℕ) (x y : ReadBack) → x ≡ read_back page tables answer → y ≡ read_back page tables answer
    → x ≡ y
read-determined page tables answer x y e f = e ∙ sym f

pub find-determined : (original copy key : List ℕ) (n : ℕ) (answer : List ℕ) (x y : FoundBy) → x ≡ found_by original copy key n answer
    → y ≡ found_by original copy key n answer → x ≡ y
find-determined original copy key n answer x y e f = e ∙ sym f

pub list-determined : (original copy list answer : List ℕ) (x y : ListedBy) → x ≡ listed_by original copy list answer
    → y ≡ listed_by original copy list answer → x ≡ y
list-determined original copy list answer x y e f = e ∙ sym f
