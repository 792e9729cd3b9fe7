-- A legal name has five bytes, so its code tells it: legal names of one code are one. And whose keys are apart is told by its key.
-- Assumes nothing.
use Prim.Native.Nat.{ℕ, zero, suc, ◌+◌, ◌*◌, ◌<◌}
use native.Mathlib.Omega.{arith}
use native.Mathlib.Decide.{dec_le}
use mathlib.Core.Path.{◌≡◌, refl, sym, ap, ◌∙◌}
use mathlib.Core.Logic.{◌≢◌}
use mathlib.Core.Bool.{Bool, true, false, cond, ◌&&◌, ◌||◌}
use mathlib.Core.List.{List, [], ◌∷◌}
use lib.ListN.{length, get_or}
use lib.Seq.{ext_get_or}
use lib.Dec.{eqb}
use borrow.Author.Tests.{eqb-true}
use Rattle.lists.specs.Lists.{every}
use Rattle.lists.proofs.Tests.{false-true, both, otherwise, up_to-true}
use Rattle.records.specs.declared.Program.{Program}
use Rattle.records.specs.declared.Why.{Why}
use Rattle.records.specs.declared.Why.TheVariants.{Nothing, Tracks, Son, Lock, Number}
use Rattle.records.specs.Names.{letter, digit, blank, rest, legal}
use Rattle.records.specs.Records.{missing}
use Rattle.rules.specs.Test.{son_of}
use Rattle.rules.proofs.tests.Agree.{yes_or_no}
use Rattle.ledger.specs.Inner.{name_code, name_key, Apart}

-- letters, digits and blanks are bytes
letter-small : (c : ℕ) → letter c ≡ true → c < 256
letter-small c e = omega (arith, (up_to-true 65 90 c e).1)

sign_small : (c : ℕ) → (letter c || digit c) ≡ true → c < 256
sign_small c e = yes_or_no (letter c) (letter-small c) (λ n. omega (arith, (up_to-true 48 57 c (otherwise (letter c) (digit c) e n)).1))

blank-small : (c : ℕ) → blank c ≡ true → c < 256
blank-small c e = omega (arith, eqb-true c 32 e)

blanks-small : (cs : List ℕ) → every blank cs ≡ true → (i : ℕ) → get_or cs i 0 < 256
blanks-small [] e i = omega arith
blanks-small (c ∷ cs) e zero = blank-small c (both (blank c) (every blank cs) e).0
blanks-small (c ∷ cs) e (suc i) = blanks-small cs (both (blank c) (every blank cs) e).1 i

rest-small : (cs : List ℕ) → rest cs ≡ true → (i : ℕ) → get_or cs i 0 < 256
rest-small [] e i = omega arith
rest-small (c ∷ cs) e i = go ((letter c || digit c) && rest cs) refl e i (rest-small cs)
  where
    go : (b : Bool) → ((letter c || digit c) && rest cs) ≡ b → (b || (blank c && every blank cs)) ≡ true → (i : ℕ)
        → (rest cs ≡ true → (i : ℕ) → get_or cs i 0 < 256) → get_or (c ∷ cs) i 0 < 256
    go true t f zero ih = sign_small c (both (letter c || digit c) (rest cs) t).0
    go true t f (suc i) ih = ih (both (letter c || digit c) (rest cs) t).1 i
    go false t f i ih = blanks-small (c ∷ cs) f i

-- a legal name
legal-small : (xs : List ℕ) → legal xs ≡ true → (i : ℕ) → get_or xs i 0 < 256
legal-small [] e i = omega arith
legal-small (c ∷ cs) e zero =
    letter-small c (both (letter c) (rest cs) (both (letter c && rest cs) (eqb (length cs) 4) e).0).0
legal-small (c ∷ cs) e (suc i) =
    rest-small cs (both (letter c) (rest cs) (both (letter c && rest cs) (eqb (length cs) 4) e).0).1 i

legal-long : (xs : List ℕ) → legal xs ≡ true → length xs ≡ 5
legal-long [] e = false-true e
legal-long (c ∷ cs) e = omega (arith, eqb-true (length cs) 4 (both (letter c && rest cs) (eqb (length cs) 4) e).1)

-- the last figure of a code, and those before it
last-figure : (x y a b : ℕ) → a < 256 → b < 256 → x * 256 + a ≡ y * 256 + b → (x ≡ y) × (a ≡ b)
last-figure x y a b h k e = (omega arith, omega arith)

pub code-name : (xs ys : List ℕ) → legal xs ≡ true → legal ys ≡ true → name_code xs ≡ name_code ys → xs ≡ ys
unfolding name_code
code-name xs ys h k e =
    let x = legal-small xs h in
    let y = legal-small ys k in
    let e4 = last-figure _ _ (get_or xs 4 0) (get_or ys 4 0) (x 4) (y 4) e in
    let e3 = last-figure _ _ (get_or xs 3 0) (get_or ys 3 0) (x 3) (y 3) e4.0 in
    let e2 = last-figure _ _ (get_or xs 2 0) (get_or ys 2 0) (x 2) (y 2) e3.0 in
    let e1 = last-figure _ _ (get_or xs 1 0) (get_or ys 1 0) (x 1) (y 1) e2.0 in
    let e0 : get_or xs 0 0 ≡ get_or ys 0 0 = omega (arith, e1.0) in
    ext_get_or 0 xs ys (legal-long xs h ∙ sym (legal-long ys k)) (each e0 e1.1 e2.1 e3.1 e4.1)
  where
    each : get_or xs 0 0 ≡ get_or ys 0 0 → get_or xs 1 0 ≡ get_or ys 1 0 → get_or xs 2 0 ≡ get_or ys 2 0 → get_or xs 3 0 ≡ get_or ys 3 0
        → get_or xs 4 0 ≡ get_or ys 4 0
        → (i : ℕ) → i < length xs → get_or xs i 0 ≡ get_or ys i 0
    each a b c d f zero l = a
    each a b c d f (suc zero) l = b
    each a b c d f (suc (suc zero)) l = c
    each a b c d f (suc (suc (suc zero))) l = d
    each a b c d f (suc (suc (suc (suc zero)))) l = f
    each a b c d f (suc (suc (suc (suc (suc i))))) l = absurd (omega (arith, legal-long xs h))

-- the key of a used record is its name's code, and no other's is one
pub used-key : (r : Program) → r.used ≡ true → name_key r ≡ name_code r.name
unfolding name_key
used-key r u = ap (λ (b : Bool). cond b (name_code r.name) 0) u

pub code-some : (xs : List ℕ) → name_code xs ≢ 0
unfolding name_code
code-some xs e = omega arith

pub key-used : (r : Program) → name_key r ≢ 0 → r.used ≡ true
unfolding name_key
key-used r = go r.used
  where
    go : (b : Bool) → cond b (name_code r.name) 0 ≢ 0 → b ≡ true
    go true n = refl
    go false n = absurd (n refl)

-- who has a son's number for its key has that son
pub key-son : (w : Why) → son_of w ≢ 0 → w ≡ Son (son_of w)
key-son Nothing n = absurd (n refl)
key-son (Tracks k) n = absurd (n refl)
key-son (Son k) n = refl
key-son (Lock r) n = absurd (n refl)
key-son Number n = absurd (n refl)

-- records of one key, where keys are apart, are one
pub apart-one : (f : Program → ℕ) (ps : List Program) → Apart f ps → (i j : ℕ) → i < 32 → j < 32 → f (get_or ps i missing) ≢ 0
    → f (get_or ps i missing) ≡ f (get_or ps j missing) → i ≡ j
apart-one f ps A i j h k n e = go (dec_le (suc i) j) (dec_le (suc j) i)
  where
    go : Dec (i < j) → Dec (j < i) → i ≡ j
    go (yes a) d = absurd (A i h n j k a (sym e))
    go (no a) (yes b) = absurd (A j k (λ z. n (e ∙ z)) i h b e)
    go (no a) (no b) = omega (arith, a, b)
