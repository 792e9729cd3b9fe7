-- A line's key as the code finds it: the bytes before its first `=`.
-- Assumes nothing.
use Prim.Native.Nat.{ℕ, ◌+◌, ◌<◌}
use mathlib.Core.Path.{◌≡◌, ap, ◌∙◌}
use mathlib.Core.Bool.{true, false}
use mathlib.Core.List.{List, ◌∷◌}
use mathlib.Core.Option.{Option, none, some}
use lib.ListN.{length, drop}
use lib.Seq.{slice}
use Rattle.lists.specs.Lists.{alike}
use Rattle.lists.proofs.Tests.{false-true, alike-true}
use Rattle.text.specs.Text.{parts}
use Rattle.text.specs.Inner.{PartEnd}
use Rattle.text.proofs.Fields.{parts_cut}
use Rattle.transcripts.specs.Transcripts.{key_among, key_of, is_key, has_key}

-- parts are one at least, so a part before others is a key
more_parts : (k : List ℕ) (s : List ℕ) → key_among (k ∷ parts 61 s) ≡ some k
more_parts k s = ap (λ (ls : List (List ℕ)). key_among (k ∷ ls)) (parts_cut 61 s)

pub key-none : (l : List ℕ) (e : ℕ) → PartEnd 61 l 0 e → e ≡ length l → key_of l ≡ none
unfolding key_of
key-none l e p h = ap key_among (p.last h)

pub key-some : (l : List ℕ) (e : ℕ) → PartEnd 61 l 0 e → e < length l → key_of l ≡ some (slice 0 e l)
unfolding key_of
key-some l e p h = ap key_among (p.more h) ∙ more_parts (slice 0 e l) (drop (e + 1) l)

pub has-none : (k l : List ℕ) → key_of l ≡ none → has_key k l ≡ false
unfolding has_key
has-none k l e = ap (is_key k) e

pub has_some : (k l j : List ℕ) → key_of l ≡ some j → has_key k l ≡ alike j k
unfolding has_key
has_some k l j e = ap (is_key k) e

-- a line has the key that it has
pub key-is : (k l : List ℕ) → has_key k l ≡ true → key_of l ≡ some k
unfolding has_key
key-is k l h = go (key_of l) h
  where
    go : (o : Option (List ℕ)) → is_key k o ≡ true → o ≡ some k
    go none e = false-true e
    go (some j) e = ap some (alike-true j k e)
