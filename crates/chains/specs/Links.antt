-- How one array of links lays out the chains. Slot s, 0 to 6, is the head of the chain of state s, and
-- slot 7 + p the link of program p; a link is the number of the program that comes next, or 0 for the end.
-- Assumes nothing.
use Rattle.std.specs.Prelude.{ℕ, zero, suc, ◌+◌, ◌-◌, ◌≤◌, ◌<◌, ◌≡◌, Bool, cond, ◌&&◌, ◌||◌, not, List, [], ◌∷◌, get_or, set, replicate, eqb}
use Rattle.limits.specs.Limits.{dormant, states, most_programs}
use Rattle.lists.specs.Lists.{count, every, from}

-- heads for the states 0 to 6, and links for the programs 0 to 32
abbrev pub slots : ℕ
slots = states + most_programs + 1

-- what the links say of the chain from slot s, as far as f programs
unfoldable pub walk : List ℕ → ℕ → ℕ → List ℕ
walk l s zero = []
walk l s (suc f) = let r = walk l (states + get_or l s 0) f in cond (eqb (get_or l s 0) 0) [] (get_or l s 0 ∷ r)

-- the chains of states 0 to 6, as the links have them
abbrev pub rows : List ℕ → ℕ → ℕ → List (List ℕ)
unfolding walk
rows l s zero = []
rows l s (suc n) = walk l s most_programs ∷ rows l (suc s) n

unfoldable pub read : List ℕ → List (List ℕ)
unfolding walk
read l = rows l 0 states

-- from slot s the links lead along a list and end there
abbrev pub Leads : List ℕ → ℕ → List ℕ → Type 0
Leads l s [] = get_or l s 0 ≡ 0
Leads l s (q ∷ qs) = (get_or l s 0 ≡ q) × Leads l (states + q) qs

abbrev pub leads : List ℕ → ℕ → List ℕ → Bool
leads l s [] = eqb (get_or l s 0) 0
leads l s (q ∷ qs) = eqb (get_or l s 0) q && leads l (states + q) qs

-- how often p stands in some chains
abbrev pub total : ℕ → List (List ℕ) → ℕ
total p [] = 0
total p (c ∷ m) = count p c + total p m

-- the links lead along the chains, and other links are zero: the heads
-- of no chain, and the links of programs in none (OUTLINE, "The tables")
pub record Links (l : List ℕ) : Type 0 where
  pub along : (s : ℕ) → 1 ≤ s → s < states → Leads l s (get_or (read l) s [])
  pub none : get_or l dormant 0 ≡ 0
  pub others : (p : ℕ) → p ≤ most_programs → total p (read l) ≡ 0 → get_or l (states + p) 0 ≡ 0

unfoldable pub test_links : List ℕ → Bool
test_links l =
    let m : List (List ℕ) = read l in
    every (λ s. leads l s (get_or m s [])) (from 1 (states - 1)) && eqb (get_or l dormant 0) 0
    && every (λ p. not (eqb (total p m) 0) || eqb (get_or l (states + p) 0) 0) (from 0 (most_programs + 1))

-- a chain laid out from slot s, and all of them from slot s on
abbrev pub lay_chain : List ℕ → ℕ → List ℕ → List ℕ
lay_chain l s [] = set l s 0
lay_chain l s (q ∷ qs) = lay_chain (set l s q) (states + q) qs

abbrev pub lay_all : List ℕ → ℕ → List (List ℕ) → List ℕ
lay_all l s [] = l
lay_all l s (c ∷ m) = lay_all (lay_chain l s c) (suc s) m

-- the links of the chains
unfoldable pub links_of : List (List ℕ) → List ℕ
links_of m = lay_all (replicate slots 0) 0 m
