-- What inner functions ask and promise; nothing here need be believed for the calls.
-- Assumes nothing.
use Rattle.std.specs.Prelude.{ℕ, ◌+◌, ◌-◌, ◌≤◌, ◌<◌, ◌≡◌, cond, List, [], ◌∷◌, length, get_or, set, take, drop, replicate, leb, eqb}
use Rattle.limits.specs.Limits.{states, most_programs}
use Rattle.lists.specs.Lists.{count, insert, remove}
use Rattle.records.specs.declared.Program.{Program}
use Rattle.records.specs.Records.{record_at}
use Rattle.chains.specs.Links.{slots, read, Leads, total}

-- the links lay out the seven chains, each program stands in at most one of them, and the link of one that stands in none is 0
pub record Laid (l : List ℕ) (m : List (List ℕ)) : Type 0 where
  pub long : length l ≡ slots
  pub seven : length m ≡ states
  pub chain : (s : ℕ) → s < states → Leads l s (get_or m s [])
  pub once : (p : ℕ) → total p m ≤ 1
  pub within : (p : ℕ) → 1 ≤ total p m → (1 ≤ p) × (p ≤ most_programs)
  pub free : (p : ℕ) → total p m ≡ 0 → get_or l (states + p) 0 ≡ 0

-- the chains with p entered in the chain of state s, and with p taken out of it
abbrev pub entered : (ℕ → ℕ) → ℕ → ℕ → List (List ℕ) → List (List ℕ)
entered pr s p m = set m s (insert pr p (get_or m s []))

abbrev pub left : ℕ → ℕ → List (List ℕ) → List (List ℕ)
left s p m = set m s (remove p (get_or m s []))

-- the priority of program p
abbrev pub prio_in : List Program → ℕ → ℕ
prio_in ps p = (record_at ps p).priority

-- the slot behind which `insert` puts p, in the chain that slot s leads to
abbrev pub place : (ℕ → ℕ) → ℕ → ℕ → List ℕ → ℕ
place pr p s [] = s
place pr p s (q ∷ qs) = cond (leb (pr q) (pr p)) (place pr p (states + q) qs) s

-- the slot that leads to p
abbrev pub before : ℕ → ℕ → List ℕ → ℕ
before p s [] = s
before p s (q ∷ qs) = cond (eqb q p) s (before p (states + q) qs)

-- p, in no chain, can enter that of state s; and p, in that of state s, can leave it
pub record CanEnter (l : List ℕ) (s p : ℕ) : Type 0 where
  pub laid : Laid l (read l)
  pub state : s < states
  pub low : 1 ≤ p
  pub high : p ≤ most_programs
  pub out : total p (read l) ≡ 0

pub record CanLeave (l : List ℕ) (s p : ℕ) : Type 0 where
  pub laid : Laid l (read l)
  pub state : s < states
  pub there : 1 ≤ count p (get_or (read l) s [])

-- the first `len` of `ids` are the list, and the others are 0
pub record Lists (ids : List ℕ) (len : ℕ) (c : List ℕ) : Type 0 where
  pub some : take len ids ≡ c
  pub rest : drop len ids ≡ replicate (most_programs - len) 0
  pub most : len ≤ most_programs
