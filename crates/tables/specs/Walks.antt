-- What inner functions ask and promise; nothing here need be believed for the calls.
-- Assumes nothing.
use Rattle.std.specs.Prelude.{ℕ, zero, suc, ◌+◌, ◌-◌, ◌≤◌, ◌≡◌, Bool, true, false, not, ◌&&◌, ◌||◌, List, [], get_or, ltb, eqb}
use Rattle.limits.specs.Limits.{dormant, suspended, states, most_programs}
use Rattle.lists.specs.Lists.{count, Ascending}
use Rattle.records.specs.declared.Program.{Program}
use Rattle.records.specs.Records.{Known}
use Rattle.rules.specs.Book.{Book}
use Rattle.rules.specs.Test.{test_chains}
use Rattle.chains.specs.Links.{walk, read, Leads, test_links}
use Rattle.ledger.specs.Inner.{Columns}

-- the tests of soundness that concern chains: of a book they see its records alone
abbrev pub book_with : List Program → Book
book_with ps = record { programs = ps; clock = 0; year = 0; tracks = 0; system = 0; numbers = 0; holders = []; resources = [] }

unfoldable pub test_chained : List Program → List ℕ → Bool
test_chained ps l = test_chains (book_with ps) (read l) && test_links l

-- whether any records with these states and priorities pass them
abbrev pub Chained : List ℕ → List ℕ → List ℕ → Bool → Type 0
Chained ss qs l ok = (ps : List Program) → Columns ps ss qs → ok ≡ test_chained ps l

-- what an array says of program p
abbrev pub of_program : List ℕ → ℕ → ℕ
of_program xs p = get_or xs (p - 1) 0

-- the links lead from slot s along programs in state s, each once, priorities never falling; st and pr give a program's state and priority
pub record Ordered (st pr : ℕ → ℕ) (l : List ℕ) (s : ℕ) (c : List ℕ) : Type 0 where
  pub lies : Leads l s c
  pub within : (p : ℕ) → 1 ≤ count p c → Known p
  pub state : (p : ℕ) → 1 ≤ count p c → st p ≡ s
  pub once : (p : ℕ) → count p c ≤ 1
  pub rising : Ascending (λ p q. pr p ≤ pr q) c

-- how often each program was met in the chains walked so far; none of a list was
abbrev pub Unmet : List ℕ → List ℕ → Type 0
Unmet met c = (p : ℕ) → 1 ≤ count p c → get_or met (p - 1) 0 ≡ 0

-- what a walk along the chain of state s finds: whether it is in order and its programs were not met before; then they have been met
pub record Walk (st pr : ℕ → ℕ) (l : List ℕ) (s : ℕ) (met : List ℕ) (ok : Bool) (marks : List ℕ) : Type 0 where
  pub ordered : ok ≡ true → Ordered st pr l s (walk l s most_programs)
  pub marked : ok ≡ true → (p : ℕ) → Known p → get_or marks (p - 1) 0 ≡ get_or met (p - 1) 0 + count p (walk l s most_programs)
  pub refused : ok ≡ false → Ordered st pr l s (walk l s most_programs) → Unmet met (walk l s most_programs) → ⊥

-- the chains of states 1 to n are in order; how often p stands in them; and so often it was met
abbrev pub AllOrdered : (ℕ → ℕ) → (ℕ → ℕ) → List ℕ → ℕ → Type 0
AllOrdered st pr l n = (s : ℕ) → 1 ≤ s → s ≤ n → Ordered st pr l s (walk l s most_programs)

abbrev pub standing : List ℕ → ℕ → ℕ → ℕ
standing l zero p = 0
standing l (suc n) p = count p (walk l (suc n) most_programs) + standing l n p

abbrev pub Marked : List ℕ → ℕ → List ℕ → Type 0
Marked l n marks = (p : ℕ) → Known p → get_or marks (p - 1) 0 ≡ standing l n p

pub record Walks (st pr : ℕ → ℕ) (l : List ℕ) (marks : List ℕ) : Type 0 where
  pub ordered : AllOrdered st pr l suspended
  pub marked : Marked l suspended marks

-- who was met in no chain has link 0, and is in none of the states 1 to 6
unfoldable pub settled : ℕ → ℕ → ℕ → Bool
settled mark link state = not (eqb mark 0) || (eqb link 0 && (eqb state dormant || ltb suspended state))

-- that of every program, and the heads of no chain are 0
abbrev pub Others : (ℕ → ℕ) → List ℕ → List ℕ → Type 0
Others st l marks = (p : ℕ) → Known p → settled (get_or marks (p - 1) 0) (get_or l (states + p) 0) (st p) ≡ true

pub record Rest (st : ℕ → ℕ) (l : List ℕ) (marks : List ℕ) : Type 0 where
  pub dormant : get_or l dormant 0 ≡ 0
  pub nobody : get_or l states 0 ≡ 0
  pub others : Others st l marks

pub record Rests (st : ℕ → ℕ) (l : List ℕ) (marks : List ℕ) (ok : Bool) : Type 0 where
  pub fine : ok ≡ true → Rest st l marks
  pub refused : ok ≡ false → Rest st l marks → ⊥
