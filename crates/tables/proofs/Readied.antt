-- What the test of the tables gives to a call, and where the caller stands: sound tables are in order, and slot 1
-- leads to the head of the scheduled chain.
-- Assumes nothing.
use Prim.Native.Nat.{ℕ, ◌≤◌}
use native.Mathlib.Omega.{arith}
use mathlib.Core.Path.{◌≡◌, sym, ◌∙◌}
use mathlib.Core.Bool.{Bool, true}
use mathlib.Core.List.{List, [], ◌∷◌}
use lib.ListN.{get_or}
use Rattle.records.specs.Records.{Known}
use Rattle.rules.specs.Rules.{head}
use Rattle.rules.specs.Keeper.{lists, scheduled_chain}
use Rattle.chains.specs.Links.{read, Leads}
use Rattle.tables.specs.declared.Tables.{Tables}
use Rattle.tables.specs.Tables.{plain, Arrays, caller_of}
use Rattle.tables.specs.Sound.{sound}
use Rattle.tables.specs.Inner.{Ready, Tested}
use Rattle.tables.proofs.Agree.{sound-clauses}
use Rattle.tables.proofs.Orderly.{sound-orderly}

-- the caller
head-link : (l : List ℕ) (s : ℕ) (c : List ℕ) → Leads l s c → head c ≡ get_or l s 0
head-link l s [] h = sym h
head-link l s (q ∷ qs) h = sym h.0

caller-link : (t : Tables) → Ready t → get_or t.links 1 0 ≡ caller_of t
caller-link t R = sym (head-link t.links 1 (get_or (read t.links) 1 []) (R.orderly.laid.chain 1 (omega arith)))

-- the test
pub tested-is : (t : Tables) (b : Bool) (c : ℕ) → Arrays t → b ≡ sound t → c ≡ get_or t.links 1 0 → Tested t b c
tested-is t b c A e l = record { is = e; ready = ready; caller = λ h. l ∙ caller-link t (ready h) }
  where
    ready : b ≡ true → Ready t
    ready h = record { sound = sym e ∙ h; orderly = sound-orderly t A (sound-clauses t (sym e ∙ h)) }

-- the caller is a program
head-known : (c : List ℕ) (P : ℕ → Type 0) → ((z : ℕ) → 1 ≤ Rattle.lists.specs.Lists.count z c → P z) → 1 ≤ head c → P (head c)
head-known [] P f h = absurd (omega arith)
head-known (q ∷ qs) P f h = f q (omega (arith, Rattle.lists.proofs.Laws.same_refl q))

pub caller-known : (t : Tables) → Ready t → 1 ≤ caller_of t → Known (caller_of t)
caller-known t R = head-known (scheduled_chain lists (plain t)) Known (R.orderly.accounts.fits 1 (omega arith) (omega arith)).within

-- the clock of ready tables
pub clock-most : (t : Tables) → Ready t → t.ledger.clock.ticks ≤ 1000000000000
clock-most t R = (sound-clauses t R.sound).limits.time
