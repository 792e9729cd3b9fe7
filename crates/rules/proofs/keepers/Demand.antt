-- Demand 3 on chains, in one statement: from sound tables and entries that account for them, after any run of requests, refused ones among
-- them, the kept chains are what the replay says, which keeps none. States that are alike stay so at every event; that a chain is the
-- sorted list follows, since there is one only.
-- Assumes nothing.
use Prim.Native.Nat.{ℕ, ◌≤◌}
use native.Mathlib.Omega.{arith}
use mathlib.Core.Path.{◌≡◌, refl, sym, ap, ◌∙◌}
use mathlib.Core.Logic.{◌≢◌}
use mathlib.Core.List.{List, [], ◌∷◌}
use Rattle.lists.specs.Lists.{same, count}
use Rattle.lists.proofs.Laws.{same_refl, same-ne}
use Rattle.records.specs.Records.{Known}
use Rattle.rules.specs.Book.{Book, state_of}
use Rattle.rules.specs.Requests.{Call, Request}
use Rattle.rules.specs.Rules.{call, head, plan}
use Rattle.rules.specs.Keeper.{lists, Entries, entries, sorted, State, view, scheduled_chain, fresh}
use Rattle.rules.specs.Sound.{Sound}
use Rattle.rules.specs.Replay.{Fits, Accounts, First}
use Rattle.rules.proofs.shared.Paths.{caller-none, caller-is}
use Rattle.rules.proofs.keepers.Fits.{fits-state, sorted-fits}
use Rattle.rules.proofs.keepers.Alike.{Alike, fresh-alike, order_alike, runs-alike, answers-alike}
use Rattle.rules.proofs.keepers.Notes.{notes, alike-accounts, accounts-alike, chained-accounts}
use Rattle.rules.proofs.Statements.{Acts, for-none, for-first, Holds, Replayed, runs}

-- the first of a chain, and an empty one
head_first : (b : Book) (en : ℕ → ℕ) (s p : ℕ) (ps : List ℕ) → Fits b en s (p ∷ ps) → First b en s p
head_first b en s p ps F =
    let here : 1 ≤ count p (p ∷ ps) = omega (arith, same_refl p) in
    record {
      known = F.within p here;
      there = fits-state b en s (p ∷ ps) F p here;
      least = λ z Z e n. F.ascends.0 z (omega (arith, F.member z Z, ap (λ (x : ℕ). same x s) e, same_refl s, same-ne z p n));
    }

none-there : (b : Book) (en : ℕ → ℕ) (s : ℕ) → Fits b en s [] → (z : ℕ) → Known z → state_of b z ≢ s
none-there b en s F z Z e = omega (arith, F.member z Z, ap (λ (x : ℕ). same x s) e, same_refl s)

alike-acts : (a : State lists) (t : State entries) → Alike a t → (c : Call) → Acts a t.kept.entry c
unfolding plan
alike-acts a t A c = go (scheduled_chain lists a) refl (A.fits 1 (omega arith) (omega arith))
  where
    go : (l : List ℕ) → scheduled_chain lists a ≡ l → Fits a.book t.kept.entry 1 l → Acts a t.kept.entry c
    go [] e F = for-none (none-there a.book t.kept.entry 1 F) (caller-none (view lists a) (λ p. call (view lists a) p c) (ap head e))
    go (p ∷ ps) e F =
        let f : First a.book t.kept.entry 1 p = head_first a.book t.kept.entry 1 p ps F in
        for-first p f (caller-is (view lists a) (λ p. call (view lists a) p c) p (ap head e) f.known.0)

alike-holds : (a : State lists) (t : State entries) → Alike a t → Holds a t
alike-holds a t A = record {
  book = A.book;
  accounts = alike-accounts a t A;
  sorts = λ s l h. sorted-fits a.book t.kept A.noted s l;
  chains = λ s l h. sym (order_alike a t A s l h) ∙ ap (λ (b : Book). sorted b t.kept s) A.book;
  acts = alike-acts a t A;
}

alike-replayed : (a : State lists) (t : State entries) → Alike a t → (qs : List Request) → Replayed a t qs
alike-replayed a t A qs = record {
  holds = alike-holds (runs lists a qs) (runs entries t qs) (runs-alike qs a t A);
  answered = answers-alike qs a t A;
}

-- from any sound tables on, and any entries that account for them
pub demand : (a : State lists) (e : Entries) → Sound a → Accounts a e → (qs : List Request)
    → Replayed a (record { book = a.book; kept = e }) qs
demand a e S A = alike-replayed a (record { book = a.book; kept = e }) (accounts-alike a e S.shape.programs S.shape.chains A)

-- sound tables have such entries
pub accounted : (a : State lists) → Sound a → Accounts a (notes a.book a.kept)
accounted a S = chained-accounts a S.chains

-- from fresh tables of any size on
pub demand-fresh : (T S R Y : ℕ) (qs : List Request) → Replayed (fresh lists T S R Y) (fresh entries T S R Y) qs
demand-fresh T S R Y = alike-replayed (fresh lists T S R Y) (fresh entries T S R Y) (fresh-alike T S R Y)
