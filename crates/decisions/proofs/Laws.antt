-- What every decision rests on: a plan may be told in another form, a refusal stays, and so does what is done without
-- anything happening. And tests that fail.
-- Assumes nothing.
use Prim.Native.Nat.{ℕ}
use mathlib.Core.Path.{◌≡◌, refl, sym, ap, subst}
use mathlib.Core.Bool.{Bool, true, false}
use mathlib.Core.List.{List, [], ◌∷◌}
use Rattle.rules.specs.declared.Answer.{Answer}
use Rattle.rules.specs.Answers.{number, values}
use Rattle.rules.specs.Book.{Book}
use Rattle.rules.specs.Plans.{Plan, refused, done, View}
use Rattle.ledger.specs.declared.Ledger.{Ledger}
use Rattle.ledger.specs.Ledger.{book_of}
use Rattle.decisions.specs.declared.Effect.TheVariants.{Stay}
use Rattle.decisions.specs.declared.Decision.{Decision}
use Rattle.decisions.specs.Inner.{Decides, OfTracks, OfNumbers, OfBook}

module _ (v : View) where
  pub like : {x y : Plan} {d : Decision} → x ≡ y → Decides v y d → Decides v x d
  like {d = d} e D = subst (λ z. Decides v z d) (sym e) D

  pub same : {x : Plan} {d e : Decision} → d ≡ e → Decides v x e → Decides v x d
  same {x = x} e D = subst (Decides v x) (sym e) D

  pub stays : (a : Answer) (n : ℕ) {x : Plan} → values a ≡ n ∷ [] → x ≡ refused (number a) n
      → Decides v x (record { answer = a; effect = Stay })
  stays a n w e = like e (record { number = refl; values = w; events = refl; apt = tt })

  pub rests : (a : Answer) (vs : List ℕ) {x : Plan} {d : Decision} → d ≡ record { answer = a; effect = Stay } → number a ≡ 0 → values a ≡ vs
      → x ≡ done vs [] → Decides v x d
  rests a vs D n w e = like e (same D (record { number = n; values = w; events = refl; apt = tt }))

-- a test that cannot be passed
pub fails : (b : Bool) → (b ≡ true → ⊥) → b ≡ false
fails true f = absurd (f refl)
fails false f = refl

-- the parts of a ledger, as a view of its book has them
module _ (v : View) (l : Ledger) (O : v.book ≡ book_of l) where
  pub tracks-in : OfTracks v l.tracks
  tracks-in = record { size = ap (λ (b : Book). b.tracks) O; held = ap (λ (b : Book). b.holders) O }

  pub numbers-in : OfNumbers v l.numbers
  numbers-in = record { size = ap (λ (b : Book). b.numbers) O; all = ap (λ (b : Book). b.resources) O }

  pub book-in : OfBook v l.programs l.tracks l.clock.ticks
  book-in = record { programs = ap (λ (b : Book). b.programs) O; tracks = tracks-in; clock = ap (λ (b : Book). b.clock) O }
