-- Each public call's contract determines its outcome: what two outcomes that meet it have in common. Of a part that is the place in memory
-- and the bytes: the name under which a proof follows a reference is no part of the outcome.
-- Assumes nothing.
use Prim.Native.Nat.{ℕ}
use mathlib.Core.Path.{◌≡◌, sym, ap, ap₂, subst, ◌∙◌}
use mathlib.Core.List.{List}
use denote.Ref.{Bor}
use Rattle.rules.specs.declared.Answer.{Answer}
use Rattle.rules.proofs.shared.OneAnswer.{one_answer}
use Rattle.transcripts.specs.declared.finding.Place.{Place}
use Rattle.transcripts.specs.declared.finding.Located.{Located}
use Rattle.transcripts.specs.declared.handing.Found.{Found}
use Rattle.transcripts.specs.Finding.{Sought, told, PartAt, Finds}
use Rattle.transcripts.specs.Listing.{Filled, answered}
use Rattle.transcripts.specs.Promises.{SamePart}

pub locate-determined : (a b : Located) → told a ≡ told b → a ≡ b
locate-determined a b e =
    ap₂ (λ (x : Answer) (p : Place). record { answer = x; place = p })
    (one_answer a.answer b.answer (ap (λ (w : Sought). w.number) e) (ap (λ (w : Sought). w.values) e))
    (ap (λ (w : Sought). w.place) e)

pub part-determined : (original copy : Bor (List ℕ)) (p : Place) (r q : Bor (List ℕ)) → PartAt original copy p r
    → PartAt original copy p q → SamePart r q
part-determined original copy p r q a b = record {
  place = λ i. ((a.memory ∙ sym b.memory) i, (a.begins ∙ sym b.begins) i);
  bytes = a.bytes ∙ sym b.bytes;
}

pub find-located : (original copy : Bor (List ℕ)) (key : List ℕ) (n : ℕ) (a b : Found) → Finds original copy key n a
    → Finds original copy key n b → a.located ≡ b.located
find-located original copy key n a b f g = locate-determined a.located b.located (f.answers ∙ sym g.answers)

pub find-determined : (original copy : Bor (List ℕ)) (key : List ℕ) (n : ℕ) (a b : Found) → Finds original copy key n a
    → Finds original copy key n b → SamePart a.part b.part
find-determined original copy key n a b f g =
    part-determined original copy b.located.place a.part b.part
    (subst (λ (x : Located). PartAt original copy x.place a.part) (find-located original copy key n a b f g) f.hands) g.hands

-- of `list` and of `list_figures`
pub list-determined : (a b : Answer) (l m : List ℕ) → answered a l ≡ answered b m → (a ≡ b) × (l ≡ m)
list-determined a b l m e =
    (one_answer a b (ap (λ (w : Filled). w.number) e) (ap (λ (w : Filled). w.values) e), ap (λ (w : Filled). w.list) e)
