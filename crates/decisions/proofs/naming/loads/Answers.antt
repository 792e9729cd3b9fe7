-- `decisions::naming::loads` meets its contract: each return is a path of the rule. Assumes nothing.
use mathlib.Core.Bool.{not}
use mathlib.Core.Path.{◌≡◌, refl, sym, ◌∙◌, ap}
use Rattle.std.specs.Prelude.{ℕ, ◌≢◌, true, false, Option, is_some}
use Rattle.records.specs.Inner.{unless_0}
use Rattle.records.proofs.Search.{unless-none, unless-some, unless-no, unless-yes}
use Rattle.rules.specs.declared.Answer.TheVariants.{NotAllowed, NameInUse, AllUsed}
use Rattle.decisions.proofs.Laws.{like, stays}
use Rattle.decisions.proofs.Asked.{load-illegal, load-high, load-used, load_full, load-known, load-done}
use Rattle.decisions.proofs.naming.loads.Goals as goal

-- the name is another program's, or nobody's
module _ {n : ℕ} {r : Option ℕ} (F : r ≡ unless_0 n) where
  taken : is_some r ≡ true → n ≢ 0
  taken e = unless-yes n (ap (λ (o : Option ℕ). is_some o) (sym F) ∙ e)

  free : is_some r ≡ false → n ≡ 0
  free e = unless-no n (ap (λ (o : Option ℕ). is_some o) (sym F) ∙ e)

pub returns-then-not-is_legal : goal.returns-then-not-is_legal
returns-then-not-is_legal c = λ v O.
    stays v NotAllowed 0 refl (load-illegal v _ _ _ c.is_legal.ensures (ap not c.if-not-is_legal.true))

pub returns-then-priority : goal.returns-then-priority
returns-then-priority c = λ v O. stays v NotAllowed 0 refl
    (load-high v _ _ _ c.is_legal.ensures c.if-priority.true)

pub returns-then-is_some : goal.returns-then-is_some
returns-then-is_some c =
    λ v O.
    stays v NameInUse 0 refl
    (load-used v _ _ _ c.is_legal.ensures (ap not c.if-not-is_legal.false) c.if-priority.false _ O
    (taken c.find_program.ensures (sym c.is_some.ensures ∙ c.if-is_some.true)))

pub returns-in_default : goal.returns-in_default
returns-in_default c =
    λ v O.
    stays v AllUsed 0 refl
    (load_full v _ _ _ c.is_legal.ensures (ap not c.if-not-is_legal.false) c.if-priority.false _ O
    (free c.find_program.ensures (sym c.is_some.ensures ∙ c.if-is_some.false)) _ refl (unless-none _ c.in_default.ensures))

pub returns : goal.returns
returns c =
    let f = free c.find_program.ensures (sym c.is_some.ensures ∙ c.if-is_some.false) in
    let k = unless-some _ _ c.in-Some.ensures in
    λ v O.
    like v (load-done v _ _ _ c.is_legal.ensures (ap not c.if-not-is_legal.false) c.if-priority.false _ O f _ k.0 k.1)
    (record {
      number = refl;
      values = refl;
      events = refl;
      apt = load-known v _ _ _ c.is_legal.ensures (ap not c.if-not-is_legal.false) c.if-priority.false _ O f _ k.0 k.1;
    })
