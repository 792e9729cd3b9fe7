-- `decisions::naming::upon` meets its contract: the figures, the name, and then the task. Assumes nothing.
use mathlib.Core.Bool.{not}
use native.Mathlib.Omega.{arith}
use mathlib.Core.Path.{refl, sym, ap, ◌∙◌, subst}
use borrow.Author.Tests.{not-false}
use mathlib.Core.List.{List}
use Rattle.records.specs.declared.Program.{Program}
use Rattle.records.specs.Records.{Known, record_at}
use Rattle.rules.specs.declared.Answer.TheVariants.{NotAllowed}
use Rattle.decisions.specs.Inner.{KnownIn}
use Rattle.decisions.proofs.Laws.{like, stays}
use Rattle.decisions.proofs.Asked.{asked-not, asked_of}
use Rattle.decisions.proofs.naming.upon.Goals.{In_ok-p}
use Rattle.std.proofs.lemmas.Result.{err_from_is_err_and}
use Rattle.decisions.proofs.naming.upon.Goals as goal

known : (k : In_ok-p) → Known k.in_ok-p.p
known k = subst KnownIn k.in_ok-p.was k.find.ensures.known

pub returns-then-not-is_permitted : goal.returns-then-not-is_permitted
returns-then-not-is_permitted c = λ v O.
    stays v NotAllowed 0 refl (asked-not v _ _ _ _ c.is_permitted.ensures (ap not c.if-not-is_permitted.true))

pub overflow_sub-p : goal.overflow_sub-p
overflow_sub-p c = omega (arith, (known (goal.at.overflow_sub-p c).In_ok-p).0)

pub bounds-programs-p : goal.bounds-programs-p
bounds-programs-p c = omega (arith, (known (goal.at.bounds-programs-p c).In_ok-p).1)

pub performs-requires : goal.performs-requires
performs-requires c =
    record {
      can = c.requires;
      known = known (goal.at.performs-requires c).In_ok-p;
      allowed = sym c.is_permitted.ensures ∙ not-false _ (ap not c.if-not-is_permitted.false);
    }

pub returns-in_err-p : goal.returns-in_err-p
returns-in_err-p c =
    let p = err_from_is_err_and c.from_residual.result c.from_residual.ensures.1 in
    rw (p.1, p.2)
    (λ v O. stays v _ 0 c.in_err-p.ensures.known (asked_of v _ _ _ _ c.is_permitted.ensures
    (ap not c.if-not-is_permitted.false) _ _ _ c.find.ensures O.programs c.in_err-p.was))

pub returns : goal.returns
returns c =
    λ v O.
    like v (asked_of v _ _ _ _ c.is_permitted.ensures (ap not c.if-not-is_permitted.false) _ _ _ c.find.ensures O.programs
    c.in_ok-p.was)
    (c.performs.ensures v (record {
      row = ap (λ (ps : List Program). record_at ps c.in_ok-p.p) O.programs;
      tracks = O.tracks;
      clock = O.clock;
    }))
