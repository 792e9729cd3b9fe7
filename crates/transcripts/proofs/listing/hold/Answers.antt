-- `listing::hold` meets its contract. Assumes nothing.
use mathlib.Core.Path.{sym, ap, ap₂, subst, ◌∙◌}
use mathlib.Core.Bool.{Bool, not}
use Prim.Native.Nat.{◌-◌}
use lib.ListN.{take, drop}
use lib.Seq.{slice}
use Rattle.lists.specs.Lists.{alike}
use Rattle.transcripts.specs.Inner.{SpanIn, held_at}
use Rattle.text.proofs.Fields.{same_bytes}
use Rattle.transcripts.proofs.LineLaws.{part-taken}
use Rattle.transcripts.proofs.listing.hold.Goals as goal

pub returns-in-Some : goal.returns-in-Some
returns-in-Some c =
    let a = c.args in
    let x = c.in-Some.span in
    let within = subst (SpanIn a.copy.now) c.in-Some.is c.requires.span_in in
    ap (λ (b : Bool). record { listed = b; begins = x.begins }) (c.ne.ensures ∙ ap not (same_bytes (take (a.end - a.at) (drop a.at a.original.now)) (take (x.ends - x.begins) (drop x.begins a.copy.now))
    ∙ ap₂ alike (part-taken a.original.now a.at a.end c.requires.at_le_end) (part-taken a.copy.now x.begins x.ends within.0)))
    ∙ ap (held_at (slice a.at a.end a.original.now) a.copy.now) (sym c.in-Some.is)
