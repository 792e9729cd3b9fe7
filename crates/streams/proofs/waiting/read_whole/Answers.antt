-- A read puts its bytes behind those that were read.
use Rattle.std.proofs.Common.{◌≡◌, ℕ, ◌+◌, ◌≤◌, List, ◌++◌, length, take, sym, ap, ◌∙◌, subst, rules, arith, length-take-le}
use Rattle.std.proofs.Math.Seq.{take-append-add}
use Rattle.std.proofs.lemmas.List.{take-append-le, places}
use Rattle.std.specs.Io.KnownBytes.{Consumes}
use Rattle.std.proofs.KnownBytes.{Consumes-trans}
use Rattle.streams.proofs.waiting.read_whole.Goals as goal

front_more : (xs part rest : List ℕ) (a n : ℕ) → a ≤ length xs → n ≤ length part
    → take (a + n) (take a xs ++ (part ++ rest)) ≡ take a xs ++ take n part
front_more xs part rest a n h k =
    ap (λ (j : ℕ). take (j + n) (take a xs ++ (part ++ rest))) (sym (length-take-le a xs h))
    ∙ take-append-add (take a xs) (part ++ rest) n
    ∙ ap (λ (l : List ℕ). take a xs ++ l) (take-append-le n part rest k)

pub loop-have-preserved : goal.loop-have-preserved
loop-have-preserved g c =
    let l = c.loop-have in
    let read = c.in_ok-n.ensures in
    let n : ℕ = c.in_ok-n.n in
    let part : List ℕ = c.read_some.new.buf in
    let all = Consumes-trans _ _ _ (take l.have l.room) (take n part) l.invariant.1 read.bytes.0 in (
      search (rules, places),
      subst (Consumes _ _) (sym (front_more l.room part _ l.have n (omega (arith, l.invariant.0)) (omega (arith, read.bound.0)))) all,
    )
