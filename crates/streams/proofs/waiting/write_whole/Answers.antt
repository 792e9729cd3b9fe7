-- A write moves the front of what is left to what was written.
use Rattle.std.proofs.Common.{ℕ, ◌-◌, List, ◌++◌, length, take, drop, sym, ap, ◌∙◌, append_assoc, take-append-drop}
use Rattle.std.specs.declared.option.Option.{Option}
use Rattle.std.specs.Io.KnownBytes.{Appends, Keeps}
use Rattle.std.proofs.KnownBytes.{Appends-trans, Appends-kept}
use Rattle.std.proofs.lemmas.List.{take_rest}
use Rattle.streams.specs.Fronts.{Written}
use Rattle.streams.proofs.waiting.write_whole.Goals as goal
use Rattle.streams.proofs.waiting.write_whole.Goals.{in-Ok, in-Err}

more : {a b d : Option (List ℕ)} {bytes rest : List ℕ} (n : ℕ) → Written a b bytes rest → Appends b d (take n rest)
    → Written a d bytes (take (length rest - n) (drop n rest))
more {a} {b} {d} {bytes} {rest} n w g = record {
  front = w.front ++ take n rest;
  whole =
      w.whole
      ∙ ap (λ (l : List ℕ). w.front ++ l) (sym (take-append-drop n rest))
      ∙ sym (append_assoc w.front (take n rest) (drop n rest))
      ∙ ap (λ (l : List ℕ). (w.front ++ take n rest) ++ l) (sym (take_rest rest n));
  grown = Appends-trans a b d w.front (take n rest) w.grown g;
}

kept : {a b d : Option (List ℕ)} {bytes rest : List ℕ} → Written a b bytes rest → Keeps b d → Written a d bytes rest
kept {a} {b} {d} w k = record { front = w.front; whole = w.whole; grown = Appends-kept a b d w.front w.grown k }

pub loop-preserved : goal.loop-preserved
loop-preserved g c = elim c.match-write.branch [
  | in-Ok w ↦ rw w.rest-is (more _ c.loop.invariant w.in-Ok.ensures.bytes)
  | in-Err w ↦ rw w.rest-is (kept c.loop.invariant w.in-Err.ensures.bytes)
]
