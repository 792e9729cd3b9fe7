-- A block of the program is a step of `arriving`: turn after turn prints for every line that ends in it, and what is carried
-- to the front is what `arriving` holds.
-- The turns come to the place behind the last of those lines; from there to the end is the line that goes on.
-- Assumes nothing.
use Prim.Native.Nat.{ℕ, ◌≤◌}
use native.Mathlib.Omega.{arith}
use native.Mathlib.Decide.{dec_le}
use mathlib.Core.Path.{◌≡◌, sym, ap, ◌∙◌}
use mathlib.Core.List.{List, []}
use lib.ListN.{length, take, drop, drop_of_length-le}
use lib.Seq.{take-append_seam, length-take-le}
use Rattle.limits.specs.Limits.{page_room}
use Rattle.tables.specs.declared.Tables.{Tables}
use Rattle.blocks.specs.Blocks.{Turn, turns, most, Carried, carried, OneBlock}
use Rattle.blocks.proofs.AllTurns.{all-turns}
use Rattle.blocks.proofs.Copying.{carried-part, carried-turned}

-- what is carried from a place on to the end is what stands there, `most` bytes of it at most
carried-holds : (block : List ℕ) (p end : ℕ) → end ≤ length block
    → take (carried block p end).held (carried block p end).block ≡ take most (drop p (take end block))
carried-holds block p end h = go (dec_le p end)
  where
    kept : List ℕ
    kept = take most (drop p (take end block))

    go : Dec (p ≤ end) → take (carried block p end).held (carried block p end).block ≡ kept
    go (yes l) = ap (λ (c : Carried). take c.held c.block) (carried-part block p end l h)
        ∙ take-append_seam kept (drop (length kept) block)
    go (no l) =
        let e : drop p (take end block) ≡ [] = drop_of_length-le (take end block) {i = p} (omega (arith, l, length-take-le end block h)) in
        ap (λ (c : Carried). take c.held c.block) (sym (carried-turned block p end (omega (arith, l)))) ∙ sym (ap (take most) e)

pub one_block : (t : Tables) (block : List ℕ) (end n : ℕ) → page_room ≤ n → end ≤ length block
    → (x : Turn) → x ≡ turns (length (take end block)) t (take end block) 0 n → OneBlock t (take end block) x (carried block x.place end)
one_block t block end n big h x e = rw e
    (let a = all-turns (length (take end block)) t (take end block) 0 n big (omega arith) in
    record {
      bytes = a.bytes;
      tables = a.tables;
      held = carried-holds block (turns (length (take end block)) t (take end block) 0 n).place end h ∙ ap (take most) a.rest;
    })
