-- `packing::pack` meets its contract: each part is as long as its type says. Assumes nothing.
use Rattle.std.proofs.Common.{◌≡◌, arith, rules, ap, length}
use Rattle.packing.specs.Packed.{in_bytes}
use Rattle.packing.proofs.Pieces.{grown}
use Rattle.packing.proofs.pack.Goals as goal

pub returns-clause-len : goal.returns-clause-len
returns-clause-len c =
    let t = c.args.tables.now in
    let links : length t.links ≡ 40 = search rules in
    let programs : length t.ledger.programs ≡ 32 = search rules in
    let resources : length t.ledger.numbers.resources ≡ 16 = search rules in
    let holders : length c.places.result ≡ 256 = search rules in
    omega (
      arith,
      ap length c.new-out.ensures,
      grown c.new-out.result.items (in_bytes 8 t.ledger.clock.ticks) c.push_long.ensures,
      grown c.push_long.new.out.items (in_bytes 2 t.ledger.clock.year) c.put_pair.ensures,
      grown c.put_pair.new.out.items (in_bytes 2 t.ledger.tracks.count) c.put_pair-2.ensures,
      grown c.put_pair-2.new.out.items (in_bytes 2 t.ledger.tracks.system) c.put_pair-3.ensures,
      c.push.ensures.len,
      grown c.push.new.self.items c.places.result c.put_bytes.ensures,
      c.put_resources.ensures.len,
      grown c.put_resources.new.out.items t.links c.put_bytes-2.ensures,
      c.put_programs.ensures.len,
      links,
      programs,
      resources,
      holders,
    )
