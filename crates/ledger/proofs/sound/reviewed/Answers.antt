-- `ledger::reviewed` meets its contract. Assumes nothing.
use Rattle.std.proofs.Common.{rules, ◌≡◌, refl, sym, length}
use Rattle.tracks.specs.Tracks.{places}
use Rattle.ledger.proofs.Tallies.{serves-user, user-serves, held-map, numbered-map}
use Rattle.ledger.proofs.Whole.{book-yes, book-no}
use Rattle.ledger.proofs.sound.reviewed.Goals.{then-not-held_soundly-via-then-not-held_soundly}
use Rattle.ledger.proofs.sound.reviewed.Goals.{then-not-held_soundly-via-else-not-held_soundly+then-not-numbers_ok}
use Rattle.ledger.proofs.sound.reviewed.Goals as goal

pub returns-then-not-is_sized : goal.returns-then-not-is_sized
returns-then-not-is_sized c = sym (book-no c.args.l (λ P. c.if-not-is_sized.ensures.nay refl P.sizes))

pub returns-in_err-roll : goal.returns-in_err-roll
returns-in_err-roll c = rw c.from_residual.ensures (sym (book-no c.args.l (λ P. c.in_err-roll.ensures P.roster)))

pub returns-then-not-held_soundly : goal.returns-then-not-held_soundly
returns-then-not-held_soundly c =
    let l = c.args.l in
    let serves = user-serves l c.in_ok-roll.ensures.marked c.strangers-marks.ensures in
    elim c.then-not-held_soundly.branch [
      | then-not-held_soundly-via-then-not-held_soundly w ↦
          sym (book-no l (λ P. w.if-not-held_soundly.ensures.nay refl (held-map serves P.places)))
      | then-not-held_soundly-via-else-not-held_soundly+then-not-numbers_ok w ↦
          sym (book-no l (λ P. w.if-not-numbers_ok.ensures.nay refl (numbered-map serves P.counts)))
    ]

pub returns : goal.returns
returns c =
    let l = c.args.l in
    let o = c.in_ok-roll.ensures in
    let users = serves-user l o.marked c.strangers-marks.ensures in
    let holders-long : length (places l.tracks) ≡ 256 = search rules in
    let resources-long : length l.numbers.resources ≡ 16 = search rules in
    record {
      sound = sym (book-yes l holders-long resources-long (record {
        sizes = c.if-not-is_sized.ensures.yes refl;
        roster = o.sound;
        places = held-map users (c.if-not-held_soundly.ensures.yes refl);
        counts = numbered-map users (c.if-not-numbers_ok.ensures.yes refl);
      }));
      columns = o.columns;
    }
