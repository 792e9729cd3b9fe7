-- Sound tables are in order; and tables in order are told by their plain state.
-- Assumes nothing.
use Prim.Native.Nat.{ℕ, ◌+◌, ◌-◌, ◌≤◌, ◌<◌}
use native.Mathlib.Omega.{arith}
use native.Mathlib.Decide.{dec_lt}
use mathlib.Core.Path.{◌≡◌, sym, ap, ◌∙◌}
use mathlib.Core.Bool.{true, false}
use mathlib.Core.List.{List, [], ◌++◌}
use lib.ListN.{length, get_or, take, drop, replicate, length-drop, length-replicate, get_or-replicate, take-append-drop}
use lib.Seq.{length-take-le, get_or-drop, ext_get_or}
use lib.Dec.{eqb}
use borrow.Author.Tests.{ne_eqb}
use Rattle.lists.proofs.Tests.{clash}
use Rattle.records.specs.declared.Why.{Why}
use Rattle.records.specs.declared.Why.TheVariants.{Nothing, Tracks, Son, Lock, Number}
use Rattle.records.specs.Numbers.{free}
use Rattle.records.specs.Inner as numbers
use Rattle.tracks.specs.Tracks.{nobody}
use Rattle.tracks.specs.Inner as tracks
use Rattle.rules.specs.Book.{Book, state_of, why_of}
use Rattle.rules.specs.Sound.{suits}
use Rattle.rules.proofs.keepers.Notes.{notes, chained-accounts}
use Rattle.chains.specs.Links.{read}
use Rattle.chains.proofs.Reading.{walk_end, get_d_read, length-read}
use Rattle.chains.proofs.Laying.{laid-is, links-laid}
use Rattle.tables.specs.declared.Tables.{Tables}
use Rattle.tables.specs.Tables.{plain, lay, Arrays}
use Rattle.tables.specs.Sound.{Sound}
use Rattle.tables.specs.Inner.{Orderly}
use Rattle.tables.proofs.Members.{chained-once, chained-within}

-- laid out again they are the same
pub orderly-lay : (t : Tables) → Orderly t → lay (plain t) ≡ t
orderly-lay t O =
    let c = O.tracks.formed in
    let n = O.numbers.formed in
    let l = laid-is O.laid in
    λ i. record {
      ledger = record { programs = t.ledger.programs; clock = t.ledger.clock; tracks = sym c i; numbers = sym n i };
      links = sym l i;
    }

-- an array that is blank from place n on is what stands before and blanks behind
blank-behind : {A : Type 0} (d : A) (n size : ℕ) (xs : List A) → length xs ≡ size → ((i : ℕ) → n ≤ i → get_or xs i d ≡ d)
    → xs ≡ take n xs ++ replicate (size - n) d
blank-behind d n size xs e h =
    sym (take-append-drop n xs)
    ∙ ap (λ ys. take n xs ++ ys)
    (ext_get_or d (drop n xs) (replicate (size - n) d)
    (length-drop n xs ∙ ap (λ (k : ℕ). k - n) e ∙ sym (length-replicate (size - n) d))
    (λ i l. get_or-drop n xs i d ∙ h (n + i) (omega arith) ∙ sym (get_or-replicate (size - n) i d d (omega (arith, length-drop n xs)))))

-- a why that fits is one of a state below 7
no-suit : (b : Book) (p s : ℕ) (w : Why) → ((k : ℕ) → k < 7 → eqb s k ≡ false) → suits b p s w ≡ false
no-suit b p s Nothing f = rw (f 0 (omega arith), f 1 (omega arith), f 6 (omega arith))
no-suit b p s (Tracks n) f = rw (f 5 (omega arith))
no-suit b p s (Son k) f = rw (f 3 (omega arith))
no-suit b p s (Lock r) f = rw (f 3 (omega arith))
no-suit b p s Number f = f 3 (omega arith)

suits-state : (b : Book) (p s : ℕ) (w : Why) → suits b p s w ≡ true → s < 7
suits-state b p s w e = go (dec_lt s 7)
  where
    go : Dec (s < 7) → s < 7
    go (yes l) = l
    go (no n) = clash e (no-suit b p s w (λ k h. ne_eqb s k (λ i. n (omega arith))))

module _ (t : Tables) (A : Arrays t) (S : Sound t) where
  pub dormant : get_or (read t.links) 0 [] ≡ []
  dormant = get_d_read t.links 0 (omega arith) ∙ walk_end t.links 0 32 S.links.none

  tracks-fit : tracks.Fit t.ledger.tracks
  tracks-fit = record {
    most = S.limits.most;
    long = length-take-le t.ledger.tracks.count t.ledger.tracks.holders (omega (arith, S.limits.most, A.holders));
    formed =
        let e = blank-behind nobody t.ledger.tracks.count 256 t.ledger.tracks.holders A.holders S.blank.tracks in
        λ i. record { count = t.ledger.tracks.count; system = t.ledger.tracks.system; holders = e i };
  }

  numbers_fit : numbers.Fit t.ledger.numbers
  numbers_fit = record {
    most = S.limits.few;
    formed =
        let e = blank-behind free t.ledger.numbers.count 16 t.ledger.numbers.resources A.resources
        (λ i h. ap (λ (k : ℕ). get_or t.ledger.numbers.resources k free) (omega arith) ∙ S.blank.numbers (i + 1) (omega arith)) in
        λ i. record { count = t.ledger.numbers.count; resources = e i };
  }

  pub sound-orderly : Orderly t
  sound-orderly = record {
    laid = links-laid t.links A.links S.links
        (chained-once (plain t).book (read t.links) (length-read t.links) dormant S.chains)
        (chained-within (plain t).book (read t.links) (length-read t.links) dormant S.chains);
    dormant = dormant;
    long = A.programs;
    states = λ z Z. suits-state (plain t).book z (state_of (plain t).book z) (why_of (plain t).book z) (S.whys.fitting z Z);
    tracks = tracks-fit;
    numbers = numbers_fit;
    notes = notes (plain t).book (plain t).kept;
    accounts = chained-accounts (plain t) S.chains;
  }
