-- Tables in order with other holders of their tracks or other numbers are in order, and say what the event says.
-- The idea: no record and no link changes, so all that is known of the chains holds as it stands.
-- Assumes nothing.
use mathlib.Core.List.{[], ◌∷◌}
use Rattle.records.specs.declared.Numbers.{Numbers}
use Rattle.records.specs.Numbers.{resources}
use Rattle.records.specs.Inner as numbers
use Rattle.tracks.specs.declared.Tracks.{Tracks}
use Rattle.tracks.specs.Tracks.{holders}
use Rattle.tracks.specs.Inner as tracks
use Rattle.rules.specs.Plans.{held, numbered}
use Rattle.rules.specs.Keeper.{step}
use Rattle.chains.specs.Links.{read}
use Rattle.tables.specs.declared.Tables.{Tables}
use Rattle.tables.specs.Inner.{Orderly, Played, CanHold, CanNumber}

-- the tables with other tracks, other numbers
abbrev pub altered : Tracks → Numbers → Tables → Tables
altered x n t = record { ledger = record { programs = t.ledger.programs; clock = t.ledger.clock; tracks = x; numbers = n }; links = t.links }

altered-orderly : (t : Tables) → Orderly t → (x : Tracks) (n : Numbers) → tracks.Fit x → numbers.Fit n → Orderly (altered x n t)
altered-orderly t O x n X N = record {
  laid = O.laid;
  dormant = O.dormant;
  long = O.long;
  states = O.states;
  tracks = X;
  numbers = N;
  notes = O.notes;
  accounts = record {
    early = O.accounts.early;
    apart = O.accounts.apart;
    fits = λ s l h. let F = O.accounts.fits s l h in record { member = F.member; within = F.within; ascends = F.ascends };
  };
}

pub was-held : (t : Tables) (x : Tracks) → CanHold t x
    → Played t (held (holders x) ∷ []) (altered x t.ledger.numbers t)
unfolding step
was-held t x C = record {
  orderly = altered-orderly t C.orderly x t.ledger.numbers C.fit C.orderly.numbers;
  state =
      let n = C.count in
      let s = C.system in
      λ i. record {
        book = record {
          programs = t.ledger.programs;
          clock = t.ledger.clock.ticks;
          year = t.ledger.clock.year;
          tracks = n i;
          system = s i;
          numbers = t.ledger.numbers.count;
          holders = holders x;
          resources = resources t.ledger.numbers;
        };
        kept = read t.links;
      };
}

pub was-numbered : (t : Tables) (x : Numbers) → CanNumber t x
    → Played t (numbered (resources x) ∷ []) (altered t.ledger.tracks x t)
unfolding step
was-numbered t x C = record {
  orderly = altered-orderly t C.orderly t.ledger.tracks x C.orderly.tracks C.fit;
  state =
      let n = C.count in
      λ i. record {
        book = record {
          programs = t.ledger.programs;
          clock = t.ledger.clock.ticks;
          year = t.ledger.clock.year;
          tracks = t.ledger.tracks.count;
          system = t.ledger.tracks.system;
          numbers = n i;
          holders = holders t.ledger.tracks;
          resources = resources x;
        };
        kept = read t.links;
      };
}
