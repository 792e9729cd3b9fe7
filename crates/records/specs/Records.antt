-- Program records, numbered 1 to 32 (OUTLINE, "The tables").
-- Assumes nothing.
use Rattle.std.specs.Prelude.{ℕ, ◌-◌, ◌≤◌, Bool, true, false, not, cond, ◌&&◌, ◌||◌, List, [], get_or, replicate, eqb}
use Rattle.limits.specs.Limits.{dormant, scheduled, general, disc, suspended, most_programs}
use Rattle.lists.specs.Lists.{from, first, alike, up_to}
use Rattle.records.specs.declared.Program.{Program}
use Rattle.records.specs.declared.Why.{Why}
use Rattle.records.specs.declared.Why.TheVariants.{Nothing}

-- the programs' numbers
abbrev pub Known : ℕ → Type 0
Known p = (1 ≤ p) × (p ≤ most_programs)

abbrev pub known : ℕ → Bool
known p = up_to 1 most_programs p

unfoldable pub all : List ℕ
all = from 1 most_programs

-- what an index past the records gives: no rule asks for it
abbrev pub missing : Program
missing = record { used = false; name = []; priority = 0; state = 0; why = Nothing; due = 0; interval = 0; suspend = false }

-- an unused record holds zeros, and no mark
abbrev pub unused : Program
unused = record { used = false; name = replicate 5 0; priority = 0; state = 0; why = Nothing; due = 0; interval = 0; suspend = false }

-- a program just loaded: dormant, without a why, a timer or a mark
abbrev pub newcomer : List ℕ → ℕ → Program
newcomer nm n =
    record { used = true; name = nm; priority = n; state = dormant; why = Nothing; due = 0; interval = 0; suspend = false }

-- a record with another state and why: its mark is gone with the state
abbrev pub in_state : ℕ → Why → Program → Program
in_state s w r = record {
  used = r.used;
  name = r.name;
  priority = r.priority;
  state = s;
  why = w;
  due = r.due;
  interval = r.interval;
  suspend = false;
}

-- another priority, another timer, the mark as it was; and the mark set
abbrev pub with_priority : ℕ → Program → Program
with_priority n r = record {
  used = r.used;
  name = r.name;
  priority = n;
  state = r.state;
  why = r.why;
  due = r.due;
  interval = r.interval;
  suspend = r.suspend;
}

abbrev pub with_timer : ℕ → ℕ → Program → Program
with_timer d i r = record {
  used = r.used;
  name = r.name;
  priority = r.priority;
  state = r.state;
  why = r.why;
  due = d;
  interval = i;
  suspend = r.suspend;
}

abbrev pub with_mark : Program → Program
with_mark r = record {
  used = r.used;
  name = r.name;
  priority = r.priority;
  state = r.state;
  why = r.why;
  due = r.due;
  interval = r.interval;
  suspend = true;
}

-- the states in which a program waits, and in which its mark may stand (OUTLINE, "SS of a program that waits")
abbrev pub in_wait : ℕ → Bool
in_wait s = eqb s general || eqb s disc

-- its wait is over (OUTLINE, "SS of a program that waits"): it is scheduled, or suspended where its mark stood
abbrev pub wait_over : Program → Program
wait_over r = in_state (cond r.suspend suspended scheduled) Nothing r

-- the record of program p
abbrev pub record_at : List Program → ℕ → Program
record_at ps p = get_or ps (p - 1) missing

-- the program of that name, or 0; the lowest unused record, or 0
unfoldable pub find : List Program → List ℕ → ℕ
unfolding all
find ps nm = first (λ p. (record_at ps p).used && alike (record_at ps p).name nm) all

unfoldable pub lowest_unused : List Program → ℕ
unfolding all
lowest_unused ps = first (λ p. not (record_at ps p).used) all
