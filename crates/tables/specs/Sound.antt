-- Tables are sound exactly when: the outline's paragraph, a field for each clause, in its order (OUTLINE, "The
-- tables"); and the test of it that computes.
-- Assumes nothing.
use Rattle.std.specs.Prelude.{Bool, ◌&&◌}
use Rattle.rules.specs.Sound.{Names, Zeros, Chains, Whys, Marks, System, Users, Unlocked, Limits, Dues}
use Rattle.rules.specs.Test.{test_names, test_zeros, test_chains, test_whys, test_marks, test_system, test_users, test_unlocked}
use Rattle.rules.specs.Test.{test_limits, test_dues}
use Rattle.chains.specs.Links.{Links, test_links}
use Rattle.ledger.specs.Ledger.{Blank, test_blank}
use Rattle.tables.specs.declared.Tables.{Tables}
use Rattle.tables.specs.Tables.{plain}

pub record Sound (t : Tables) : Type 0 where
  pub names : Names (plain t).book  -- names are legal and distinct
  pub zeros : Zeros (plain t).book  -- unused records hold zeros and no mark; due and interval are zeros without a timer
  pub chains : Chains (plain t).book (plain t).kept  -- each chain holds just the programs of its state, once, priorities never falling
  pub links : Links t.links  -- other links zero
  pub whys : Whys (plain t).book  -- each why fits its state, and no son is awaited twice
  pub marks : Marks (plain t).book  -- the mark stands only in states 3 and 5
  pub system : System (plain t).book  -- the system holds just the tracks below S
  pub users : Users (plain t).book  -- programs that hold, own or lock are used
  pub unlocked : Unlocked (plain t).book  -- a free number has no lock
  pub blank : Blank t.ledger  -- entries at T and above, or above R, are blank
  pub limits : Limits (plain t).book  -- the limits above hold
  pub dues : Dues (plain t).book  -- each due is above the clock and at most clock + 1,474,200,000; intervals are at most that

unfoldable pub sound : Tables → Bool
sound t =
    test_names (plain t).book && test_zeros (plain t).book && test_chains (plain t).book (plain t).kept && test_links t.links
    && test_whys (plain t).book && test_marks (plain t).book && test_system (plain t).book && test_users (plain t).book
    && test_unlocked (plain t).book && test_blank t.ledger && test_limits (plain t).book && test_dues (plain t).book
