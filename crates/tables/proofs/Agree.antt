-- The test of soundness and the outline's paragraph agree, for any tables: clause by clause.
-- Assumes nothing.
use mathlib.Core.Path.{◌≡◌}
use mathlib.Core.Logic.{◌↔◌}
use mathlib.Core.Bool.{true, ◌&&◌}
use Rattle.lists.proofs.Tests.{both, and}
use Rattle.rules.specs.Test.{test_names, test_zeros, test_chains, test_whys, test_marks, test_system, test_users, test_unlocked}
use Rattle.rules.specs.Test.{test_limits, test_dues}
use Rattle.rules.proofs.tests.Agree.{names-clause, names-test, zeros-clause, zeros-test, whys-clause, whys-test}
use Rattle.rules.proofs.tests.Agree.{marks-clause, marks-test, dues-clause, dues-test}
use Rattle.rules.proofs.tests.AgreeTables.{chains-clause, chains-test, system-clause, system-test, users-clause, users-test}
use Rattle.rules.proofs.tests.AgreeTables.{unlocked-clause, unlocked-test, limits-clause, limits-test}
use Rattle.chains.specs.Links.{test_links}
use Rattle.chains.proofs.Agree.{links-clause, links-test}
use Rattle.ledger.specs.Ledger.{test_blank}
use Rattle.ledger.proofs.Agree.{blank-clause, blank-test}
use Rattle.tables.specs.declared.Tables.{Tables}
use Rattle.tables.specs.Tables.{plain}
use Rattle.tables.specs.Sound.{Sound, sound}

pub sound-clauses : (t : Tables) → sound t ≡ true → Sound t
unfolding sound
sound-clauses t e =
    let b = (plain t).book in
    let k = (plain t).kept in
    let c1 = test_names b && test_zeros b in
    let c2 = c1 && test_chains b k in
    let c3 = c2 && test_links t.links in
    let c4 = c3 && test_whys b in
    let c5 = c4 && test_marks b in
    let c6 = c5 && test_system b in
    let c7 = c6 && test_users b in
    let c8 = c7 && test_unlocked b in
    let c9 = c8 && test_blank t.ledger in
    let c10 = c9 && test_limits b in
    let e11 = both c10 (test_dues b) e in
    let e10 = both c9 (test_limits b) e11.0 in
    let e9 = both c8 (test_blank t.ledger) e10.0 in
    let e8 = both c7 (test_unlocked b) e9.0 in
    let e7 = both c6 (test_users b) e8.0 in
    let e6 = both c5 (test_system b) e7.0 in
    let e5 = both c4 (test_marks b) e6.0 in
    let e4 = both c3 (test_whys b) e5.0 in
    let e3 = both c2 (test_links t.links) e4.0 in
    let e2 = both c1 (test_chains b k) e3.0 in
    let e1 = both (test_names b) (test_zeros b) e2.0 in
    record {
      names = names-clause b e1.0;
      zeros = zeros-clause b e1.1;
      chains = chains-clause b k e2.1;
      links = links-clause t.links e3.1;
      whys = whys-clause b e4.1;
      marks = marks-clause b e5.1;
      system = system-clause b e6.1;
      users = users-clause b e7.1;
      unlocked = unlocked-clause b e8.1;
      blank = blank-clause t.ledger e9.1;
      limits = limits-clause b e10.1;
      dues = dues-clause b e11.1;
    }

pub sound-test : (t : Tables) → Sound t → sound t ≡ true
unfolding sound
sound-test t S =
    let b = (plain t).book in
    and (and (and (and (and (and (and (and (and (and (and
    (names-test b S.names) (zeros-test b S.zeros))
    (chains-test b (plain t).kept S.chains))
    (links-test t.links S.links))
    (whys-test b S.whys))
    (marks-test b S.marks))
    (system-test b S.system))
    (users-test b S.users))
    (unlocked-test b S.unlocked))
    (blank-test t.ledger S.blank))
    (limits-test b S.limits))
    (dues-test b S.dues)

pub sound-agrees : (t : Tables) → (sound t ≡ true) ↔ Sound t
sound-agrees t = (sound-clauses t, sound-test t)
