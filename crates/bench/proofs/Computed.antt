-- The bench, told anew by the definitions, is the bench: by computation.
-- Assumes nothing.
use mathlib.Core.Path.{◌≡◌, refl}
use Rattle.lists.specs.Lists.{same}
use Rattle.text.specs.Text.{digits, decimal, number_of, parts, entry}
use Rattle.text.specs.Lines.{lines_of}
use Rattle.clock.specs.Clock.{leap, days_in, dated, time_of}
use Rattle.records.specs.Names.{name_of}
use Rattle.records.specs.Records.{all, find, lowest_unused}
use Rattle.rules.specs.Plans.{woken, need, either, found}
use Rattle.rules.specs.Rules.{named, inside, waits, frees, clears, ends_in, order, due_at, takes, gives, allocated, call, as_caller, plan}
use Rattle.rules.specs.Keeper.{act, step}
use Rattle.rules.specs.Engine.{after_ticks, sum_of_ticks, ticked_by, made_by, written_in, paged_in}
use Rattle.rules.specs.Test.{test_names, test_zeros, test_chains, test_whys, test_marks, test_system, test_users, test_unlocked}
use Rattle.rules.specs.Test.{test_limits, test_dues}
use Rattle.chains.specs.Links.{walk, read, test_links, links_of}
use Rattle.ledger.specs.Ledger.{test_blank}
use Rattle.tables.specs.Sound.{sound}
use Rattle.tables.specs.Calls.{served, asked}
use Rattle.page.specs.Page.{bytes, used_in, record_lines, chain_lines, held_line, held_lines, number_line, number_lines, lines, page}
use Rattle.console.specs.Line.{execs, numbers, forms, line_of}
use Rattle.console.specs.Console.{keyed_in}
use Rattle.console.specs.Sheet.{answer_line, printed, sheet}
use Rattle.history.specs.Runs as history
use Rattle.bench.specs.Case.{tell, tell_all, print_all, told_anew}
use Rattle.bench.specs.Cases.{bench}

pub computed : told_anew bench ≡ bench
unfolding
    same digits decimal number_of parts entry leap days_in dated time_of name_of all find lowest_unused need either found named inside waits woken frees clears
    ends_in order due_at takes gives allocated call as_caller plan act step test_names test_zeros test_chains test_whys test_marks test_system test_users
    test_unlocked test_limits test_dues walk read test_links links_of test_blank sound served asked after_ticks sum_of_ticks ticked_by made_by bytes used_in record_lines chain_lines
    held_line held_lines number_line number_lines lines page written_in paged_in execs numbers forms line_of keyed_in answer_line lines_of printed
    sheet history.step tell tell_all print_all told_anew bench
computed = refl
