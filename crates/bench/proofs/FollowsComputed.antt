-- The steps from page to page, and the texts that part, told anew by the definitions, are the tables: by computation.
-- Assumes nothing.
use mathlib.Core.Path.{◌≡◌, refl}
use Rattle.lists.specs.Lists.{same}
use Rattle.text.specs.Text.{digits, decimal, number_of, parts, behind, entry}
use Rattle.text.specs.Lines.{lines_of}
use Rattle.clock.specs.Clock.{leap, days_in, dated, time_of}
use Rattle.records.specs.Names.{name_of}
use Rattle.records.specs.Records.{all, find, lowest_unused}
use Rattle.rules.specs.Plans.{woken, need, either, found}
use Rattle.rules.specs.Rules.{named, inside, waits, frees, clears, ends_in, order, due_at, takes, gives, allocated, call, as_caller, plan}
use Rattle.rules.specs.Keeper.{act, step}
use Rattle.rules.specs.Engine.{made_by, written_in, paged_in}
use Rattle.rules.specs.Test.{test_names, test_zeros, test_chains, test_whys, test_marks, test_system, test_users, test_unlocked}
use Rattle.rules.specs.Test.{test_limits, test_dues}
use Rattle.chains.specs.Links.{walk, read, test_links, links_of}
use Rattle.ledger.specs.Ledger.{test_blank}
use Rattle.tables.specs.Sound.{sound}
use Rattle.tables.specs.Calls.{served, asked}
use Rattle.page.specs.Page.{bytes, used_in, record_lines, chain_lines, held_line, held_lines, number_line, number_lines, lines, page}
use Rattle.reader.specs.Order.{value_behind, behind_line, first_bad}
use Rattle.reader.specs.Said.{value_of, with_line, rest_said, chains_said, records_said, said}
use Rattle.reader.specs.Reading.{writes, reading}
use Rattle.transcripts.specs.Transcripts.{lines_in, key_of, has_key, occurrence}
use Rattle.transcripts.specs.Listing.{listed_behind, listed_lines}
use Rattle.console.specs.Line.{execs, numbers, forms, line_of}
use Rattle.console.specs.Console.{keyed_in}
use Rattle.blocks.specs.Blocks.{kept_after, shown_for}
use Rattle.following.specs.Differences.{listed, parting, differences}
use Rattle.following.specs.Following.{compared, held_against, verdict}
use Rattle.showing.specs.Showing.{request_bytes, page_bytes}
use Rattle.comparing.specs.Verdicts.{steps_text, follow}
use Rattle.bench.specs.Pages.{bytes_of}
use Rattle.bench.specs.Follows as bench
use Rattle.bench.specs.Follows.{walk_all, walks, part_all, partings}

pub walks-computed : walk_all walks ≡ walks
unfolding
    same digits decimal number_of parts behind entry lines_of leap days_in dated time_of name_of all find lowest_unused need either found named inside waits woken
    frees clears ends_in order due_at takes gives allocated call as_caller plan act step test_names test_zeros test_chains test_whys test_marks test_system
    test_users test_unlocked test_limits test_dues walk read test_links links_of test_blank sound served asked made_by bytes used_in record_lines
    chain_lines held_line held_lines number_line number_lines lines page written_in paged_in value_behind behind_line first_bad value_of with_line
    rest_said chains_said records_said said writes reading lines_in key_of has_key occurrence listed_behind listed_lines execs numbers forms line_of
    keyed_in kept_after shown_for listed parting differences compared held_against verdict request_bytes page_bytes steps_text follow bytes_of
    bench.named walk_all walks
walks-computed = refl

pub partings-computed : part_all partings ≡ partings
unfolding digits decimal parts lines_of lines_in key_of has_key occurrence listed_behind listed_lines listed parting differences part_all partings
partings-computed = refl
