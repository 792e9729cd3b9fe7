-- The pages, read anew by the definitions, are the pages: by computation.
-- Assumes nothing.
use mathlib.Core.Path.{◌≡◌, refl}
use Rattle.lists.specs.Lists.{same}
use Rattle.text.specs.Text.{digits, decimal, number_of, parts, behind, entry}
use Rattle.records.specs.Names.{name_of}
use Rattle.records.specs.Records.{all}
use Rattle.rules.specs.Test.{test_names, test_zeros, test_chains, test_whys, test_marks, test_system, test_users, test_unlocked}
use Rattle.rules.specs.Test.{test_limits, test_dues}
use Rattle.chains.specs.Links.{walk, read, test_links, links_of}
use Rattle.ledger.specs.Ledger.{test_blank}
use Rattle.tables.specs.Sound.{sound}
use Rattle.page.specs.Page.{bytes, used_in, record_lines, chain_lines, held_line, held_lines, number_line, number_lines, lines, page}
use Rattle.reader.specs.Order.{value_behind, behind_line, first_bad}
use Rattle.reader.specs.Said.{value_of, with_line, rest_said, chains_said, records_said, said}
use Rattle.reader.specs.Reading.{writes, reading}
use Rattle.bench.specs.Pages.{bytes_of, read_all, pages}

pub pages-computed : read_all pages ≡ pages
unfolding
    same digits decimal number_of parts behind entry name_of all test_names test_zeros test_chains test_whys test_marks test_system test_users test_unlocked
    test_limits test_dues walk read test_links links_of test_blank sound bytes used_in record_lines chain_lines held_line held_lines number_line
    number_lines lines page value_behind behind_line first_bad value_of with_line rest_said chains_said records_said said writes reading bytes_of
    read_all pages
pages-computed = refl
