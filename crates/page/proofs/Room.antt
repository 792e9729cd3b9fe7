-- The page of a sound state has at most 8,201 bytes: it fits 8,704. Each part has its own bound; here they are added up.
-- Assumes nothing.
use Prim.Native.Nat.{ℕ, ◌+◌, ◌≤◌}
use Prim.Native.String.{String}
use native.Mathlib.Omega.{arith}
use mathlib.Core.Path.{◌≡◌, ap}
use mathlib.Core.Bool.{Bool, true, false, cond}
use mathlib.Core.List.{List, [], ◌∷◌}
use lib.ListN.{length, length-append}
use lib.Dec.{eqb}
use Rattle.limits.specs.Limits.{page_room, usual_year}
use Rattle.text.specs.Text.{text, decimal, entry}
use Rattle.text.proofs.Laws.{entry_length}
use Rattle.records.specs.declared.Program.{Program}
use Rattle.records.specs.Records.{all, record_at}
use Rattle.rules.specs.Book.{Book}
use Rattle.rules.specs.Keeper.{lists, State}
use Rattle.rules.specs.Sound.{Sound, Limits}
use Rattle.page.specs.Page.{Line, bytes, line, page_key, clock_key, year_key, tracks_key, system_key, numbers_key, programs_key, end_key, last_word, first_keys, size_keys, first_word, paired, year_line, head_lines, used_in, page}
use Rattle.page.specs.Page.{record_lines, chain_lines, held_lines, number_lines}
use Rattle.page.proofs.Widths.{figure-length}
use Rattle.page.proofs.Weights.{keep-length}
use Rattle.page.proofs.Writing.{lines-between, bytes-line, page-pieces}
use Rattle.page.proofs.RecordRoom.{record-room}
use Rattle.page.proofs.ChainRoom.{chain-room}
use Rattle.page.proofs.HeldRoom.{held-room}
use Rattle.page.proofs.NumberRoom.{number-room}

pub used-length : (ps : List Program) → length (used_in ps) ≤ 32
unfolding used_in all
used-length ps = keep-length (λ p. (record_at ps p).used) all

-- the head: two lines, the year's, and four
abbrev first : Book → List Line
first b = paired first_keys (text first_word ∷ decimal b.clock ∷ [])

abbrev sizes : Book → List Line
sizes b =
    paired size_keys
    (decimal b.tracks ∷ decimal b.system ∷ decimal b.numbers ∷ decimal (length (used_in b.programs)) ∷ [])

-- how long a line with a number is
abbrev pub figure : String → ℕ → ℕ
figure key n = length (entry (text key) (decimal n))

year-length : (y : ℕ) → length (bytes (year_line y)) ≤ figure year_key y
unfolding bytes
year-length y = go (eqb y usual_year)
  where
    go : (t : Bool) → length (bytes (cond t [] (line year_key (decimal y) ∷ []))) ≤ figure year_key y
    go true = omega arith
    go false = simp length-append (omega arith)

pub head-length : (b : Book) → length (bytes (head_lines b.clock b.tracks b.system b.numbers b.year (length (used_in b.programs))))
    ≤ 10 + figure clock_key b.clock + figure year_key b.year + figure tracks_key b.tracks + figure system_key b.system
    + figure numbers_key b.numbers + figure programs_key (length (used_in b.programs))
unfolding bytes
head-length b =
    rw (lines-between (first b) (year_line b.year) (sizes b))
    (simp length-append (omega (arith, year-length b.year, entry_length (text page_key) (text first_word))))

head-room : (b : Book) → Limits b
    → length (bytes (head_lines b.clock b.tracks b.system b.numbers b.year (length (used_in b.programs)))) ≤ 85
head-room b L = omega (
  arith,
  head-length b,
  figure-length "clock" 12 b.clock (omega (arith, L.time)),
  figure-length "year" 3 b.year (omega (arith, L.latest)),
  figure-length "tracks" 2 b.tracks (omega (arith, L.most)),
  figure-length "system" 2 b.system (omega (arith, L.most, L.first)),
  figure-length "numbers" 1 b.numbers (omega (arith, L.few)),
  figure-length "programs" 1 (length (used_in b.programs)) (omega (arith, used-length b.programs)),
)

-- the parts one after the other, and the last line
pub parts-length : (a : State lists) → length (page a)
    ≡ 9 + length (bytes (head_lines a.book.clock a.book.tracks a.book.system a.book.numbers a.book.year (length (used_in a.book.programs))))
    + length (bytes (record_lines a.book.programs)) + length (bytes (chain_lines a.kept)) + length (bytes (held_lines a.book.holders))
    + length (bytes (number_lines a.book.numbers a.book.resources))
parts-length a = rw (page-pieces a) (simp length-append (omega (
  arith,
  ap length (bytes-line (line end_key (text last_word))),
  entry_length (text end_key) (text last_word),
)))

pub page-length : (a : State lists) → Sound a → length (page a) ≤ 8201
page-length a S =
    let b : Book = a.book in
    omega (
      arith,
      parts-length a,
      head-room b S.limits,
      record-room b S.names S.whys S.limits S.dues,
      chain-room b a.kept S.chains,
      held-room b.holders (omega (arith, S.shape.holders, S.limits.most))
          (λ i h. S.limits.holder i (omega (arith, S.shape.holders))),
      number-room b S.limits,
    )

pub page-room : (a : State lists) → Sound a → length (page a) ≤ page_room
page-room a S = omega (arith, page-length a S)
