-- The outline's figures, once for all definitions (OUTLINE, "The tables", EXEC
-- 12, "Many ticks at once", "Leap years" and "The page and the console line"). The code has its own in src/lib.rt.
-- Assumes nothing.
use Rattle.std.specs.Prelude.{ℕ}

-- the states of a program (OUTLINE, T6): dormant, scheduled, general wait, disc allocation, operator suspended; each is below `states`
abbrev pub dormant : ℕ
dormant = 0

abbrev pub scheduled : ℕ
scheduled = 1

abbrev pub general : ℕ
general = 3

abbrev pub disc : ℕ
disc = 5

abbrev pub suspended : ℕ
suspended = 6

abbrev pub states : ℕ
states = 7

-- program records, tracks and resource numbers, at most
abbrev pub most_programs : ℕ
most_programs = 32

abbrev pub most_tracks : ℕ
most_tracks = 256

abbrev pub most_numbers : ℕ
most_numbers = 16

-- the last number that a priority may have
abbrev pub last_priority : ℕ
last_priority = 32767

-- the units of a timer's multiple and of its offset, at most
abbrev pub most_units : ℕ
most_units = 4095

-- the ticks of one TICK,n, at most
abbrev pub most_ticks : ℕ
most_ticks = 100_000_000

-- the bytes of a line, at most; and the bytes that no page passes
abbrev pub longest_line : ℕ
longest_line = 72

abbrev pub page_room : ℕ
page_room = 8704

-- the years in which a clock may start, and the one in which it starts where none is said
abbrev pub first_year : ℕ
first_year = 1970

abbrev pub last_year : ℕ
last_year = 2099

abbrev pub usual_year : ℕ
usual_year = 1975

-- the digits of a number on a page, at most
abbrev pub page_digits : ℕ
page_digits = 13
