-- The clock: its units, its ceiling, the calendar, and the parts of the time.
-- Assumes nothing.
use Rattle.std.specs.Prelude.{ℕ, zero, suc, ◌+◌, ◌-◌, ◌/◌, ◌%◌, Bool, true, false, cond, not, ◌&&◌, ◌||◌, List, [], ◌∷◌, ◌++◌, eqb, ltb}
use Rattle.clock.specs.declared.Time.{Time}

-- the highest reading of the clock (OUTLINE, "The tables")
abbrev pub ceiling : ℕ
ceiling = 1_000_000_000_000

-- the ticks of a unit, by its resolution from 1 to 4 (OUTLINE, EXEC 12)
abbrev pub unit : ℕ → ℕ
unit n = cond (eqb n 1) 1 (cond (eqb n 2) 100 (cond (eqb n 3) 6_000 360_000))

-- how far ahead of the clock a due may lie, and the longest interval: 4,095 hours (OUTLINE, "The tables")
abbrev pub farthest : ℕ
farthest = 1_474_200_000

-- the Gregorian rule (OUTLINE, "Leap years"): every fourth year is a leap year, but of the hundreds only every fourth
unfoldable pub leap : ℕ → Bool
leap y = eqb (y % 4) 0 && (not (eqb (y % 100) 0) || eqb (y % 400) 0)

unfoldable pub days_in : ℕ → ℕ
days_in y = cond (leap y) 366 365

-- the year, and the day of it, when d days have gone by since the start of year y: years are counted off one after another, n of them at most
unfoldable pub dated : ℕ → ℕ → ℕ → List ℕ
dated zero y d = y ∷ (d + 1) ∷ []
dated (suc n) y d = elim (ltb d (days_in y)) [ true ↦ y ∷ (d + 1) ∷ [] | false ↦ dated n (suc y) (d - days_in y) ]

-- year, day, hour, minute, second and hundredth of a clock that started in year y (OUTLINE, EXEC 11). No year is shorter than a day, so to count
-- off d years is enough for d days; Dates.antt says what the six numbers are without counting.
unfoldable pub time_of : ℕ → ℕ → List ℕ
time_of y c =
    let d : ℕ = c / 8_640_000 in
    dated d y d ++ ((c / 360_000 % 24) ∷ (c / 6_000 % 60) ∷ (c / 100 % 60) ∷ (c % 100) ∷ [])

-- the same six numbers, as the code hands them over
abbrev pub parts_of : Time → List ℕ
parts_of t = t.year ∷ t.day ∷ t.hour ∷ t.minute ∷ t.second ∷ t.hundredth ∷ []
