-- What it is that a clock shows a time: the ticks of the years from the first on, of the days of the last year, and of the parts of the day are
-- the clock's.
-- Assumes nothing.
use Rattle.std.specs.Prelude.{ℕ, zero, suc, ◌+◌, ◌-◌, ◌*◌, ◌≤◌, ◌<◌, ◌≡◌}
use Rattle.clock.specs.Clock.{days_in}

-- the days of n years, from year y on
abbrev pub days_of : ℕ → ℕ → ℕ
days_of zero y = 0
days_of (suc n) y = days_in y + days_of n (suc y)

-- when d days have gone by since the start of year y it is day `day` of the year that comes n years after it
pub record Falls (y d n day : ℕ) : Type 0 where
  pub first : 1 ≤ day
  pub last : day ≤ days_in (y + n)
  pub all : days_of n y + day ≡ d + 1

-- c ticks after the start of year y it is that day, h hours, m minutes, s seconds and x hundredths
pub record Shows (y c n day h m s x : ℕ) : Type 0 where
  pub first : 1 ≤ day
  pub last : day ≤ days_in (y + n)
  pub hour : h < 24
  pub minute : m < 60
  pub second : s < 60
  pub hundredth : x < 100
  pub all : c ≡ (days_of n y + (day - 1)) * 8_640_000 + h * 360_000 + m * 6_000 + s * 100 + x
