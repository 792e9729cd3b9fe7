-- What inner functions promise; nothing here need be believed for the calls.
-- Assumes nothing.
use Rattle.std.specs.Prelude.{ℕ, suc, ◌+◌, ◌-◌, ◌*◌, ◌/◌, ◌≤◌, ◌<◌, ◌≡◌}

-- the days of the years from 0 up to y, y itself not counted
unfoldable pub before : ℕ → ℕ
before y = 365 * y + (y + 3) / 4 - (y + 99) / 100 + (y + 399) / 400

-- the date when so many days have gone by since the start of year 0
pub record Dated (days year day : ℕ) : Type 0 where
  pub begun : before year ≤ days
  pub going : days < before (suc year)
  pub is : day ≡ days - before year + 1
