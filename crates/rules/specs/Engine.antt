-- What calls hand back, whatever keeps the tables; and what an engine is,
-- so that the code's tables and the replay of demand 3 are two of one kind.
-- Assumes nothing.
use Rattle.std.specs.Prelude.{ℕ, zero, suc, ◌+◌, Bool, true, false, cond, List, [], ◌∷◌, ◌++◌, length, drop, leb}
use Rattle.limits.specs.Limits.{most_ticks, usual_year}
use Rattle.lists.specs.Lists.{sum, up_to}
use Rattle.clock.specs.Clock.{ceiling}
use Rattle.rules.specs.Requests.{Request, TICK}
use Rattle.rules.specs.Rules.{may_start}

-- the number, the values, and the tables (OUTLINE, "Answer numbers")
pub record Reply (S : Type 0) : Type 0 where
  pub number : ℕ
  pub values : List ℕ
  pub tables : S

-- tables that are not sound: 14, value 0, and the tables as given
abbrev pub not_sound : {S : Type 0} → S → Reply S
not_sound t = record { number = 14; values = 0 ∷ []; tables = t }

-- the same from a call with a lent buffer
pub record Handed (S : Type 0) : Type 0 where
  pub number : ℕ
  pub values : List ℕ
  pub tables : S
  pub buffer : List ℕ

-- a reply beside a buffer
abbrev pub beside : {S : Type 0} → List ℕ → Reply S → Handed S
beside buf r = record { number = r.number; values = r.values; tables = r.tables; buffer = buf }

-- bytes at the front of a buffer, the rest untouched
abbrev pub front : List ℕ → List ℕ → List ℕ
front bytes buf = bytes ++ drop (length bytes) buf

-- FRESH, which takes no tables, where `new` makes fresh ones: refused it yields the smallest
unfoldable pub made_by : {S : Type 0} → (ℕ → ℕ → ℕ → ℕ → S) → ℕ → ℕ → ℕ → ℕ → Reply S
made_by new T S R Y =
    cond (may_start T S R Y) (record { number = 0; values = 0 ∷ []; tables = new T S R Y })
    (record { number = 3; values = 0 ∷ []; tables = new 1 0 0 usual_year })

-- TICK,n is n single ticks one after another, where `asked` says what a request comes to (OUTLINE, "Many ticks at once"): the tables
-- after them, and the sum of their values
module _ {S : Type 0} (asked : S → Request → Reply S) where
  unfoldable pub after_ticks : ℕ → S → S
  after_ticks zero t = t
  after_ticks (suc n) t = after_ticks n (asked t TICK).tables

  unfoldable pub sum_of_ticks : ℕ → S → ℕ
  sum_of_ticks zero t = 0
  sum_of_ticks (suc n) t = sum (asked t TICK).values + sum_of_ticks n (asked t TICK).tables

-- It is refused as a whole: 14 for tables that are not sound, 3 for an n that is not from 1 to 100,000,000, and 11 where clock + n is above the
-- ceiling.
unfoldable pub ticked_by : {S : Type 0} → (S → Bool) → (S → ℕ) → (S → Request → Reply S) → S → ℕ → Reply S
ticked_by sound clock asked t n =
    elim (sound t) [
      | true ↦
          elim (up_to 1 most_ticks n) [
            | true ↦
                elim (leb (clock t + n) ceiling) [
                  | true ↦ record { number = 0; values = sum_of_ticks asked n t ∷ []; tables = after_ticks asked n t }
                  | false ↦ record { number = 11; values = 0 ∷ []; tables = t }
                ]
            | false ↦ record { number = 3; values = 0 ∷ []; tables = t }
          ]
      | false ↦ not_sound t
    ]

-- An engine keeps the tables in some form: whether they are sound, their clock, what a request comes to, fresh ones, and the bytes of their
-- page.
pub record Engine : Type 1 where
  pub Form : Type 0
  pub sound : Form → Bool
  pub clock : Form → ℕ
  pub asked : Form → Request → Reply Form
  pub fresh : ℕ → ℕ → ℕ → ℕ → Form
  pub page : Form → List ℕ

module _ (E : Engine) where
  -- TICK,n
  abbrev pub ticked_in : E.Form → ℕ → Reply E.Form
  ticked_in t n = ticked_by E.sound E.clock E.asked t n

  -- PAGE on sound tables: 0 and the page's length, or 12 and the bytes needed, no byte written (OUTLINE, "The page and the console line")
  unfoldable pub written_in : E.Form → List ℕ → Handed E.Form
  written_in t buf =
      let bytes : List ℕ = E.page t in
      elim (leb (length bytes) (length buf)) [
        | true ↦ record { number = 0; values = length bytes ∷ []; tables = t; buffer = front bytes buf }
        | false ↦ record { number = 12; values = length bytes ∷ []; tables = t; buffer = buf }
      ]

  -- 14 comes first
  unfoldable pub paged_in : E.Form → List ℕ → Handed E.Form
  paged_in t buf = elim (E.sound t) [ true ↦ written_in t buf | false ↦ beside buf (not_sound t) ]
