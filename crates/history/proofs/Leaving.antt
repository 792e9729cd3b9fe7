-- What a call leaves is the tables as they were, what its request or its ticks make of them, or what FRESH begins with. So what holds of all
-- these holds of the tables after the call.
-- Of any tables, sound or not. Assumes nothing.
use Prim.Native.Nat.{ℕ}
use mathlib.Core.Path.{◌≡◌, refl, sym, ap, ◌∙◌, subst}
use mathlib.Core.Bool.{Bool, true, false}
use mathlib.Core.List.{List}
use Rattle.rules.specs.Requests.{Request, FRESH, LOAD, operator, TICK, running}
use Rattle.rules.specs.Engine.{made_by, paged_in}
use Rattle.tables.specs.declared.Tables.{Tables}
use Rattle.tables.specs.Tables.{freshly}
use Rattle.tables.specs.Sound.{sound}
use Rattle.tables.specs.Calls.{asked, many_ticks}
use Rattle.page.specs.Paging.{Written, linked, paged}
use Rattle.console.specs.Line.{Line, bad, PAGE, line_of}
use Rattle.console.specs.Line as line
use Rattle.console.specs.Console.{keyed_in, obeyed, keyed}
use Rattle.history.specs.Runs.{Made, step, begun}
use Rattle.history.specs.Runs as calls
use Rattle.history.specs.Demand.{AsksTicks, ticks-call, ticks-line, Asks, by_call, by-line}
use Rattle.history.proofs.Steps.{written-leaves, paged-sound, keyed-sound}

-- of tables that are not sound
module _ (t : Tables) (e : sound t ≡ false) where
  pub asked-stays : (q : Request) → (asked t q).tables ≡ t
  unfolding asked
  asked-stays q = rw (e, asked)

  paged-stays : (buf : List ℕ) → (paged t buf).tables ≡ t
  unfolding paged_in
  paged-stays buf = rw (e, paged_in)

  keyed_stays : (bytes buf : List ℕ) → (keyed t bytes buf).tables ≡ t
  unfolding keyed_in
  keyed_stays bytes buf = rw (e, keyed_in)

paged-leaves : (t : Tables) (buf : List ℕ) → (paged t buf).tables ≡ t
paged-leaves t buf = go (sound t) refl
  where
    go : (b : Bool) → sound t ≡ b → (paged t buf).tables ≡ t
    go true e = ap (λ (w : Written). w.tables) (paged-sound t e buf) ∙ written-leaves t buf
    go false e = paged-stays t e buf

module _ (t : Tables) (P : Tables → Type 0) (self : P t) where
  paged-left : (buf : List ℕ) → P (paged t buf).tables
  paged-left buf = subst P (sym (paged-leaves t buf)) self

  pub left_by : (c : Made) → ((q : Request) → Asks q c → P (asked t q).tables) → ((m : ℕ) → AsksTicks m c → P (many_ticks t m).tables)
      → ((T S R Y : ℕ) → Asks (FRESH T S R Y) c → c ≡ calls.request (FRESH T S R Y) → P (begun linked t (made_by freshly T S R Y)).tables)
      → P (step linked t c).tables
  unfolding step
  left_by (calls.request (FRESH T S R Y)) a k f = f T S R Y by_call refl
  left_by (calls.request (LOAD nm m)) a k f = a (LOAD nm m) by_call
  left_by (calls.request (operator o nm)) a k f = a (operator o nm) by_call
  left_by (calls.request TICK) a k f = a TICK by_call
  left_by (calls.request (running r)) a k f = a (running r) by_call
  left_by (calls.ticks m) a k f = k m ticks-call
  left_by (calls.page buf) a k f = paged-left buf
  left_by (calls.line bytes buf) a k f = go (sound t) refl
    where
      obeyed-left : (l : Line) → line_of bytes ≡ l → P (obeyed t buf l).tables
      obeyed-left bad e = self
      obeyed-left PAGE e = paged-left buf
      obeyed-left (line.asks q) e = a q (by-line bytes buf e)
      obeyed-left (line.ticks m) e = k m (ticks-line bytes buf e)

      go : (b : Bool) → sound t ≡ b → P (keyed t bytes buf).tables
      go true e = subst P (sym (ap (λ (w : Written). w.tables) (keyed-sound t e bytes buf))) (obeyed-left (line_of bytes) refl)
      go false e = subst P (sym (keyed_stays t e bytes buf)) self
