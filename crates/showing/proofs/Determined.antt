-- The contracts of `show_request`, `show_page` and `hand_over` determine what is handed back and what the lent buffer is after it: two
-- outcomes that satisfy one are equal.
-- Assumes nothing.
use Prim.Native.Nat.{ℕ}
use mathlib.Core.Path.{◌≡◌, sym, ap, ap₂, ◌∙◌}
use mathlib.Core.List.{List}
use Rattle.rules.specs.declared.Answer.{Answer}
use Rattle.rules.specs.Engine.{beside}
use Rattle.tables.specs.declared.Tables.{Tables}
use Rattle.tables.specs.declared.Outcome.{Outcome}
use Rattle.tables.specs.Calls.{told}
use Rattle.tables.proofs.OneOutcome.{determined}
use Rattle.transcripts.specs.Listing.{answered}
use Rattle.transcripts.proofs.Determined.{list-determined}
use Rattle.console.proofs.LineOutcome.{written-determined}
use Rattle.showing.specs.declared.pages.Sheet.{Sheet}
use Rattle.showing.specs.Showing.{shown_in, request_shown, PageShown, page_shown}

pub request-determined : (t : Tables) (n : ℕ) (l out : List ℕ) (r s : Outcome) (b c : List ℕ) → beside b (told r) ≡ request_shown t n l out
    → beside c (told s) ≡ request_shown t n l out → (r ≡ s) × (b ≡ c)
request-determined t n l out = written-determined (request_shown t n l out)

pub page-determined : (name s out : List ℕ) (r q : Sheet) (b c : List ℕ)
    → record { read = told r.read; shown = answered r.shown b } ≡ page_shown name s out
    → record { read = told q.read; shown = answered q.shown c } ≡ page_shown name s out → (r ≡ q) × (b ≡ c)
page-determined name s out r q b c e f =
    let x = page_shown name s out in
    let d = list-determined r.shown q.shown b c (ap (λ (w : PageShown). w.shown) (e ∙ sym f)) in (
      ap₂ (λ (o : Outcome) (a : Answer). record { read = o; shown = a })
          (determined x.read r.read q.read (ap (λ (w : PageShown). w.read) e) (ap (λ (w : PageShown). w.read) f)) d.0,
      d.1,
    )

pub over-determined : (bytes out : List ℕ) (r s : Answer) (b c : List ℕ) → answered r b ≡ shown_in bytes out
    → answered s c ≡ shown_in bytes out → (r ≡ s) × (b ≡ c)
over-determined bytes out r s b c e f = list-determined r s b c (e ∙ sym f)
