-- What is decided is made: the effects that need more than one move, or another table of tracks or numbers; and the answer and
-- the tables that every effect hands back.
-- Assumes nothing.
use Prim.Native.Nat.{ℕ, ◌+◌}
use native.Mathlib.Omega.{arith}
use mathlib.Core.Path.{◌≡◌, refl, sym, ap, ◌∙◌}
use mathlib.Core.Bool.{Bool, true, false, cond}
use mathlib.Core.List.{List, [], ◌∷◌, ◌++◌}
use lib.Dec.{eqb}
use lib.ListN.{length, take, length-append}
use lib.Seq.{length-take-le}
use Rattle.records.specs.declared.Resource.{Resource}
use Rattle.records.specs.declared.Numbers.{Numbers}
use Rattle.records.specs.declared.Why.TheVariants.{Nothing}
use Rattle.records.specs.Numbers.{resources, table_of, with_number}
use Rattle.records.proofs.Table.{resources-with, fit-with}
use Rattle.tracks.specs.declared.Tracks.{Tracks}
use Rattle.tracks.specs.Tracks.{nobody, holders, replaced}
use Rattle.tracks.proofs.Fits.{Holds}
use Rattle.rules.specs.declared.Answer.{Answer}
use Rattle.rules.specs.Answers as answers
use Rattle.rules.specs.Plans.{Event, Release, on, becomes, timed, unloaded, held, numbered, wake, woken, from_disc, from_general}
use Rattle.rules.specs.Requests.{Request}
use Rattle.rules.specs.Rules.{assigned, quit, dismissed, ends}
use Rattle.rules.proofs.shared.Settling.{settle, off-events}
use Rattle.rules.specs.Keeper.{lists, view, step}
use Rattle.rules.specs.Engine.{made_by}
use Rattle.rules.specs.Keeper as keeper
use Rattle.chains.specs.declared.Listing.{Listing}
use Rattle.rules.proofs.shared.Starting.{Starts, starts_is}
use Rattle.decisions.specs.declared.Decision.{Decision}
use Rattle.decisions.specs.declared.Effect.{Effect}
use Rattle.decisions.specs.declared.Effect.TheVariants.{Renew}
use Rattle.decisions.specs.Inner.{Sizes, events_for, reply_for, Decides}
use Rattle.tables.specs.declared.Tables.{Tables}
use Rattle.tables.specs.Tables.{plain}
use Rattle.tables.specs.Calls.{told, laid, made, asked}
use Rattle.tables.specs.Inner.{Orderly, Ready, Played, CanHold, CanNumber, CanSettle, Awaits, carried, counted}
use Rattle.tables.proofs.Waiting.{can-settle}
use Rattle.tables.proofs.Endings.{played-as, wake-both}
use Rattle.tables.proofs.Serving.{Happens, laid-says, asked-sound, served-planned}

-- who wakes: they can, they are so many, and their two lists wake as one
module _ (t : Tables) (O : Orderly t) (y : Release) (d g : Listing) (A : Awaits t y d g) where
  pub can-rouse : (u : Tables) → Orderly u → CanSettle u d.ids d.len g.ids g.len
  can-rouse u U = can-settle t O y d g A.disc A.general u U

  pub roused : (u r : Tables) → Played u (wake (take d.len d.ids) ++ wake (take g.len g.ids)) r
      → Played u (wake (woken (view lists (plain t)) y)) r
  roused u r = played-as u r _ _ (wake-both t y d g A.disc A.general)

  pub roused-number : (n : ℕ) → n ≡ d.len + g.len → length d.ids ≡ 32 → length g.ids ≡ 32
      → n ≡ length (woken (view lists (plain t)) y)
  unfolding woken
  roused-number n N D G =
      let v = view lists (plain t) in
      omega (
        arith,
        N,
        length-append (from_disc v y) (from_general v y),
        ap length A.disc.some,
        ap length A.general.some,
        length-take-le d.len d.ids (omega (arith, D, A.disc.most)),
        length-take-le g.len g.ids (omega (arith, G, A.general.most)),
      )

-- other holders of as many tracks
module _ (t : Tables) (x : Tracks) (xs : List ℕ) (H : Holds x t.ledger.tracks.count t.ledger.tracks.system xs) where
  pub can-hold : Orderly t → CanHold t x
  can-hold O = record { orderly = O; fit = H.fit; count = H.tracks; system = H.own }

  pub now-held : (es : List Event) (r : Tables) → Played t (held (holders x) ∷ es) r → Played t (held xs ∷ es) r
  now-held es r = played-as t r _ _ (ap (λ (ys : List ℕ). held ys ∷ es) H.held)

-- number k with another owner and lock
module _ (t : Tables) (O : Orderly t) (k o l : ℕ) (n : Numbers)
    (N : n ≡ table_of t.ledger.numbers.count (with_number k o l (resources t.ledger.numbers))) where
  pub can-put : CanNumber t n
  can-put = record { orderly = O; fit = rw N (fit-with t.ledger.numbers k o l O.numbers); count = ap (λ (x : Numbers). x.count) N }

  pub was-put : (u : Tables) → Played t (numbered (resources n) ∷ []) u → Played t (assigned (view lists (plain t)) k o l ∷ []) u
  was-put u =
      played-as t u _ _
      (ap (λ (xs : List Resource). numbered xs ∷ []) (ap resources N ∙ resources-with t.ledger.numbers k o l O.numbers))

-- what is handed back: the answer as it was decided, or a count
module _ (t : Tables) (a : Answer) (e : Effect) (u : Tables) (h : Happens (events_for (view lists (plain t)) e))
    (S : Played t (events_for (view lists (plain t)) e) u) where
  pub moved : reply_for (view lists (plain t)) a e ≡ (answers.number a, answers.values a)
      → told (record { answer = a; tables = u }) ≡ carried t a e
  moved w = λ i. record { number = (sym w i).0; values = (sym w i).1; tables = laid-says t u (events_for (view lists (plain t)) e) h S i }

  pub made_counted : (n : ℕ) → reply_for (view lists (plain t)) a e ≡ (0, n ∷ []) → counted n u ≡ carried t a e
  made_counted n w =
      λ i. record { number = (sym w i).0; values = (sym w i).1; tables = laid-says t u (events_for (view lists (plain t)) e) h S i }

pub made-anew : (t : Tables) (a : Answer) (T S R Y : ℕ) → Sizes T S R Y → made T S R Y ≡ carried t a (Renew T S R Y)
unfolding step made_by
made-anew t a T S R Y Z =
    let W : Starts T S R Y =
    record { some = Z.least; most = Z.most; first = Z.part; few = Z.few; earliest = Z.earliest; latest = Z.latest } in
    rw (starts_is T S R Y W, made_by) refl

-- OF
pub dismissal : (t : Tables) (p k n : ℕ) (u : Tables)
    → Played t (dismissed k p
    ++ (held (replaced p nobody (plain t).book.holders) ∷ settle (view lists (plain t)) p (ends (view lists (plain t)) p n))) u
    → Played t ((dismissed k p ++ (held (replaced p nobody (plain t).book.holders) ∷ quit (view lists (plain t)) p ∷ []))
    ++ wake (woken (view lists (plain t)) (ends (view lists (plain t)) p n))) u
dismissal t p k n u =
    played-as t u _ _
    (sym (off-events (view lists (plain t)) p k (replaced p nobody (plain t).book.holders) (ends (view lists (plain t)) p n)))

pub dismissal-happens : (k p : ℕ) (es fs : List Event) → Happens ((dismissed k p ++ es) ++ fs)
dismissal-happens k p es fs = go (eqb k 8)
  where
    go : (b : Bool) → Happens ((cond b (on p unloaded ∷ []) (on p (becomes 0 Nothing) ∷ on p (timed 0 0) ∷ []) ++ es) ++ fs)
    go true = tt
    go false = tt

-- a decision that is the plan's, made, is what was asked for
pub as-asked : (t : Tables) → Ready t → (q : Request) (d : Decision)
    → Decides (view lists (plain t)) (keeper.asks lists (plain t) q) d
    → carried t d.answer d.effect ≡ asked t q
as-asked t R q d D =
    (λ i. record { number = D.number i; values = D.values i; tables = laid t (D.events i) })
    ∙ sym (served-planned t q)
    ∙ sym (asked-sound t q R.sound)
