-- Endings: events one after the other, what is left of a program's numbers when it ends, and the whole of an ending.
-- The idea: tables after some events, and those after others from there on, are the tables after all of them; and no deed alters what
-- stands beside the records, so the tracks and numbers in between are those of the start.
-- Assumes nothing.
use Prim.Native.Nat.{ℕ}
use mathlib.Core.Path.{◌≡◌, refl, sym, ap, ◌∙◌}
use mathlib.Core.Logic.{◌≢◌}
use mathlib.Core.Bool.{Bool, true, false, cond}
use mathlib.Core.List.{List, [], ◌∷◌, ◌++◌, map, map-append}
use lib.ListN.{take}
use lib.Dec.{eqb}
use borrow.Author.Tests.{eq-eqb, ne_eqb}
use Rattle.records.specs.declared.Numbers.{Numbers}
use Rattle.records.specs.declared.Resource.{Resource}
use Rattle.records.specs.declared.Why.TheVariants.{Nothing}
use Rattle.records.specs.Records.{known}
use Rattle.records.specs.Numbers.{resources, without}
use Rattle.records.specs.Numbers as numbers
use Rattle.records.proofs.Table.{resources-without, fit-without}
use Rattle.tracks.specs.declared.Tracks.{Tracks}
use Rattle.tracks.specs.Tracks.{nobody, holders, replaced}
use Rattle.tracks.specs.Tracks as tracks
use Rattle.tracks.proofs.Fits.{Holds, replaced-holds}
use Rattle.rules.specs.Book.{Book}
use Rattle.rules.specs.Plans.{Deed, becomes, wakes, priced, loaded, unloaded, timed, marked, Event, on, held}
use Rattle.rules.specs.Plans.{numbered, wake, woken, from_disc, from_general}
use Rattle.rules.specs.Rules.{ends, dismissed, ends_in}
use Rattle.rules.proofs.shared.Settling.{settle}
use Rattle.rules.specs.Plans as rules
use Rattle.rules.specs.Keeper.{lists, State, act, step, play, view}
use Rattle.chains.specs.declared.Listing.{Listing}
use Rattle.chains.specs.Inner.{Lists}
use Rattle.ledger.specs.declared.Release.{Release}
use Rattle.ledger.specs.Inner.{Releases, ending_of}
use Rattle.tables.specs.declared.Tables.{Tables}
use Rattle.tables.specs.Tables.{plain}
use Rattle.tables.specs.Inner.{Orderly, Played, CanHold, CanNumber}
use Rattle.rules.proofs.shared.Parts.{play-append}

-- the same events, told otherwise
pub played-as : (t r : Tables) (es fs : List Event) → es ≡ fs → Played t es r → Played t fs r
played-as t r es fs e S = record { orderly = S.orderly; state = S.state ∙ ap (λ (x : List Event). play lists x (plain t)) e }

pub played-on : (t u r : Tables) (es fs : List Event) → Played t es u → Played u fs r → Played t (es ++ fs) r
played-on t u r es fs S R =
    record { orderly = R.orderly; state = R.state ∙ ap (play lists fs) S.state ∙ sym (play-append lists es fs (plain t)) }

-- OF 8, and OF 1
pub dismissed-gone : (t r : Tables) (k p : ℕ) → k ≡ 8 → Played t (on p unloaded ∷ []) r → Played t (dismissed k p) r
dismissed-gone t r k p e S = rw (eq-eqb k 8 e) S

pub dismissed-idle : (t u r : Tables) (k p : ℕ) → k ≢ 8 → Played t (on p (becomes 0 Nothing) ∷ []) u → Played u (on p (timed 0 0) ∷ []) r
    → Played t (dismissed k p) r
dismissed-idle t u r k p n S R = rw (ne_eqb k 8 n) (played-on t u r (on p (becomes 0 Nothing) ∷ []) (on p (timed 0 0) ∷ []) S R)

-- the numbers when p ends
module _ (t : Tables) (p : ℕ) (n : Numbers) (O : Orderly t)
    (e : n ≡ numbers.table_of t.ledger.numbers.count (map (without p) (resources t.ledger.numbers))) where
  pub can-number : CanNumber t n
  can-number =
      record { orderly = O; fit = rw e (fit-without t.ledger.numbers p O.numbers); count = ap (λ (x : Numbers). x.count) e }

  numbers-left : resources n ≡ map (without p) (resources t.ledger.numbers)
  numbers-left = ap resources e ∙ resources-without t.ledger.numbers p O.numbers

  -- and the rest happens
  pub settled_on : (es : List Event) (u r : Tables) → Played t (numbered (resources n) ∷ []) u → Played u es r
      → Played t (numbered (map (without p) (resources t.ledger.numbers)) ∷ es) r
  settled_on es u r N R =
      played-as t r (numbered (resources n) ∷ es) (numbered (map (without p) (resources t.ledger.numbers)) ∷ es)
      (ap (λ (xs : List Resource). numbered xs ∷ es) numbers-left)
      (played-on t u r (numbered (resources n) ∷ []) es N R)

-- no deed alters what stands beside the records
abbrev aside : State lists → Book
aside a = record {
  programs = [];
  clock = a.book.clock;
  year = a.book.year;
  tracks = a.book.tracks;
  system = a.book.system;
  numbers = a.book.numbers;
  holders = a.book.holders;
  resources = a.book.resources;
}

act-aside : (p : ℕ) (d : Deed) (a : State lists) → aside (act lists p d a) ≡ aside a
unfolding act
act-aside p (becomes s w) a = refl
act-aside p wakes a = refl
act-aside p (priced n) a = refl
act-aside p (loaded nm n) a = refl
act-aside p unloaded a = refl
act-aside p (timed d i) a = refl
act-aside p marked a = refl

step-aside : (p : ℕ) (d : Deed) (a : State lists) → aside (step lists (on p d) a) ≡ aside a
unfolding step
step-aside p d a = go (known p)
  where
    go : (b : Bool) → aside (cond b (act lists p d a) a) ≡ aside a
    go true = act-aside p d a
    go false = refl

dismissed-aside : (k p : ℕ) (a : State lists) → aside (play lists (dismissed k p) a) ≡ aside a
dismissed-aside k p a = go (eqb k 8)
  where
    go : (b : Bool) → aside (play lists (cond b (on p unloaded ∷ []) (on p (becomes 0 Nothing) ∷ on p (timed 0 0) ∷ [])) a) ≡ aside a
    go true = step-aside p unloaded a
    go false = step-aside p (timed 0 0) (step lists (on p (becomes 0 Nothing)) a) ∙ step-aside p (becomes 0 Nothing) a

-- lists one after the other wake one after the other
wake-append : (a b : List ℕ) → wake (a ++ b) ≡ wake a ++ wake b
wake-append = map-append (λ q. on q wakes)

-- what an ending sets free, as the view has it
pub ends_is : (t : Tables) (p n : ℕ) (x : Release) → Releases x (ending_of t.ledger.numbers p n)
    → Releases x (ends (view lists (plain t)) p n)
unfolding ends_in
ends_is t p n x R = R

-- who wakes stands in two lists
module _ (t : Tables) (y : rules.Release) (d g : Listing) (D : Lists d.ids d.len (from_disc (view lists (plain t)) y))
    (G : Lists g.ids g.len (from_general (view lists (plain t)) y)) where
  pub wake-both : wake (take d.len d.ids) ++ wake (take g.len g.ids) ≡ wake (woken (view lists (plain t)) y)
  unfolding woken
  wake-both =
      ap (λ (c : List ℕ). wake c ++ wake (take g.len g.ids)) D.some
      ∙ ap (λ (c : List ℕ). wake (from_disc (view lists (plain t)) y) ++ wake c) G.some
      ∙ sym (wake-append (from_disc (view lists (plain t)) y) (from_general (view lists (plain t)) y))

  -- the tables u, with the numbers of t, are settled
  pub settles : (p : ℕ) (u r : Tables) → resources u.ledger.numbers ≡ resources t.ledger.numbers
      → Played u
      (numbered (map (without p) (resources u.ledger.numbers)) ∷ (wake (take d.len d.ids) ++ wake (take g.len g.ids))) r
      → Played u (settle (view lists (plain t)) p y) r
  settles p u r e =
      played-as u r _ _
      (ap (λ (xs : List Resource). numbered (map (without p) xs) ∷ (wake (take d.len d.ids) ++ wake (take g.len g.ids))) e
      ∙ ap (λ (es : List Event). numbered (map (without p) (resources t.ledger.numbers)) ∷ es) wake-both)

  -- p ends itself
  pub ended-itself : (p : ℕ) (u r : Tables) → Played t (on p (becomes 0 Nothing) ∷ []) u
      → Played u
      (numbered (map (without p) (resources u.ledger.numbers)) ∷ (wake (take d.len d.ids) ++ wake (take g.len g.ids))) r
      → Played t (on p (becomes 0 Nothing) ∷ settle (view lists (plain t)) p y) r
  ended-itself p u r S R =
      played-on t u r (on p (becomes 0 Nothing) ∷ []) (settle (view lists (plain t)) p y) S
      (settles p u r (ap (λ (a : State lists). a.book.resources) S.state
      ∙ ap (λ (b : Book). b.resources) (step-aside p (becomes 0 Nothing) (plain t))) R)

-- p is dismissed, and its tracks are freed
module _ (t : Tables) (k p : ℕ) (O : Orderly t) (x : Tracks)
    (X : x ≡ tracks.table_of t.ledger.tracks.count t.ledger.tracks.system (replaced p nobody (holders t.ledger.tracks)))
    (u : Tables) (S : Played t (dismissed k p) u) where
  beside : aside (plain u) ≡ aside (plain t)
  beside = ap aside S.state ∙ dismissed-aside k p (plain t)

  holds : Holds x t.ledger.tracks.count t.ledger.tracks.system (replaced p nobody (holders t.ledger.tracks))
  holds = replaced-holds x t.ledger.tracks O.tracks p nobody X

  pub can-free : CanHold u x
  can-free = record {
    orderly = S.orderly;
    fit = holds.fit;
    count = holds.tracks ∙ sym (ap (λ (b : Book). b.tracks) beside);
    system = holds.own ∙ sym (ap (λ (b : Book). b.system) beside);
  }

  pub ended-off : (y : rules.Release) (d g : Listing) → Lists d.ids d.len (from_disc (view lists (plain t)) y)
      → Lists g.ids g.len (from_general (view lists (plain t)) y) → (f r : Tables) → Played u (held (holders x) ∷ []) f
      → Played f
      (numbered (map (without p) (resources f.ledger.numbers)) ∷ (wake (take d.len d.ids) ++ wake (take g.len g.ids))) r
      → Played t (dismissed k p ++ (held (replaced p nobody (plain t).book.holders) ∷ settle (view lists (plain t)) p y)) r
  unfolding step
  ended-off y d g D G f r H R =
      let h : Event = held (replaced p nobody (plain t).book.holders) in
      let es = settle (view lists (plain t)) p y in
      played-on t u r (dismissed k p) (h ∷ es) S
      (played-on u f r (h ∷ []) es
      (played-as u f (held (holders x) ∷ []) (h ∷ []) (ap (λ (xs : List ℕ). held xs ∷ []) holds.held) H)
      (settles t y d g D G p f r (ap (λ (a : State lists). a.book.resources) H.state ∙ ap (λ (b : Book). b.resources) beside) R))
