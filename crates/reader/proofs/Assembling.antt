-- Tables put together from what the parts of a page gave: fresh ones hold and keep what the head says, tables that hold and keep what
-- a state says are fit, the links of the four chains shown are those of all seven, and tables whose parts are a state's are the state laid
-- out.
-- Assumes nothing.
use Prim.Native.Nat.{ℕ, zero, suc, ◌+◌, ◌-◌, ◌≤◌, ◌<◌}
use native.Mathlib.Omega.{arith}
use mathlib.Core.Path.{◌≡◌, refl, sym, ap, ap₂, ◌∙◌}
use mathlib.Core.Logic.{◌≢◌}
use mathlib.Core.Bool.{Bool, true, false, cond}
use mathlib.Core.List.{List, [], ◌∷◌, ◌++◌, map, map-append}
use lib.ListN.{get_or, set, replicate, length-map, get_or-replicate}
use lib.Seq.{set-get_or, get_or-set_other}
use Rattle.clock.specs.declared.Clock.{Clock}
use Rattle.records.specs.declared.Numbers.{Numbers}
use Rattle.records.specs.declared.Resource.{Resource}
use Rattle.records.specs.Numbers.{free}
use Rattle.records.specs.Numbers as numbers
use Rattle.records.specs.Inner as numbers-inner
use Rattle.records.proofs.Table.{resources-made}
use Rattle.tracks.specs.declared.Tracks.{Tracks}
use Rattle.tracks.specs.Tracks.{nobody, system}
use Rattle.tracks.specs.Tracks as tracks
use Rattle.tracks.specs.Inner as tracks-inner
use Rattle.tracks.proofs.Fits.{fit}
use Rattle.rules.specs.Book.{Book, with_clock, fresh_book}
use Rattle.rules.specs.Rules.{may_start}
use Rattle.rules.specs.Keeper.{lists, State}
use Rattle.rules.specs.Engine.{made_by}
use Rattle.chains.specs.Links.{slots, lay_chain, lay_all, links_of}
use Rattle.tables.specs.declared.Tables.{Tables}
use Rattle.tables.specs.Tables.{lay, freshly}
use Rattle.tables.specs.Calls.{Result, made}
use Rattle.page.specs.Page.{chained}
use Rattle.reader.specs.Said.{started}
use Rattle.shapes.specs.Inner.{byte, narrow_resource}
use Rattle.reader.specs.Inner.{narrow_record}
use Rattle.reader.specs.Walks.{with_chains, lay_these, Holds, Keeps, narrow}
use Rattle.reader.proofs.Lengths.{started-sized}

-- LINKS
-- no chain begins at the slots from k on
abbrev Clear : List ℕ → ℕ → Type 0
Clear l k = (i : ℕ) → k ≤ i → i < 7 → get_or l i 0 ≡ 0

-- a chain touches its head and the links of programs
clear-lay : (k : ℕ) (l : List ℕ) (s : ℕ) (c : List ℕ) → ((i : ℕ) → k ≤ i → i < 7 → i ≢ s) → Clear l k → Clear (lay_chain l s c) k
clear-lay k l s [] n h = λ i a b. get_or-set_other l s i 0 0 (n i a b) ∙ h i a b
clear-lay k l s (q ∷ qs) n h =
    clear-lay k (set l s q) (7 + q) qs (λ i a b e. omega arith) (λ i a b. get_or-set_other l s i q 0 (n i a b) ∙ h i a b)

clear_next : (l : List ℕ) (s : ℕ) (c : List ℕ) → Clear l s → Clear (lay_chain l s c) (suc s)
clear_next l s c h = clear-lay (suc s) l s c (λ i a b e. omega arith) (λ i a b. h i (omega arith) b)

clear-on : (l : List ℕ) (s : ℕ) → Clear l s → Clear l (suc s)
clear-on l s h i a b = h i (omega arith) b

-- an empty chain where there was none changes nothing
empty-laid : (l : List ℕ) (s : ℕ) → s < 7 → Clear l s → set l s 0 ≡ l
empty-laid l s b h = ap (set l s) (sym (h s (omega arith) b)) ∙ set-get_or l s 0

abbrev none : List ℕ
none = replicate 40 0

clear_none : Clear none 1
clear_none i a b = get_or-replicate 40 i 0 0 (omega arith)

-- the links before chains 3, 5, 6, and those behind
module _ (c : List ℕ) where
  abbrev behind1 : List ℕ
  behind1 = lay_chain none 1 c

  clear2 : Clear behind1 2
  clear2 = clear_next none 1 c clear_none

  clear3 : Clear behind1 3
  clear3 = clear-on behind1 2 clear2

  module _ (d : List ℕ) where
    abbrev behind3 : List ℕ
    behind3 = lay_chain behind1 3 d

    clear4 : Clear behind3 4
    clear4 = clear_next behind1 3 d clear3

    clear5 : Clear behind3 5
    clear5 = clear-on behind3 4 clear4

    module _ (e : List ℕ) where
      abbrev behind5 : List ℕ
      behind5 = lay_chain behind3 5 e

      clear6 : Clear behind5 6
      clear6 = clear_next behind3 5 e clear5

      -- states 2 and 4 have no chain
      four : (f : List ℕ) → lay_all none 0 ([] ∷ c ∷ [] ∷ d ∷ [] ∷ e ∷ f ∷ []) ≡ lay_chain behind5 6 f
      four f =
          ap (λ (l : List ℕ). lay_chain (lay_chain (set (lay_chain l 3 d) 4 0) 5 e) 6 f) (empty-laid behind1 2 (omega arith) clear2)
          ∙ ap (λ (l : List ℕ). lay_chain (lay_chain l 5 e) 6 f) (empty-laid behind3 4 (omega arith) clear4)

      three : lay_all none 0 ([] ∷ c ∷ [] ∷ d ∷ [] ∷ e ∷ [] ∷ []) ≡ behind5
      three = four [] ∙ empty-laid behind5 6 (omega arith) clear6

    two : lay_all none 0 ([] ∷ c ∷ [] ∷ d ∷ [] ∷ [] ∷ [] ∷ []) ≡ behind3
    two = three [] ∙ empty-laid behind3 5 (omega arith) clear5

  one : lay_all none 0 ([] ∷ c ∷ [] ∷ [] ∷ [] ∷ [] ∷ [] ∷ []) ≡ behind1
  one = two [] ∙ empty-laid behind1 3 (omega arith) clear3

links-book : (b : Book) (cs : List (List ℕ))
    → links_of (map (map byte) (with_chains chained cs (record { book = b; kept = replicate 7 [] })).kept)
    ≡ lay_these chained cs (replicate slots 0)
unfolding links_of
links-book b [] = refl
links-book b (c ∷ []) = one (map byte c)
links-book b (c ∷ d ∷ []) = two (map byte c) (map byte d)
links-book b (c ∷ d ∷ e ∷ []) = three (map byte c) (map byte d) (map byte e)
links-book b (c ∷ d ∷ e ∷ f ∷ gs) = four (map byte c) (map byte d) (map byte e) (map byte f)

-- the chains shown, in a state that had none, give the links that they are laid out in; any number of them
pub links-these : (a : State lists) → a.kept ≡ replicate 7 [] → (cs : List (List ℕ))
    → links_of (map (map byte) (with_chains chained cs a).kept) ≡ lay_these chained cs (replicate slots 0)
links-these a z cs =
    ap (λ (k : List (List ℕ)). links_of (map (map byte) (with_chains chained cs (record { book = a.book; kept = k })).kept)) z
    ∙ links-book a.book cs

-- THE TABLES OF TRACKS AND NUMBERS
pub holds-fit : (t : Tracks) (a : State lists) → Holds t a → a.book.tracks ≤ 256 → tracks-inner.Fit t
holds-fit t a H m =
    rw H.table
    (fit a.book.tracks a.book.system (map byte a.book.holders) (length-map a.book.holders byte ∙ H.long) m)

pub keeps-fit : (t : Numbers) (a : State lists) → Keeps t a → a.book.numbers ≤ 16 → numbers-inner.Fit t
keeps-fit t a K m =
    let xs : List Resource = map narrow_resource a.book.resources in
    rw K.table
    (record {
      most = m;
      formed = ap (numbers.table_of a.book.numbers)
          (sym (resources-made a.book.numbers xs (length-map a.book.resources narrow_resource ∙ K.long)));
    })

-- fresh ones
map-replicate : {A : Type 0} {B : Type 0} (f : A → B) (n : ℕ) (x : A) → map f (replicate n x) ≡ replicate n (f x)
map-replicate f zero x = refl
map-replicate f (suc n) x = ap (λ ys. f x ∷ ys) (map-replicate f n x)

fresh-bytes : (T S : ℕ) → map byte (replicate S system ++ replicate (T - S) nobody) ≡ replicate S system ++ replicate (T - S) nobody
fresh-bytes T S =
    map-append byte (replicate S system) (replicate (T - S) nobody)
    ∙ ap₂ ◌++◌ (map-replicate byte S system) (map-replicate byte (T - S) nobody)

abbrev fresh_tables : ℕ → ℕ → ℕ → ℕ → Bool → Tables
fresh_tables T S R Y b = cond b (freshly T S R Y) (freshly 1 0 0 1975)

abbrev fresh_state : ℕ → ℕ → ℕ → ℕ → ℕ → Bool → State lists
fresh_state clock T S R Y b = record { book = with_clock clock (cond b (fresh_book T S R Y) (fresh_book 1 0 0 1975)); kept = lists.none }

module _ (clock T S R Y : ℕ) where
  made-tables : (made T S R Y).tables ≡ fresh_tables T S R Y (may_start T S R Y)
  unfolding made_by
  made-tables = go (may_start T S R Y)
    where
      go : (b : Bool) → (cond {A = Result} b (record { number = 0; values = 0 ∷ []; tables = freshly T S R Y })
          (record { number = 3; values = 0 ∷ []; tables = freshly 1 0 0 1975 })).tables ≡ fresh_tables T S R Y b
      go true = refl
      go false = refl

  pub fresh_holds : Holds (made T S R Y).tables.ledger.tracks (started clock T S R Y)
  fresh_holds = record {
    table = ap (λ (t : Tables). t.ledger.tracks) made-tables ∙ go (may_start T S R Y);
    long = (started-sized clock T S R Y).holders;
  }
    where
      go : (b : Bool) → (fresh_tables T S R Y b).ledger.tracks
          ≡ tracks.table_of (fresh_state clock T S R Y b).book.tracks (fresh_state clock T S R Y b).book.system
          (map byte (fresh_state clock T S R Y b).book.holders)
      go true = ap (tracks.table_of T S) (sym (fresh-bytes T S))
      go false = ap (tracks.table_of 1 0) (sym (fresh-bytes 1 0))

  pub fresh_keeps : Keeps (made T S R Y).tables.ledger.numbers (started clock T S R Y)
  fresh_keeps = record {
    table = ap (λ (t : Tables). t.ledger.numbers) made-tables ∙ go (may_start T S R Y);
    long = (started-sized clock T S R Y).resources;
  }
    where
      go : (b : Bool) → (fresh_tables T S R Y b).ledger.numbers
          ≡ numbers.table_of (fresh_state clock T S R Y b).book.numbers (map narrow_resource (fresh_state clock T S R Y b).book.resources)
      go true = ap (numbers.table_of R) (sym (map-replicate narrow_resource R free))
      go false = ap (numbers.table_of 0) (sym (map-replicate narrow_resource 0 free))

  -- the clock, at another time of the same year
  pub fresh-clock : ◌≡◌ {A = Clock} (record { ticks = clock; year = (made T S R Y).tables.ledger.clock.year })
      (record { ticks = (started clock T S R Y).book.clock; year = (started clock T S R Y).book.year })
  fresh-clock = ap (λ (t : Tables). record { ticks = clock; year = t.ledger.clock.year }) made-tables ∙ go (may_start T S R Y)
    where
      go : (b : Bool) → ◌≡◌ {A = Clock} (record { ticks = clock; year = (fresh_tables T S R Y b).ledger.clock.year })
          (record { ticks = (fresh_state clock T S R Y b).book.clock; year = (fresh_state clock T S R Y b).book.year })
      go true = refl
      go false = refl

  pub fresh-tracks-fit : tracks-inner.Fit (made T S R Y).tables.ledger.tracks
  fresh-tracks-fit =
      holds-fit (made T S R Y).tables.ledger.tracks (started clock T S R Y) fresh_holds (started-sized clock T S R Y).tracks

  pub fresh-numbers-fit : numbers-inner.Fit (made T S R Y).tables.ledger.numbers
  fresh-numbers-fit =
      keeps-fit (made T S R Y).tables.ledger.numbers (started clock T S R Y) fresh_keeps (started-sized clock T S R Y).numbers

-- ALL OF THEM
pub assembled : (t : Tables) (a : State lists) → t.ledger.programs ≡ map narrow_record a.book.programs
    → t.ledger.clock ≡ record { ticks = a.book.clock; year = a.book.year } → Holds t.ledger.tracks a → Keeps t.ledger.numbers a
    → t.links ≡ links_of (map (map byte) a.kept) → t ≡ lay (narrow a)
assembled t a P C H K L =
    let x = H.table in
    let y = K.table in
    λ i. record {
      ledger = record { programs = P i; clock = C i; tracks = x i; numbers = y i };
      links = L i;
    }
