-- Demand 3 of the tables themselves: from any sound tables, from fresh ones and from those of a page, after any run of calls the chains are
-- what the replay says, which keeps none, and every call is told what the replay tells. Sound tables and the notes of their replay stay so
-- under every call; all else is read off one such pair.
-- Assumes nothing.
use Prim.Native.Nat.{ℕ, zero, suc, ◌+◌, ◌<◌}
use native.Mathlib.Omega.{arith}
use native.Mathlib.Decide.{ℕ_discrete}
use mathlib.Core.Path.{◌≡◌, refl, sym, ap, ap₂, ◌∙◌, subst}
use mathlib.Core.Logic.{◌≢◌}
use mathlib.Core.Bool.{Bool, true, false, not}
use mathlib.Core.List.{List, [], ◌∷◌, map}
use lib.ListN.{length, get_or}
use lib.Seq.{ext_get_or}
use lib.Dec.{leb, eqb}
use borrow.Author.Tests.{ne_eqb}
use Rattle.limits.specs.Limits.{most_ticks}
use Rattle.lists.specs.Lists.{sum, from, every, up_to}
use Rattle.lists.proofs.Tests.{and}
use Rattle.clock.specs.Clock.{ceiling}
use Rattle.rules.specs.Book.{Book}
use Rattle.rules.specs.Requests.{Call, Request, TICK, running}
use Rattle.rules.specs.Plans.{Event, Plan, refused, number_of, values_of, events_of}
use Rattle.rules.specs.Rules.{call, may_start}
use Rattle.rules.specs.Keeper.{lists, Entries, entries, sorted, State, play, view, asks, after, fresh}
use Rattle.rules.specs.Replay.{Accounts, Fits, First}
use Rattle.rules.proofs.Statements as rules
use Rattle.rules.specs.Sound.{Sound}
use Rattle.rules.proofs.keepers.Alike.{Alike, fresh-alike, order_alike, asks-alike, after-alike}
use Rattle.rules.proofs.keepers.Notes.{accounts-alike, alike-accounts}
use Rattle.rules.proofs.keepers.Demand.{demand}
use Rattle.rules.proofs.refusals.Refusals.{answered}
use Rattle.rules.proofs.shared.ManyTicks.{many-range, many-ceiling, many-made}
use Rattle.rules.proofs.soundness.SoundFresh.{sound-fresh}
use Rattle.rules.proofs.soundness.SoundRuns.{sound-after}
use Rattle.chains.specs.Links.{links_of}
use Rattle.tables.specs.declared.Tables.{Tables}
use Rattle.tables.specs.Tables.{plain, lay, freshly, smallest, Arrays, clock_of}
use Rattle.tables.specs.Sound.{sound}
use Rattle.tables.specs.Calls.{Result, laid, planned, asked, many_ticks, made}
use Rattle.tables.proofs.Agree.{sound-clauses, sound-test}
use Rattle.tables.proofs.Plain.{plain-lay, lay-sound, sound-plain}
use Rattle.tables.proofs.Orderly.{orderly-lay, sound-orderly}
use Rattle.page.specs.Page.{page}
use Rattle.rules.specs.Engine.{Handed, beside, front, after_ticks, sum_of_ticks, ticked_in, made_by, written_in, paged_in}
use Rattle.page.specs.Paging.{Written, linked, written, paged}
use Rattle.console.specs.Line.{Line, bad, PAGE, line_of}
use Rattle.console.specs.Line as line
use Rattle.console.specs.Console.{obeyed_in, keyed_in, obeyed, keyed}
use Rattle.reader.specs.Reading.{reading}
use Rattle.reader.proofs.Exact.{accepted, accepted-arrays, not-read}
use Rattle.history.specs.Runs.{Made, step, run, outcomes, Beginning, begins}
use Rattle.history.specs.Runs as calls
use Rattle.history.specs.Demand.{sorted_out, replaying, told_of, ActsFor, for-none, for-first, Agrees, Demanded, first_entries, notes_of}
use Rattle.history.proofs.Steps.{asked-planned}
use Rattle.history.proofs.Begins.{requested-asked, requested-replayed}
use Rattle.history.proofs.FirstEntries.{first-accounts}
use Rattle.rules.proofs.Statements.{Acts}

-- sound tables, laid out as their plain state is, and the notes of a replay that it is alike to
pub record Kept (t : Tables) (n : State entries) : Type 0 where
  pub test : sound t ≡ true
  pub plainly : Sound (plain t)
  pub laid : lay (plain t) ≡ t
  pub alike : Alike (plain t) n

-- a sound state laid out
kept-lay : (a : State lists) → Sound a → (n : State entries) → Alike a n → Kept (lay a) n
kept-lay a S n k =
    let e : plain (lay a) ≡ a = plain-lay a S in
    record {
      test = sound-test (lay a) (lay-sound a S);
      plainly = subst Sound (sym e) S;
      laid = ap lay e;
      alike = subst (λ (x : State lists). Alike x n) (sym e) k;
    }

-- what is handed back, by the tables and by the replay: both say the same, the number is not 14, and tables and notes go on together
pub record Alongside (w : Written) (x : Handed (State entries)) : Type 0 where
  pub told : told_of w ≡ told_of x
  pub answers : not (eqb w.number 14) ≡ true
  pub kept : Kept w.tables x.tables

not-14 : (a : ℕ) → a ≢ 14 → not (eqb a 14) ≡ true
not-14 a n = ap not (ne_eqb a 14 n)

-- the n numbers from p on, each with what f makes of it
get_or-from : (f : ℕ → List ℕ) (p n i : ℕ) → i < n → get_or (map f (from p n)) i [] ≡ f (p + i)
get_or-from f p zero i h = absurd (omega arith)
get_or-from f p (suc n) zero h = ap f (omega arith)
get_or-from f p (suc n) (suc i) h = get_or-from f (suc p) n i (omega arith) ∙ ap f (omega arith)

module _ (t : Tables) (n : State entries) (K : Kept t n) where
  -- the chains, all seven of them, are those that the replay sorts out
  kept-sorted : plain t ≡ sorted_out n
  kept-sorted =
      let b : (plain t).book ≡ n.book = sym K.alike.book in
      let k : (plain t).kept ≡ (sorted_out n).kept = ext_get_or [] (plain t).kept (sorted_out n).kept K.alike.seven chain in
      λ i. record { book = b i; kept = k i }
    where
      chain : (s : ℕ) → s < length (plain t).kept → get_or (plain t).kept s [] ≡ get_or (sorted_out n).kept s []
      chain zero h = K.plainly.shape.dormant
      chain (suc s) h =
          let l : s < 6 = omega (arith, K.alike.seven) in
          sym (order_alike (plain t) n K.alike (suc s) (omega arith) (omega arith))
          ∙ ap (sorted n.book n.kept) (let e : suc s ≡ 1 + s = omega arith in e)
          ∙ sym (get_or-from (sorted n.book n.kept) 1 6 s l)

  -- a request
  pub along-asked : (buf : List ℕ) (q : Request) → Alongside (beside buf (asked t q)) (beside buf (replaying.asked n q))
  along-asked buf q =
      let e : asked t q ≡ planned t (asks lists (plain t) q) = asked-planned t K.test q in
      rw e
      (record {
        told = ap (λ (x : Plan). record { number = number_of x; values = values_of x; tables = tt; buffer = buf })
            (asks-alike (plain t) n K.alike q);
        answers = not-14 (number_of (asks lists (plain t) q)) (λ i. omega (arith, (answered lists (plain t) q).highest));
        kept = kept-laid-out (events_of (view lists (plain t)) (asks lists (plain t) q)) (sound-after (plain t) K.plainly q)
            (after entries n q) (after-alike (plain t) n K.alike q);
      })
    where
      kept-laid-out : (es : List Event) → Sound (play lists es (plain t)) → (m : State entries) → Alike (play lists es (plain t)) m
          → Kept (laid t es) m
      kept-laid-out [] S m k = record { test = K.test; plainly = K.plainly; laid = K.laid; alike = k }
      kept-laid-out (e ∷ es) S m k = kept-lay (play lists (e ∷ es) (plain t)) S m k

-- so many ticks, one after another: tables and notes go on together, and the values add up to the same
along-ticks : (m : ℕ) (t : Tables) (n : State entries) → Kept t n
    → Kept (after_ticks asked m t) (after_ticks replaying.asked m n) × (sum_of_ticks asked m t ≡ sum_of_ticks replaying.asked m n)
unfolding after_ticks sum_of_ticks
along-ticks zero t n K = (K, refl)
along-ticks (suc m) t n K =
    let A = along-asked t n K [] TICK in
    let rest = along-ticks m (asked t TICK).tables (after entries n TICK) A.kept in
    (rest.0, ap₂ (λ (vs : List ℕ) (k : ℕ). sum vs + k) (ap (λ (w : Handed (Unit {0})). w.values) A.told) rest.1)

module _ (t : Tables) (n : State entries) (K : Kept t n) where
  clocks : (plain t).book.clock ≡ n.book.clock
  clocks = ap (λ (b : Book). b.clock) (sym K.alike.book)

  -- TICK,n
  along-ticked : (buf : List ℕ) (m : ℕ) → Alongside (beside buf (many_ticks t m)) (beside buf (ticked_in replaying n m))
  along-ticked buf m = go (up_to 1 most_ticks m) refl (leb ((plain t).book.clock + m) ceiling) refl
    where
      go : (x : Bool) → up_to 1 most_ticks m ≡ x → (y : Bool) → leb ((plain t).book.clock + m) ceiling ≡ y
          → Alongside (beside buf (many_ticks t m)) (beside buf (ticked_in replaying n m))
      go true r true c =
          let A = along-ticks m t n K in
          rw (
            many-made sound clock_of asked t m K.test r c,
            many-made replaying.sound replaying.clock replaying.asked n m refl r (ap (λ (k : ℕ). leb (k + m) ceiling) (sym clocks) ∙ c),
          )
          (record {
            told = λ i. record { number = 0; values = A.1 i ∷ []; tables = tt; buffer = buf };
            answers = refl;
            kept = A.0;
          })
      go true r false c =
          rw (
            many-ceiling sound clock_of asked t m K.test r c,
            many-ceiling replaying.sound replaying.clock replaying.asked n m refl r (ap (λ (k : ℕ). leb (k + m) ceiling) (sym clocks) ∙ c),
          )
          (record { told = refl; answers = refl; kept = K })
      go false r y c =
          rw (
            many-range sound clock_of asked t m K.test r,
            many-range replaying.sound replaying.clock replaying.asked n m refl r,
          )
          (record { told = refl; answers = refl; kept = K })

  -- PAGE
  same-page : page (plain t) ≡ page (sorted_out n)
  same-page = ap page (kept-sorted t n K)

  along-written : (buf : List ℕ) → Alongside (written t buf) (written_in replaying n buf)
  unfolding written_in
  along-written buf =
      go (leb (length (page (plain t))) (length buf)) refl (ap (λ (bytes : List ℕ). leb (length bytes) (length buf)) (sym same-page))
    where
      go : (b : Bool) → leb (length (page (plain t))) (length buf) ≡ b → leb (length (page (sorted_out n))) (length buf) ≡ b
          → Alongside (written t buf) (written_in replaying n buf)
      go true e f = rw (e, f, written_in)
          (record {
            told = λ i. record { number = 0; values = length (same-page i) ∷ []; tables = tt; buffer = front (same-page i) buf };
            answers = refl;
            kept = K;
          })
      go false e f = rw (e, f, written_in)
          (record {
            told = λ i. record { number = 12; values = length (same-page i) ∷ []; tables = tt; buffer = buf };
            answers = refl;
            kept = K;
          })

  along-paged : (buf : List ℕ) → Alongside (paged t buf) (paged_in replaying n buf)
  unfolding paged_in
  along-paged buf = rw (K.test, paged_in) (along-written buf)

  -- a line
  along-obeyed : (buf : List ℕ) (l : Line) → Alongside (obeyed t buf l) (obeyed_in replaying n buf l)
  along-obeyed buf bad = record { told = refl; answers = refl; kept = K }
  along-obeyed buf PAGE = along-paged buf
  along-obeyed buf (line.asks q) = along-asked t n K buf q
  along-obeyed buf (line.ticks m) = along-ticked buf m

  along-keyed : (bytes buf : List ℕ) → Alongside (keyed t bytes buf) (keyed_in replaying n bytes buf)
  unfolding keyed_in
  along-keyed bytes buf = rw (K.test, keyed_in) (along-obeyed buf (line_of bytes))

  -- any call
  pub along : (c : Made) → Alongside (step linked t c) (step replaying n c)
  unfolding step
  along (calls.request q) = rw (requested-asked t K.test q, requested-replayed n q) (along-asked t n K [] q)
  along (calls.ticks m) = along-ticked [] m
  along (calls.page buf) = along-paged buf
  along (calls.line bytes buf) = along-keyed bytes buf

  -- a call of the running program
  acts-for : (c : Call) → ActsFor t n c
  acts-for c = go ((demand (plain t) n.kept K.plainly (alike-accounts (plain t) n K.alike) []).holds.acts c)
    where
      planned-as : (x : Plan) → asks lists (plain t) (running c) ≡ x → asked t (running c) ≡ planned t x
      planned-as x e = asked-planned t K.test (running c) ∙ ap (planned t) e

      go : Acts (plain t) n.kept.entry c → ActsFor t n c
      go (rules.for-none f e) =
          for-none (λ p P. rw K.alike.book (f p P)) (planned-as (refused 2 0) e)
      go (rules.for-first p F e) =
          for-first p (subst (λ (b : Book). First b n.kept.entry 1 p) (sym K.alike.book) F)
          (planned-as (call (view lists (plain t)) p c) e)

  agrees : Agrees t n
  agrees = record {
    book = sym K.alike.book;
    chains = λ s l h.
        subst (λ (b : Book). Fits b n.kept.entry s (get_or (plain t).kept s [])) (sym K.alike.book) (K.alike.fits s l h);
    acts = acts-for;
  }

-- a run
pub run-kept : (cs : List Made) (t : Tables) (n : State entries) → Kept t n → Kept (run linked t cs) (run replaying n cs)
unfolding run
run-kept [] t n K = K
run-kept (c ∷ cs) t n K = run-kept cs (step linked t c).tables (step replaying n c).tables (along t n K c).kept

pub run-told : (cs : List Made) (t : Tables) (n : State entries) → Kept t n
    → map told_of (outcomes linked t cs) ≡ map told_of (outcomes replaying n cs)
unfolding outcomes
run-told [] t n K = refl
run-told (c ∷ cs) t n K =
    let H = along t n K c in
    ap₂ ◌∷◌ H.told (run-told cs (step linked t c).tables (step replaying n c).tables H.kept)

run-answers : (cs : List Made) (t : Tables) (n : State entries) → Kept t n
    → every (λ a. not (eqb a 14)) (map (λ (w : Handed Tables). w.number) (outcomes linked t cs)) ≡ true
unfolding outcomes
run-answers [] t n K = refl
run-answers (c ∷ cs) t n K =
    let H = along t n K c in
    and H.answers (run-answers cs (step linked t c).tables (step replaying n c).tables H.kept)

kept-demanded : (t : Tables) (n : State entries) → Kept t n → (cs : List Made) → Demanded t n cs
kept-demanded t n K cs = record {
  agrees = agrees (run linked t cs) (run replaying n cs) (run-kept cs t n K);
  told = run-told cs t n K;
  sound = run-answers cs t n K;
}

-- the tables after a run, whole: what the replay sorts out, laid out
kept-laid : (t : Tables) (n : State entries) → Kept t n → (cs : List Made) → run linked t cs ≡ lay (sorted_out (run replaying n cs))
kept-laid t n K cs =
    let L : Kept (run linked t cs) (run replaying n cs) = run-kept cs t n K in
    sym L.laid ∙ ap lay (kept-sorted (run linked t cs) (run replaying n cs) L)

-- from any sound tables on, and any entries that account for them
module _ (t : Tables) (A : Arrays t) (s : sound t ≡ true) where
  plainly : Sound (plain t)
  plainly = sound-plain t A (sound-clauses t s)

  kept-accounted : (e : Entries) → Accounts (plain t) e → Kept t (record { book = (plain t).book; kept = e })
  kept-accounted e a = record {
    test = s;
    plainly = plainly;
    laid = orderly-lay t (sound-orderly t A (sound-clauses t s));
    alike = accounts-alike (plain t) e plainly.shape.programs plainly.shape.chains a;
  }

  pub demand-sound : (e : Entries) → Accounts (plain t) e → (cs : List Made) → Demanded t (record { book = (plain t).book; kept = e }) cs
  demand-sound e a = kept-demanded t (record { book = (plain t).book; kept = e }) (kept-accounted e a)

  pub laid-sound : (e : Entries) → Accounts (plain t) e → (cs : List Made)
      → run linked t cs ≡ lay (sorted_out (run replaying (record { book = (plain t).book; kept = e }) cs))
  laid-sound e a = kept-laid t (record { book = (plain t).book; kept = e }) (kept-accounted e a)

  -- such entries there are always: the first entries
  first-accounted : Accounts (plain t) (first_entries (plain t)).kept
  first-accounted =
      first-accounts (plain t) plainly.shape.chains plainly.shape.dormant plainly.chains
      (sound-orderly t A (sound-clauses t s)).states

  pub kept-first : Kept t (first_entries (plain t))
  kept-first = kept-accounted (first_entries (plain t)).kept first-accounted

  pub demand-any : (e : Entries) × Accounts (plain t) e × ((cs : List Made) → Demanded t (record { book = (plain t).book; kept = e }) cs)
  demand-any =
      let e : Entries = (first_entries (plain t)).kept in
      (e, first-accounted, demand-sound e first-accounted)

-- from fresh tables of any accepted sizes on
module _ (T S R Y : ℕ) (e : may_start T S R Y ≡ true) where
  kept_new : Kept (freshly T S R Y) (fresh entries T S R Y)
  kept_new = kept-lay (fresh lists T S R Y) (sound-fresh T S R Y e) (fresh entries T S R Y) (fresh-alike T S R Y)

  kept_fresh : Kept (made T S R Y).tables (fresh entries T S R Y)
  unfolding made_by
  kept_fresh = rw (e, made_by) kept_new

  pub demand-fresh : (cs : List Made) → Demanded (made T S R Y).tables (fresh entries T S R Y) cs
  demand-fresh = kept-demanded (made T S R Y).tables (fresh entries T S R Y) kept_fresh

  pub laid-fresh : (cs : List Made) → run linked (made T S R Y).tables cs ≡ lay (sorted_out (run replaying (fresh entries T S R Y) cs))
  laid-fresh = kept-laid (made T S R Y).tables (fresh entries T S R Y) kept_fresh

-- from whatever begins a run on: FRESH, and where it is refused the smallest tables
kept-made : (T S R Y : ℕ) (b : Bool) → may_start T S R Y ≡ b → Kept (made T S R Y).tables (made_by (fresh entries) T S R Y).tables
unfolding made_by
kept-made T S R Y true e = rw (e, made_by) (kept_new T S R Y e)
kept-made T S R Y false e = rw (e, made_by) (kept_new 1 0 0 1975 refl)

-- a reading, whose tables are sound where it is accepted, and where it is refused the smallest
smallest-arrays : Arrays smallest
unfolding links_of
smallest-arrays = record { programs = refl; links = refl; holders = refl; resources = refl }

kept_read : (bytes : List ℕ) → Dec ((reading bytes).number ≡ 0)
    → Kept (reading bytes).tables (first_entries (plain (reading bytes).tables))
kept_read bytes (yes e) =
    let t : Tables = (reading bytes).tables in
    kept-first t (accepted-arrays bytes e) (sound-test t (accepted bytes e).0)
kept_read bytes (no n) =
    subst (λ (t : Tables). Kept t (first_entries (plain t))) (sym (ap (λ (r : Result). r.tables) (not-read bytes n)))
    (kept-first smallest smallest-arrays (kept_new 1 0 0 1975 refl).test)

pub kept-begun : (b : Beginning) → Kept (begins b) (notes_of b)
unfolding begins notes_of
kept-begun (calls.fresh T S R Y) = kept-made T S R Y (may_start T S R Y) refl
kept-begun (calls.read bytes) = kept_read bytes (ℕ_discrete (reading bytes).number 0)

pub demand-begun : (b : Beginning) (cs : List Made) → Demanded (begins b) (notes_of b) cs
demand-begun b = kept-demanded (begins b) (notes_of b) (kept-begun b)

pub laid-begun : (b : Beginning) (cs : List Made) → run linked (begins b) cs ≡ lay (sorted_out (run replaying (notes_of b) cs))
laid-begun b = kept-laid (begins b) (notes_of b) (kept-begun b)
