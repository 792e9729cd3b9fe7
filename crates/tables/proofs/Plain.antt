-- Sound plain states laid out are sound tables, which say them again; sound tables have a sound plain state. So what a
-- call hands back on sound tables is sound.
-- Assumes nothing.
use Prim.Native.Nat.{ℕ, zero, suc, ◌-◌, ◌≤◌}
use native.Mathlib.Omega.{arith}
use mathlib.Core.Path.{◌≡◌, refl, sym, subst}
use mathlib.Core.Bool.{true}
use mathlib.Core.List.{List, [], ◌∷◌, ◌++◌}
use lib.ListN.{length, get_or, replicate}
use lib.Seq.{length-take-le}
use Rattle.records.specs.Records.{Known}
use Rattle.records.specs.Numbers.{free}
use Rattle.records.proofs.Table.{resources-made}
use Rattle.tracks.specs.Tracks.{nobody}
use Rattle.tracks.proofs.Fits.{holders-of}
use Rattle.rules.specs.Book.{Book}
use Rattle.rules.specs.Requests.{Request}
use Rattle.rules.specs.Keeper.{lists, State, play, view, asks}
use Rattle.rules.specs.Sound.{Names, Zeros, Chains, Whys, Marks, System, Users, Unlocked, Limits, Dues}
use Rattle.rules.specs.Sound as rules
use Rattle.rules.proofs.soundness.SoundRuns.{sound-after}
use Rattle.chains.specs.Links.{read, total}
use Rattle.chains.proofs.Reading.{length-read}
use Rattle.chains.proofs.Laying.{laid-links_of, read-links_of, laid-links}
use Rattle.ledger.specs.Ledger.{book_of, ledger_of}
use Rattle.rules.specs.Plans.{Event, events_of}
use Rattle.tables.specs.declared.Tables.{Tables}
use Rattle.tables.specs.Tables.{plain, lay, Arrays}
use Rattle.tables.specs.Sound.{Sound, sound}
use Rattle.tables.specs.Calls.{served, asked, laid}
use Rattle.tables.proofs.Agree.{sound-clauses, sound-test}
use Rattle.tables.proofs.Members.{chained-once, chained-within}
use Rattle.tables.proofs.Orderly.{dormant}

-- blanks behind a list are blank
blank-past : {A : Type 0} (d : A) (n : ℕ) (xs : List A) (i : ℕ) → length xs ≤ i → get_or (xs ++ replicate n d) i d ≡ d
blank-past d zero [] i h = refl
blank-past d (suc n) [] zero h = refl
blank-past d (suc n) [] (suc i) h = blank-past d n [] i (omega arith)
blank-past d n (x ∷ xs) zero h = absurd (omega arith)
blank-past d n (x ∷ xs) (suc i) h = blank-past d n xs i (omega arith)

module _ (a : State lists) (S : rules.Sound a) where
  book-again : book_of (ledger_of a.book) ≡ a.book
  book-again =
      let h = holders-of a.book.tracks a.book.system a.book.holders S.shape.holders in
      let r = resources-made a.book.numbers a.book.resources S.shape.resources in
      λ i. record {
        programs = a.book.programs;
        clock = a.book.clock;
        year = a.book.year;
        tracks = a.book.tracks;
        system = a.book.system;
        numbers = a.book.numbers;
        holders = h i;
        resources = r i;
      }

  once : (p : ℕ) → total p a.kept ≤ 1
  once = chained-once a.book a.kept S.shape.chains S.shape.dormant S.chains

  within : (p : ℕ) → 1 ≤ total p a.kept → Known p
  within = chained-within a.book a.kept S.shape.chains S.shape.dormant S.chains

  chains-again : read (lay a).links ≡ a.kept
  chains-again = read-links_of a.kept S.shape.chains once within

  pub plain-lay : plain (lay a) ≡ a
  plain-lay = let b = book-again in let k = chains-again in λ i. record { book = b i; kept = k i }

  -- what holds of the book holds of the book laid out
  of-book : (P : Book → Type 0) → P a.book → P (plain (lay a)).book
  of-book P = subst P (sym book-again)

  pub lay-sound : Sound (lay a)
  lay-sound = record {
    names = of-book Names S.names;
    zeros = of-book Zeros S.zeros;
    chains = subst (λ (x : State lists). Chains x.book x.kept) (sym plain-lay) S.chains;
    links = laid-links (laid-links_of a.kept S.shape.chains once within) S.shape.dormant;
    whys = of-book Whys S.whys;
    marks = of-book Marks S.marks;
    system = of-book System S.system;
    users = of-book Users S.users;
    unlocked = of-book Unlocked S.unlocked;
    blank = record {
      tracks = λ i h. blank-past nobody (256 - a.book.tracks) a.book.holders i (omega (arith, S.shape.holders));
      numbers = λ r h. blank-past free (16 - a.book.numbers) a.book.resources (r - 1) (omega (arith, S.shape.resources));
    };
    limits = of-book Limits S.limits;
    dues = of-book Dues S.dues;
  }

-- and the other way
pub sound-plain : (t : Tables) → Arrays t → Sound t → rules.Sound (plain t)
sound-plain t A S = record {
  shape = record {
    programs = A.programs;
    holders = length-take-le t.ledger.tracks.count t.ledger.tracks.holders (omega (arith, S.limits.most, A.holders));
    resources = length-take-le t.ledger.numbers.count t.ledger.numbers.resources (omega (arith, S.limits.few, A.resources));
    chains = length-read t.links;
    dormant = dormant t A S;
  };
  names = S.names;
  zeros = S.zeros;
  chains = S.chains;
  whys = S.whys;
  marks = S.marks;
  system = S.system;
  users = S.users;
  unlocked = S.unlocked;
  limits = S.limits;
  dues = S.dues;
}

-- what happens leaves tables that say it, and sound ones where the state is sound
pub laid-is : (t : Tables) (es : List Event) → rules.Sound (play lists es (plain t)) → plain (laid t es) ≡ play lists es (plain t)
laid-is t [] S = refl
laid-is t (e ∷ es) S = plain-lay (play lists (e ∷ es) (plain t)) S

laid-sound : (t : Tables) (es : List Event) → sound t ≡ true → rules.Sound (play lists es (plain t)) → sound (laid t es) ≡ true
laid-sound t [] e S = e
laid-sound t (v ∷ es) e S = sound-test (lay (play lists (v ∷ es) (plain t))) (lay-sound (play lists (v ∷ es) (plain t)) S)

-- a request asked of sound tables leaves sound tables
pub sound-asked : (t : Tables) → Arrays t → (q : Request) → sound t ≡ true → sound (asked t q).tables ≡ true
unfolding asked served
sound-asked t A q e =
    rw (e, asked)
    (laid-sound t (events_of (view lists (plain t)) (asks lists (plain t) q)) e
    (sound-after (plain t) (sound-plain t A (sound-clauses t e)) q))
