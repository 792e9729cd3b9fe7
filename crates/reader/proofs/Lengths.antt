-- What lines say has lists as long as tables have, whatever the lines: so tables laid out from it have the arrays of the code's types.
-- Assumes nothing.
use Prim.Native.Nat.{ℕ, zero, suc, ◌+◌, ◌-◌, ◌≤◌}
use native.Mathlib.Omega.{arith}
use mathlib.Core.Path.{◌≡◌, refl, ◌∙◌}
use mathlib.Core.Bool.{Bool, true, false, cond, ◌&&◌}
use mathlib.Core.List.{List, [], ◌∷◌}
use mathlib.Core.Option.{Option, none, some}
use lib.Dec.{leb, ltb}
use lib.ListN.{length, set, take, drop, replicate, length-append, length-replicate, length-set}
use Rattle.lists.specs.Lists.{hit, up_to}
use Rattle.text.specs.Text.{text}
use Rattle.records.specs.declared.Program.{Program}
use Rattle.records.specs.Records.{known, unused}
use Rattle.records.specs.Numbers.{free, with_number}
use Rattle.tracks.specs.declared.held.Run.{Run}
use Rattle.tracks.specs.Tracks.{nobody, system, filled}
use Rattle.tracks.proofs.Runs.{filled-long}
use Rattle.rules.specs.Book.{Book, put, with_clock, with_holders, with_resources, fresh_book}
use Rattle.rules.specs.Rules.{may_start}
use Rattle.rules.proofs.shared.Starting.{starts-true}
use Rattle.rules.specs.Keeper.{lists, State}
use Rattle.chains.specs.Links.{lay_chain, lay_all, links_of}
use Rattle.tables.specs.Tables.{lay, Arrays}
use Rattle.page.specs.Page.{record_keys, first_keys, size_keys, chained, held_key, number_key, key_of_chain}
use Rattle.page.specs.Page.{clock_key, tracks_key, system_key, numbers_key, programs_key, id_key}
use Rattle.shapes.specs.Shapes.{otherwise, listed, run_in, Numbered, numbered}
use Rattle.reader.specs.Order.{year_form, value_behind}
use Rattle.reader.specs.Said.{figure_of, with_chain, started, begins_with, year_said, marked_by, record_in, with_record, with_run, with_resource}
use Rattle.reader.specs.Said.{with_held, with_numbered, with_line, rest_said, chains_said, records_said, said}

-- a book's lists are as long as what they list, and no longer than tables have them
pub record Sized (b : Book) : Type 0 where
  pub programs : length b.programs ≡ 32
  pub holders : length b.holders ≡ b.tracks
  pub tracks : b.tracks ≤ 256
  pub resources : length b.resources ≡ b.numbers
  pub numbers : b.numbers ≤ 16

-- fresh books, of sizes that are allowed or the smallest
fresh-sized : (T S R Y : ℕ) → S ≤ T → T ≤ 256 → R ≤ 16 → Sized (fresh_book T S R Y)
fresh-sized T S R Y h k l = record {
  programs = length-replicate 32 unused;
  holders = length-append (replicate S system) (replicate (T - S) nobody)
      ∙ omega (arith, length-replicate S system, length-replicate (T - S) nobody);
  tracks = k;
  resources = length-replicate R free;
  numbers = l;
}

pub started-sized : (clock T S R Y : ℕ) → Sized (started clock T S R Y).book
started-sized clock T S R Y = go (may_start T S R Y) refl
  where
    timed : (b : Book) → Sized b → Sized (with_clock clock b)
    timed b Z =
        record { programs = Z.programs; holders = Z.holders; tracks = Z.tracks; resources = Z.resources; numbers = Z.numbers }

    go : (t : Bool) → may_start T S R Y ≡ t → Sized (with_clock clock (cond t (fresh_book T S R Y) (fresh_book 1 0 0 1975)))
    go true e =
        let Z = starts-true T S R Y e in
        timed (fresh_book T S R Y) (fresh-sized T S R Y Z.first Z.most Z.few)
    go false e = timed (fresh_book 1 0 0 1975) (fresh-sized 1 0 0 1975 (omega arith) (omega arith) (omega arith))

-- each change keeps them
record-sized : (p : ℕ) (r : Program) (a : State lists) → Sized a.book → Sized (with_record p r a).book
record-sized p r a Z = go (known p)
  where
    go : (t : Bool) → Sized (cond t (put p r a.book) a.book)
    go true = record {
      programs = length-set a.book.programs (p - 1) r ∙ Z.programs;
      holders = Z.holders;
      tracks = Z.tracks;
      resources = Z.resources;
      numbers = Z.numbers;
    }
    go false = Z

run-sized : (g : Run) (a : State lists) → Sized a.book → Sized (with_run g a).book
run-sized g a Z = go (leb g.first g.last && ltb g.last a.book.tracks)
  where
    go : (t : Bool)
        → Sized (cond t (with_holders (filled g.first (suc g.last - g.first) g.holder a.book.holders) a.book) a.book)
    go true = record {
      programs = Z.programs;
      holders = filled-long g.first (suc g.last - g.first) g.holder a.book.holders ∙ Z.holders;
      tracks = Z.tracks;
      resources = Z.resources;
      numbers = Z.numbers;
    }
    go false = Z

resource-sized : (x : Numbered) (a : State lists) → Sized a.book → Sized (with_resource x a).book
resource-sized x a Z = go (up_to 1 a.book.numbers x.number)
  where
    go : (t : Bool) → Sized (cond t
        (with_resources (with_number x.number x.resource.owner x.resource.lock a.book.resources) a.book) a.book)
    go true = record {
      programs = Z.programs;
      holders = Z.holders;
      tracks = Z.tracks;
      resources = length-set a.book.resources (x.number - 1) x.resource ∙ Z.resources;
      numbers = Z.numbers;
    }
    go false = Z

-- and each line
held-sized : (v : List ℕ) (a : State lists) → Sized a.book → Sized (with_held v a).book
held-sized v a Z = go (run_in v)
  where
    go : (o : Option Run) → Sized (elim o as (λ x. State lists) [ none ↦ a | some g ↦ with_run g a ]).book
    go none = Z
    go (some g) = run-sized g a Z

numbered-sized : (v : List ℕ) (a : State lists) → Sized a.book → Sized (with_numbered v a).book
numbered-sized v a Z = go (numbered v)
  where
    go : (o : Option Numbered) → Sized (elim o as (λ x. State lists) [ none ↦ a | some x ↦ with_resource x a ]).book
    go none = Z
    go (some x) = resource-sized x a Z

line-sized : (l : List ℕ) (a : State lists) → Sized a.book → Sized (with_line l a).book
unfolding with_line
line-sized l a Z = go (value_behind (text held_key) l) (value_behind (text number_key) l)
  where
    go : (o p : Option (List ℕ)) → Sized (elim o as (λ x. State lists) [
      | some v ↦ with_held v a
      | none ↦ elim p as (λ x. State lists) [ some v ↦ with_numbered v a | none ↦ a ]
    ]).book
    go (some v) p = held-sized v a Z
    go none (some v) = numbered-sized v a Z
    go none none = Z

rest-sized : (ls : List (List ℕ)) (a : State lists) → Sized a.book → Sized (rest_said a ls).book
unfolding rest_said
rest-sized [] a Z = Z
rest-sized (l ∷ ls) a Z = rest-sized ls (with_line l a) (line-sized l a Z)

chains-sized : (ss : List ℕ) (ls : List (List ℕ)) (a : State lists) → Sized a.book → Sized (chains_said ss a ls).book
unfolding chains_said
chains-sized [] ls a Z = rest-sized ls a Z
chains-sized (s ∷ ss) [] a Z = Z
chains-sized (s ∷ ss) (l ∷ ls) a Z =
    chains-sized ss ls (with_chain s (otherwise [] (listed (otherwise [] (value_behind (key_of_chain s) l)))) a) Z

records-sized : (n : ℕ) (ls : List (List ℕ)) (a : State lists) → Sized a.book → Sized (records_said n a ls).book
unfolding records_said
records-sized zero ls a Z = chains-sized chained ls a Z
records-sized (suc n) ls a Z =
    let own : List (List ℕ) = take (length record_keys) ls in
    let rest : List (List ℕ) = drop (length record_keys) ls in
    records-sized n (drop (hit (marked_by rest)) rest) (with_record (figure_of id_key own) (record_in own (marked_by rest)) a)
    (record-sized (figure_of id_key own) (record_in own (marked_by rest)) a Z)

pub said-sized : (ls : List (List ℕ)) → Sized (said ls).book
unfolding said
said-sized ls =
    let first : List (List ℕ) = take (length first_keys) ls in
    let rest : List (List ℕ) = drop (length first_keys) ls in
    let behind : List (List ℕ) = drop (hit (begins_with year_form rest)) rest in
    let own : List (List ℕ) = take (length size_keys) behind in
    records-sized (figure_of programs_key own) (drop (length size_keys) behind)
    (started (figure_of clock_key first) (figure_of tracks_key own) (figure_of system_key own) (figure_of numbers_key own) (year_said rest))
    (started-sized (figure_of clock_key first) (figure_of tracks_key own) (figure_of system_key own) (figure_of numbers_key own) (year_said rest))

-- links are as many as there are slots
chain-long : (l : List ℕ) (s : ℕ) (c : List ℕ) → length (lay_chain l s c) ≡ length l
chain-long l s [] = length-set l s 0
chain-long l s (q ∷ qs) = chain-long (set l s q) (7 + q) qs ∙ length-set l s q

all-long : (l : List ℕ) (s : ℕ) (m : List (List ℕ)) → length (lay_all l s m) ≡ length l
all-long l s [] = refl
all-long l s (c ∷ m) = all-long (lay_chain l s c) (suc s) m ∙ chain-long l s c

links-long : (m : List (List ℕ)) → length (links_of m) ≡ 40
unfolding links_of
links-long m = all-long (replicate 40 0) 0 m

pub sized-arrays : (a : State lists) → Sized a.book → Arrays (lay a)
sized-arrays a Z =
    let b = a.book in
    record {
      programs = Z.programs;
      links = links-long a.kept;
      holders = length-append b.holders (replicate (256 - b.tracks) nobody)
          ∙ omega (arith, length-replicate (256 - b.tracks) nobody, Z.holders, Z.tracks);
      resources = length-append b.resources (replicate (16 - b.numbers) free)
          ∙ omega (arith, length-replicate (16 - b.numbers) free, Z.resources, Z.numbers);
    }

pub said-arrays : (ls : List (List ℕ)) → Arrays (lay (said ls))
said-arrays ls = sized-arrays (said ls) (said-sized ls)
