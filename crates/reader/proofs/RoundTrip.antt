-- A page that was written from sound tables is read, and gives those tables back: its lines are well formed, and what they say is the
-- plain state.
-- Assumes nothing.
use Prim.Native.Nat.{ℕ}
use native.Mathlib.Omega.{arith}
use mathlib.Core.Path.{◌≡◌, refl, ap, ap₂, ◌∙◌}
use mathlib.Core.Bool.{Bool, true, false, cond}
use mathlib.Core.List.{List, [], ◌∷◌}
use lib.ListN.{length}
use Rattle.lists.specs.Lists.{same}
use Rattle.lists.proofs.Tests.{and, alike_refl}
use Rattle.text.specs.Text.{text, behind, parts}
use Rattle.records.specs.declared.Program.{Program}
use Rattle.records.specs.Records.{all, record_at}
use Rattle.rules.specs.Book.{with_clock, fresh_book}
use Rattle.rules.specs.Rules.{may_start}
use Rattle.rules.proofs.shared.Starting.{starts_is}
use Rattle.rules.specs.Keeper.{lists, State}
use Rattle.rules.specs.Sound.{Sound}
use Rattle.tables.specs.declared.Tables.{Tables}
use Rattle.tables.specs.Tables.{plain, lay, Arrays}
use Rattle.tables.specs.Sound as tables
use Rattle.tables.proofs.Agree.{sound-test}
use Rattle.tables.proofs.Orderly.{sound-orderly, orderly-lay}
use Rattle.tables.proofs.Plain.{sound-plain}
use Rattle.page.specs.Page.{Line, line, end_key, last_word, used_in, record_lines, chain_lines, held_lines, number_lines, lines, page}
use Rattle.page.specs.Page as page
use Rattle.page.proofs.Weights.{keep-length}
use Rattle.reader.specs.Order.{value_behind, page_ahead, first_bad}
use Rattle.reader.specs.Said.{started, with_line, rest_said, records_said, said}
use Rattle.reader.specs.Reading.{was_read, not_read, writes, judged, reading}
use Rattle.reader.proofs.Text.{told, told_all, told-join, Clean, clean-none, clean-more, clean-append, bytes-parts}
use Rattle.shapes.proofs.ValuesBack.{Short}
use Rattle.reader.proofs.ScanLaws.{Good, last_lines, end-held, end-numbered}
use Rattle.reader.proofs.HeadBack.{head-clean, head-good, head-said}
use Rattle.reader.proofs.RecordsBack.{with_programs, records-clean, records-good, records-said}
use Rattle.reader.proofs.ChainsBack.{chains-clean, chains-good, chains-unmarked, chains-said}
use Rattle.reader.proofs.HeldBack.{with_tracks, held-clean, held-good, held-said}
use Rattle.reader.proofs.NumbersBack.{with_numbers, numbers-clean, numbers-good, numbers-said}

used-short : (ps : List Program) → Short (length (used_in ps))
unfolding used_in all
used-short ps = omega (arith, keep-length (λ p. (record_at ps p).used) all)

-- the last line
abbrev last : List Line
last = line end_key (text last_word) ∷ []

last-clean : Clean last
unfolding same
last-clean = clean-more refl clean-none

last-said : (a : State lists) → rest_said a last_lines ≡ a
unfolding rest_said with_line value_behind behind
last-said a = refl

module _ (a : State lists) (S : Sound a) where
  -- the page's lines, part by part
  lines-clean : Clean (lines a)
  unfolding lines
  lines-clean =
      clean-append
      (head-clean a.book.clock a.book.tracks a.book.system a.book.numbers a.book.year (length (used_in a.book.programs)))
      (clean-append (records-clean a.book S.shape.programs S.names S.zeros S.whys S.limits S.dues)
      (clean-append (chains-clean a.book a.kept S.chains)
      (clean-append (held-clean a.book S.shape.holders S.limits S.system)
      (clean-append (numbers-clean a.book S.shape.resources S.limits S.unlocked)
      (clean-append last-clean clean-none)))))

  page-lines : parts 10 (page a) ≡ told_all (page.parts a) ([] ∷ [])
  unfolding page lines
  page-lines = bytes-parts lines-clean ∙ told-join (page.parts a) ([] ∷ [])

  -- what is left behind each part
  abbrev behind_held : List (List ℕ)
  behind_held = told (number_lines a.book.numbers a.book.resources) last_lines

  abbrev behind_chains : List (List ℕ)
  behind_chains = told (held_lines a.book.holders) behind_held

  abbrev behind_records : List (List ℕ)
  behind_records = told (chain_lines a.kept) behind_chains

  abbrev behind_head : List (List ℕ)
  behind_head = told (record_lines a.book.programs) behind_records

  -- its figures are short
  clock-short : Short a.book.clock
  clock-short = omega (arith, S.limits.time)

  tracks-short : Short a.book.tracks
  tracks-short = omega (arith, S.limits.most)

  system-short : Short a.book.system
  system-short = omega (arith, S.limits.most, S.limits.first)

  numbers-short : Short a.book.numbers
  numbers-short = omega (arith, S.limits.few)

  year-short : Short a.book.year
  year-short = omega (arith, S.limits.latest)

  lines-good : Good page_ahead (told_all (page.parts a) ([] ∷ []))
  lines-good =
      head-good a.book.clock a.book.tracks a.book.system a.book.numbers a.book.year (length (used_in a.book.programs))
      clock-short tracks-short system-short numbers-short year-short (used-short a.book.programs) behind_head
      (records-good a.book S.shape.programs S.names S.zeros S.whys S.limits S.dues behind_records
      (chains-unmarked a.kept behind_chains)
      (chains-good a.book a.kept S.chains behind_chains
      (held-good a.book S.shape.holders S.limits S.system behind_held
      (numbers-good a.book S.shape.resources S.limits S.unlocked last_lines end-held end-numbered))))

  pub page-good : first_bad page_ahead 1 (parts 10 (page a)) ≡ 0
  page-good = ap (first_bad page_ahead 1) page-lines ∙ lines-good.none 1

  -- fresh tables of those sizes
  may-start : may_start a.book.tracks a.book.system a.book.numbers a.book.year ≡ true
  may-start = starts_is a.book.tracks a.book.system a.book.numbers a.book.year (record {
    some = S.limits.some;
    most = S.limits.most;
    first = S.limits.first;
    few = S.limits.few;
    earliest = S.limits.earliest;
    latest = S.limits.latest;
  })

  abbrev fresh : State lists
  fresh = record {
    book = with_clock a.book.clock (fresh_book a.book.tracks a.book.system a.book.numbers a.book.year);
    kept = lists.none;
  }

  started-fresh : started a.book.clock a.book.tracks a.book.system a.book.numbers a.book.year ≡ fresh
  started-fresh =
      ap (λ (t : Bool). record {
        book = with_clock a.book.clock (cond t (fresh_book a.book.tracks a.book.system a.book.numbers a.book.year) (fresh_book 1 0 0 1975));
        kept = lists.none;
      })
      may-start

  -- and what is put into them
  abbrev records_in : State lists
  records_in = with_programs a.book.programs fresh

  abbrev chains_in : State lists
  chains_in = record { book = records_in.book; kept = a.kept }

  abbrev tracks_in : State lists
  tracks_in = with_tracks a.book.holders chains_in

  lines-said : said (told_all (page.parts a) ([] ∷ [])) ≡ a
  lines-said =
      head-said a.book.clock a.book.tracks a.book.system a.book.numbers a.book.year (length (used_in a.book.programs))
      clock-short tracks-short system-short numbers-short year-short (used-short a.book.programs) behind_head
      ∙ ap (λ (x : State lists). records_said (length (used_in a.book.programs)) x behind_head) started-fresh
      ∙ records-said a.book S.shape.programs S.names S.zeros S.whys S.limits S.dues fresh behind_records
      (chains-unmarked a.kept behind_chains)
      ∙ chains-said a.book a.kept S.chains S.whys S.shape.chains S.shape.dormant records_in.book behind_chains
      ∙ held-said a.book S.shape.holders S.limits S.system chains_in refl behind_held
      ∙ numbers-said a.book S.shape.resources S.limits S.unlocked tracks_in refl last_lines
      ∙ last-said (with_numbers a.book.resources tracks_in)

  pub page-said : said (parts 10 (page a)) ≡ a
  page-said = ap said page-lines ∙ lines-said

-- THE ROUND TRIP
pub read-written : (t : Tables) → Arrays t → tables.Sound t → reading (page (plain t)) ≡ was_read t
unfolding reading writes
read-written t A C =
    let S = sound-plain t A C in
    let s : List ℕ = page (plain t) in
    ap₂ (judged s) (page-good (plain t) S) (ap lay (page-said (plain t) S) ∙ orderly-lay t (sound-orderly t A C))
    ∙ ap (λ (b : Bool). elim b [ true ↦ was_read t | false ↦ not_read 0 ]) (and (sound-test t C) (alike_refl s))
