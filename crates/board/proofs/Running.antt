-- Laws of a text that is run line by line: what is counted and what is left to be put, at its start, after each line, and at its end.
-- Assumes nothing.
use Prim.Native.Nat.{ℕ, ◌+◌, ◌-◌, ◌*◌, ◌<◌, ◌≤◌}
use native.Mathlib.Nat.{zero-add}
use native.Mathlib.Omega.{arith}
use mathlib.Core.Path.{◌≡◌, refl, sym, ap, ap₂, ◌∙◌}
use mathlib.Core.Bool.{Bool, true, false, cond}
use mathlib.Core.List.{List, [], ◌∷◌, ◌++◌, map, append_assoc, append-nil}
use mathlib.Core.Logic.{◌⊎◌, inl, inr}
use lib.ListN.{length, take, drop, take-append-drop}
use lib.Seq.{slice, take_at, drop-drop, length-take-le}
use borrow.Rule.Slice.PartMut.{put_mid}
use Rattle.std.proofs.lemmas.Slice.{take-put_mid, drop-put_mid}
use Rattle.lists.specs.Lists.{join}
use Rattle.text.specs.Lines.{lines_of}
use Rattle.limits.specs.Limits.{page_room, usual_year}
use Rattle.text.proofs.Lines.{lines_none, lines_next}
use Rattle.rules.specs.Answers as answers
use Rattle.rules.specs.Rules.{may_start}
use Rattle.rules.specs.Keeper.{lists, fresh}
use Rattle.tables.specs.declared.Tables.{Tables}
use Rattle.tables.specs.declared.Outcome.{Outcome}
use Rattle.tables.specs.Tables.{lay, smallest}
use Rattle.tables.specs.Calls.{Result, told, made}
use Rattle.rules.specs.Engine.{beside, front, made_by}
use Rattle.page.specs.Paging.{Written}
use Rattle.console.specs.Sheet.{bytes_for, line_shown, printed_bytes, printed, sheet}
use Rattle.console.proofs.LineEnds.{LineEnd}
use Rattle.console.proofs.OneLine.{shown-long, printed-fits}
use Rattle.packing.specs.Packed.{in_bytes}
use Rattle.board.specs.Board.{figures_length, answering, longest, filled, ran}
use Rattle.board.proofs.Answered.{answering-put}
use Rattle.board.proofs.Whole.{after, printed-length, printed-none, filled-fits, filled-over, filled_none, ran-put}

-- FRESH of the smallest tables yields them, allowed or not
pub made-smallest : (r : Outcome) → told r ≡ made 1 0 0 usual_year → r.tables ≡ smallest
unfolding made_by
made-smallest r e = ap (λ (x : Result). x.tables) e ∙ go (may_start 1 0 0 usual_year)
  where
    go : (b : Bool) → (cond {A = Result} b (record { number = 0; values = 0 ∷ []; tables = lay (fresh lists 1 0 0 usual_year) })
        (record { number = 3; values = 0 ∷ []; tables = smallest })).tables ≡ smallest
    go true = refl
    go false = refl

-- A LINE PRINTED: n bytes at the front of the space, and the tables after it
pub record Shows (t : Tables) (l : List ℕ) (n : ℕ) (t' : Tables) (space : List ℕ) : Type 0 where
  pub long : n ≡ length (bytes_for t l)
  pub tables : t' ≡ after t l
  pub begins : take n space ≡ bytes_for t l
  pub within : n ≤ length space

module _ (t : Tables) (l space : List ℕ) (big : page_room ≤ length space) where
  pub line-printed : (r : Outcome) (n : ℕ) (space' : List ℕ) → beside space' (told r) ≡ line_shown t l space
      → n ≡ printed_bytes (answers.number r.answer) (answers.values r.answer) → length space' ≡ length space
      → Shows t l n r.tables space'
  line-printed r n space' e m k =
      let w = e ∙ shown-long t l space big in
      let long : n ≡ length (bytes_for t l) = m ∙ ap (λ (x : Written). printed_bytes x.number x.values) w in
      record {
        long = long;
        tables = ap (λ (x : Written). x.tables) w;
        begins =
            ap (take n) (ap (λ (x : Written). x.buffer) w) ∙ take_at (bytes_for t l) (drop (length (bytes_for t l)) space) n (sym long);
        within = omega (arith, m, printed-fits t l space space' r e k);
      }

-- THE LOOP
-- what is left to be put: nothing once a line did not fit
abbrev pub rest : Bool → Tables → List (List ℕ) → ℕ → List ℕ
rest full t ls n = cond full [] (filled t ls n)

-- the next line begins at `from`, on tables t; `used` bytes are put, and `needed` are counted
pub record Run (s out₀ out : List ℕ) (t : Tables) (from used needed : ℕ) (full : Bool) : Type 0 where
  pub counted : needed + length (printed t (lines_of (drop from s))) ≡ length (sheet s)
  pub small : needed ≤ page_room * from
  pub fits : used ≤ length out₀
  pub same : length out ≡ length out₀
  pub done : take used out ++ rest full t (lines_of (drop from s)) (length out₀ - used) ≡ filled smallest (lines_of s) (length out₀)
  pub other : drop used out ≡ drop used out₀

pub run-as : {s out₀ out out' : List ℕ} {t : Tables} {from used used' needed : ℕ} {full : Bool} → out ≡ out' → used ≡ used'
    → Run s out₀ out' t from used' needed full
    → Run s out₀ out t from used needed full
run-as e f R = rw (e, f) R

pub run-start : (s out : List ℕ) (t : Tables) → t ≡ smallest → Run s out out t 0 0 0 false
unfolding sheet
run-start s out t e =
    let n : length out - 0 ≡ length out = omega arith in
    rw e (record {
      counted = zero-add (length (printed smallest (lines_of s)));
      small = omega arith;
      fits = omega arith;
      same = refl;
      done = ap (filled smallest (lines_of s)) n;
      other = refl;
    })

-- a turn of the loop: what was known, and the line that begins at `from`, ends at e, and shows as n bytes
pub record Turn (s out₀ out : List ℕ) (t : Tables) (from used needed : ℕ) (full : Bool) (e n : ℕ) (t' : Tables)
    (space : List ℕ) : Type 0 where
  pub run : Run s out₀ out t from used needed full
  pub more : from < length s
  pub ends : LineEnd s from e
  pub shows : Shows t (slice from e s) n t' space
  pub long : length space ≡ page_room

module _ {s out₀ out : List ℕ} {t : Tables} {from used needed : ℕ} {full : Bool} {e n : ℕ} {t' : Tables} {space : List ℕ}
    (T : Turn s out₀ out t from used needed full e n t' space) where
  abbrev line : List ℕ
  line = slice from e s

  abbrev behind : List (List ℕ)
  behind = lines_of (drop (e + 1) s)

  split : lines_of (drop from s) ≡ line ∷ behind
  split = lines_next s from e T.more (T.ends.line (omega (arith, T.more)))

  count-on : needed + n + length (printed t' behind) ≡ length (sheet s)
  count-on =
      omega (
        arith,
        T.run.counted,
        ap (λ (ls : List (List ℕ)). length (printed t ls)) split,
        printed-length t line behind,
        T.shows.long,
        ap (λ (x : Tables). length (printed x behind)) T.shows.tables,
      )

  pub needed-small : needed + n ≤ page_room * (e + 1)
  needed-small = let h = T.more in omega (arith, T.run.small, T.shows.within, T.long, (T.ends.line (omega arith)).low)

  -- what was left to be put
  before : take used out ++ rest full t (line ∷ behind) (length out₀ - used) ≡ filled smallest (lines_of s) (length out₀)
  before = ap (λ (ls : List (List ℕ)). take used out ++ rest full t ls (length out₀ - used)) (sym split) ∙ T.run.done

  -- nothing is put: it was full, or this line does not fit
  pub run-keep : (full' : Bool) → full' ≡ true → (full ≡ true) ⊎ (length out - used < n) → Run s out₀ out t' (e + 1) used (needed + n) full'
  run-keep full' is why = rw is (record {
    counted = count-on;
    small = needed-small;
    fits = T.run.fits;
    same = T.run.same;
    done = ap (λ (l : List ℕ). take used out ++ l) (sym (none full refl why)) ∙ before;
    other = T.run.other;
  })
    where
      none : (b : Bool) → full ≡ b → (full ≡ true) ⊎ (length out - used < n) → rest full t (line ∷ behind) (length out₀ - used) ≡ []
      none b eq (inl h) = ap (λ (x : Bool). rest x t (line ∷ behind) (length out₀ - used)) h
      none true eq (inr h) = ap (λ (x : Bool). rest x t (line ∷ behind) (length out₀ - used)) eq
      none false eq (inr h) =
          ap (λ (x : Bool). rest x t (line ∷ behind) (length out₀ - used)) eq
          ∙ filled-over t line behind (length out₀ - used) (omega (arith, T.run.same, T.shows.long))

  -- it is put
  module _ (unfilled : full ≡ false) (fit : n ≤ length out - used) where
    pub put-room : used + length (take n space) ≤ length out
    put-room = omega (arith, ap length T.shows.begins, T.shows.long, T.run.same, T.run.fits)

    pub run-put : (full' : Bool) → full' ≡ false → (out' ys : List ℕ) (used' k : ℕ) → used' ≡ used + n → k ≡ n → length out' ≡ length out
        → out' ≡ put_mid used k out ys → ys ≡ take n space → Run s out₀ out' t' (e + 1) used' (needed + n) full'
    run-put full' is out' ys used' k u ek same w e =
        let bytes = bytes_for t line in
        let m = length out₀ - used in
        let ok : length bytes ≤ m = omega (arith, T.run.same, T.shows.long) in
        let within : used ≤ length out = omega (arith, T.run.fits, T.run.same) in
        let put : ys ≡ bytes = e ∙ T.shows.begins in
        let long : length ys ≡ n = ap length put ∙ sym T.shows.long in
        let at : m - length bytes ≡ length out₀ - (used + n) = omega (arith, T.shows.long) in
        let here = ap (λ (l : List ℕ). take used out ++ l) (sym (ap (λ (x : Bool). rest x t (line ∷ behind) m) unfilled
        ∙ filled-fits t line behind m ok)) ∙ before in
        rw (is, u) (record {
          counted = count-on;
          small = needed-small;
          fits = omega (arith, T.run.fits, T.run.same);
          same = same ∙ T.run.same;
          done =
              ap₂ (λ (x : List ℕ) (y : List ℕ). x ++ y)
              (ap (take (used + n)) w ∙ take-put_mid used k out ys (used + n) (omega arith) within ∙ ap (λ (l : List ℕ). take used out ++ l) put)
              (ap₂ (λ (x : Tables) (k : ℕ). filled x behind k) T.shows.tables (sym at))
              ∙ append_assoc (take used out) bytes (filled (after t line) behind (m - length bytes)) ∙ here;
          other =
              ap (drop (used + n)) w ∙ drop-put_mid used k out ys (used + n) (omega arith) within (omega arith)
              ∙ sym (drop-drop n used out) ∙ ap (drop n) T.run.other ∙ drop-drop n used out₀;
        })

-- the text is at its end: the count is that of all its output, and what is put is what fits
module _ (s out₀ buf out : List ℕ) (t : Tables) (from used needed : ℕ) (full : Bool) (R : Run s out₀ out t from used needed full)
    (end : length s ≤ from) where
  abbrev all : List ℕ
  all = filled smallest (lines_of s) (length out₀)

  all-counted : needed ≡ length (sheet s)
  all-counted = omega (arith, R.counted, ap (λ (x : List (List ℕ)). length (printed t x)) (lines_none s from end), printed-none t)

  all-put : take used out ≡ all
  all-put =
      sym (append-nil (take used out))
      ∙ ap (λ (l : List ℕ). take used out ++ l)
      (sym (ap (λ (x : List (List ℕ)). rest full t x (length out₀ - used)) (lines_none s from end) ∙ nothing full))
      ∙ R.done
    where
      nothing : (b : Bool) → rest b t [] (length out₀ - used) ≡ []
      nothing true = refl
      nothing false = filled_none t (length out₀ - used)

  pub run_end : (buf' : List ℕ) → length s ≤ longest → figures_length ≤ length buf
      → buf' ≡ front (join (map (in_bytes 8) (0 ∷ needed ∷ used ∷ 0 ∷ 0 ∷ 0 ∷ 0 ∷ []))) buf
      → record { number = 0; buffer = out; answer = buf' } ≡ ran s out₀ buf
  run_end buf' small enough w =
      let used_all : used ≡ length all =
      sym (length-take-le used out (omega (arith, R.fits, R.same))) ∙ ap length all-put in
      let put : out ≡ front all out₀ =
      sym (take-append-drop used out) ∙ ap₂ (λ (x : List ℕ) (y : List ℕ). x ++ y) all-put R.other
      ∙ ap (λ (k : ℕ). all ++ drop k out₀) used_all in
      let told = answering-put 0 (needed ∷ used ∷ []) buf (needed ∷ used ∷ 0 ∷ 0 ∷ 0 ∷ 0 ∷ []) refl enough w in
      (λ i. record { number = 0; buffer = put i; answer = told i })
      ∙ ap₂ (λ (k l : ℕ). record { number = 0; buffer = front all out₀; answer = answering 0 (k ∷ l ∷ []) buf }) all-counted used_all
      ∙ sym (ran-put s out₀ buf small enough)
