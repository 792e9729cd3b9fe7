-- Laws of the values and lines that are written: lines piece by piece, a value known by an equation, a name without
-- its blanks, numbers joined by commas.
-- Assumes nothing.
use Prim.Native.Nat.{ℕ, suc, ◌+◌, ◌≤◌, ◌<◌}
use native.Mathlib.Numerals.{add-one}
use native.Mathlib.Omega.{arith}
use mathlib.Core.Path.{◌≡◌, refl, sym, ap, ap₂, ◌∙◌}
use mathlib.Core.Logic.{◌≢◌}
use mathlib.Core.Bool.{Bool, true, false, cond, not, ◌||◌}
use mathlib.Core.List.{List, [], ◌∷◌, ◌++◌, map, append_assoc, append-nil}
use lib.Dec.{eqb, ltb}
use lib.ListN.{length, get_or, take, drop, set, drop_of_length-le, length-append}
use lib.Seq.{slice, slice-cons, length-take-le, drop-cons}
use borrow.Author.Tests.{eq-eqb, ne_eqb}
use Rattle.limits.specs.Limits.{usual_year}
use Rattle.lists.specs.Lists.{join}
use Rattle.text.specs.Text.{text, decimal, between, entry}
use Rattle.text.specs.Inner.{Wrote}
use Rattle.text.proofs.Laws.{Left, left_step}
use Rattle.records.specs.declared.Resource.{Resource}
use Rattle.records.specs.Names.{bare}
use Rattle.records.specs.Numbers.{globally}
use Rattle.tracks.specs.declared.held.Run.{Run}
use Rattle.tracks.specs.Tracks.{nobody, system}
use Rattle.rules.specs.Keeper.{lists, State}
use Rattle.page.specs.Inner.{others, or_none}
use Rattle.page.specs.Page.{Line, bytes_of, bytes, line, year_key, suspend_key, held_key, number_key, mark_word, party, or_dash, year_line, mark_line}
use Rattle.page.specs.Page.{page_key, clock_key, tracks_key, system_key, numbers_key, programs_key, id_key, name_key, priority_key, state_key, why_key, due_key, interval_key}
use Rattle.page.specs.Page.{end_key, last_word, used_in, record_lines, chain_lines, held_lines, number_lines}
use Rattle.page.specs.Page.{first_keys, size_keys, first_word, paired, reason, recorded, head_lines, record_keys}
use Rattle.records.specs.declared.Program.{Program}
use Rattle.std.specs.Bool.{then_some}
use Rattle.page.specs.Page.{held_line, number_line, parts, lines, page}

-- what is written at a place, under another name
pub wrote_as : {l x y l' : List ℕ} {at n : ℕ} → x ≡ y → Wrote l at y l' n → Wrote l at x l' n
wrote_as e w = rw e w

pub left_as : {l₀ all l x y : List ℕ} {at₀ at : ℕ} → x ≡ y → Left l₀ at₀ all l at x → Left l₀ at₀ all l at y
left_as e h = rw e at h

pub left_at : {l₀ all l l' rest : List ℕ} {at₀ at at' : ℕ} → l' ≡ l → at' ≡ at → Left l₀ at₀ all l at rest → Left l₀ at₀ all l' at' rest
left_at e f h = rw (e, f) h

-- LINES
pub bytes-line : (l : Line) → bytes (l ∷ []) ≡ bytes_of l
unfolding bytes
bytes-line l = append-nil (bytes_of l)

bytes-append : (xs ys : List Line) → bytes (xs ++ ys) ≡ bytes xs ++ bytes ys
unfolding bytes
bytes-append [] ys = refl
bytes-append (x ∷ xs) ys = ap (λ (r : List ℕ). bytes_of x ++ r) (bytes-append xs ys) ∙ sym (append_assoc (bytes_of x) (bytes xs) (bytes ys))

-- lines one by one, and then some in one piece
pub lines_then : (xs ys : List Line) → bytes (xs ++ ys) ≡ join (map bytes_of xs ++ (bytes ys ∷ []))
unfolding bytes
lines_then [] ys = sym (append-nil (bytes ys))
lines_then (x ∷ xs) ys = ap (λ (r : List ℕ). bytes_of x ++ r) (lines_then xs ys)

-- and then others one by one
pub lines-between : (xs ys zs : List Line) → bytes (xs ++ ys ++ zs) ≡ join (map bytes_of xs ++ (bytes ys ∷ map bytes_of zs))
unfolding bytes
lines-between [] ys zs = bytes-append ys zs
lines-between (x ∷ xs) ys zs = ap (λ (r : List ℕ). bytes_of x ++ r) (lines-between xs ys zs)

-- a year's line, and none
pub year-there : (y : ℕ) → y ≢ usual_year → bytes (year_line y) ≡ bytes_of (line year_key (decimal y))
year-there y n =
    ap (λ (b : Bool). bytes (cond b [] (line year_key (decimal y) ∷ []))) (ne_eqb y usual_year n) ∙ bytes-line (line year_key (decimal y))

pub year-none : (y : ℕ) → y ≡ usual_year → bytes (year_line y) ≡ []
unfolding bytes
year-none y e = ap (λ (b : Bool). bytes (cond b [] (line year_key (decimal y) ∷ []))) (eq-eqb y usual_year e)

-- a mark's line, and none
pub mark-there : (b : Bool) → b ≡ true → bytes (mark_line b) ≡ bytes_of (line suspend_key (text mark_word))
mark-there b e = ap (λ (t : Bool). bytes (mark_line t)) e ∙ bytes-line (line suspend_key (text mark_word))

pub mark-none : (b : Bool) → b ≡ false → bytes (mark_line b) ≡ []
unfolding bytes
mark-none b e = ap (λ (t : Bool). bytes (mark_line t)) e

-- the lines of some things, a piece for each thing
abbrev pub pieces : {A : Type 0} → (A → List Line) → List A → List (List ℕ)
pieces f xs = map (λ x. bytes (f x)) xs

pub pieces-join : {A : Type 0} (f : A → List Line) (xs : List A) → bytes (join (map f xs)) ≡ join (pieces f xs)
unfolding bytes
pieces-join f [] = refl
pieces-join f (x ∷ xs) = bytes-append (f x) (join (map f xs)) ∙ ap (λ (r : List ℕ). bytes (f x) ++ r) (pieces-join f xs)

-- the page, a piece for each of its parts
pub page-pieces : (a : State lists) → page a ≡ join (pieces (λ ls. ls) (parts a))
unfolding page lines
page-pieces a = pieces-join (λ ls. ls) (parts a)

-- a run of tracks: no line, or one by its pieces
abbrev pub held_pieces : Run → List (List ℕ)
held_pieces g =
    (text held_key ++ (61 ∷ [])) ∷ (decimal g.first ++ (45 ∷ [])) ∷ (decimal g.last ++ (58 ∷ [])) ∷ party g.holder ∷ (10 ∷ []) ∷ []

abbrev held_if : Run → Bool → List Line
held_if g b = cond b [] (line held_key (decimal g.first ++ text "-" ++ decimal g.last ++ text ":" ++ party g.holder) ∷ [])

pub held-free : (g : Run) → g.holder ≡ nobody → bytes (held_line g) ≡ []
unfolding bytes held_line
held-free g e = ap (λ (b : Bool). bytes (held_if g (b || eqb g.holder system))) (eq-eqb g.holder nobody e)

pub held-system : (g : Run) → g.holder ≡ system → bytes (held_line g) ≡ []
unfolding bytes held_line
held-system g e = ap (λ (h : ℕ). bytes (held_if g (eqb h nobody || eqb h system))) e

pub held-some : (g : Run) → g.holder ≢ nobody → g.holder ≢ system → bytes (held_line g) ≡ join (held_pieces g)
unfolding bytes held_line entry
held-some g n m =
    ap (λ (b : Bool). bytes (held_if g b)) (ap₂ ◌||◌ (ne_eqb g.holder nobody n) (ne_eqb g.holder system m))
    ∙ simp (append_assoc, append-nil)

-- a resource number likewise
abbrev pub number_pieces : ℕ → Resource → List (List ℕ)
number_pieces r x =
    (text number_key ++ (61 ∷ [])) ∷ (decimal r ++ (58 ∷ [])) ∷ party x.owner ∷ (58 ∷ []) ∷ or_dash (ltb 0 x.lock) x.lock
    ∷ (10 ∷ []) ∷ []

abbrev number_if : ℕ → Resource → Bool → List Line
number_if r x b =
    cond b [] (line number_key (decimal r ++ text ":" ++ party x.owner ++ text ":" ++ or_dash (ltb 0 x.lock) x.lock) ∷ [])

pub number-none : (r : ℕ) (x : Resource) → x.owner ≡ 0 → bytes (number_line r x) ≡ []
unfolding bytes number_line
number-none r x e = ap (λ (b : Bool). bytes (number_if r x b)) (eq-eqb x.owner 0 e)

pub number-some : (r : ℕ) (x : Resource) → x.owner ≢ 0 → bytes (number_line r x) ≡ join (number_pieces r x)
unfolding bytes number_line entry
number-some r x n = ap (λ (b : Bool). bytes (number_if r x b)) (ne_eqb x.owner 0 n) ∙ simp (append_assoc, append-nil)

-- VALUES
pub party-global : (h : ℕ) → h ≡ globally → party h ≡ text "global"
party-global h e = ap (λ (t : Bool). cond t (text "global") (decimal h)) (eq-eqb h globally e)

pub party-program : (h : ℕ) → h ≢ globally → party h ≡ decimal h
party-program h n = ap (λ (t : Bool). cond t (text "global") (decimal h)) (ne_eqb h globally n)

-- a name from its byte i on: a blank is left out
bare-cons : (nm : List ℕ) (i : ℕ) (b : Bool) → i < length nm → eqb (get_or nm i 0) 32 ≡ b
    → bare (drop i nm) ≡ cond (not b) (get_or nm i 0 ∷ bare (drop (i + 1) nm)) (bare (drop (i + 1) nm))
bare-cons nm i b h e =
    rw (add-one i)
    (ap bare (drop-cons nm i 0 h) ∙ ap (λ (t : Bool). cond (not t) (get_or nm i 0 ∷ bare (drop (suc i) nm)) (bare (drop (suc i) nm))) e)

pub bare-put : (nm : List ℕ) (i : ℕ) → i < length nm → get_or nm i 0 ≢ 32 → bare (drop i nm) ≡ get_or nm i 0 ∷ bare (drop (i + 1) nm)
bare-put nm i h n = bare-cons nm i false h (ne_eqb (get_or nm i 0) 32 n)

-- numbers joined by commas: the first, and the others; of the others the one at i, and those behind it
pub joined_cons : (x : ℕ) (xs : List ℕ) → between 44 (map decimal (x ∷ xs)) ≡ decimal x ++ others xs
joined_cons x [] = sym (append-nil (decimal x))
joined_cons x (y ∷ ys) = ap (λ (r : List ℕ). decimal x ++ (44 ∷ r)) (joined_cons y ys)

pub others-here : (xs : List ℕ) (i : ℕ) → i < length xs
    → others (drop i xs) ≡ (44 ∷ decimal (get_or xs i 0)) ++ others (drop (i + 1) xs)
others-here xs i h = rw (add-one i) (ap others (drop-cons xs i 0 h))

-- Laws of values and lines, for whoever proves about them: one byte that is stored, the lines of a page, a blank of a name, numbers joined by
-- commas.
pub left-store : {l₀ all l rest : List ℕ} {at₀ at x : ℕ} → Left l₀ at₀ all l at (x ∷ rest) → Left l₀ at₀ all (set l at x) (at + 1) rest
left-store {x = x} h = left_step (x ∷ []) h (record { buffer = refl; place = refl })

pub bytes-lines : (ls : List Line) → bytes ls ≡ join (map bytes_of ls)
unfolding bytes
bytes-lines ls = refl

pub bare-skip : (nm : List ℕ) (i : ℕ) → i < length nm → get_or nm i 0 ≡ 32 → bare (drop i nm) ≡ bare (drop (i + 1) nm)
bare-skip nm i h e = bare-cons nm i true h (eq-eqb (get_or nm i 0) 32 e)

pub joined-none : (xs : List ℕ) (n : ℕ) → n ≡ 0 → between 44 (map decimal (take n xs)) ≡ []
joined-none xs n e = rw e refl

pub joined-first : (xs : List ℕ) (n : ℕ) → 0 < n → n ≤ length xs
    → between 44 (map decimal (take n xs)) ≡ decimal (get_or xs 0 0) ++ others (slice 1 n xs)
joined-first xs n h k = ap (λ (r : List ℕ). between 44 (map decimal r)) (slice-cons 0 n xs 0 h k) ∙ joined_cons (get_or xs 0 0) (slice 1 n xs)

-- the others from the one at i on, a piece for each
abbrev pub others_from : List ℕ → ℕ → ℕ → List (List ℕ)
others_from xs n i = map (λ x. 44 ∷ decimal x) (slice i n xs)

pub others_next : (xs : List ℕ) (i n : ℕ) → i < n → n ≤ length xs
    → others_from xs n i ≡ (44 ∷ decimal (get_or xs i 0)) ∷ others_from xs n (i + 1)
others_next xs i n h k = rw (add-one i) (ap (map (λ x. 44 ∷ decimal x)) (slice-cons i n xs 0 h k))

pub others-past : (xs : List ℕ) (i n : ℕ) → n ≤ i → n ≤ length xs → others_from xs n i ≡ []
others-past xs i n h k = ap (map (λ x. 44 ∷ decimal x)) (drop_of_length-le (take n xs) {i = i} (omega (arith, length-take-le n xs k)))

-- PIECES, as they are put one after the other: the head's, a record's, the page's
pub head_put : (clock T S R Y n : ℕ) → bytes (head_lines clock T S R Y n)
    ≡ entry (text page_key) (text first_word) ++ entry (text clock_key) (decimal clock) ++ bytes (year_line Y)
    ++ entry (text tracks_key) (decimal T) ++ entry (text system_key) (decimal S) ++ entry (text numbers_key) (decimal R)
    ++ entry (text programs_key) (decimal n)
head_put clock T S R Y n =
    lines-between (paired first_keys (text first_word ∷ decimal clock ∷ [])) (year_line Y)
    (paired size_keys (decimal T ∷ decimal S ∷ decimal R ∷ decimal n ∷ []))
    ∙ simp (append-nil, append_assoc)

or_none-dash : (there : Bool) (n : ℕ) → or_none (then_some there n) ≡ or_dash there n
or_none-dash true n = refl
or_none-dash false n = refl

pub record_put : (p : ℕ) (r : Program) → bytes (recorded p r)
    ≡ entry (text id_key) (decimal p) ++ entry (text name_key) (bare r.name) ++ entry (text priority_key) (decimal r.priority)
    ++ entry (text state_key) (decimal r.state) ++ entry (text why_key) (reason r.why) ++ entry (text due_key) (or_none (then_some (ltb 0 r.due) r.due))
    ++ entry (text interval_key) (or_none (then_some (ltb 0 r.due) r.interval)) ++ bytes (mark_line r.suspend)
record_put p r =
    let timer : Bool = ltb 0 r.due in
    rw (or_none-dash timer r.due, or_none-dash timer r.interval)
    (lines_then (paired record_keys (decimal p ∷ bare r.name ∷ decimal r.priority ∷ decimal r.state ∷ reason r.why ∷ or_dash timer r.due
    ∷ or_dash timer r.interval ∷ [])) (mark_line r.suspend) ∙ simp (append-nil, append_assoc))

pub page_put : (a : State lists) → page a
    ≡ bytes (head_lines a.book.clock a.book.tracks a.book.system a.book.numbers a.book.year (length (used_in a.book.programs)))
    ++ bytes (record_lines a.book.programs) ++ bytes (chain_lines a.kept) ++ bytes (held_lines a.book.holders)
    ++ bytes (number_lines a.book.numbers a.book.resources) ++ entry (text end_key) (text last_word)
page_put a =
    page-pieces a ∙ rw (bytes-line (line end_key (text last_word))) (simp (append-nil, append_assoc))

-- the pieces of a record put behind what stands there
pub eight : (o a b c d e f g h : List ℕ) → o ++ a ++ b ++ c ++ d ++ e ++ f ++ g ++ h ≡ o ++ (a ++ b ++ c ++ d ++ e ++ f ++ g ++ h)
eight o a b c d e f g h = simp append_assoc

-- what the check wants of each
pub ruleset mark_put = (mark-there, mark-none, append-nil)

pub ruleset year_put = (year-there, year-none, append-nil)

pub ruleset held_put = (held-free, held-system, held-some, append-nil, append_assoc, length-append)

pub ruleset number_put = (number-none, number-some, append-nil, append_assoc, length-append)

pub ruleset lines_put = (head_put, record_put, length-append)
