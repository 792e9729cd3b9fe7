-- `differing::put_all_listed` meets its contract: the list has room for all figures, and what is said by the figures of a line is what is
-- due next. Assumes nothing.
use borrow.Author.Rules.{rules}
use Prim.Native.Nat.{ℕ, ◌*◌, ◌≤◌}
use native.Mathlib.Omega.{arith}
use mathlib.Core.Path.{◌≡◌, sym, ap, ◌∙◌}
use lib.ListN.{length, get_or, drop, replicate, length-drop, length-replicate}
use lib.Seq.{length-take-le}
use Rattle.std.proofs.lemmas.List.{take_all}
use Rattle.rules.specs.declared.Answer.{Answer}
use Rattle.rules.specs.declared.Answer.TheVariants.{Done}
use Rattle.rules.specs.Answers.{values}
use Rattle.rules.specs.Engine.{front}
use Rattle.transcripts.specs.Listing.{listed_lines, figures_listed}
use Rattle.comparing.proofs.DifferenceLaws.{listed-room, alone, due-room}
use Rattle.comparing.proofs.ListedLaws.{list_room, listed-few, Turn, ahead-start, ahead-next, ahead-end, all_listed}
use Rattle.comparing.proofs.differing.put_all_listed.Given.{Over}
use Rattle.comparing.proofs.differing.put_all_listed.Goals as goal
use Rattle.comparing.proofs.differing.put_all_listed.Goals.{After-list_figures, After-new-piece, In-len3-up, After-as_slice}

-- the list was filled, so the answer is no other
all : (g : Over) (c : After-list_figures g) → let a = c.args in
    (c.list_figures.result ≡ Done (length (listed_lines a.original.now a.copy.now)))
    × (c.list_figures.new.list ≡ front (figures_listed a.original.now a.copy.now) (replicate {A = ℕ} list_room 0))
all g c =
    all_listed c.args.original.now c.args.copy.now (replicate {A = ℕ} list_room 0) c.requires.original_len_bound
    (length-replicate {A = ℕ} list_room 0) c.list_figures.result c.list_figures.new.list c.list_figures.ensures

pub returns-in_default : goal.returns-in_default
returns-in_default g c = absurd (c.in_default.not-Done _ (all g (goal.at.returns-in_default g c).After-list_figures).0)

-- so many lines are listed, and their figures have room
many : (g : Over) (c : After-new-piece g) → c.in-Done.many ≡ length (listed_lines c.args.original.now c.args.copy.now)
many g c =
    ap (λ (x : Answer). get_or (values x) 0 0) (sym c.in-Done.is ∙ (all_listed c.args.original.now c.args.copy.now (replicate {A = ℕ} list_room 0)
    c.requires.original_len_bound (length-replicate {A = ℕ} list_room 0) c.list_figures.result c.list_figures.new.list c.list_figures.ensures).0)

few : (g : Over) (c : After-new-piece g) → 3 * c.in-Done.many ≤ list_room
few g c = omega (arith, many g c, listed-few c.args.original.now c.args.copy.now, c.requires.original_len_bound)

within : (g : Over) (c : After-new-piece g) → 3 * c.in-Done.many ≤ length c.list_figures.new.list
within g c = let k : length c.list_figures.new.list ≡ list_room = search rules in omega (arith, few g c)

pub overflow_mul-list : goal.overflow_mul-list
overflow_mul-list g c = record { fits = omega (arith, few g (goal.at.overflow_mul-list g c).After-new-piece) }

pub slice_bounds-list-end : goal.slice_bounds-list-end
slice_bounds-list-end g c = within g (goal.at.slice_bounds-list-end g c).After-new-piece

pub slice_bounds-figures-end : goal.slice_bounds-figures-end
slice_bounds-figures-end g c =
    sym (length-take-le (3 * c.in-Done.many) c.list_figures.new.list (within g (goal.at.slice_bounds-figures-end g c).After-new-piece))

pub loop-figures-init : goal.loop-figures-init
loop-figures-init g c =
    ahead-start g.S.Sink.after c.args.sink.now c.list_figures.new.list (replicate {A = ℕ} list_room 0) c.in-Done.many
    (all g (goal.at.loop-figures-init g c).After-list_figures).1 (many g (goal.at.loop-figures-init g c).After-new-piece)

-- the line whose turn it is, and what is said of it
turn : (g : Over) (c : In-len3-up g)
    → let a = c.args in
    Turn g.S.Sink.after a.given a.original.now a.copy.now a.sink.now c.loop-figures.sink c.loop-figures.figures.now
turn g c = ahead-next g.met.S.Sink.laws c.loop-figures.invariant c.in-len3-up.len_at_least

pub put_listed-requires-clause-begins_in_bounds : goal.put_listed-requires-clause-begins_in_bounds
put_listed-requires-clause-begins_in_bounds g c = (turn g (goal.at.put_listed-requires-clause-begins_in_bounds g c).In-len3-up).begins

pub put_listed-requires-clause-other_in_bounds : goal.put_listed-requires-clause-other_in_bounds
put_listed-requires-clause-other_in_bounds g c = (turn g (goal.at.put_listed-requires-clause-other_in_bounds g c).In-len3-up).other

pub put_listed-requires-clause-room : goal.put_listed-requires-clause-room
put_listed-requires-clause-room g c =
    let a = c.args in
    let f = c.loop-figures.figures.now in
    omega (
      arith,
      ap length c.clear.ensures,
      listed-room a.original.now a.copy.now (get_or f 0 0) (get_or f 1 0) (get_or f 2 0) a.given c.requires.original_len_bound
          c.requires.copy_len_bound,
    )

said : (g : Over) (c : After-as_slice g) → c.as_slice.result.now ≡ (turn g (goal.at.After-as_slice g c).In-len3-up).piece
said g c =
    alone c.as_slice.ensures.value c.put_listed.ensures c.clear.ensures (turn g (goal.at.After-as_slice g c).In-len3-up).said

pub put-requires : goal.put-requires
put-requires g c =
    omega (
      arith,
      ap length (said g (goal.at.put-requires g c).After-as_slice),
      due-room g.met.S.Sink.laws (turn g (goal.at.put-requires g c).In-len3-up).due c.requires.room,
    )

pub loop-figures-preserved : goal.loop-figures-preserved
loop-figures-preserved g c =
    let f = c.loop-figures.figures.now in
    (turn g (goal.at.loop-figures-preserved g c).In-len3-up).next (take_all _ (drop 3 f) (omega (arith, length-drop 3 f)))
    (c.put.ensures ∙ ap (g.S.Sink.after c.loop-figures.sink) (said g (goal.at.loop-figures-preserved g c).After-as_slice))

pub returns : goal.returns
returns g c = ahead-end g.met.S.Sink.laws c.loop-figures.invariant c.in_default-figures.len_below
