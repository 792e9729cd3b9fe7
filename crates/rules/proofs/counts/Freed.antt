-- Tracks freed are the difference of the free tracks before and after: OF, EXEC 5 and 16, under any keeper and in any state. Of all that
-- happens only `held` alters the holders, and how many are free in `filled` and `replaced` is known.
-- Assumes nothing.
use Prim.Native.Nat.{ℕ, ◌+◌}
use native.Mathlib.Omega.{arith}
use mathlib.Core.Path.{◌≡◌, refl, sym, ap, ◌∙◌}
use mathlib.Core.Logic.{◌≢◌}
use mathlib.Core.Bool.{Bool, true, false, cond}
use mathlib.Core.List.{List, [], ◌∷◌, ◌++◌}
use lib.Dec.{leb}
use borrow.Author.Tests.{leb-true}
use Rattle.lists.specs.Lists.{count}
use Rattle.records.specs.Records.{known, find}
use Rattle.tracks.specs.Tracks.{nobody, everybody, filled, replaced}
use Rattle.tracks.proofs.Runs.{run-true, count-freed, count-replaced}
use Rattle.rules.specs.Requests.{OF, EXEC5, EXEC16, EXEC5ALL, operator, running}
use Rattle.rules.specs.Plans.{Event, on, clocked, held, numbered, renewed, Plan, values_of, events_of, woken, wake}
use Rattle.rules.specs.Rules.{frees, ends, dismissed, order, gives, call, head, plan}
use Rattle.rules.specs.Keeper.{Keeper, State, act, step, play, view, scheduled_chain, asks}
use Rattle.rules.specs.Counts.{free_tracks, Freed}
use Rattle.lists.proofs.Tests.{both}
use Rattle.rules.proofs.shared.Deeds.{act-put}
use Rattle.rules.proofs.shared.Settling.{settle, off-events}
use Rattle.rules.proofs.shared.Walk.{IfDone, not_done, by-need, by-named, by-caller}

-- events after which the holders are as before
abbrev Quiet : List Event → Type 0
Quiet [] = Unit {0}
Quiet (on p d ∷ es) = Quiet es
Quiet (clocked c ∷ es) = Quiet es
Quiet (held h ∷ es) = ⊥
Quiet (numbered r ∷ es) = Quiet es
Quiet (renewed T S R Y ∷ es) = ⊥

quiet-wake : (c : List ℕ) → Quiet (wake c)
quiet-wake [] = tt
quiet-wake (q ∷ qs) = quiet-wake qs

module _ (K : Keeper) where
  quiet-holders : (es : List Event) → Quiet es → (t : State K) → (play K es t).book.holders ≡ t.book.holders
  unfolding step
  quiet-holders [] u t = refl
  quiet-holders (on p d ∷ es) u t = quiet-holders es u (step K (on p d) t) ∙ go (known p)
    where
      go : (b : Bool) → (cond b (act K p d t) t).book.holders ≡ t.book.holders
      go true = ap (λ (u : State K). u.book.holders) (act-put K p d t)
      go false = refl
  quiet-holders (clocked c ∷ es) u t = quiet-holders es u (step K (clocked c) t)
  quiet-holders (held h ∷ es) u t = absurd u
  quiet-holders (numbered r ∷ es) u t = quiet-holders es u (step K (numbered r) t)
  quiet-holders (renewed T S R Y ∷ es) u t = absurd u

  -- whatever happened before, the holders are those that were named last
  last-holders : (es : List Event) (h : List ℕ) (fs : List Event) → Quiet fs → (t : State K)
      → (play K (es ++ (held h ∷ fs)) t).book.holders ≡ h
  unfolding step
  last-holders [] h fs u t = quiet-holders fs u (step K (held h) t)
  last-holders (e ∷ es) h fs u t = last-holders es h fs u (step K e t)

  freed-by : (t : State K) (es : List Event) (h : List ℕ) (fs : List Event) (n : ℕ) → Quiet fs
      → count nobody h ≡ count nobody t.book.holders + n
      → Freed t.book (play K (es ++ (held h ∷ fs)) t).book (n ∷ [])
  unfolding free_tracks
  freed-by t es h fs n u e = record { value = n; answer = refl; difference = sym e ∙ ap (count nobody) (sym (last-holders es h fs u t)) }

  module _ (t : State K) where
    abbrev pub Frees : Plan → Type 0
    Frees x = Freed t.book (play K (events_of (view K t) x) t).book (values_of x)

    gives-frees : (h n s : ℕ) → h ≢ nobody → IfDone Frees (gives (view K t) h n s)
    unfolding gives
    gives-frees h n s w = by-need not_done _ _ _ _ refl (λ e. by-need not_done _ _ _ _ refl (λ r. record {
      so = λ z.
          freed-by t [] (filled s n nobody t.book.holders) (wake (woken (view K t) (frees n))) n
          (quiet-wake (woken (view K t) (frees n)))
          (count-freed s n h t.book.holders w
          (run-true h n s t.book.holders (leb-true 1 n (both (leb 1 n) (leb (s + n) t.book.tracks) e).0) r));
    }))

    pub off-frees : (k : ℕ) (nm : List ℕ) → IfDone Frees (asks K t (operator (OF k) nm))
    unfolding plan order
    off-frees k nm = by-need not_done _ _ _ _ refl (λ e. by-named not_done _ _ _ (λ h.
        let p = find t.book.programs nm in
        let n = count p t.book.holders in
        record {
          so = λ z.
              rw (off-events (view K t) p k (replaced p nobody t.book.holders) (ends (view K t) p n))
              (freed-by t (dismissed k p) (replaced p nobody t.book.holders) (settle (view K t) p (ends (view K t) p n)) n
              (quiet-wake (woken (view K t) (ends (view K t) p n))) (count-replaced p t.book.holders (λ e. omega arith)));
        }))

    pub own-frees : (n s : ℕ) → IfDone Frees (asks K t (running (EXEC5 n s)))
    unfolding plan call
    own-frees n s = by-caller not_done _ _ (λ h. gives-frees (head (scheduled_chain K t)) n s (λ e. omega arith))

    pub global-frees : (n s : ℕ) → IfDone Frees (asks K t (running (EXEC16 n s)))
    unfolding plan call
    global-frees n s = by-caller not_done _ _ (λ h. gives-frees everybody n s (λ e. omega arith))

    pub each-frees : IfDone Frees (asks K t (running EXEC5ALL))
    unfolding plan call
    each-frees = by-caller not_done _ _ (λ h.
        let c = head (scheduled_chain K t) in
        let n = count c t.book.holders in
        record {
          so = λ z.
              freed-by t [] (replaced c nobody t.book.holders) (wake (woken (view K t) (frees n))) n
              (quiet-wake (woken (view K t) (frees n))) (count-replaced c t.book.holders (λ e. omega arith));
        })
