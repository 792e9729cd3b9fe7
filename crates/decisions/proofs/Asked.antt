-- What is asked of a program by its name, test by test; and LOAD.
-- Assumes nothing.
use Prim.Native.Nat.{ℕ, ◌+◌, ◌*◌, ◌≤◌, ◌<◌}
use native.Mathlib.Omega.{arith}
use native.Mathlib.Nat.{mul-le-mul_right}
use mathlib.Core.Path.{◌≡◌, refl, sym, ap, ◌∙◌, subst}
use mathlib.Core.Logic.{◌≢◌}
use mathlib.Core.Bool.{Bool, true, false, not, cond, ◌&&◌}
use mathlib.Core.List.{List, [], ◌∷◌, ◌++◌}
use lib.Dec.{leb, eqb}
use borrow.Author.Tests.{not-true, not-false, leb-true, eq-eqb, ne_eqb, le-leb, lt-ltb, le-ltb}
use Rattle.lists.specs.Lists.{count, up_to}
use Rattle.lists.proofs.Tests.{both, and, up_to-true}
use Rattle.clock.specs.Clock.{unit}
use Rattle.records.specs.declared.Program.{Program}
use Rattle.records.specs.declared.Why.TheVariants.{Nothing, Son}
use Rattle.records.specs.Names.{legal}
use Rattle.records.specs.Records.{Known, in_wait, find, lowest_unused}
use Rattle.tracks.specs.Tracks.{nobody, replaced}
use Rattle.rules.specs.Book.{at, state_of, prio_of}
use Rattle.rules.specs.Requests.{LOAD, SS, PR, OF}
use Rattle.rules.specs.Plans.{Plan, View, refused, done, releasing, waiting, on, becomes, loaded, priced, timed, marked, held}
use Rattle.rules.specs.Rules.{plan, order, dismissed, quit, ends}
use Rattle.rules.proofs.shared.Finding.{find-bears, unused-known}
use Rattle.rules.proofs.shared.Paths.{need-met, need-failed, either-so, either-not, named-illegal, named-missing, named-found}
use Rattle.rules.proofs.shared.Paths.{inside-met, inside-failed}
use Rattle.decisions.specs.declared.naming.Task.{Task}
use Rattle.rules.specs.declared.Answer.{Answer}
use Rattle.rules.specs.declared.Answer.TheVariants.{NotAllowed, NoProgram}
use Rattle.std.specs.Prelude.{Option, Some, None, Result, Ok, Err, ok_or}
use Rattle.records.specs.Inner.{unless_0}
use Rattle.records.proofs.Search.{unless-none, unless-some}
use Rattle.decisions.specs.Inner.{NamedBy, on_named, timer_allowed, permitted, going, awaiting, winding, performed, asking}
use Rattle.decisions.proofs.Laws.{fails}

-- a name
module _ (ps : List Program) (nm : List ℕ) (b : Bool) (B : b ≡ legal nm) where
  pub is-illegal : not b ≡ true → NamedBy ps nm (Err NotAllowed)
  is-illegal e = record { says = λ v O f. named-illegal v nm f (sym B ∙ not-true b e); known = refl }

  module _ (l : not b ≡ false) (p : ℕ) (P : p ≡ find ps nm) where
    here : (v : View) → v.book.programs ≡ ps → find v.book.programs nm ≡ p
    here v O = ap (λ (xs : List Program). find xs nm) O ∙ sym P

    pub is-missing : p ≡ 0 → NamedBy ps nm (Err NoProgram)
    is-missing e = record { says = λ v O f. named-missing v nm f (sym B ∙ not-false b l) (here v O ∙ e); known = refl }

    pub is-named : p ≢ 0 → NamedBy ps nm (Ok p)
    is-named n = record {
      says = λ v O f. named-found v nm f p (sym B ∙ not-false b l) (here v O) (omega (arith, n));
      known = subst Known (sym P) (find-bears ps nm (omega (arith, P, n))).known;
    }

-- what the search for it comes to
module _ (ps : List Program) (nm : List ℕ) (b : Bool) (B : b ≡ legal nm) (l : not b ≡ false) where
  pub is-found : (r : Option ℕ) → r ≡ unless_0 (find ps nm) → NamedBy ps nm (ok_or r NoProgram)
  is-found None e = is-missing ps nm b B l (find ps nm) refl (unless-none (find ps nm) e)
  is-found (Some p) e = let k = unless-some (find ps nm) p e in is-named ps nm b B l p k.0 k.1

-- a task of the program of that name
module _ (v : View) (c : ℕ) (nm : List ℕ) (q : Task) (b : Bool) (B : b ≡ permitted q) where
  pub asked-not : not b ≡ true → asking v c nm q ≡ refused 3 0
  unfolding asking
  asked-not e = need-failed 3 0 _ (sym B ∙ not-true b e)

  pub asked_of : not b ≡ false → (ps : List Program) (r x : Result ℕ Answer) → NamedBy ps nm r → v.book.programs ≡ ps → r ≡ x
      → asking v c nm q ≡ on_named x (performed v c q)
  unfolding asking
  asked_of e ps r x N O R = need-met 3 0 _ (sym B ∙ not-false b e) ∙ N.says v O (performed v c q)
      ∙ ap (λ (y : Result ℕ Answer). on_named y (performed v c q)) R

-- its state
module _ (v : View) (p s : ℕ) (S : state_of v.book p ≡ s) where
  pub going-not : (a b n : ℕ) → s ≢ a → going v p a b n ≡ refused 5 s
  unfolding going
  going-not a b n h = inside-failed v p a _ (λ e. h (sym S ∙ e)) ∙ ap (refused 5) S

  pub going_done : (a b n : ℕ) → s ≡ a → going v p a b n ≡ done (n ∷ []) (on p (becomes b Nothing) ∷ [])
  unfolding going
  going_done a b n e = inside-met v p a _ (S ∙ e)

  pub awaiting-not : (c : ℕ) → s ≢ 0 → awaiting v c p ≡ refused 5 s
  unfolding awaiting
  awaiting-not c h = inside-failed v p 0 _ (λ e. h (sym S ∙ e)) ∙ ap (refused 5) S

  pub awaiting-done : (c : ℕ) → s ≡ 0 → awaiting v c p ≡ waiting 3 (on p (becomes 1 Nothing) ∷ on c (becomes 3 (Son p)) ∷ [])
  unfolding awaiting
  awaiting-done c e = inside-met v p 0 _ (S ∙ e)

  -- SS: who waits, with a mark or without; and who does not
  pub suspending-again : in_wait s ≡ true → (at v.book p).suspend ≡ true → order v SS p ≡ done (0 ∷ []) []
  unfolding order
  suspending-again w m = either-so _ _ (ap in_wait S ∙ w) ∙ either-so _ _ m

  pub suspending-marks : in_wait s ≡ true → (at v.book p).suspend ≡ false → order v SS p ≡ done (0 ∷ []) (on p marked ∷ [])
  unfolding order
  suspending-marks w m = either-so _ _ (ap in_wait S ∙ w) ∙ either-not _ _ m

  pub suspending-goes : in_wait s ≡ false → order v SS p ≡ going v p 1 6 0
  unfolding order going
  suspending-goes w = either-not _ _ (ap in_wait S ∙ w)

-- PR, OF, EXEC 12
pub pricing : (v : View) (n p k : ℕ) → prio_of v.book p ≡ k → order v (PR n) p ≡ done (k ∷ []) (on p (priced n) ∷ [])
unfolding order
pricing v n p k e = ap (λ (x : ℕ). done (x ∷ []) (on p (priced n) ∷ [])) e

abbrev dismissal : View → ℕ → ℕ → ℕ → Plan
dismissal v k p n = releasing (n ∷ []) (dismissed k p ++ (held (replaced p nobody v.book.holders) ∷ quit v p ∷ [])) (ends v p n)

pub dismissing : (v : View) (k p n : ℕ) → count p v.book.holders ≡ n → order v (OF k) p ≡ dismissal v k p n
unfolding order
dismissing v k p n e = ap (dismissal v k p) e

abbrev wound : ℕ → ℕ → ℕ → ℕ → ℕ → Plan
wound p mult off t u = done ((t + off * u) ∷ []) (on p (timed (t + off * u) (mult * u)) ∷ [])

pub winds : (v : View) (p res mult off t u : ℕ) → v.book.clock ≡ t → u ≡ unit res → winding v p res mult off ≡ wound p mult off t u
unfolding winding
winds v p res mult off t u T U = ap (λ (x : ℕ). wound p mult off x (unit res)) T ∙ ap (wound p mult off t) (sym U)

-- the numbers of a timer are small enough that neither its due nor its interval wraps
unit-most : (res : ℕ) → unit res ≤ 360000
unit-most res = go (eqb res 1) (eqb res 2) (eqb res 3)
  where
    go : (a b c : Bool) → cond a 1 (cond b 100 (cond c 6000 360000)) ≤ 360000
    go true b c = omega arith
    go false true c = omega arith
    go false false true = omega arith
    go false false false = omega arith

module _ (res mult off u : ℕ) (U : u ≡ unit res) (A : timer_allowed res mult off ≡ true) where
  pub offset-most : off * u ≤ 1474200000
  offset-most =
      let o = up_to-true 1 4095 off (both (up_to 1 4 res && leb mult 4095) (up_to 1 4095 off) A).1 in
      omega (arith, mul-le-mul_right u o.1, U, unit-most res)

  pub multiple-most : mult * u ≤ 1474200000
  multiple-most =
      let m = leb-true mult 4095 (both (up_to 1 4 res) (leb mult 4095) (both (up_to 1 4 res && leb mult 4095) (up_to 1 4095 off) A).0).1 in
      omega (arith, mul-le-mul_right u m, U, unit-most res)

-- LOAD
module _ (v : View) (nm : List ℕ) (n : ℕ) (b : Bool) (B : b ≡ legal nm) where
  pub load-illegal : not b ≡ true → plan v (LOAD nm n) ≡ refused 3 0
  unfolding plan
  load-illegal e = need-failed 3 0 _ (ap (λ (x : Bool). x && leb n 32767) (sym B ∙ not-true b e))

  pub load-high : 32767 < n → plan v (LOAD nm n) ≡ refused 3 0
  unfolding plan
  load-high h = need-failed 3 0 _ (fails _ λ e. omega (arith, leb-true n 32767 (both (legal nm) (leb n 32767) e).1, h))

  module _ (l : not b ≡ false) (h : n ≤ 32767) (ps : List Program) (O : v.book.programs ≡ ps) where
    passed : (legal nm && leb n 32767) ≡ true
    passed = and (sym B ∙ not-false b l) (le-leb n 32767 h)

    bearer : find v.book.programs nm ≡ find ps nm
    bearer = ap (λ (xs : List Program). find xs nm) O

    pub load-used : find ps nm ≢ 0 → plan v (LOAD nm n) ≡ refused 6 0
    unfolding plan
    load-used e = need-met 3 0 _ passed ∙ need-failed 6 0 _ (ne_eqb (find v.book.programs nm) 0 (λ z. e (sym bearer ∙ z)))

    module _ (e : find ps nm ≡ 0) (p : ℕ) (P : p ≡ lowest_unused ps) where
      unused : lowest_unused v.book.programs ≡ p
      unused = ap lowest_unused O ∙ sym P

      pub load_full : p ≡ 0 → plan v (LOAD nm n) ≡ refused 7 0
      unfolding plan
      load_full z =
          need-met 3 0 _ passed
          ∙ need-met 6 0 _ (eq-eqb (find v.book.programs nm) 0 (bearer ∙ e))
          ∙ need-failed 7 0 _ (le-ltb 0 (lowest_unused v.book.programs) (omega (arith, unused, z)))

      pub load-known : p ≢ 0 → Known p
      load-known z = subst Known (sym P) (unused-known ps (omega (arith, P, z)))

      pub load-done : p ≢ 0 → plan v (LOAD nm n) ≡ done (p ∷ []) (on p (loaded nm n) ∷ [])
      unfolding plan
      load-done z =
          need-met 3 0 _ passed
          ∙ need-met 6 0 _ (eq-eqb (find v.book.programs nm) 0 (bearer ∙ e))
          ∙ need-met 7 0 _ (lt-ltb 0 (lowest_unused v.book.programs) (omega (arith, unused, z)))
          ∙ ap (λ (k : ℕ). done (k ∷ []) (on k (loaded nm n) ∷ [])) unused
