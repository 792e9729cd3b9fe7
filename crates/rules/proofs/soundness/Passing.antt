-- Tracks and numbers may pass to others: a stretch of tracks that is not the system's to nobody or to a user, all tracks and numbers of a
-- program to nobody, one number to a user. Each is shown place by place.
-- Assumes nothing.
use Prim.Native.Nat.{ℕ, zero, suc, ◌+◌, ◌-◌, ◌≤◌, ◌<◌}
use native.Mathlib.Omega.{arith}
use native.Mathlib.Decide.{ℕ_discrete, dec_le}
use mathlib.Core.Path.{◌≡◌, refl, sym, ap, ◌∙◌, subst}
use mathlib.Core.Logic.{◌≢◌}
use mathlib.Core.Bool.{Bool, true, false, cond}
use mathlib.Core.List.{List, [], ◌∷◌, map}
use lib.ListN.{length, get_or, length-set, length-map}
use lib.Seq.{get_or-set_same, get_or-set_other}
use lib.Dec.{eqb}
use borrow.Author.Tests.{eqb-true, eqb-false}
use Rattle.records.specs.declared.Resource.{Resource}
use Rattle.records.specs.Records.{Known}
use Rattle.records.specs.Numbers.{free, number_at, with_number, without}
use Rattle.tracks.specs.Tracks.{nobody, system, filled, replaced}
use Rattle.tracks.proofs.Runs.{filled-long, filled-out, replaced-long, replaced-is}
use Rattle.tracks.proofs.Holders.{filled_at, Runs}
use Rattle.rules.proofs.soundness.Fine.{Holds, Tracked, Owned, Numbered}

-- to whom a track may pass: a user where it is a program, and never the system
abbrev pub Passes : (ℕ → Type 0) → ℕ → Type 0
Passes U h = (Known h → U h) × (h < system)

-- nobody is no user
pub nobody-passes : (U : ℕ → Type 0) → Passes U nobody
nobody-passes U = (λ h. absurd (omega (arith, h.0)), omega arith)

holds-past : (U : ℕ → Type 0) (S i o h : ℕ) → Holds U S i o → o ≢ system → Passes U h → Holds U S i h
holds-past U S i o h H n k = record {
  below = λ l. absurd (n (H.below l));
  just = λ e. absurd (omega (arith, e, k.1));
  user = k.0;
  most = omega (arith, k.1);
}

-- n tracks from start on, all of one holder that is not the system
pub tracked-filled : (U : ℕ → Type 0) (T S : ℕ) (xs : List ℕ) (o start n h : ℕ) → Tracked U T S xs → Runs o start n xs → o ≢ system
    → Passes U h
    → Tracked U T S (filled start n h xs)
tracked-filled U T S xs o start n h t R d k = record {
  long = filled-long start n h xs ∙ t.long;
  each = λ i l. go i l (dec_le start i) (dec_le (suc i) (start + n));
}
  where
    go : (i : ℕ) → i < T → Dec (start ≤ i) → Dec (i < start + n) → Holds U S i (get_or (filled start n h xs) i nobody)
    go i l (yes u) (yes v) =
        subst (Holds U S i) (sym (filled_at start n h xs i u v R.fits))
        (holds-past U S i (get_or xs i nobody) h (t.each i l) (λ w. d (sym (R.each i u v) ∙ w)) k)
    go i l (no u) v = subst (Holds U S i) (sym (filled-out start n h xs i (λ w. absurd (u w)))) (t.each i l)
    go i l (yes u) (no v) = subst (Holds U S i) (sym (filled-out start n h xs i (λ w. omega (arith, v)))) (t.each i l)

-- p holds nothing any more, so that it need be no user
pub tracked-replaced : {W : ℕ → Type 0} {T S : ℕ} {xs : List ℕ} (p : ℕ) → p < system → Tracked (λ h. h ≢ p → W h) T S xs
    → Tracked W T S (replaced p nobody xs)
tracked-replaced {W} {T} {S} {xs} p m t = record {
  long = replaced-long p nobody xs ∙ t.long;
  each = λ i l. subst (Holds W S i) (sym (replaced-is p nobody xs i (omega (arith, t.long)))) (go i l (eqb (get_or xs i nobody) p) refl);
}
  where
    go : (i : ℕ) → i < T → (b : Bool) → eqb (get_or xs i nobody) p ≡ b → Holds W S i (cond b nobody (get_or xs i nobody))
    go i l true e =
        let w : get_or xs i nobody ≡ p = eqb-true (get_or xs i nobody) p e in
        let H = t.each i l in
        record {
          below = λ k. absurd (omega (arith, H.below k, w));
          just = λ k. absurd (omega arith);
          user = λ k. absurd (omega (arith, k.0));
          most = omega arith;
        }
    go i l false e =
        let H = t.each i l in
        record { below = H.below; just = H.just; user = λ k. H.user k (eqb-false (get_or xs i nobody) p e); most = H.most }

-- a number that nobody owns
pub owned-free : (U : ℕ → Type 0) → Owned U free
owned-free U = record {
  owner = λ h. absurd (omega (arith, h.0));
  locker = λ h. absurd (omega (arith, h.0));
  clear = λ e. refl;
  high = omega arith;
  most = omega arith;
}

owned-without : (W : ℕ → Type 0) (p : ℕ) (x : Resource) → Owned (λ h. h ≢ p → W h) x → Owned W (without p x)
owned-without W p x o = go (eqb x.owner p) (eqb x.lock p) refl refl
  where
    go : (b c : Bool) → eqb x.owner p ≡ b → eqb x.lock p ≡ c
        → Owned W (cond b free (cond c (record { owner = x.owner; lock = 0 }) x))
    go true c e f = owned-free W
    go false true e f = record {
      owner = λ h. o.owner h (eqb-false x.owner p e);
      locker = λ h. absurd (omega (arith, h.0));
      clear = λ i. refl;
      high = o.high;
      most = omega arith;
    }
    go false false e f = record {
      owner = λ h. o.owner h (eqb-false x.owner p e);
      locker = λ h. o.locker h (eqb-false x.lock p f);
      clear = o.clear;
      high = o.high;
      most = o.most;
    }

map_at : (f : Resource → Resource) (xs : List Resource) (i : ℕ) → i < length xs → get_or (map f xs) i free ≡ f (get_or xs i free)
map_at f [] i h = absurd (omega arith)
map_at f (x ∷ xs) zero h = refl
map_at f (x ∷ xs) (suc i) h = map_at f xs i (omega arith)

-- p owns and locks nothing any more
pub numbered-without : {W : ℕ → Type 0} {R : ℕ} {xs : List Resource} (p : ℕ) → Numbered (λ h. h ≢ p → W h) R xs
    → Numbered W R (map (without p) xs)
numbered-without {W} {R} {xs} p n = record {
  long = length-map xs (without p) ∙ n.long;
  each = λ r l m.
      subst (Owned W) (sym (map_at (without p) xs (r - 1) (omega (arith, n.long)))) (owned-without W p (number_at xs r) (n.each r l m));
}

-- number r is another's
pub numbered-with : (U : ℕ → Type 0) (R : ℕ) (xs : List Resource) (r o l : ℕ) → Numbered U R xs → 1 ≤ r → r ≤ R
    → Owned U (record { owner = o; lock = l })
    → Numbered U R (with_number r o l xs)
numbered-with U R xs r o l n h k u = record {
  long = length-set xs (r - 1) (record { owner = o; lock = l }) ∙ n.long;
  each = λ q i j. go q i j (ℕ_discrete q r);
}
  where
    go : (q : ℕ) → 1 ≤ q → q ≤ R → Dec (q ≡ r) → Owned U (number_at (with_number r o l xs) q)
    go q i j (yes e) =
        subst (Owned U)
        (sym (ap (number_at (with_number r o l xs)) e
        ∙ get_or-set_same xs (r - 1) (record { owner = o; lock = l }) free (omega (arith, n.long)))) u
    go q i j (no e) =
        subst (Owned U) (sym (get_or-set_other xs (r - 1) (q - 1) (record { owner = o; lock = l }) free (λ w. e (omega arith))))
        (n.each q i j)
