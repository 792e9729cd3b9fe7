-- Who waits, and who of them wakes: a chain read out lists known programs, each once, and so does what is left of it without one; what is
-- taken of these is what the rules take of the chains in their view.
-- Assumes nothing.
use Prim.Native.Nat.{ℕ, ◌≤◌, ◌<◌}
use native.Mathlib.Omega.{arith}
use mathlib.Core.Path.{◌≡◌, refl, sym, ap, ◌∙◌}
use mathlib.Core.Logic.{◌≢◌}
use mathlib.Core.Bool.{Bool, true, false, cond}
use mathlib.Core.List.{List, []}
use lib.ListN.{get_or, take, replicate}
use lib.Dec.{ltb}
use borrow.Author.Tests.{lt-ltb}
use Rattle.lists.specs.Lists.{count, keep, remove}
use Rattle.lists.proofs.Laws.{count-remove-le, keep-le}
use Rattle.records.specs.Records.{Known, record_at}
use Rattle.rules.specs.Book.{why_of}
use Rattle.rules.specs.Plans.{awaits, from_disc, from_general}
use Rattle.rules.specs.Plans as rules
use Rattle.rules.specs.Keeper.{lists, view}
use Rattle.chains.specs.Links.{walk, read}
use Rattle.chains.specs.Inner.{Lists}
use Rattle.chains.proofs.Reading.{get_d_read}
use Rattle.chains.proofs.Totals.{total-in}
use Rattle.chains.specs.declared.Listing.{Listing}
use Rattle.ledger.specs.declared.Release.{Release}
use Rattle.ledger.specs.Inner.{Releases, Listed}
use Rattle.tables.specs.declared.Tables.{Tables}
use Rattle.tables.specs.Tables.{plain}
use Rattle.tables.specs.Inner.{Orderly, CanSettle}

-- what is listed may be told otherwise
lists-as : {ids c d : List ℕ} {len : ℕ} → c ≡ d → Lists ids len c → Lists ids len d
lists-as e L = record { some = L.some ∙ e; rest = L.rest; most = L.most }

-- a list without one of its programs
pub listed-less : {ids rest : List ℕ} {len n : ℕ} (p : ℕ) → Listed ids len → Lists rest n (remove p (take len ids)) → Listed rest n
listed-less {ids} {rest} {len} {n} p L R = record {
  most = R.most;
  known = λ z h. L.known z (omega (arith, ap (count z) R.some, count-remove-le z p (take len ids)));
  once = λ z. omega (arith, ap (count z) R.some, count-remove-le z p (take len ids), L.once z);
}

-- the chain of state s, read out
module _ (t : Tables) (O : Orderly t) (s : ℕ) (l : 1 ≤ s) (h : s < 7) (ids : List ℕ) (len : ℕ)
    (L : Lists ids len (walk t.links s 32)) where
  chain-is : take len ids ≡ get_or (read t.links) s []
  chain-is = L.some ∙ sym (get_d_read t.links s h)

  pub listed-chain : Listed ids len
  listed-chain = record {
    most = L.most;
    known = λ z k. (O.accounts.fits s l h).within z (omega (arith, ap (count z) chain-is));
    once = λ z. omega (arith, ap (count z) chain-is, total-in z (read t.links) s, O.laid.once z);
  }

-- chain 5: nobody, where no track was freed, and else all but the one that ended
module _ (t : Tables) (x : Release) where
  pub disc-none : x.tracks ≡ 0 → (y : rules.Release) → Releases x y → Lists (replicate 32 0) 0 (from_disc (view lists (plain t)) y)
  disc-none e y R = rw (sym R.tracks ∙ e) (record { some = refl; rest = refl; most = omega arith })

  pub disc-all : (ids rest : List ℕ) (len n : ℕ) → Orderly t → x.tracks ≢ 0 → Lists ids len (walk t.links 5 32)
      → Lists rest n (remove x.ended (take len ids))
      → (y : rules.Release) → Releases x y → Lists rest n (from_disc (view lists (plain t)) y)
  disc-all ids rest len n O h L W y R =
      rw (lt-ltb 0 y.tracks (omega (arith, h, R.tracks)))
      (lists-as
      (ap (remove x.ended) (chain-is t O 5 (omega arith) (omega arith) ids len L)
      ∙ ap (λ (p : ℕ). remove p (get_or (read t.links) 5 [])) R.ended)
      W)

  -- chain 3: those whose reason is gone
  pub general-all : (ids rest out : List ℕ) (len n m : ℕ) → Orderly t → Lists ids len (walk t.links 3 32)
      → Lists rest n (remove x.ended (take len ids))
      → ((y : rules.Release) → Releases x y → Lists out m (keep (λ q. awaits y (record_at t.ledger.programs q).why) (take n rest)))
      → (y : rules.Release) → Releases x y → Lists out m (from_general (view lists (plain t)) y)
  general-all ids rest out len n m O L W S y R =
      lists-as
      (ap (keep (λ q. awaits y (why_of (plain t).book q)))
      (W.some
      ∙ ap (remove x.ended) (chain-is t O 3 (omega arith) (omega arith) ids len L)
      ∙ ap (λ (p : ℕ). remove p (get_or (read t.links) 3 [])) R.ended))
      (S y R)

-- those who wake are known
module _ (t : Tables) (O : Orderly t) (y : rules.Release) where
  pub disc-known : (z : ℕ) → 1 ≤ count z (from_disc (view lists (plain t)) y) → Known z
  disc-known z = go (ltb 0 y.tracks)
    where
      go : (b : Bool) → 1 ≤ count z (cond b (remove y.ended (get_or (read t.links) 5 [])) []) → Known z
      go true h = (O.accounts.fits 5 (omega arith) (omega arith)).within z
          (omega (arith, count-remove-le z y.ended (get_or (read t.links) 5 [])))
      go false h = absurd (omega arith)

  pub general-known : (z : ℕ) → 1 ≤ count z (from_general (view lists (plain t)) y) → Known z
  general-known z h =
      let c = get_or (read t.links) 3 [] in
      (O.accounts.fits 3 (omega arith) (omega arith)).within z
      (omega (arith, keep-le (λ q. awaits y (why_of (plain t).book q)) z (remove y.ended c), count-remove-le z y.ended c))

  -- so the two lists can wake, in whatever tables are in order
  pub can-settle : (d g : Listing) → Lists d.ids d.len (from_disc (view lists (plain t)) y)
      → Lists g.ids g.len (from_general (view lists (plain t)) y)
      → (u : Tables) → Orderly u → CanSettle u d.ids d.len g.ids g.len
  can-settle d g D G u U = record {
    first = record { orderly = U; most = D.most; known = λ z h. disc-known z (omega (arith, ap (count z) D.some)) };
    second = record { orderly = U; most = G.most; known = λ z h. general-known z (omega (arith, ap (count z) G.some)) };
  }
