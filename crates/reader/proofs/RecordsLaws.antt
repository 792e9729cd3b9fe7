-- The records of a page, one after another: what is read so far.
-- Assumes nothing.
use Prim.Native.Nat.{ℕ, suc, ◌+◌, ◌-◌, ◌≤◌, ◌<◌}
use native.Mathlib.Omega.{arith}
use mathlib.Core.Path.{◌≡◌, refl, sym, ap, ap₂, ◌∙◌}
use mathlib.Core.Bool.{Bool, true, false, cond}
use mathlib.Core.List.{List, map}
use lib.ListN.{set, replicate}
use borrow.Author.Tests.{le-leb}
use Rattle.limits.specs.Limits.{most_programs}
use Rattle.lists.proofs.Tests.{and}
use Rattle.text.proofs.Read.{up_to-under, up_to-over}
use Rattle.records.specs.declared.Program.{Program}
use Rattle.records.specs.Records.{known, unused}
use Rattle.rules.specs.Book as rules
use Rattle.rules.specs.Keeper.{lists, State}
use Rattle.reader.specs.declared.parts.BadLine.{BadLine}
use Rattle.reader.specs.declared.parts.Record.{Record}
use Rattle.reader.specs.Order.{recording, record_forms, records_ahead, first_bad}
use Rattle.reader.specs.Said.{with_record, records_said}
use Rattle.reader.specs.Inner.{narrow_record}
use Rattle.reader.proofs.Mapping.{map-set}
use Rattle.reader.specs.Walks.{ahead, Onward, with_programs, Stops, RecordIs, RecordsAre}

-- `programs` holds the records read so far, and so many are left from place o, line n on
pub record SoFar (s : List ℕ) (at line count : ℕ) (programs : List Program) (o n left : ℕ) : Type 0 where
  pub onward : Onward s o n
  pub told : List Program
  pub held : programs ≡ map narrow_record told
  pub scan : first_bad (records_ahead count) line (ahead s at) ≡ first_bad (records_ahead left) n (ahead s o)
  pub says : first_bad (records_ahead left) n (ahead s o) ≡ 0 → (a : State lists) → a.book.programs ≡ replicate most_programs unused
      → records_said count a (ahead s at) ≡ records_said left (with_programs told a) (ahead s o)

pub none_yet : (s : List ℕ) (at line count : ℕ) (r : Program) → r ≡ unused → Onward s at line
    → SoFar s at line count (replicate most_programs r) at line count
none_yet s at line count r u h =
    record {
      onward = h;
      told = replicate most_programs unused;
      held = ap (replicate most_programs) u;
      scan = refl;
      says = λ z a e. ap (λ (ps : List Program). records_said count (with_programs ps a) (ahead s at)) e;
    }

-- the records with one put where its id says
abbrev pub put_at : ℕ → Program → List Program → List Program
put_at id x ps = cond (known id) (set ps (id - 1) x) ps

pub put_in : (id : ℕ) (x : Program) (ps : List Program) → 1 ≤ id → id ≤ most_programs → set ps (id - 1) x ≡ put_at id x ps
put_in id x ps l h = sym (ap (λ (b : Bool). cond b (set ps (id - 1) x) ps) (and (le-leb 1 id l) (le-leb id most_programs h)))

pub put-over : (id : ℕ) (x : Program) (ps : List Program) → most_programs < id → ps ≡ put_at id x ps
put-over id x ps h = sym (ap (λ (b : Bool). cond b (set ps (id - 1) x) ps) (up_to-over 1 most_programs id h))

pub put_under : (id : ℕ) (x : Program) (ps : List Program) → id < 1 → ps ≡ put_at id x ps
put_under id x ps h = sym (ap (λ (b : Bool). cond b (set ps (id - 1) x) ps) (up_to-under 1 most_programs id h))

put-held : (b : Bool) (i : ℕ) (x : Program) (ps : List Program)
    → cond b (set (map narrow_record ps) i (narrow_record x)) (map narrow_record ps) ≡ map narrow_record (cond b (set ps i x) ps)
put-held true i x ps = sym (map-set narrow_record ps i x)
put-held false i x ps = refl

put-says : (id : ℕ) (x : Program) (ps : List Program) (a : State lists)
    → with_record id x (with_programs ps a) ≡ with_programs (put_at id x ps) a
put-says id x ps a = go (known id)
  where
    go : (b : Bool) → record { book = cond b (rules.put id x (with_programs ps a).book) (with_programs ps a).book; kept = a.kept }
        ≡ with_programs (cond b (set ps (id - 1) x) ps) a
    go true = refl
    go false = refl

module _ {s : List ℕ} {at line count : ℕ} {programs : List Program} {o n : ℕ} where
  -- one more
  pub one_more : (left : ℕ) → SoFar s at line count programs o n (suc left) → (r : Record) → RecordIs s o r → (programs' : List Program)
      → programs' ≡ put_at r.id r.program programs → SoFar s at line count programs' r.at (n + r.lines) left
  one_more left p r q programs' e =
      record {
        onward = record {
          within = q.within;
          some = omega (arith, p.onward.some);
          counted = omega (arith, q.beyond, p.onward.counted);
        };
        told = put_at r.id q.told p.told;
        held = e ∙ ap₂ (λ (x : Program) (ps : List Program). cond (known r.id) (set ps (r.id - 1) x) ps) q.held p.held
            ∙ put-held (known r.id) (r.id - 1) q.told p.told;
        scan = p.scan ∙ q.scan left n;
        says = λ z a f. p.says (q.scan left n ∙ z) a f
            ∙ q.says left (n + r.lines) (omega (arith, p.onward.some)) z (with_programs p.told a)
            ∙ ap (λ (x : State lists). records_said left x (ahead s r.at)) (put-says r.id q.told p.told a);
      }

  -- all of them
  pub all_read : SoFar s at line count programs o n 0 → RecordsAre s at line count (record { at = o; line = n; programs = programs })
  unfolding records_said
  all_read p = record { onward = p.onward; told = p.told; held = p.held; scan = p.scan; says = p.says }

  -- a line of one is not well formed
  pub bad-record : (left : ℕ) → SoFar s at line count programs o n (suc left) → (b : BadLine)
      → ((k : ℕ) → Stops (recording record_forms k) n (ahead s o) b) → Stops (records_ahead count) line (ahead s at) b
  bad-record left p b q = record { some = (q left).some; scan = p.scan ∙ (q left).scan }
