-- The parts of a page put together: what is read of the whole.
-- Assumes nothing.
use Prim.Native.Nat.{ℕ, zero, suc, ◌≤◌}
use native.Mathlib.Omega.{arith}
use mathlib.Core.Path.{◌≡◌, refl, sym, ap, ◌∙◌, subst}
use mathlib.Core.Bool.{Bool, true, false, cond}
use mathlib.Core.List.{List, [], ◌∷◌, map}
use lib.ListN.{length, drop, replicate, drop_of_length-le}
use Rattle.limits.specs.Limits.{most_programs}
use Rattle.text.specs.Text.{parts}
use Rattle.records.specs.declared.Numbers as records
use Rattle.records.specs.Records.{unused}
use Rattle.tracks.specs.declared.Tracks.{Tracks}
use Rattle.tracks.specs.Tracks as tracks
use Rattle.rules.specs.Book.{Book, with_clock, with_holders, with_resources, fresh_book}
use Rattle.rules.specs.Rules.{may_start}
use Rattle.rules.specs.Keeper.{lists, State}
use Rattle.tables.specs.declared.Tables.{Tables}
use Rattle.tables.specs.Tables.{lay}
use Rattle.tables.specs.Calls.{Result, made}
use Rattle.page.specs.Page.{chained}
use Rattle.reader.specs.declared.parts.BadLine.{BadLine}
use Rattle.reader.specs.declared.parts.Head.{Head}
use Rattle.reader.specs.declared.parts.Records.{Records}
use Rattle.reader.specs.declared.parts.Chains.{Chains}
use Rattle.reader.specs.declared.parts.Held.{Held}
use Rattle.reader.specs.declared.parts.Numbered.{Numbered}
use Rattle.reader.specs.Order.{page_ahead, records_ahead, chains_ahead, chain_forms, numbering, first_bad}
use Rattle.reader.specs.Said.{on_book, started, said}
use Rattle.reader.specs.Reading.{not_read, judged, reading}
use Rattle.shapes.specs.Inner.{byte}
use Rattle.reader.specs.Inner.{narrow_record}
use Rattle.reader.specs.Walks.{ahead, Onward, with_programs, with_chains, Holds, Keeps, narrow}
use Rattle.reader.specs.Walks.{Stops, HeadIs, RecordsAre, ChainsAre, HeldRead, NumbersRead, EndIs}
use Rattle.reader.proofs.Narrowing.{narrow-judged}
use Rattle.reader.proofs.Assembling.{links-these, fresh_holds, fresh_keeps, fresh-clock, assembled}

-- records of fresh tables are unused, and chains leave the book as it is
started-programs : (clock T S R Y : ℕ) → (started clock T S R Y).book.programs ≡ replicate most_programs unused
started-programs clock T S R Y = go (may_start T S R Y)
  where
    go : (b : Bool) → (with_clock clock (cond b (fresh_book T S R Y) (fresh_book 1 0 0 1975))).programs ≡ replicate most_programs unused
    go true = refl
    go false = refl

chains-book : (ss : List ℕ) (cs : List (List ℕ)) (a : State lists) → (with_chains ss cs a).book ≡ a.book
chains-book [] cs a = refl
chains-book (s ∷ ss) [] a = refl
chains-book (s ∷ ss) (c ∷ cs) a = chains-book ss cs _

holds_as : (t : Tracks) (a b : State lists) → a.book ≡ b.book → Holds t b → Holds t a
holds_as t a b e k =
    record {
      table = k.table ∙ sym (ap (λ (x : Book). tracks.table_of x.tracks x.system (map byte x.holders)) e);
      long = ap (λ (x : Book). length x.holders) e ∙ k.long ∙ sym (ap (λ (x : Book). x.tracks) e);
    }

keeps-as : (t : records.Numbers) (a b : State lists) → a.book ≡ b.book → Keeps t b → Keeps t a
keeps-as t a b e k = subst (λ (x : Book). Keeps t (record { book = x; kept = a.kept })) (sym e)
    (record { table = k.table; long = k.long })

-- nothing stands from there on
nothing : reading [] ≡ not_read 1
unfolding reading first_bad parts
nothing = refl

pub nothing_left : (s : List ℕ) (at : ℕ) → length s ≤ at → {x : Result} → x ≡ not_read 1 → x ≡ reading (drop at s)
nothing_left s at h e = e ∙ sym nothing ∙ sym (ap reading (drop_of_length-le s h))

module _ (s : List ℕ) (at : ℕ) where
  abbrev bad : ℕ
  bad = first_bad page_ahead 1 (ahead s at)

  -- a line is not well formed
  pub bad-page : (b : BadLine) → Stops page_ahead 1 (ahead s at) b → not_read b.0 ≡ reading (drop at s)
  unfolding reading
  bad-page b S = go b.0 S.some S.scan
    where
      go : (k : ℕ) → 1 ≤ k → bad ≡ k → not_read k ≡ reading (drop at s)
      go zero h e = absurd (omega arith)
      go (suc k) h e = sym (ap (λ (n : ℕ). judged (drop at s) n (lay (said (ahead s at)))) e)

  module _ (h : Head) (H : HeadIs s at h) where
    pub records-next : Onward s h.at h.line
    records-next = record { within = H.within; some = H.some; counted = omega (arith, H.beyond, H.few) }

    pub bad-records : (b : BadLine) → Stops (records_ahead h.programs) h.line (ahead s h.at) b → Stops page_ahead 1 (ahead s at) b
    bad-records b S = record { some = S.some; scan = H.scan ∙ S.scan }

    module _ (r : Records) (R : RecordsAre s h.at h.line h.programs r) where
      pub bad-chains : (b : BadLine) → Stops (chains_ahead chain_forms) r.line (ahead s r.at) b → Stops page_ahead 1 (ahead s at) b
      bad-chains b S = record { some = S.some; scan = H.scan ∙ R.scan ∙ S.scan }

      module _ (c : Chains) (C : ChainsAre s r.at r.line c) where
        module _ (t : Tracks) (d : Held) (D : HeldRead s c.at c.line t d) where
          module _ (u : records.Numbers) (n : Numbered) (N : NumbersRead s d.at d.line u n) where
            pub bad-end : (b : BadLine) → Stops numbering n.line (ahead s n.at) b → Stops page_ahead 1 (ahead s at) b
            bad-end b S = record { some = S.some; scan = H.scan ∙ R.scan ∙ C.scan ∙ D.scan ∙ N.scan ∙ S.scan }

            abbrev a₀ : State lists
            a₀ = started h.clock h.tracks h.system h.numbers h.year

            abbrev a₁ : State lists
            a₁ = with_programs R.told a₀

            abbrev a₂ : State lists
            a₂ = with_chains chained C.told a₁

            module _ (tf : t ≡ (made h.tracks h.system h.numbers h.year).tables.ledger.tracks)
                (uf : u ≡ (made h.tracks h.system h.numbers h.year).tables.ledger.numbers) where
              held₂ : Holds t a₂
              held₂ =
                  holds_as t a₂ a₁ (chains-book chained C.told a₁)
                  (let k = subst (λ (x : Tracks). Holds x a₀) (sym tf) (fresh_holds h.clock h.tracks h.system h.numbers h.year) in
                  record { table = k.table; long = k.long })

              kept₂ : Keeps u a₂
              kept₂ =
                  keeps-as u a₂ a₁ (chains-book chained C.told a₁)
                  (let k = subst (λ (x : records.Numbers). Keeps x a₀) (sym uf)
                  (fresh_keeps h.clock h.tracks h.system h.numbers h.year) in
                  record { table = k.table; long = k.long })

              abbrev a₃ : State lists
              a₃ = on_book (with_holders (D.of a₂ held₂).told) a₂

              kept₃ : Keeps u a₃
              kept₃ = record { table = kept₂.table; long = kept₂.long }

              abbrev a₄ : State lists
              a₄ = on_book (with_resources (N.of a₃ kept₃).told) a₃

              said-is : EndIs s n.at n.line → said (ahead s at) ≡ a₄
              said-is E =
                  H.says ∙ R.says (C.scan ∙ D.scan ∙ N.scan ∙ E.scan) a₀
                  (started-programs h.clock h.tracks h.system h.numbers h.year) ∙ C.says a₁
                  ∙ (D.of a₂ held₂).says ∙ (N.of a₃ kept₃).says ∙ E.says a₄

              tables-are : (x : Tables) → x.ledger.programs ≡ r.programs → x.ledger.clock ≡ record { ticks = h.clock; year = (made h.tracks h.system h.numbers h.year).tables.ledger.clock.year }
                  → x.ledger.tracks ≡ d.tracks
                  → x.ledger.numbers ≡ n.numbers → x.links ≡ c.links → x ≡ lay (narrow a₄)
              tables-are x P K T U L =
                  let b = chains-book chained C.told a₁ in
                  let v = (D.of a₂ held₂).held in
                  let w = (N.of a₃ kept₃).held in
                  assembled x a₄ (P ∙ R.held ∙ sym (ap (λ (y : Book). map narrow_record y.programs) b))
                  (K ∙ fresh-clock h.clock h.tracks h.system h.numbers h.year
                  ∙ sym (ap (λ (y : Book). record { ticks = y.clock; year = y.year }) b))
                  (record { table = T ∙ v.table; long = v.long }) (record { table = U ∙ w.table; long = w.long })
                  (L ∙ C.held ∙ sym (links-these a₁ refl C.told))

              -- all lines are well formed
              pub whole-page : EndIs s n.at n.line → (x : Tables) → x.ledger.programs ≡ r.programs
                  → x.ledger.clock ≡ record { ticks = h.clock; year = (made h.tracks h.system h.numbers h.year).tables.ledger.clock.year }
                  → x.ledger.tracks ≡ d.tracks → x.ledger.numbers ≡ n.numbers → x.links ≡ c.links
                  → judged (drop at s) 0 x ≡ reading (drop at s)
              unfolding reading
              whole-page E x P K T U L =
                  ap (judged (drop at s) 0) (tables-are x P K T U L ∙ ap (λ (z : State lists). lay (narrow z)) (sym (said-is E)))
                  ∙ narrow-judged (drop at s)
                  ∙ sym (ap (λ (k : ℕ). judged (drop at s) k (lay (said (ahead s at)))) (H.scan ∙ R.scan ∙ C.scan ∙ D.scan ∙ N.scan ∙ E.scan))
