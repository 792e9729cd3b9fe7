-- A record of a page, line by line: the scan over its lines and what they say.
-- Assumes nothing.
use Prim.Native.Nat.{ℕ, suc, ◌+◌, ◌≤◌}
use native.Mathlib.Omega.{arith}
use mathlib.Core.Path.{◌≡◌, refl, sym, ap, ap₂, ◌∙◌}
use mathlib.Core.Bool.{Bool, true}
use mathlib.Core.List.{List, [], ◌∷◌, ◌++◌}
use mathlib.Core.Option.{Option, none, some, none-ne-some, some-injective}
use lib.ListN.{drop}
use Rattle.lists.specs.Lists.{hit}
use Rattle.text.specs.Text.{text, behind}
use Rattle.records.specs.declared.Program.{Program}
use Rattle.records.specs.declared.Why.{Why}
use Rattle.records.specs.declared.Why.TheVariants.{Nothing}
use Rattle.records.specs.Names.{name_of}
use Rattle.rules.specs.Keeper.{lists, State}
use Rattle.page.specs.Page.{id_key, name_key, priority_key, state_key, why_key, due_key, interval_key}
use Rattle.reader.specs.declared.parts.Record.{Record}
use Rattle.shapes.specs.Shapes.{there, otherwise, into, figure, figure_or_dash, reason_of}
use Rattle.reader.specs.Order.{Place, record_ahead, record_forms, records_ahead, value_behind, first_bad}
use Rattle.reader.specs.Said.{value_of, marked_by, with_record, records_said}
use Rattle.shapes.specs.Inner.{LineIs, NoLine, byte, two_bytes, narrow_why, reason_in}
use Rattle.reader.specs.Walks.{ahead, RecordIs}
use Rattle.reader.proofs.LineLaws.{scan-on, scan-off}
use Rattle.reader.proofs.MarkLaws.{MarkAt}

-- a reason in the tables' bytes is there where a reason is; and which it is
reason-there : (v : List ℕ) → there (reason_of v) ≡ there (reason_in v)
reason-there v = go (reason_of v)
  where
    go : (o : Option Why) → there o ≡ there (into narrow_why o)
    go none = refl
    go (some w) = refl

reason-is : (o : Option Why) (w : Why) → into narrow_why o ≡ some w → w ≡ narrow_why (otherwise Nothing o)
reason-is none w e = absurd (none-ne-some w e)
reason-is (some x) w e = sym (some-injective (narrow_why x) w e)

-- the place behind k lines of a record, n records to come behind it
abbrev behind_lines : ℕ → ℕ → Place
behind_lines k n = record_ahead (drop k record_forms) n

-- what seven lines say, by what their values are and whether a mark stands behind them
abbrev recorded : Option (List ℕ) → Option ℕ → Option ℕ → Option Why → Option ℕ → Option ℕ → Bool → Program
recorded name priority state why due interval mark = record {
  used = true;
  name = otherwise [] name;
  priority = otherwise 0 priority;
  state = otherwise 0 state;
  why = otherwise Nothing why;
  due = otherwise 0 due;
  interval = otherwise 0 interval;
  suspend = mark;
}

seven : (v₁ v₂ v₃ v₄ v₅ v₆ v₇ : List ℕ) (rs : List (List ℕ)) (n : ℕ) (a : State lists)
    → records_said (suc n) a ((text id_key ++ (61 ∷ v₁)) ∷ (text name_key ++ (61 ∷ v₂)) ∷ (text priority_key ++ (61 ∷ v₃))
    ∷ (text state_key ++ (61 ∷ v₄)) ∷ (text why_key ++ (61 ∷ v₅)) ∷ (text due_key ++ (61 ∷ v₆)) ∷ (text interval_key ++ (61 ∷ v₇)) ∷ rs)
    ≡ records_said n (with_record (otherwise 0 (figure v₁))
    (recorded (name_of v₂) (figure v₃) (figure v₄) (reason_of v₅) (figure_or_dash v₆) (figure_or_dash v₇) (marked_by rs)) a)
    (drop (hit (marked_by rs)) rs)
unfolding records_said value_of value_behind behind
seven v₁ v₂ v₃ v₄ v₅ v₆ v₇ rs n a = refl

module _ (s : List ℕ) (at : ℕ) where
  pub bad-1 : NoLine figure s at (text id_key) → (n line : ℕ) → first_bad (behind_lines 0 n) line (ahead s at) ≡ line + 0
  bad-1 l n line = scan-off figure s at (behind_lines 0 n) _ refl (λ m x. refl) (λ v. refl) l line
      ∙ (let e : line ≡ line + 0 = omega arith in e)

  module _ {id a : ℕ} (l1 : LineIs figure s at (text id_key) id a) where
    scan-1 : (n line : ℕ) → first_bad (behind_lines 0 n) line (ahead s at) ≡ first_bad (behind_lines 1 n) (suc line) (ahead s a)
    scan-1 n line = scan-on figure s at (behind_lines 0 n) _ [] refl l1 refl line

    pub bad-2 : NoLine name_of s a (text name_key) → (n line : ℕ) → first_bad (behind_lines 0 n) line (ahead s at) ≡ line + 1
    bad-2 l n line = scan-1 n line ∙ scan-off name_of s a (behind_lines 1 n) _ refl (λ m x. refl) (λ v. refl) l (suc line)
        ∙ (let e : suc line ≡ line + 1 = omega arith in e)

    module _ {nm : List ℕ} {b : ℕ} (l2 : LineIs name_of s a (text name_key) nm b) where
      scan-2 : (n line : ℕ) → first_bad (behind_lines 0 n) line (ahead s at) ≡ first_bad (behind_lines 2 n) (suc (suc line)) (ahead s b)
      scan-2 n line = scan-1 n line ∙ scan-on name_of s a (behind_lines 1 n) _ [] refl l2 refl (suc line)

      pub bad-3 : NoLine figure s b (text priority_key) → (n line : ℕ) → first_bad (behind_lines 0 n) line (ahead s at) ≡ line + 2
      bad-3 l n line = scan-2 n line ∙ scan-off figure s b (behind_lines 2 n) _ refl (λ m x. refl) (λ v. refl) l (suc (suc line))
          ∙ (let e : suc (suc line) ≡ line + 2 = omega arith in e)

      module _ {priority c : ℕ} (l3 : LineIs figure s b (text priority_key) priority c) where
        scan-3 : (n line : ℕ) → first_bad (behind_lines 0 n) line (ahead s at) ≡ first_bad (behind_lines 3 n) (suc (suc (suc line))) (ahead s c)
        scan-3 n line = scan-2 n line ∙ scan-on figure s b (behind_lines 2 n) _ [] refl l3 refl (suc (suc line))

        pub bad-4 : NoLine figure s c (text state_key) → (n line : ℕ) → first_bad (behind_lines 0 n) line (ahead s at) ≡ line + 3
        bad-4 l n line = scan-3 n line ∙ scan-off figure s c (behind_lines 3 n) _ refl (λ m x. refl) (λ v. refl) l (suc (suc (suc line)))
            ∙ (let e : suc (suc (suc line)) ≡ line + 3 = omega arith in e)

        module _ {state d : ℕ} (l4 : LineIs figure s c (text state_key) state d) where
          scan-4 : (n line : ℕ) → first_bad (behind_lines 0 n) line (ahead s at)
              ≡ first_bad (behind_lines 4 n) (suc (suc (suc (suc line)))) (ahead s d)
          scan-4 n line = scan-3 n line ∙ scan-on figure s c (behind_lines 3 n) _ [] refl l4 refl (suc (suc (suc line)))

          pub bad-5 : NoLine reason_in s d (text why_key) → (n line : ℕ) → first_bad (behind_lines 0 n) line (ahead s at) ≡ line + 4
          bad-5 l n line = scan-4 n line ∙ scan-off reason_in s d (behind_lines 4 n) _ refl (λ m x. refl) reason-there l
              (suc (suc (suc (suc line)))) ∙ (let e : suc (suc (suc (suc line))) ≡ line + 4 = omega arith in e)

          module _ {why : Why} {e : ℕ} (l5 : LineIs reason_in s d (text why_key) why e) where
            scan-5 : (n line : ℕ) → first_bad (behind_lines 0 n) line (ahead s at)
                ≡ first_bad (behind_lines 5 n) (suc (suc (suc (suc (suc line))))) (ahead s e)
            scan-5 n line = scan-4 n line ∙ scan-on reason_in s d (behind_lines 4 n) _ [] refl l5 (reason-there l5.value)
                (suc (suc (suc (suc line))))

            pub bad-6 : NoLine figure_or_dash s e (text due_key) → (n line : ℕ) → first_bad (behind_lines 0 n) line (ahead s at) ≡ line + 5
            bad-6 l n line = scan-5 n line ∙ scan-off figure_or_dash s e (behind_lines 5 n) _ refl (λ m x. refl) (λ v. refl) l
                (suc (suc (suc (suc (suc line))))) ∙ (let e : suc (suc (suc (suc (suc line)))) ≡ line + 5 = omega arith in e)

            module _ {due f : ℕ} (l6 : LineIs figure_or_dash s e (text due_key) due f) where
              scan-6 : (n line : ℕ) → first_bad (behind_lines 0 n) line (ahead s at)
                  ≡ first_bad (behind_lines 6 n) (suc (suc (suc (suc (suc (suc line)))))) (ahead s f)
              scan-6 n line = scan-5 n line ∙ scan-on figure_or_dash s e (behind_lines 5 n) _ [] refl l6 refl
                  (suc (suc (suc (suc (suc line)))))

              pub bad-7 : NoLine figure_or_dash s f (text interval_key) → (n line : ℕ) → first_bad (behind_lines 0 n) line (ahead s at) ≡ line + 6
              bad-7 l n line = scan-6 n line ∙ scan-off figure_or_dash s f (behind_lines 6 n) _ refl (λ m x. refl) (λ v. refl) l
                  (suc (suc (suc (suc (suc (suc line)))))) ∙ (let e : suc (suc (suc (suc (suc (suc line))))) ≡ line + 6 = omega arith in e)

              module _ {interval g : ℕ} (l7 : LineIs figure_or_dash s f (text interval_key) interval g) where
                scan-7 : (n line : ℕ) → first_bad (behind_lines 0 n) line (ahead s at)
                    ≡ first_bad (behind_lines 7 n) (suc (suc (suc (suc (suc (suc (suc line))))))) (ahead s g)
                scan-7 n line = scan-6 n line ∙ scan-on figure_or_dash s f (behind_lines 6 n) _ [] refl l7 refl
                    (suc (suc (suc (suc (suc (suc line))))))

                cut-1 : ahead s at ≡ (text id_key ++ (61 ∷ l1.value)) ∷ (text name_key ++ (61 ∷ l2.value)) ∷
                    (text priority_key ++ (61 ∷ l3.value))
                    ∷ (text state_key ++ (61 ∷ l4.value)) ∷ (text why_key ++ (61 ∷ l5.value)) ∷ (text due_key ++ (61 ∷ l6.value)) ∷
                    (text interval_key ++ (61 ∷ l7.value)) ∷ ahead s g
                cut-1 =
                    l1.cut ∙ ap (λ (x : List (List ℕ)). (text id_key ++ (61 ∷ l1.value)) ∷ x) (l2.cut
                    ∙ ap (λ (x : List (List ℕ)). (text name_key ++ (61 ∷ l2.value)) ∷ x) (l3.cut
                    ∙ ap (λ (x : List (List ℕ)). (text priority_key ++ (61 ∷ l3.value)) ∷ x) (l4.cut
                    ∙ ap (λ (x : List (List ℕ)). (text state_key ++ (61 ∷ l4.value)) ∷ x) (l5.cut
                    ∙ ap (λ (x : List (List ℕ)). (text why_key ++ (61 ∷ l5.value)) ∷ x) (l6.cut
                    ∙ ap (λ (x : List (List ℕ)). (text due_key ++ (61 ∷ l6.value)) ∷ x) l7.cut)))))

                module _ {mark : Bool} {h : ℕ} (m : MarkAt s g mark h) where
                  told : Program
                  told = recorded (some nm) (some priority) (some state) (reason_of l5.value) (some due) (some interval) mark

                  record-says : (n line : ℕ) → 1 ≤ line → first_bad (records_ahead n) line (ahead s h) ≡ 0
                      → (a : State lists) → records_said (suc n) a (ahead s at) ≡ records_said n (with_record id told a) (ahead s h)
                  unfolding told
                  record-says n line k z a =
                      let (e, f) = m.says n line k z in
                      ap (records_said (suc n) a) cut-1
                      ∙ seven l1.value l2.value l3.value l4.value l5.value l6.value l7.value (ahead s g) n a
                      ∙ (λ i. records_said n (with_record (otherwise 0 (l1.shaped i))
                      (recorded (l2.shaped i) (l3.shaped i) (l4.shaped i) (reason_of l5.value) (l6.shaped i) (l7.shaped i) (e i)) a)
                      (drop (hit (e i)) (ahead s g)))
                      ∙ ap (records_said n (with_record id told a)) f

                  -- the record that the code makes of them
                  pub record-read : (r : Record) → r.lines ≡ 7 + hit mark → r.at ≡ h → r.id ≡ id
                      → r.program ≡ record {
                        used = true;
                        name = nm;
                        priority = two_bytes priority;
                        state = byte state;
                        why = why;
                        due = due;
                        interval = interval;
                        suspend = mark;
                      }
                      → RecordIs s at r
                  unfolding told
                  record-read r e₁ e₂ e₃ e₄ =
                      record {
                        told = told;
                        held = e₄ ∙ ap (λ (w : Why). record {
                          used = true;
                          name = nm;
                          priority = two_bytes priority;
                          state = byte state;
                          why = w;
                          due = due;
                          interval = interval;
                          suspend = mark;
                        })
                            (reason-is (reason_of l5.value) why l5.shaped);
                        beyond = omega (
                          arith,
                          l1.beyond,
                          l2.beyond,
                          l3.beyond,
                          l4.beyond,
                          l5.beyond,
                          l6.beyond,
                          l7.beyond,
                          m.beyond,
                          e₁,
                          e₂,
                        );
                        within = omega (arith, m.within, e₂);
                        scan = λ n line. scan-7 n line ∙ m.scan n (suc (suc (suc (suc (suc (suc (suc line)))))))
                            ∙ ap₂ (λ (x y : ℕ). first_bad (records_ahead n) x (ahead s y))
                            (let e : suc (suc (suc (suc (suc (suc (suc line)))))) + hit mark ≡ line + r.lines = omega (arith, e₁) in e)
                            (sym e₂);
                        says = λ n line k z a.
                            record-says n line k (ap (λ (y : ℕ). first_bad (records_ahead n) line (ahead s y)) (sym e₂) ∙ z) a
                            ∙ ap₂ (λ (x y : ℕ). records_said n (with_record x told a) (ahead s y)) (sym e₃) (sym e₂);
                      }
