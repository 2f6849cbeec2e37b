-- A row's verdict is 0 just if the row is good.
use mathlib.Core.Path.{◌≡◌, sym, ◌∙◌}
use mathlib.Core.Logic.{◌↔◌}
use mathlib.Core.Bool.{Bool, cond, ◌&&◌}
use mathlib.Core.List.{List, map}
use Prim.Native.Nat.{◌+◌}
use native.Mathlib.Omega.{arith}
use lib.Dec.{eqb}
use borrow.Author.Tests.{eqb-true, eq-eqb, not-true}
use Rattle.laws.specs.Lists.{first}
use Rattle.laws.proofs.Cases.{and_left, and_right}
use Rattle.laws.proofs.First.{or_else_zero, first_zero, zero_first, unless_zero, when_zero}
use Rattle.laws.proofs.Tests.{any_mem, any_witness, any_keep, keep_mem}
use Rattle.verdicts.specs.Facts.{Naming}
use Rattle.verdicts.specs.Entries.{Entry, own, facts}
use Rattle.verdicts.specs.Steps.{holds}
use Rattle.verdicts.specs.Verdicts.{shared, sound, count_cell, circle, of_kind, asked, name_cell, judge, verdict}
use Rattle.verdicts.specs.Good.{Meets, Good}
use Rattle.verdicts.proofs.VerdictLaw.{verdict_law}

module _ (rows : List Entry) where
  -- verdict 0
  abbrev is_good : Entry → Bool
  is_good o = eqb (verdict rows o) 0

  -- a column that names a row gives no reason just if a good row meets it
  pub name_met : (n : Naming) → name_cell rows is_good n ≡ 0 → (o : Entry) × Meets rows n o
  unfolding name_cell asked
  name_met n z =
      let w = any_witness is_good (asked rows n) (unless_zero _ (2816 + n.column) (omega arith) z) in
      let i = keep_mem (λ o. holds o n.key && of_kind rows n.kind o) rows w.1 in
      (w.0, record { there = i.0; held = and_left _ _ i.1; kind = and_right (holds w.0 n.key) _ i.1; good = eqb-true _ _ w.2 })

  -- and the other way round
  pub met_name : (n : Naming) (o : Entry) → Meets rows n o → name_cell rows is_good n ≡ 0
  unfolding name_cell asked
  met_name n o m =
      let f : Entry → Bool = λ o. holds o n.key && of_kind rows n.kind o in
      rw (any_keep f is_good rows, any_mem (λ o. f o && is_good o) m.there (rw (m.held, m.kind, eq-eqb _ _ m.good)))

  module _ (e : Entry) where
    good_means : verdict rows e ≡ 0 → Good rows e
    unfolding judge sound count_cell
    good_means z =
        let k₁ = or_else_zero (own e.reading) _ (sym (verdict_law rows e) ∙ z) in
        let k₂ = or_else_zero (cond (shared rows e) 2304 0) _ k₁.1 in
        let k₃ = or_else_zero (first (map (count_cell rows) (facts e).counts)) _ k₂.1 in
        let k₄ = or_else_zero (cond (circle rows e) 3080 0) _ k₃.1 in
        record {
          is_sound = rw (eq-eqb _ _ k₁.0, when_zero (shared rows e) 2304 (omega arith) k₂.0);
          counted = λ c m. eqb-true _ _ (unless_zero _ (2560 + c.column) (omega arith) (first_zero (count_cell rows) m k₃.0));
          on_no_circle = when_zero (circle rows e) 3080 (omega arith) k₄.0;
          named = λ n m. name_met n (first_zero (name_cell rows is_good) m k₄.1);
        }

    good_is : Good rows e → verdict rows e ≡ 0
    unfolding judge sound count_cell
    good_is g =
        verdict_law rows e
        ∙ rw (
          eqb-true (own e.reading) 0 (and_left _ _ g.is_sound),
          not-true (shared rows e) (and_right (eqb (own e.reading) 0) _ g.is_sound),
          g.on_no_circle,
          zero_first (count_cell rows) (facts e).counts (λ c m. rw (eq-eqb _ _ (g.counted c m))),
        )
        (zero_first (name_cell rows is_good) (facts e).names (λ n m. let w = g.named n m in met_name n w.0 w.1))

    -- 01: "Good is 0": verdict 0 and all that 01 asks of a good row are the same
    pub good_law : (verdict rows e ≡ 0) ↔ Good rows e
    good_law = (good_means, good_is)
