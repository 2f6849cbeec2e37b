-- A row is sound just where its own columns give no verdict and its verdict isn't reason 9.
use mathlib.Core.Path.{◌≡◌, refl, ◌∙◌}
use mathlib.Core.Bool.{Bool, true, false, not, cond, ◌&&◌}
use mathlib.Core.List.{List, [], ◌∷◌, map}
use Prim.Native.Nat.{ℕ, zero, suc, ◌+◌, ◌≤◌}
use native.Mathlib.Omega.{arith}
use lib.Dec.{eqb}
use borrow.Author.Tests.{eqb-true, ne_eqb}
use Rattle.laws.specs.Lists.{any, or_else, first}
use Rattle.laws.proofs.Cases.{bool_cases}
use Rattle.verdicts.specs.Facts.{Naming, Count}
use Rattle.verdicts.specs.Entries.{Entry, own, facts}
use Rattle.verdicts.specs.Verdicts.{tally, shared, sound, count_cell, circle, asked, name_cell, judge, verdict}
use Rattle.verdicts.proofs.VerdictLaw.{verdict_law}

-- 0, or of one of reasons 10 to 12
pub record Late (n : ℕ) : Type 0 where
  pub above : (n ≡ 0 → ⊥) → 2560 ≤ n

late_or : (a b : ℕ) → Late a → Late b → Late (or_else a b)
late_or zero b h k = k
late_or (suc a) b h k = h

late_unless : (t : Bool) (n : ℕ) → 2560 ≤ n → Late (cond t 0 n)
late_unless true n h = record { above = λ z. absurd (z refl) }
late_unless false n h = record { above = λ _. h }

late_when : (t : Bool) (n : ℕ) → 2560 ≤ n → Late (cond t n 0)
late_when true n h = record { above = λ _. h }
late_when false n h = record { above = λ z. absurd (z refl) }

late_first : {A : Type 0} (f : A → ℕ) (l : List A) → ((a : A) → Late (f a)) → Late (first (map f l))
late_first f [] h = record { above = λ z. absurd (z refl) }
late_first f (a ∷ l) h = late_or (f a) (first (map f l)) (h a) (late_first f l h)

late_not_ninth : (n : ℕ) → Late n → eqb n 2304 ≡ false
late_not_ninth n h = ne_eqb n 2304 (λ e. let z : 2560 ≤ n = h.above (λ q. omega arith) in omega arith)

module _ (rows : List Entry) (e : Entry) where
  abbrev good : Entry → Bool
  good o = eqb (verdict rows o) 0

  late_count : (c : Count) → Late (count_cell rows c)
  unfolding count_cell
  late_count c = late_unless (eqb (tally rows c.group) c.number) (2560 + c.column) (omega arith)

  late_name : (n : Naming) → Late (name_cell rows good n)
  unfolding name_cell
  late_name n = late_unless (any good (asked rows n)) (2816 + n.column) (omega arith)

  -- what follows reason 9
  abbrev rest : ℕ
  rest =
      or_else (first (map (count_cell rows) (facts e).counts))
      (or_else (cond (circle rows e) 3080 0) (first (map (name_cell rows good) (facts e).names)))

  late_rest : Late rest
  late_rest =
      late_or _ _ (late_first (count_cell rows) (facts e).counts late_count)
      (late_or _ _ (late_when (circle rows e) 3080 (omega arith)) (late_first (name_cell rows good) (facts e).names late_name))

  -- THE LAW OF SOUND ROWS
  pub sound_cell : (eqb (own e.reading) 0 && not (eqb (verdict rows e) 2304)) ≡ sound rows e
  unfolding sound judge
  sound_cell =
      bool_cases (eqb (own e.reading) 0)
      (λ t. let z : own e.reading ≡ 0 = eqb-true _ _ t in
      let v : verdict rows e ≡ or_else (cond (shared rows e) 2304 0) rest = verdict_law rows e ∙ rw z in
      rw t (bool_cases (shared rows e)
      (λ s. let q : verdict rows e ≡ 2304 = v ∙ rw s in rw (s, q))
      (λ s. let q : verdict rows e ≡ rest = v ∙ rw s in rw (s, q, late_not_ninth rest late_rest))))
      (λ f. rw f)
