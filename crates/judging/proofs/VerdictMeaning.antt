-- A verdict is that of the reasons before the names, and else that of the names.
use mathlib.Core.Path.{◌≡◌, refl, ap, ap₂, sym, ◌∙◌}
use mathlib.Core.Bool.{Bool, true, false, not, cond, ◌&&◌}
use mathlib.Core.List.{List, ◌++◌, map}
use Prim.Native.Nat.{ℕ, zero, suc, ◌<◌}
use native.Mathlib.Omega.{arith}
use lib.Dec.{eqb}
use lib.ListN.{length, get_or}
use borrow.Author.Tests.{ne_eqb, eqb-false}
use Rattle.laws.specs.Lists.{any, or_else, first}
use Rattle.laws.specs.Prefix.{flag}
use Rattle.laws.proofs.First.{or_else_zero, when_zero}
use Rattle.schemas.specs.Reasons.{reason_at as verdict_of}
use Rattle.verdicts.specs.Facts.{Naming}
use Rattle.verdicts.specs.Entries.{Entry, own, facts}
use Rattle.verdicts.specs.Verdicts.{shared, sound, count_cell, circle, asked, name_cell, judge, verdict}
use Rattle.verdicts.proofs.VerdictLaw.{verdict_law}
use Rattle.manners.specs.Manners.{manner_at, kind_weight, is_met_by}
use Rattle.chain_steps.specs.Chains.{no_row, comes_to}
use Rattle.met_names.specs.Names.{asked_at, met_at, name_at}
use Rattle.base_verdicts.specs.Judged.{next_of, base_of}
use Rattle.judging.proofs.Resolved.{row_at, Answers, Named, absent, present, names_in, Names, Arrays, code1, row1, Resolved, is_good}
use Rattle.judging.proofs.KindMeaning.{kinds_in, met_is}
use Rattle.judging.proofs.CircleMeaning.{flag_one, circle_is}

or_else_assoc : (a b c : ℕ) → or_else (or_else a b) c ≡ or_else a (or_else b c)
or_else_assoc zero b c = refl
or_else_assoc (suc a) b c = refl

or_else_none : (a : ℕ) → or_else a 0 ≡ a
or_else_none zero = refl
or_else_none (suc a) = refl

-- reasons 1 to 8, 9, 10, 12
abbrev pub base_in : List Entry → Entry → ℕ
base_in rows e =
    or_else (own e.reading)
    (or_else (cond (shared rows e) (verdict_of 9 0) 0)
    (or_else (first (map (count_cell rows) (facts e).counts))
    (cond (circle rows e) (verdict_of 12 8) 0)))

judge_split : (rows : List Entry) (good : Entry → Bool) (e : Entry) → judge rows good e ≡ or_else (base_in rows e)
    (first (map (name_cell rows good) (facts e).names))
unfolding judge
judge_split rows good e =
    sym
    (or_else_assoc (own e.reading) _ _
    ∙ ap (or_else (own e.reading)) (or_else_assoc (cond (shared rows e) (verdict_of 9 0) 0) _ _ ∙ ap (or_else (cond (shared rows e) (verdict_of 9 0) 0))
    (or_else_assoc (first (map (count_cell rows) (facts e).counts)) _ _)))

pub verdict_split : (rows : List Entry) (e : Entry) → verdict rows e ≡ or_else (base_in rows e) (first (map (name_cell rows (is_good rows)) (facts e).names))
verdict_split rows e = verdict_law rows e ∙ judge_split rows (is_good rows) e

pub judge_zero : (rows : List Entry) (good : Entry → Bool) (e : Entry) → judge rows good e ≡ 0 → (base_in rows e ≡ 0) ×
    (first (map (name_cell rows good) (facts e).names) ≡ 0)
judge_zero rows good e z = or_else_zero (base_in rows e) _ (sym (judge_split rows good e) ∙ z)

-- without reasons a row is sound
pub base_sound : (rows : List Entry) (e : Entry) → base_in rows e ≡ 0 → (own e.reading ≡ 0) × (sound rows e ≡ true)
unfolding sound
base_sound rows e z =
    let a = or_else_zero (own e.reading) _ z in
    let b = or_else_zero (cond (shared rows e) (verdict_of 9 0) 0) _ a.1 in
    (a.0, rw (a.0, when_zero (shared rows e) (verdict_of 9 0) (omega arith) b.0))

-- a row with another reason isn't good
pub not_good : (rows : List Entry) (e : Entry) → (base_in rows e ≡ 0 → ⊥) → is_good rows e ≡ false
not_good rows e q = ne_eqb _ _ (λ z. q (or_else_zero (base_in rows e) _ (sym (verdict_split rows e) ∙ z)).0)

-- a well-formed row is sound where it shares no key
sound_unshared : (rows : List Entry) (e : Entry) → own e.reading ≡ 0 → sound rows e ≡ not (shared rows e)
unfolding sound
sound_unshared rows e z = rw z

module _ (rows : List Entry) (w : Arrays) (layer : ℕ → ℕ) (v : Resolved rows w layer)
    (nexts : List ℕ) (are : (i : ℕ) → i < length rows → get_or nexts i no_row ≡ next_of w.sound (code1 w i) (row1 w i)) where
  -- what the arrays say of the reasons before the names
  pub base_is : (i : ℕ) → i < length rows → (circle : ℕ) → circle ≡ flag (comes_to nexts i (length rows) i)
      → base_of (get_or w.own i 0) (get_or w.sound i 0) (get_or w.counts i 0) circle ≡ base_in rows (row_at rows i)
  unfolding base_of
  base_is i p circled c = rw (v.owns i p, v.sounds i p, c, flag_one (comes_to nexts i (length rows) i)) (go (own (row_at rows i).reading) refl)
    where
      nine : (b : Bool) (r : ℕ) → or_else (cond (eqb (flag (not b)) 1) 0 (verdict_of 9 0)) r ≡ or_else (cond b (verdict_of 9 0) 0) r
      nine true r = refl
      nine false r = refl

      go : (k : ℕ) → own (row_at rows i).reading ≡ k
          → or_else k (or_else (cond (eqb (flag (sound rows (row_at rows i))) 1) 0 (verdict_of 9 0))
          (or_else (get_or w.counts i 0) (cond (comes_to nexts i (length rows) i) (verdict_of 12 8) 0)))
          ≡ or_else k (or_else (cond (shared rows (row_at rows i)) (verdict_of 9 0) 0)
          (or_else (first (map (count_cell rows) (facts (row_at rows i)).counts)) (cond (circle rows (row_at rows i)) (verdict_of 12 8) 0)))
      go zero e = rw (sound_unshared rows (row_at rows i) e, v.counted i p e, circle_is rows w layer v nexts are i p e) (nine (shared rows (row_at rows i)) _)
      go (suc k) e = refl

-- ---- names

-- the reason of what a row names in one of its places
abbrev pub cell_in : (rows : List Entry) {code found : ℕ} → (Entry → Bool) → Named rows code found → ℕ
cell_in rows good (absent e) = 0
cell_in rows good (present n e r) = name_cell rows good n

pub cells_in : (rows : List Entry) {c f d g : ℕ} (good : Entry → Bool) (x : Named rows c f) (y : Named rows d g)
    → first (map (name_cell rows good) (names_in x ++ names_in y)) ≡ or_else (cell_in rows good x) (cell_in rows good y)
cells_in rows good (absent e) (absent q) = refl
cells_in rows good (absent e) (present n q r) = or_else_none (name_cell rows good n)
cells_in rows good (present n e r) (absent q) = refl
cells_in rows good (present n e r) (present l q u) = ap (or_else (name_cell rows good n)) (or_else_none (name_cell rows good l))

-- the verdict of a row without other reasons is that of its names
pub names_verdict : (rows : List Entry) {c f d g : ℕ} (e : Entry) → base_in rows e ≡ 0 → (s : Names rows c f d g (facts e).names)
    → verdict rows e ≡ or_else (cell_in rows (is_good rows) s.one) (cell_in rows (is_good rows) s.two)
names_verdict rows e z s =
    verdict_split rows e
    ∙ ap₂ or_else z (ap (λ (l : List Naming). first (map (name_cell rows (is_good rows)) l)) s.are ∙ cells_in rows (is_good rows) s.one s.two)

module _ (rows : List Entry) (w : Arrays) (layer : ℕ → ℕ) (v : Resolved rows w layer) (good : Entry → Bool)
    (fine : (o : Entry) → good o ≡ true → is_good rows o ≡ true) (code found : ℕ) (g : List ℕ)
    (gm : (found ≡ no_row → ⊥) → found < length rows → get_or g found 0 ≡ flag (good (row_at rows found))) where
  abbrev kinds : List ℕ
  kinds = kinds_in rows w

  met_words : (n : Naming) (e : code ≡ 0 → ⊥) (r : Answers rows n code found) → met_at kinds g code found ≡ any good (asked rows n)
  unfolding met_at asked_at
  met_words n e r = rw (ne_eqb code 0 e, met_is rows w layer v n code found r good fine) (go (eqb found no_row) refl)
    where
      go : (b : Bool) → eqb found no_row ≡ b
          → ((not b && is_met_by (get_or kinds found 0) (kind_weight (manner_at code).kind)) && eqb (get_or g found 0) 1)
          ≡ ((not b && is_met_by (get_or kinds found 0) (kind_weight (manner_at code).kind)) && good (row_at rows found))
      go true q = refl
      go false q =
          let some : found ≡ no_row → ⊥ = eqb-false _ _ q in
          rw (gm some (r.there some).0, flag_one (good (row_at rows found)))

  -- a place's reason is that of its naming
  pub cell_is : (x : Named rows code found) → name_at kinds g code found ≡ cell_in rows good x
  unfolding name_at name_cell met_at
  cell_is (absent e) = rw e
  cell_is (present n e r) = rw (met_words n e r, r.column)

  -- and it is met where its naming has no reason
  pub met_cell : (x : Named rows code found) → met_at kinds g code found ≡ eqb (cell_in rows good x) 0
  unfolding name_cell met_at
  met_cell (absent e) = rw e
  met_cell (present n e r) = met_words n e r ∙ go (any good (asked rows n))
    where
      go : (b : Bool) → b ≡ eqb (cond b 0 (verdict_of 11 n.column)) 0
      go true = refl
      go false = sym (ne_eqb (verdict_of 11 n.column) 0 (omega arith))
