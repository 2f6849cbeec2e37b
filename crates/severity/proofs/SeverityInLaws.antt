-- The severity of a value by the checks of arrays, one check after the other.
use mathlib.Core.Path.{◌≡◌, refl, sym, ap, ap₂, ◌∙◌}
use mathlib.Core.Bool.{Bool, true, false, cond, ◌&&◌, ◌||◌}
use mathlib.Core.List.{List, [], ◌∷◌, ◌++◌, map}
use Prim.Native.Nat.{ℕ, zero, suc, ◌+◌, ◌≤◌, ◌<◌}
use native.Mathlib.Omega.{arith}
use lib.Dec.{eqb}
use lib.IntN.{ℤ, pos}
use lib.ListN.{length, get_or, take, drop, set, drop_of_length-le}
use lib.Seq.{get_or-drop, drop-drop}
use native.Mathlib.Nat.{add-zero}
use borrow.Author.Tests.{eq-eqb, ne_eqb}
use Rattle.laws.specs.Lists.{any}
use Rattle.laws.proofs.Lists.{split}
use Rattle.laws.proofs.Cases.{and_false, or_right}
use Rattle.rows.specs.declared.letters.CheckType.{CheckType}
use Rattle.rows.specs.declared.letters.CheckType.TheVariants.{Soft, Hard, Delta, Consistency, Event}
use Rattle.rows.specs.declared.records.OcpRow.{OcpRow}
use Rattle.severity.specs.Violations.{is_violated, is_hard, is_soft, severity_of}
use Rattle.severity.specs.Levels.{level_of}
use Rattle.severity.specs.Checks.{Check, check_of, checks_in, violates, severity_in}
use Rattle.severity.specs.declared.Severity.{Severity}
use Rattle.severity.specs.declared.Severity.TheVariants as is

-- the severity by the checks left, where a soft one was violated before or none
unfoldable pub severity_left : ℤ → Bool → List Check → Severity
severity_left value soft left = cond (any (violates 2 value) left) is.Hard (cond (soft || any (violates 1 value) left) is.Soft is.Within)

-- The next check

module _ (value : ℤ) (soft : Bool) (check : Check) (left : List Check) where
  next_within : is_violated check.low check.high value ≡ false → severity_left value soft (check ∷ left) ≡ severity_left value soft left
  unfolding severity_left violates
  next_within f = rw (f, and_false (eqb check.level 2), and_false (eqb check.level 1))

  module _ (t : is_violated check.low check.high value ≡ true) where
    next_hard : check.level ≡ 2 → severity_left value soft (check ∷ left) ≡ is.Hard
    unfolding severity_left violates
    next_hard e = rw (t, eq-eqb check.level 2 e)

    next_soft : (check.level ≡ 2 → ⊥) → check.level ≡ 1 → severity_left value soft (check ∷ left) ≡ severity_left value true left
    unfolding severity_left violates
    next_soft n e = rw (t, ne_eqb check.level 2 n, eq-eqb check.level 1 e, or_right soft {b = true} refl)

    next_other : (check.level ≡ 2 → ⊥) → (check.level ≡ 1 → ⊥) → severity_left value soft (check ∷ left) ≡ severity_left value soft left
    unfolding severity_left violates
    next_other n m = rw (t, ne_eqb check.level 2 n, ne_eqb check.level 1 m)

-- The same as arrays hold the checks

module _ (lows highs : List ℤ) (levels : List ℕ) (value : ℤ) where
  -- with the checks from i on, the severity is that by all
  abbrev pub Found : Bool → ℕ → Type 0
  Found soft i = severity_left value soft (checks_in (drop i lows) (drop i highs) (drop i levels)) ≡ severity_in (checks_in lows highs levels) value

  pub from_start : Found false 0
  unfolding severity_in severity_left
  from_start = refl

  module _ (soft : Bool) (i : ℕ) (k : Found soft i) where
    pub end_soft : length levels ≤ i → soft ≡ true → is.Soft ≡ severity_in (checks_in lows highs levels) value
    unfolding severity_left checks_in
    end_soft h t = rw (drop_of_length-le levels {i = i} h, t) at k

    pub end_within : length levels ≤ i → soft ≡ false → is.Within ≡ severity_in (checks_in lows highs levels) value
    unfolding severity_left checks_in
    end_within h f = rw (drop_of_length-le levels {i = i} h, f) at k

    module _ (h : i < length levels) {low high : ℤ} {b : Bool} (l : low ≡ get_or lows i (pos 0)) (g : high ≡ get_or highs i (pos 0))
        (e : b ≡ is_violated low high value) where
      abbrev next : Check
      next = record { level = get_or levels i 0; low = get_or lows i (pos 0); high = get_or highs i (pos 0) }

      abbrev left : List Check
      left = checks_in (drop (i + 1) lows) (drop (i + 1) highs) (drop (i + 1) levels)

      there : checks_in (drop i lows) (drop i highs) (drop i levels) ≡ next ∷ left
      unfolding checks_in
      there = rw (split levels i 0 h, get_or-drop i lows 0 (pos 0), get_or-drop i highs 0 (pos 0), drop-drop 1 i lows, drop-drop 1 i highs, add-zero i)

      on : severity_left value soft (next ∷ left) ≡ severity_in (checks_in lows highs levels) value
      on = ap (severity_left value soft) (sym there) ∙ k

      violated_is : is_violated (get_or lows i (pos 0)) (get_or highs i (pos 0)) value ≡ b
      violated_is = sym (e ∙ ap₂ (λ (x y : ℤ). is_violated x y value) l g)

      pub hard_found : b ≡ true → get_or levels i 0 ≡ 2 → is.Hard ≡ severity_in (checks_in lows highs levels) value
      hard_found t two = sym (next_hard value soft next left (violated_is ∙ t) two) ∙ on

      pub soft_found : b ≡ true → (get_or levels i 0 ≡ 2 → ⊥) → get_or levels i 0 ≡ 1 → Found true (i + 1)
      soft_found t n one = sym (next_soft value soft next left (violated_is ∙ t) n one) ∙ on

      pub other_found : b ≡ true → (get_or levels i 0 ≡ 2 → ⊥) → (get_or levels i 0 ≡ 1 → ⊥) → Found soft (i + 1)
      other_found t n m = sym (next_other value soft next left (violated_is ∙ t) n m) ∙ on

      pub within_found : b ≡ false → Found soft (i + 1)
      within_found f = sym (next_within value soft next left (violated_is ∙ f)) ∙ on

-- Over the checks of ocp rows it is their severity

level_hard : (check : CheckType) → eqb (level_of check) 2 ≡ is_hard check
unfolding level_of is_hard
level_hard Soft = refl
level_hard Hard = refl
level_hard Delta = refl
level_hard Consistency = refl
level_hard Event = refl

level_soft : (check : CheckType) → eqb (level_of check) 1 ≡ is_soft check
unfolding level_of is_soft
level_soft Soft = refl
level_soft Hard = refl
level_soft Delta = refl
level_soft Consistency = refl
level_soft Event = refl

module _ (value : ℤ) where
  any_hard : (rows : List OcpRow)
      → any (violates 2 value) (map check_of rows) ≡ any (λ (row : OcpRow). is_hard row.check && is_violated row.lvalu row.hvalu value) rows
  unfolding violates check_of
  any_hard [] = refl
  any_hard (row ∷ rows) = rw (level_hard row.check, any_hard rows)

  any_soft : (rows : List OcpRow)
      → any (violates 1 value) (map check_of rows) ≡ any (λ (row : OcpRow). is_soft row.check && is_violated row.lvalu row.hvalu value) rows
  unfolding violates check_of
  any_soft [] = refl
  any_soft (row ∷ rows) = rw (level_soft row.check, any_soft rows)

  pub of_rows : (rows : List OcpRow) → severity_in (map check_of rows) value ≡ severity_of rows value
  unfolding severity_in severity_of
  of_rows rows = rw (any_hard rows, any_soft rows)

-- a check more, stored behind the others
pub stored_more : (lows highs : List ℤ) (levels : List ℕ) (n : ℕ) (low high : ℤ) (level : ℕ) → n < length lows → n < length highs → n < length levels
    → checks_in (set lows n low) (set highs n high) (take (suc n) (set levels n level))
    ≡ checks_in lows highs (take n levels) ++ record { level = level; low = low; high = high } ∷ []
unfolding checks_in
stored_more [] highs levels n low high level a b c = absurd (omega arith)
stored_more (x ∷ xs) [] levels n low high level a b c = absurd (omega arith)
stored_more (x ∷ xs) (y ∷ ys) [] n low high level a b c = absurd (omega arith)
stored_more (x ∷ xs) (y ∷ ys) (v ∷ vs) zero low high level a b c = refl
stored_more (x ∷ xs) (y ∷ ys) (v ∷ vs) (suc n) low high level a b c =
    ap (λ (later : List Check). record { level = v; low = x; high = y } ∷ later)
    (stored_more xs ys vs n low high level (omega arith) (omega arith) (omega arith))
