-- The checks that apply, as numbers, and the severity of a value by them.
use Rattle.std.specs.Prelude.{ℕ, ◌≡◌, refl, Bool, cond, ◌&&◌, List, [], ◌∷◌, eqb, ℤ, pos, negsuc, get_or, drop}
use Rattle.laws.specs.Lists.{any}
use Rattle.rows.specs.declared.records.OcpRow.{OcpRow}
use Rattle.severity.specs.Violations.{is_violated}
use Rattle.severity.specs.Levels.{level_of}
use Rattle.severity.specs.declared.Severity.{Severity}
use Rattle.severity.specs.declared.Severity.TheVariants.{Within, Soft, Hard}

-- LVALU, HVALU, and what the check announces: 2 an H check, 1 an S one, any other number no severity
pub record Check : Type 0 where
  pub level : ℕ
  pub low : ℤ
  pub high : ℤ

-- the check of an ocp row
unfoldable pub check_of : OcpRow → Check
check_of row = record { level = level_of row.check; low = row.lvalu; high = row.hvalu }

-- the checks of three arrays: as many as there are levels; past the end of the others a limit is 0
unfoldable pub checks_in : (lows highs : List ℤ) (levels : List ℕ) → List Check
checks_in lows highs [] = []
checks_in lows highs (level ∷ later) =
    record { level = level; low = get_or lows 0 (pos 0); high = get_or highs 0 (pos 0) } ∷ checks_in (drop 1 lows) (drop 1 highs) later

-- a check of this level is violated
unfoldable pub violates : (level : ℕ) → ℤ → Check → Bool
violates level value check = eqb check.level level && is_violated check.low check.high value

-- 01: "Hard if an applying H check is violated, else soft if an S one is, else within". `checks` are those that apply
unfoldable pub severity_in : (checks : List Check) → ℤ → Severity
severity_in checks value = cond (any (violates 2 value) checks) Hard (cond (any (violates 1 value) checks) Soft Within)

-- a soft check from 0 to 10, a hard one from -5 to 20, and one of no severity from 10 to 10:
-- 15 violates the first, 25 the second too, and -5 the first
abbrev checked_at : ℤ → Severity
checked_at value = severity_in (checks_in (pos 0 ∷ negsuc 4 ∷ pos 10 ∷ []) (pos 10 ∷ pos 20 ∷ pos 10 ∷ []) (1 ∷ 2 ∷ 0 ∷ [])) value

pub record Examples : Type 0 where
  pub within : checked_at (pos 9) ≡ Within
  pub soft : checked_at (pos 15) ≡ Soft
  pub hard : checked_at (pos 25) ≡ Hard
  pub low : checked_at (negsuc 4) ≡ Soft
  -- limits that the arrays don't hold are 0
  pub no_limits_lem : severity_in (checks_in [] [] (2 ∷ [])) (pos 1) ≡ Hard

pub examples : Examples
unfolding severity_in checks_in violates is_violated
examples = record { within = refl; soft = refl; hard = refl; low = refl; no_limits_lem = refl }
