-- The severity of a value by the checks that apply.
use Rattle.std.specs.Prelude.{◌≡◌, refl, Bool, true, false, cond, ◌&&◌, ◌||◌, List, [], ◌∷◌, ℤ, pos, negsuc}
use Rattle.std.specs.Int.Signed.{lt_z}
use Rattle.laws.specs.Lists.{any}
use Rattle.name_bytes.specs.Names.{name_of}
use Rattle.rows.specs.declared.letters.CheckType.{CheckType}
use Rattle.rows.specs.declared.letters.CheckType.TheVariants.{Soft, Hard, Delta, Consistency, Event}
use Rattle.rows.specs.declared.records.OcpRow.{OcpRow}
use Rattle.severity.specs.declared.Severity.{Severity}
use Rattle.severity.specs.declared.Severity.TheVariants as is

-- 01: "It is violated by a value below LVALU or above HVALU"
unfoldable pub is_violated : (lvalu hvalu value : ℤ) → Bool
is_violated lvalu hvalu value = lt_z value lvalu || lt_z hvalu value

-- an H check, and an S one
unfoldable pub is_hard : CheckType → Bool
is_hard Soft = false
is_hard Hard = true
is_hard Delta = false
is_hard Consistency = false
is_hard Event = false

unfoldable pub is_soft : CheckType → Bool
is_soft Soft = true
is_soft Hard = false
is_soft Delta = false
is_soft Consistency = false
is_soft Event = false

-- 01: "Hard if an applying H check is violated, else soft if an S one is, else within". `checks` are those that apply
unfoldable pub severity_of : (checks : List OcpRow) → ℤ → Severity
severity_of checks value =
    cond (any (λ (row : OcpRow). is_hard row.check && is_violated row.lvalu row.hvalu value) checks) is.Hard
    (cond (any (λ (row : OcpRow). is_soft row.check && is_violated row.lvalu row.hvalu value) checks) is.Soft
    is.Within)

-- a check from 0 to 10 and one from -5 to 20: 15 violates the first alone, 25 both, and -5 the first
abbrev check : CheckType → (low high : ℤ) → OcpRow
check type low high =
    record { name = name_of []; pos = 0; check = type; lvalu = low; hvalu = high; rlchk = record { given = false; name = name_of [] }; valpar = pos 1 }

abbrev violated_at : ℤ → Severity
violated_at value = severity_of (check Soft (pos 0) (pos 10) ∷ check Hard (negsuc 4) (pos 20) ∷ []) value

pub record Examples : Type 0 where
  pub within : violated_at (pos 10) ≡ is.Within
  pub soft : violated_at (pos 15) ≡ is.Soft
  pub hard : violated_at (pos 25) ≡ is.Hard
  pub low : violated_at (negsuc 4) ≡ is.Soft

pub examples : Examples
unfolding severity_of is_hard is_soft is_violated
examples = record { within = refl; soft = refl; hard = refl; low = refl }
