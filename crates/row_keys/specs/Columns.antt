-- What single columns say of keys.
use Rattle.std.specs.Prelude.{Bool, true, false}
use Rattle.rows.specs.declared.letters.Valid.{Valid}
use Rattle.rows.specs.declared.letters.Valid.TheVariants.{Yes, No}
use Rattle.rows.specs.declared.letters.LimitValue.{LimitValue}
use Rattle.rows.specs.declared.letters.LimitValue.TheVariants as LV

-- 01: "VALID 1 Y/N"
abbrev pub is_yes : Valid → Bool
is_yes Yes = true
is_yes No = false

-- 01: "INTER 1! U/C"
abbrev pub is_engineering : LimitValue → Bool
is_engineering LV.Raw = false
is_engineering LV.Engineering = true
