-- What a check announces.
use Rattle.std.specs.Prelude.{ℕ, ◌≡◌, refl}
use Rattle.rows.specs.declared.letters.CheckType.{CheckType}
use Rattle.rows.specs.declared.letters.CheckType.TheVariants.{Soft, Hard, Delta, Consistency, Event}

-- 01: "announced (0 within, 1 soft, 2 hard)": 2 an H check, 1 an S one, 0 any other
unfoldable pub level_of : CheckType → ℕ
level_of Soft = 1
level_of Hard = 2
level_of Delta = 0
level_of Consistency = 0
level_of Event = 0

example : level_of Hard ≡ 2
unfolding level_of
example = refl
