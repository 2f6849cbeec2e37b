-- The table at that place of the list; past the last stands ocp.
use mathlib.Core.Path.{◌≡◌, refl, sym}
use mathlib.Core.List.{List, [], ◌∷◌}
use Prim.Native.Nat.{ℕ, zero, suc, ◌<◌}
use native.Mathlib.Nat.{le_of_suc-le-suc, not-suc-le-zero}
use lib.ListN.{length, get_or, get_or-eq_default}
use Rattle.schemas.specs.declared.Table.{Table}
use Rattle.schemas.specs.declared.Table.TheVariants.{Ocp}
use Rattle.verdicts.specs.Entries.{carried}
use Rattle.tables.proofs.kind_of.Goals as goal

-- at a place of the list, whatever stands past the last
same-there : (l : List Table) (i : ℕ) (d e : Table) → i < length l → get_or l i d ≡ get_or l i e
same-there [] i d e h = absurd (not-suc-le-zero h)
same-there (t ∷ l) zero d e h = refl
same-there (t ∷ l) (suc i) d e h = same-there l i d e (le_of_suc-le-suc h)

pub returns-then-t-lt-TABLES : goal.returns-then-t-lt-TABLES
returns-then-t-lt-TABLES c = same-there carried c.args.t _ Ocp c.if-t-lt-TABLES.true

pub returns : goal.returns
returns c = sym (get_or-eq_default carried Ocp {n = c.args.t} c.if-t-lt-TABLES.false)
