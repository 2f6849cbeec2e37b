-- What is played over a database that was loaded is played over the tables.
use Prim.Native.Nat.{ℕ}
use mathlib.Core.Path.{◌≡◌, subst}
use mathlib.Core.List.{List}
use Rattle.std.specs.Prelude.{Result, Ok}
use Rattle.outcomes.specs.declared.Refusal.{Refusal}
use Rattle.database.specs.Rows.{Rows}
use Rattle.database.specs.GoodRows.{of_tables}
use Rattle.database.specs.Arrays.{database, answers}
use Rattle.loading.specs.Loaded.{Lent}
use Rattle.full_loading.specs.FullLoads.{FullLoads}
use Rattle.replaying.specs.declared.Standing.{Standing}
use Rattle.replaying.specs.Replayed.{Replayed}

pub replayed_loaded : (texts : List (List ℕ)) (before after : Lent) {r : Result Unit Refusal} → FullLoads texts before after r → {done : Unit} → r ≡ Ok done
    → {name : List ℕ} {s : Standing} → Replayed (answers (database texts after.words after.links after.columns)) name s
    → Replayed (of_tables texts) name s
unfolding FullLoads
replayed_loaded texts before after l e {name} {s} p =
    subst (λ (rows : Rows). Replayed rows name s) (subst (FullLoads texts before after) e l).1 p
