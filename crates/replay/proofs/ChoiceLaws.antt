-- An option by its name.
use Prim.Native.Nat.{ℕ}
use mathlib.Core.Path.{◌≡◌}
use mathlib.Core.Bool.{true, false}
use mathlib.Core.List.{List}
use Rattle.std.specs.Prelude.{Some, None}
use Rattle.laws.specs.Text.{ascii}
use Rattle.name_bytes.specs.Names.{name_of, same_name}
use Rattle.showing.specs.declared.stretches.Showing.TheVariants.{Runs, Last}
use Rattle.replay.specs.Options.{showing_chosen}

module _ (option : List ℕ) where
  pub chosen_runs : same_name (name_of option) (name_of (ascii "runs")) ≡ true → Some Runs ≡ showing_chosen option
  unfolding showing_chosen
  chosen_runs e = rw e

  module _ (f : same_name (name_of option) (name_of (ascii "runs")) ≡ false) where
    pub chosen_last : same_name (name_of option) (name_of (ascii "last")) ≡ true → Some Last ≡ showing_chosen option
    unfolding showing_chosen
    chosen_last e = rw (f, e)

    pub chosen_none : same_name (name_of option) (name_of (ascii "last")) ≡ false → None ≡ showing_chosen option
    unfolding showing_chosen
    chosen_none e = rw (f, e)
