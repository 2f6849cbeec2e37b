-- How packets are shown, by the program's option.
use Rattle.std.specs.Prelude.{ℕ, ◌≡◌, refl, cond, List, Option, Some, None}
use Rattle.laws.specs.Text.{ascii}
use Rattle.name_bytes.specs.Names.{name_of, same_bytes, same_name}
use Rattle.showing.specs.declared.stretches.Showing.{Showing}
use Rattle.showing.specs.declared.stretches.Showing.TheVariants.{Runs, Last}

unfoldable pub showing_chosen : List ℕ → Option Showing
showing_chosen option =
    cond (same_name (name_of option) (name_of (ascii "runs"))) (Some Runs)
    (cond (same_name (name_of option) (name_of (ascii "last"))) (Some Last) None)

pub record Examples : Type 0 where
  pub runs : showing_chosen (ascii "runs") ≡ Some Runs
  pub last : showing_chosen (ascii "last") ≡ Some Last
  pub other : showing_chosen (ascii "run") ≡ None

pub examples : Examples
unfolding showing_chosen name_of same_name same_bytes
examples = record { runs = refl; last = refl; other = refl }
