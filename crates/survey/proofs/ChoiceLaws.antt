-- A question by its name.
use Rattle.std.specs.Prelude.{Some, None}
use Rattle.std.proofs.Common.{◌≡◌, ℕ, Bool, true, false, List, sym, ◌∙◌}
use Rattle.laws.specs.Text.{ascii}
use Rattle.name_bytes.specs.Names.{name_of, same_name}
use Rattle.name_bytes.specs.declared.Name.{Name}
use Rattle.surveying.specs.declared.asking.Question.TheVariants.{Identify, Extract, Engineer}
use Rattle.survey.specs.Options.{question_chosen}

-- what two names are found to be, whatever they are made of
pub compared : {r t : Bool} {a b m n : Name} → r ≡ same_name a b → a ≡ m → b ≡ n → r ≡ t → same_name m n ≡ t
compared e p q t = rw (← p, ← q) (sym e ∙ t)

module _ (option : List ℕ) where
  pub chosen_identify : same_name (name_of option) (name_of (ascii "identify")) ≡ true → Some Identify ≡ question_chosen option
  unfolding question_chosen
  chosen_identify e = rw e

  module _ (i : same_name (name_of option) (name_of (ascii "identify")) ≡ false) where
    pub chosen_extract : same_name (name_of option) (name_of (ascii "extract")) ≡ true → Some Extract ≡ question_chosen option
    unfolding question_chosen
    chosen_extract e = rw (i, e)

    module _ (x : same_name (name_of option) (name_of (ascii "extract")) ≡ false) where
      pub chosen_engineer : same_name (name_of option) (name_of (ascii "engineer")) ≡ true → Some Engineer ≡ question_chosen option
      unfolding question_chosen
      chosen_engineer e = rw (i, x, e)

      pub chosen_none : same_name (name_of option) (name_of (ascii "engineer")) ≡ false → None ≡ question_chosen option
      unfolding question_chosen
      chosen_none e = rw (i, x, e)
