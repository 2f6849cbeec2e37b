-- The integer of an occurrence, by its raw value.
use mathlib.Core.Path.{◌≡◌, sym, ap, ◌∙◌}
use lib.IntN.{ℤ}
use Rattle.std.specs.Prelude.{Result, Ok, Err}
use Rattle.outcomes.specs.Outcome.{Outcome, answer, and_then}
use Rattle.outcomes.specs.Values.{Value, value_of}
use Rattle.outcomes.specs.Refusals.{said, refused_by}
use Rattle.outcomes.specs.declared.Refusal.{Refusal}
use Rattle.outcomes.specs.declared.Value as code
use Rattle.raw_values.specs.RawValues.{said_raw}
use Rattle.occurrences.specs.Values.{integer_in}

module _ {raw : Outcome Value} {read : Result code.Value Refusal} (is : said_raw read ≡ raw) where
  pub unread : {refusal : Refusal} → read ≡ Err refusal → and_then raw integer_in ≡ refused_by refusal
  unfolding said_raw and_then refused_by
  unread e = rw (← is, e)

  module _ {value : code.Value} (e : read ≡ Ok value) {number : Result ℤ Refusal} (integer : said number ≡ integer_in (value_of value)) where
    pub number_answered : {z : ℤ} → number ≡ Ok z → and_then raw integer_in ≡ answer z
    unfolding said_raw said and_then
    number_answered q = rw (← is, e) (sym integer ∙ ap said q)

    pub no_integer : {refusal : Refusal} → number ≡ Err refusal → and_then raw integer_in ≡ refused_by refusal
    unfolding said_raw said and_then
    no_integer q = rw (← is, e) (sym integer ∙ ap said q)
