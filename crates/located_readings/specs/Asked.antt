-- What the validity parameter of a row was found to say, where it can be read.
use Rattle.std.specs.Prelude.{◌≡◌, refl, Bool, true, false, ◌&&◌, [], ℤ, pos, Option, Some, None}
use Rattle.name_bytes.specs.Names.{name_of, curve_name_of}
use Rattle.rows.specs.declared.letters.Category.TheVariants.{Numeric}
use Rattle.rows.specs.declared.letters.Nature.TheVariants.{Raw}
use Rattle.rows.specs.declared.records.PcfRow.{PcfRow}
use Rattle.readings.specs.Readings.{same_integer}
use Rattle.located_readings.specs.declared.follow.Asked.{Asked}

-- whether a validity parameter is valid and equals a VALPAR, where it is known which rows' readings are valid.
-- 01: "A validity parameter that can't be read makes it invalid"
unfoldable pub asked_agrees : (PcfRow → Bool) → Option Asked → ℤ → Bool
asked_agrees valid None valpar = false
asked_agrees valid (Some asked) valpar = valid asked.row && same_integer asked.value valpar

-- a row without VALID
abbrev pub plain : PcfRow
plain =
    record {
      name = name_of [];
      ptc = 3;
      pfc = 4;
      valid = record { given = false; name = name_of [] };
      categ = Numeric;
      natur = Raw;
      curtx = record { given = false; name = curve_name_of [] };
      valpar = pos 1;
    }

pub record Examples : Type 0 where
  pub same : asked_agrees (λ _. true) (Some (record { value = pos 5; row = plain })) (pos 5) ≡ true
  pub other : asked_agrees (λ _. true) (Some (record { value = pos 5; row = plain })) (pos 6) ≡ false
  pub unreadable : asked_agrees (λ _. true) None (pos 5) ≡ false

pub examples : Examples
unfolding asked_agrees same_integer
examples = record { same = refl; other = refl; unreadable = refl }
