-- The polynomial that a parameter's CURTX names.
use Rattle.std.specs.Prelude.{◌≡◌, refl, true, cond, [], ◌∷◌, ℕ, Some, None}
use Rattle.std.specs.Prelude as rust
use Rattle.std.proofs.Math.Option.{Option, none, some}
use Rattle.std.specs.Float.{binary64}
use Rattle.std.specs.Float.Ieee.{mul, div, of_int, of_bits}
use Rattle.laws.specs.Text.{ascii}
use Rattle.notation.specs.Stages.{on_digit, in_digits, stage_after, stage_from, is_coefficient}
use Rattle.notation.specs.Scientific.{with_digit, with_character, scientific_from, parsed, parsed_of}
use Rattle.coefficients.specs.Coefficient.{with_sign, scaled, double_of, valued, coefficient_of}
use Rattle.polynomials.specs.declared.Polynomial.{Polynomial}
use Rattle.name_bytes.specs.Names.{curve_name_of, same_bytes}
use Rattle.lines.specs.Columns.{columns_from, columns_of}
use Rattle.rows.specs.Values.{coefficient_from, coefficient_or_zero}
use Rattle.decoding.specs.Records.{column, caf_row, mcf_row}
use Rattle.rows.specs.declared.records.OptionalCurve.{OptionalCurve}
use Rattle.verdicts.specs.Key.{key_words, same_key, curve}
use Rattle.verdicts.specs.Facts.{caf_facts, mcf_facts, facts_of}
use Rattle.database.specs.Rows.{Row, Rows}
use Rattle.database.specs.GoodRows.{holds_key, find, among}
use Rattle.database.specs.Kinds.{is_polynomial}

-- the polynomial of a row that is one
unfoldable pub polynomial_in : Option Row → rust.Option Polynomial
polynomial_in none = None
polynomial_in (some row) = cond (is_polynomial row) (Some (mcf_row row.bytes).polynomial) None

-- 02, P1: "IDENT shares its keys with caf NUMBR, … and N parameters may name either"
unfoldable pub polynomial_for : Rows → OptionalCurve → rust.Option Polynomial
polynomial_for rows curtx = cond curtx.given (polynomial_in (rows.holder (curve curtx.name))) None

-- one row of this table, which is 0.5 + 2 x in mcf
abbrev in_table : ℕ → Rows
in_table table = among (record { table = table; number = 1; start = 0; bytes = ascii "C\t\t0.5\t2" } ∷ [])

abbrev named : OptionalCurve
named = record { given = true; name = curve_name_of (ascii "C") }

pub record Examples : Type 0 where
  pub in_mcf : polynomial_for (in_table 10) named
      ≡ Some (record {
        pol1 = of_bits binary64 0x3FE0000000000000;
        pol2 = of_bits binary64 0x4000000000000000;
        pol3 = of_bits binary64 0;
        pol4 = of_bits binary64 0;
        pol5 = of_bits binary64 0;
      })
  pub in_caf : polynomial_for (in_table 4) named ≡ None

pub examples : Examples
unfolding
    polynomial_for polynomial_in is_polynomial among find holds_key facts_of caf_facts mcf_facts same_key key_words same_bytes curve_name_of
    caf_row mcf_row column columns_of columns_from coefficient_or_zero coefficient_from coefficient_of valued double_of scaled with_sign
    parsed_of parsed is_coefficient scientific_from with_character with_digit stage_from stage_after in_digits on_digit mul div of_int of_bits
examples = record { in_mcf = refl; in_caf = refl }
