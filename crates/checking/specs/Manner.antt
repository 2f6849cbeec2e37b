-- How the readings of a parameter are checked, as the code holds it.
use Rattle.std.specs.Prelude.{ℕ, ◌≡◌, refl, true, false, List, [], ℤ, pos, length, replicate}
use Rattle.name_bytes.specs.Names.{name_of, curve_name_of}
use Rattle.rows.specs.declared.letters.Category.TheVariants.{Numeric}
use Rattle.rows.specs.declared.letters.LimitCoding.TheVariants.{Integer}
use Rattle.rows.specs.declared.letters.LimitValue.TheVariants.{Raw}
use Rattle.rows.specs.declared.letters.Nature.TheVariants as nature
use Rattle.rows.specs.declared.records.OcfRow.{OcfRow}
use Rattle.rows.specs.declared.records.PcfRow.{PcfRow}
use Rattle.database.specs.Rows.{Rows}
use Rattle.database.specs.GoodRows.{among}
use Rattle.readings.specs.Readings.{valid_within, validity}
use Rattle.curve_values.specs.Scale.{scale_in}
use Rattle.curve_values.specs.declared.scale.Scale.TheVariants.{AsRead}
use Rattle.occurrences.specs.Values.{scale_under}
use Rattle.occurrences.specs.declared.Manner.{Manner}

-- NBCHCK, whether its readings are valid, and its scale, whose curve stands in two arrays
pub record MannerOf (rows : Rows) (p : List ℕ) (spid : ℕ) (ocf : OcfRow) (pcf : PcfRow) (r : Manner) (xs ys : List ℤ) : Type 0 where
  pub nbchck : r.nbchck ≡ ocf.nbchck
  pub valid : r.valid ≡ validity rows p spid pcf
  pub scale : scale_in r.scale xs ys ≡ scale_under rows ocf.inter pcf.curtx
  pub long : (length xs ≡ 1024) × (length ys ≡ 1024)

-- NBCHCK 2 under INTER U, of a parameter without VALID
abbrev limits : OcfRow
limits = record { name = name_of []; nbchck = 2; nbool = 1; inter = Raw; codin = Integer }

abbrev plain_row : PcfRow
plain_row =
    record {
      name = name_of [];
      ptc = 3;
      pfc = 4;
      valid = record { given = false; name = name_of [] };
      categ = Numeric;
      natur = nature.Raw;
      curtx = record { given = false; name = curve_name_of [] };
      valpar = pos 1;
    }

pub example : MannerOf (among []) [] 7 limits plain_row (record { nbchck = 2; valid = true; scale = AsRead }) (replicate 1024 (pos 0)) (replicate 1024 (pos 0))
unfolding validity valid_within scale_in scale_under
example = record { nbchck = refl; valid = refl; scale = refl; long = (refl, refl) }
