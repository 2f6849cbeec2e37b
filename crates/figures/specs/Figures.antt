-- 01: "Marked figures are proved of the definitions as a single table with one claim".
use Rattle.std.specs.Prelude.{◌≡◌, refl, List, [], ◌∷◌, map, ℕ, ◌+◌, ◌*◌, ℤ, pos, negsuc}
use Rattle.std.proofs.Math.Option.{Option, none, some}
use Prim.Native.String.{String}
use Rattle.laws.specs.Said.{Said, value, refused, free}
use Rattle.laws.specs.Text.{ascii}
use Rattle.numbers.specs.Number.{digit_of, digit_on, after, spelt, meaning, number_of}
use Rattle.fields.specs.Bits.{bit_at, number_at}
use Rattle.fields.specs.Place.{bit_inside, inside}
use Rattle.fields.specs.Field.{is_width, field_at, unsigned_at}
use Rattle.fields.specs.Sign.{complement_of, signed_at}
use Rattle.fields.specs.Figures.{packet}
use Rattle.outcomes.specs.Outcome as outcome
use Rattle.outcomes.specs.Outcome.{Outcome, answer}
use Rattle.headers.specs.Header as header
use Rattle.headers.specs.Header.{head_of}
use Rattle.five_numbers.specs.Numbers.{type_of, subtype_of}
use Rattle.headers.specs.declared.Head.{Head}
use Rattle.rows.specs.declared.letters.OffEnds.{OffEnds}
use Rattle.rows.specs.declared.letters.OffEnds.TheVariants.{Extrapolate, Refuse}
use Rattle.curves.specs.Floor.{floor_div}
use Rattle.curves.specs.Line.{is_between, is_coordinate, is_point, is_segment, is_raw, height_at, result_of, line_at}
use Rattle.calibration.specs.Nearest.{passes, nearer, closer, better, nearest_of, not_above, below, above}
use Rattle.calibration.specs.Curve.{point_numbered, through, off_end, from_last, before_first, placed, curve_at}

-- 01: "Curve (0,0), (10,−5), (20,100)"
unfoldable pub curve_xs : List ℤ
curve_xs = pos 0 ∷ pos 10 ∷ pos 20 ∷ []

unfoldable pub curve_ys : List ℤ
curve_ys = pos 0 ∷ negsuc 4 ∷ pos 100 ∷ []

-- the APID, type or subtype of 01's packet; a field of it by width, byte and bit of that byte;
-- the curve at a raw value, under
-- P (extrapolate) or F (refuse); or the number that a text is
pub data Asked : Type 0 where
  apid ptype subtype : Asked
  unsigned signed : (width byte bit : ℕ) → Asked
  curve : OffEnds → (raw : ℤ) → Asked
  number : String → Asked

-- a number of a packet by its header, where that isn't refused
unfoldable pub by_head : (Head → ℕ) → Outcome Head → Said
by_head tell (outcome.refused n place) = refused n
by_head tell (answer head) = value (pos (tell head))

-- a text that is no number has no value
unfoldable pub value_in : Option ℤ → Said
value_in none = free
value_in (some z) = value z

-- what the definitions answer
unfoldable pub figure_told : Asked → Said
figure_told apid = by_head (λ (head : Head). head.apid) (head_of packet)
figure_told ptype = by_head (λ (head : Head). type_of head packet) (head_of packet)
figure_told subtype = by_head (λ (head : Head). subtype_of head packet) (head_of packet)
figure_told (unsigned width byte bit) = unsigned_at packet (8 * byte + bit) width
figure_told (signed width byte bit) = signed_at packet (8 * byte + bit) width
figure_told (curve ends raw) = curve_at ends curve_xs curve_ys raw
figure_told (number text) = value_in (number_of (ascii text))

-- 01: "Figures to hold it to († proved together)"
unfoldable pub figures : List (Asked × Said)
figures =
    -- "APID 10, type 3, subtype 25"
    (apid, value (pos 10))
    ∷ (ptype, value (pos 3))
    ∷ (subtype, value (pos 25))
    -- "Unsigned 16 at byte 12: 4,660"
    ∷ (unsigned 16 12 0, value (pos 4660))
    -- "Signed 8 at byte 10: −1"
    ∷ (signed 8 10 0, value (negsuc 0))
    -- "Unsigned 4 at byte 11, bit 4: 5"; "signed 4 at bit 0: −8"
    ∷ (unsigned 4 11 4, value (pos 5))
    ∷ (signed 4 11 0, value (negsuc 7))
    -- "Unsigned 12 at byte 10, bit 4: 3,973"
    ∷ (unsigned 12 10 4, value (pos 3973))
    -- "24 bits at byte 11 fit": they are 85 12 34; "from bit 1: 28"
    ∷ (unsigned 24 11 0, value (pos 0x851234))
    ∷ (unsigned 24 11 1, refused 28)
    -- "16 bits at byte 13: 28"
    ∷ (unsigned 16 13 0, refused 28)
    -- "3 gives −2"; "15 gives 47": between neighbours, so under F too
    ∷ (curve Refuse (pos 3), value (negsuc 1))
    ∷ (curve Refuse (pos 15), value (pos 47))
    -- "25 gives 152 under P; 30 under F"
    ∷ (curve Extrapolate (pos 25), value (pos 152))
    ∷ (curve Refuse (pos 25), refused 30)
    -- "0x12F4 is 4,852"; "0767 is 503"
    ∷ (number "0x12F4", value (pos 4852))
    ∷ (number "0767", value (pos 503))
    ∷ []

-- every figure is what the definitions answer
pub figures_hold : map (λ (f : Asked × Said). figure_told f.0) figures ≡ map (λ (f : Asked × Said). f.1) figures
unfolding
    figures figure_told packet by_head head_of header.version header.type_bit header.flagged header.apid header.sequence_count header.length_field
    unsigned_at signed_at complement_of field_at is_width inside bit_inside number_at bit_at
    curve_xs curve_ys curve_at placed from_last before_first off_end through point_numbered not_above below above nearest_of better closer nearer passes
    line_at is_segment is_point is_coordinate is_raw is_between result_of height_at floor_div
    value_in number_of meaning spelt after digit_on digit_of
figures_hold = refl
