-- The walk from a row's start in its table divides the row.
use mathlib.Core.Path.{◌≡◌, ap, ap₂, ◌∙◌}
use mathlib.Core.Bool.{true}
use mathlib.Core.List.{List, []}
use Prim.Native.Nat.{ℕ}
use lib.ListN.{length, drop, replicate}
use lib.Seq.{sets, length-sets}
use Rattle.lines.specs.Lines.{line_from}
use Rattle.lines.specs.Columns.{ends_of, part_of, column_in, walked, scanned}
use Rattle.lines.specs.declared.columns.Scanned.{Scanned}
use Rattle.rows.specs.Values.{natural_or}
use Rattle.decoding.specs.Records.{pid_row, plf_row}
use Rattle.decoding.proofs.PlaceLaws.{pid_divided, plf_divided}
use Rattle.lines.proofs.WalkedLaws.{walked_over, line_is, ends_are}
use Rattle.verdicts.specs.Places.{text_at}
use Rattle.raw_values.specs.RawValues.{location_of}
use Rattle.raw_values.specs.declared.place.Location.{Location}
use Rattle.key_symbols.specs.declared.FiveNumbers.{FiveNumbers}
use Rattle.database.specs.Packets.{five_of, numbers_in}
use Rattle.database.specs.Arrays.{row_at}
use Rattle.found_rows.specs.Divided.{DividedRow}

module _ {texts : List (List ℕ)} {columns : List ℕ} {i : ℕ} {text line before ends : List ℕ} {start : ℕ} {walk : Scanned} where
  pub row_divided : text ≡ text_at texts (row_at [] columns i).table → start ≡ (row_at [] columns i).start → walk ≡ scanned true text start
      → line ≡ part_of text start walk.end → before ≡ replicate 24 0 → ends ≡ sets before 0 (ends_of (walked true (drop start text)))
      → DividedRow texts columns i line ends
  unfolding row_at
  row_divided t s w l b e =
      let told : List ℕ = ends_of (walked true (drop start text)) in
      let kept : ends ≡ sets (replicate 24 0) 0 told = e ∙ ap (λ (z : List ℕ). sets z 0 told) b in
      let over = walked_over w l kept in
      record {
        is_line = line_is over ∙ ap₂ (λ (x : List ℕ) (a : ℕ). (line_from x a).bytes) t s;
        are_ends = ends_are over;
        room = ap length kept ∙ length-sets (replicate 24 0) 0 told;
      }

module _ {texts : List (List ℕ)} {columns : List ℕ} {i : ℕ} {line ends : List ℕ} (d : DividedRow texts columns i line ends) where
  pub found : {A : Type 0} (read : List ℕ → A) {row : A} → row ≡ read line → row ≡ read (row_at texts columns i).bytes
  found read e = e ∙ ap read d.is_line

  -- the four numbers of a plf row
  pub location_found : {offby offbi nbocc lgocc : ℕ} → offby ≡ natural_or 0 (column_in line ends 2) → offbi ≡ natural_or 0 (column_in line ends 3)
      → nbocc ≡ natural_or 1 (column_in line ends 4) → lgocc ≡ natural_or 0 (column_in line ends 5)
      → ◌≡◌ {A = Location} record { offby = record { 0 = offby }; offbi = record { 0 = offbi }; nbocc = nbocc; lgocc = record { 0 = lgocc } }
      (location_of (plf_row (row_at texts columns i).bytes))
  unfolding location_of
  location_found a b n l = found (λ (bytes : List ℕ). location_of (plf_row bytes)) (rw (a, b, n, l) (ap location_of (plf_divided line d.are_ends)))

  -- the five numbers of a pid row
  pub numbers_found : {ptype stype apid pi1 pi2 : ℕ} → ptype ≡ natural_or 0 (column_in line ends 0) → stype ≡ natural_or 0 (column_in line ends 1)
      → apid ≡ natural_or 0 (column_in line ends 2) → pi1 ≡ natural_or 0 (column_in line ends 3) → pi2 ≡ natural_or 0 (column_in line ends 4)
      → ◌≡◌ {A = FiveNumbers} record { ptype = ptype; stype = stype; apid = apid; pi1 = pi1; pi2 = pi2 } (numbers_in (row_at texts columns i))
  unfolding numbers_in
  numbers_found a b c e f =
      found (λ (bytes : List ℕ). five_of (pid_row bytes)) (rw (a, b, c, e, f) (ap five_of (pid_divided line d.are_ends)))
