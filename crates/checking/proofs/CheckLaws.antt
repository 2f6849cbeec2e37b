-- The checks that apply in a packet, one row of ocp after the other.
use mathlib.Core.Path.{◌≡◌, refl, sym, ap, ◌∙◌}
use mathlib.Core.Bool.{Bool, true, false}
use mathlib.Core.List.{List, [], ◌∷◌, ◌++◌, map, map-map, append_assoc, append-nil}
use Prim.Native.Nat.{ℕ, ◌+◌, ◌≤◌, ◌<◌}
use native.Mathlib.Omega.{arith}
use native.Mathlib.Numerals.{add-one}
use lib.IntN.{ℤ}
use lib.ListN.{length, get_or, take, drop, set, length-set, drop_of_length-le}
use Rattle.laws.specs.Lists.{keep}
use Rattle.laws.proofs.Lists.{split}
use Rattle.name_bytes.specs.declared.Name.{Name}
use Rattle.decoding.specs.Records.{ocp_row}
use Rattle.rows.specs.declared.records.OcpRow.{OcpRow}
use Rattle.verdicts.specs.Key.{limits}
use Rattle.database.specs.Rows.{Row}
use Rattle.database.specs.Arrays.{database, row_at, answers}
use Rattle.database.proofs.GatherLaws.{Listed}
use Rattle.severity.specs.Levels.{level_of}
use Rattle.severity.specs.Checks.{Check, check_of, checks_in}
use Rattle.severity.proofs.SeverityInLaws.{stored_more}
use Rattle.applying.specs.Checks.{checks_of}
use Rattle.checking.specs.Room.{Room}

module _ (texts : List (List ℕ)) (columns : List ℕ) (passes : OcpRow → Bool) where
  abbrev pub counting : (places : List ℕ) → List Check
  counting places = map check_of (keep passes (map (λ i. ocp_row (row_at texts columns i).bytes) places))

  -- with the checks of the places left, those stored are those of all places
  pub record Filling (places : List ℕ) (lows highs : List ℤ) (levels : List ℕ) (n i : ℕ) : Type 0 where
    pub few : n ≤ i
    pub within : i ≤ length places
    pub short : length places ≤ 1024
    pub checks : checks_in lows highs (take n levels) ++ counting (drop i places) ≡ counting places
    pub room : Room lows highs levels

  pub fill_start : (places : List ℕ) (lows highs : List ℤ) (levels : List ℕ) → length places ≤ 1024 → Room lows highs levels
      → Filling places lows highs levels 0 0
  unfolding checks_in
  fill_start places lows highs levels s r = record { few = omega arith; within = omega arith; short = s; checks = refl; room = r }

  module _ {places : List ℕ} {lows highs : List ℤ} {levels : List ℕ} {n i : ℕ} (f : Filling places lows highs levels n i) where
    module _ (h : i < length places) {row : OcpRow} (e : row ≡ ocp_row (row_at texts columns (get_or places i 0)).bytes) where
      read : ocp_row (row_at texts columns (get_or places i 0)).bytes ≡ row
      read = sym e

      with_row : passes row ≡ true → counting (drop i places) ≡ check_of row ∷ counting (drop (i + 1) places)
      with_row t = rw (split places i 0 h, read, t)

      without_row : passes row ≡ false → counting (drop i places) ≡ counting (drop (i + 1) places)
      without_row t = rw (split places i 0 h, read, t)

      stored : {low high : ℤ} {level : ℕ} → low ≡ row.lvalu → high ≡ row.hvalu → level ≡ level_of row.check
          → checks_in (set lows n low) (set highs n high) (take (n + 1) (set levels n level)) ≡ checks_in lows highs (take n levels) ++ check_of row ∷ []
      unfolding check_of
      stored a b c =
          let room : n < 1024 = omega (arith, f.few, f.short) in
          rw (a, b, c, add-one n)
          (stored_more lows highs levels n row.lvalu row.hvalu (level_of row.check)
          (omega (arith, f.room.low)) (omega (arith, f.room.high)) (omega (arith, f.room.level)))

      pub fill_more : {b : Bool} {low high : ℤ} {level : ℕ} → b ≡ passes row → b ≡ true → low ≡ row.lvalu → high ≡ row.hvalu → level ≡ level_of row.check
          → Filling places (set lows n low) (set highs n high) (set levels n level) (n + 1) (i + 1)
      fill_more {low = low} {high = high} {level = level} q t x y z =
          record {
            few = omega (arith, f.few);
            within = omega arith;
            short = f.short;
            checks =
                rw (stored x y z, append_assoc (checks_in lows highs (take n levels)) (check_of row ∷ []) (counting (drop (i + 1) places)))
                (ap (λ (later : List Check). checks_in lows highs (take n levels) ++ later) (sym (with_row (sym q ∙ t))) ∙ f.checks);
            room =
                record {
                  low = length-set lows n low ∙ f.room.low;
                  high = length-set highs n high ∙ f.room.high;
                  level = length-set levels n level ∙ f.room.level;
                };
          }

      pub fill_other : {b : Bool} → b ≡ passes row → b ≡ false → Filling places lows highs levels n (i + 1)
      fill_other q t =
          record {
            few = omega (arith, f.few);
            within = omega arith;
            short = f.short;
            checks = ap (λ (later : List Check). checks_in lows highs (take n levels) ++ later) (sym (without_row (sym q ∙ t))) ∙ f.checks;
            room = f.room;
          }

    pub fill_done : length places ≤ i → checks_in lows highs (take n levels) ≡ counting places
    fill_done h = sym (append-nil (checks_in lows highs (take n levels))) ∙ (rw (drop_of_length-le places {i = i} h) at f.checks)

-- the checks of the places that were listed are the parameter's
pub listed_checks : {texts : List (List ℕ)} {words links columns : List ℕ} {name : Name} {places : List ℕ} {n : ℕ} (passes : OcpRow → Bool)
    → Listed texts words links columns (limits name) places n
    → counting texts columns passes (take n places) ≡ map check_of (keep passes (checks_of (answers (database texts words links columns)) name))
unfolding checks_of
listed_checks {texts} {words} {links} {columns} {name} {places} {n} passes l =
    let line : Row → OcpRow = λ row. ocp_row row.bytes in
    ap (λ (rows : List OcpRow). map check_of (keep passes rows)) (sym (map-map line (row_at texts columns) (take n places)) ∙ ap (map line) l.rows)
