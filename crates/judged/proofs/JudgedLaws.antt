-- The cells that the passes leave are the definition's verdicts.
use mathlib.Core.Path.{◌≡◌, refl, ap, ◌∙◌}
use mathlib.Core.List.{List, map}
use Prim.Native.Nat.{ℕ, zero, suc, ◌≤◌, ◌<◌}
use native.Mathlib.Omega.{arith}
use lib.Dec.{eqb}
use lib.ListN.{length, get_or, replicate, length-replicate}
use lib.Seq.{sets, length-sets}
use Rattle.laws.specs.Prefix.{flag}
use Rattle.laws.specs.Values.{tabulate}
use Rattle.laws.proofs.Values.{written_at, any_default}
use Rattle.arrays.specs.Room.{most_places}
use Rattle.symbols.specs.declared.Symbol.{Symbol}
use Rattle.symbols.specs.Arrays.{symbols, most_symbols}
use Rattle.symbols.proofs.FindLaws.{symbols_length}
use Rattle.verdicts.specs.Entries.{Entry, own}
use Rattle.verdicts.specs.Verdicts.{verdict}
use Rattle.chain_steps.specs.Chains.{no_row}
use Rattle.meaning.specs.Kept.{kept_entry}
use Rattle.meaning.specs.Judging.{Judged}
use Rattle.meaning.proofs.PassLaws.{Fresh, judged}
use Rattle.judging.proofs.Meaning.{judged_are}
use Rattle.kept.specs.Stored.{at, key1_column, key2_column, name1_column, name2_column, group_column, kept_number_column, count_column}
use Rattle.findings.specs.Found.{row_linked, count_finding}
use Rattle.judged.specs.Passes.{column_of, formed_by, FoundBy, JudgedInto}
use Rattle.judged.proofs.Held.{coding, Held, column_at_lem}
use Rattle.judged.proofs.KeptLaws.{own_kept, kept}
use Rattle.judged.proofs.ResolvedLaws.{Passed, arrays, resolved}

-- an array of zeros has 0 at every place
zero_at_lem : (n j : ℕ) → get_or (replicate {A = ℕ} n 0) j 0 ≡ 0
zero_at_lem zero j = refl
zero_at_lem (suc n) zero = refl
zero_at_lem (suc n) (suc j) = zero_at_lem n j

-- an array filled from the front
filled_at : (fill : ℕ) (f : ℕ → ℕ) (n i d : ℕ) → n ≤ most_places → i < n → get_or (sets (replicate most_places fill) 0 (tabulate f 0 n)) i d ≡ f i
filled_at fill f n i d few h =
    any_default (sets (replicate most_places fill) 0 (tabulate f 0 n)) i d 0 (rw (length-sets, length-replicate) (omega arith))
    ∙ written_at f (replicate most_places fill) n (rw length-replicate few) i h

module _ (rows : List Entry) (words links : List ℕ) (count : ℕ) (halves bytes : List ℕ) (h : Held rows words links count halves bytes)
    (before after : List ℕ) (v : JudgedInto halves bytes before after (length rows)) where
  abbrev n : ℕ
  n = length rows

  abbrev ls : List Symbol
  ls = symbols words count

  few : n ≤ most_places
  few = h.stored.few

  formed_are : (i : ℕ) → i < n → get_or (formed_by halves n) i 0 ≡ flag (eqb (own (kept_entry rows i).reading) 0)
  formed_are i p = filled_at 0 _ n i 0 few p ∙ ap (λ (k : ℕ). flag (eqb k 0)) (own_kept rows words links count halves bytes h i p)

  zeros : Fresh ls (replicate most_symbols 0)
  zeros =
      let e : length (replicate {A = ℕ} most_symbols 0) ≡ most_symbols = length-replicate {A = ℕ} most_symbols 0 in
      record { wide = omega (arith, symbols_length words count, h.stored.small); narrow = omega arith; clear = zero_at_lem most_symbols }

  facts_judged : Judged coding ls rows v.sounds v.counted.tallies v.holders
  facts_judged =
      judged coding ls rows (formed_by halves n) (column_of halves key1_column) (column_of halves key2_column) (column_of halves group_column)
      (kept rows words links count halves bytes h (formed_by halves n) formed_are) (omega (arith, few))
      (replicate most_symbols 0) v.sound.once v.sound.twice (replicate most_places 0) v.sounds
      (replicate most_symbols 0) v.counted.tallies (replicate most_symbols 0) v.held.once v.holders
      zeros v.sound.first v.sound.second (omega (arith, few, length-replicate {A = ℕ} most_places 0)) v.sound.marked
      zeros v.counted.counted zeros v.held.first v.held.second

  here : (xs : List ℕ) (c i : ℕ) → i < n → get_or (column_of xs c) i 0 ≡ at xs c i
  here xs c i p = column_at_lem xs c i (omega (arith, few))

  abbrev Finding : (found : List ℕ) → (column : ℕ) → Type 0
  Finding found column = (i : ℕ) → i < n → get_or found i no_row ≡ row_linked (get_or v.holders (at halves column i) 0)

  found_at : (found : List ℕ) (column : ℕ) → FoundBy halves v.holders column (replicate most_places no_row) found n → Finding found column
  found_at found column e i p =
      ap (λ (l : List ℕ). get_or l i no_row) e
      ∙ filled_at no_row _ n i no_row few p
      ∙ ap (λ (k : ℕ). row_linked (get_or v.holders k 0)) (here halves column i p)

  abbrev tallied : (column number key : ℕ) → ℕ
  tallied column number key = count_finding column number (get_or v.counted.tallies key 0)

  counts_at : (i : ℕ) → i < n → get_or v.counts i 0 ≡ tallied (at bytes count_column i) (at halves kept_number_column i) (at halves key1_column i)
  counts_at i p =
      ap (λ (l : List ℕ). get_or l i 0) v.counted.compared
      ∙ filled_at 0 _ n i 0 few p
      ∙ rw (here bytes count_column i p, here halves kept_number_column i p, here halves key1_column i p)

  passed : Passed rows ls halves bytes v.sounds v.holders v.counted.tallies v.found1 v.found2 v.counts
  passed =
      record {
        sound_at = facts_judged.sound_at;
        short = omega (arith, v.sound.marked.size, length-replicate {A = ℕ} most_places 0);
        finds = facts_judged.finds;
        tally_at = facts_judged.tally_at;
        one = found_at v.found1 name1_column v.one;
        two = found_at v.found2 name2_column v.two;
        counted = counts_at;
      }

  -- THE LAW OF THE PASSES: each cell is its row's verdict
  pub cells_are : after ≡ sets before 0 (map (verdict rows) rows)
  unfolding arrays
  cells_are =
      v.judged
      ∙ ap (sets before 0)
      (judged_are rows
      (arrays rows words links count halves bytes h v.sounds v.holders v.counted.tallies v.found1 v.found2 v.counts passed) _
      (resolved rows words links count halves bytes h v.sounds v.holders v.counted.tallies v.found1 v.found2 v.counts passed))
