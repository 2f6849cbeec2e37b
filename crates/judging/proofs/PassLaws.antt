-- The passes one after the other: what each leaves in its array is what the next one reads.
use mathlib.Core.Path.{◌≡◌, ap, sym, ◌∙◌}
use mathlib.Core.List.{List}
use Prim.Native.Nat.{ℕ, ◌≤◌, ◌<◌}
use native.Mathlib.Omega.{arith}
use lib.ListN.{length, get_or, replicate, length-replicate}
use lib.Seq.{sets, length-sets}
use Rattle.laws.specs.Prefix.{flag}
use Rattle.laws.specs.Values.{tabulate}
use Rattle.laws.proofs.Values.{written_at, any_default}
use Rattle.arrays.specs.Room.{most_places}
use Rattle.chain_steps.specs.Chains.{no_row, firm_from}
use Rattle.met_names.specs.Names.{final_at, firm_at}
use Rattle.base_verdicts.specs.Judged.{filled, zero_at, circles_of, next_of, base_of, chained_at, good_at, cell_at, kind_rows, cells_by, cell_rows, longest}

pub bases_law : (own sound counts next before : List ℕ) (n : ℕ) (circles base : List ℕ) → circles ≡ circles_of next n
    → base ≡ sets before 0 (tabulate (λ i. base_of (get_or own i 0) (get_or sound i 0) (get_or counts i 0) (get_or circles i 0)) 0 n)
    → base ≡ sets before 0 (tabulate (λ i. base_of (get_or own i 0) (get_or sound i 0) (get_or counts i 0) (get_or (circles_of next n) i 0)) 0 n)
bases_law own sound counts next before n circles base c b = rw (← c) b

-- an array filled from the front
pub filled_at : (fill : ℕ) (f : ℕ → ℕ) (n i d : ℕ) → n ≤ most_places → i < n → get_or (filled fill f n) i d ≡ f i
filled_at fill f n i d few h =
    any_default (filled fill f n) i d 0 (rw (length-sets, length-replicate) (omega arith)) ∙ written_at f (replicate most_places fill) n
    (rw length-replicate few) i h

pub filled_long : (fill : ℕ) (f : ℕ → ℕ) (n : ℕ) (xs : List ℕ) → xs ≡ filled fill f n → most_places ≡ length xs
filled_long fill f n xs e = sym (ap length e ∙ rw (length-sets, length-replicate))

module _ (kinds base codes1 found1 codes2 found2 next : List ℕ) (n : ℕ) (before : List ℕ) where
  pub chained_law : (clean firm chained : List ℕ)
      → clean ≡ filled 0 (zero_at base) n
      → firm ≡ filled 0 (firm_at kinds base codes1 found1 codes2 found2 clean next) n
      → chained ≡ sets before 0 (tabulate (λ i. flag (firm_from next firm longest i)) 0 n)
      → chained ≡ sets before 0 (tabulate (chained_at kinds base codes1 found1 codes2 found2 next n) 0 n)
  chained_law clean firm chained c f h =
      let are = f ∙ ap (λ (l : List ℕ). filled 0 (firm_at kinds base codes1 found1 codes2 found2 l next) n) c in
      h ∙ ap (λ (l : List ℕ). sets before 0 (tabulate (λ i. flag (firm_from next l longest i)) 0 n)) are

  pub good_law : (chained cells good : List ℕ)
      → chained ≡ filled 0 (chained_at kinds base codes1 found1 codes2 found2 next n) n
      → cells ≡ filled 0 (final_at kinds base codes1 found1 codes2 found2 chained) n
      → good ≡ sets before 0 (tabulate (zero_at cells) 0 n)
      → good ≡ sets before 0 (tabulate (good_at kinds base codes1 found1 codes2 found2 next n) 0 n)
  good_law chained cells good h e g = rw (← h, ← e) g

  pub names_law : (good cells : List ℕ)
      → good ≡ filled 0 (good_at kinds base codes1 found1 codes2 found2 next n) n
      → cells ≡ sets before 0 (tabulate (final_at kinds base codes1 found1 codes2 found2 good) 0 n)
      → cells ≡ sets before 0 (tabulate (cell_at kinds base codes1 found1 codes2 found2 next n) 0 n)
  names_law good cells g c = rw (← g) c

module _ (own sound counts codes1 found1 codes2 found2 : List ℕ) (n : ℕ) (kinds before : List ℕ) where
  pub rows_law : (next base cells : List ℕ)
      → next ≡ filled no_row (λ i. next_of sound (get_or codes1 i 0) (get_or found1 i no_row)) n
      → base ≡ filled 0 (λ i. base_of (get_or own i 0) (get_or sound i 0) (get_or counts i 0) (get_or (circles_of next n) i 0)) n
      → cells ≡ sets before 0 (tabulate (cell_at kinds base codes1 found1 codes2 found2 next n) 0 n)
      → cells ≡ sets before 0 (cells_by own sound counts codes1 found1 codes2 found2 n kinds)
  unfolding cells_by
  rows_law next base cells x b c = rw (← x, ← b) c

  -- by the conditions that rows meet
  pub kinds_law : (marks cells : List ℕ) → kinds ≡ kind_rows marks codes1 found1 codes2 found2 n
      → cells ≡ sets before 0 (cells_by own sound counts codes1 found1 codes2 found2 n kinds)
      → cells ≡ sets before 0 (cell_rows own sound counts codes1 found1 codes2 found2 marks n)
  unfolding cell_rows
  kinds_law marks cells k c = rw (← k) c
