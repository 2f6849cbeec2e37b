-- Tables whose rows are kept, judged and indexed: row i by the columns, and whether it is good and has a key.
use mathlib.Core.Path.{◌≡◌, ap, ◌∙◌}
use mathlib.Core.Bool.{◌&&◌}
use mathlib.Core.List.{List}
use Prim.Native.Nat.{ℕ, ◌<◌}
use lib.Dec.{eqb}
use lib.ListN.{length, get_or}
use Rattle.laws.specs.Prefix.{flag}
use Rattle.verdicts.specs.Key.{Key}
use Rattle.verdicts.specs.Entries.{all_rows}
use Rattle.verdicts.specs.Steps.{holds, belongs}
use Rattle.verdicts.specs.Verdicts.{verdicts}
use Rattle.tables.specs.Sizes.{fit, sizes_of}
use Rattle.meaning.specs.Kept as meaning
use Rattle.kept.specs.FirstPass.{Situations}
use Rattle.judged.proofs.Held.{Held}
use Rattle.database.specs.Arrays.{row_at}
use Rattle.database.specs.GoodRows.{is_good, holds_key, is_in_group}
use Rattle.loading.specs.Index.{Indexed}
use Rattle.loading.proofs.RowLaws.{row_in, row_there}
use Rattle.loading.proofs.GoodLaws.{good_at, has_same}

pub record IndexedRows (texts : List (List ℕ)) (words links : List ℕ) (count : ℕ) (halves bytes cells columns : List ℕ) : Type 0 where
  pub fits : sizes_of texts ≡ fit
  pub held : Held (all_rows texts) words links count halves bytes
  pub situated : Situations texts halves bytes (length (all_rows texts))
  pub judged : (i : ℕ) → i < length (all_rows texts) → get_or cells i 0 ≡ get_or (verdicts texts) i 0
  pub index : Indexed texts halves bytes cells columns (length (all_rows texts))

module _ {texts : List (List ℕ)} {words links : List ℕ} {count : ℕ} {halves bytes cells columns : List ℕ}
    (r : IndexedRows texts words links count halves bytes cells columns) (i : ℕ) (p : i < length (all_rows texts)) where
  -- the columns have it
  pub row_is : row_at texts columns i ≡ row_in texts i
  unfolding row_at
  row_is = rw (r.index.table i p, r.index.start i p, r.index.number i p, row_there (r.situated i p))

  -- it is marked where it is good
  pub mark_at : get_or r.index.marks i 0 ≡ flag (good_at texts i)
  mark_at = r.index.marked i p ∙ ap (λ (v : ℕ). flag (eqb v 0)) (r.judged i p)

  pub row_holds : (k : Key) → (is_good texts (row_in texts i) && holds_key k (row_in texts i)) ≡ (good_at texts i && holds (meaning.kept_entry (all_rows texts) i) k)
  unfolding holds_key holds
  row_holds k = has_same (r.situated i p) p k (λ f. f.keys)

  pub row_belongs : (k : Key) → (is_good texts (row_in texts i) && is_in_group k (row_in texts i))
      ≡ (good_at texts i && belongs (meaning.kept_entry (all_rows texts) i) k)
  unfolding is_in_group belongs
  row_belongs k = has_same (r.situated i p) p k (λ f. f.groups)
