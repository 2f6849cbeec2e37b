-- A block of a VALID chain.
use Rattle.std.specs.Prelude.{ℕ, ◌-◌, ◌≤◌, ◌≡◌, refl, Bool, true, false, cond, List, [], ℤ}
use Rattle.rows.specs.declared.records.PcfRow.{PcfRow}
use Rattle.database.specs.Rows.{Rows}
use Rattle.database.specs.GoodRows.{among}
use Rattle.readings.specs.Readings.{valid_within}
use Rattle.readings.specs.Chain.{block_rows, valid_along}
use Rattle.located_readings.specs.Asked.{plain}
use Rattle.located_readings.specs.declared.Block.{Block}
use Rattle.located_readings.specs.declared.follow.BlockEnd.{BlockEnd}

-- the chain ends in the block
abbrev pub chain_end : (count : ℕ) → (free : Bool) → PcfRow → BlockEnd
chain_end count free row = record { count = count; on = false; free = free; row = row }

module _ (rows : Rows) (p : List ℕ) (spid : ℕ) where
  -- the rows that were read, and the row after them where the chain goes on,
  -- tell whether a row is valid by a chain of a block or more
  pub record Followed (row : PcfRow) (values valpars : List ℤ) (r : BlockEnd) : Type 0 where
    pub few : r.count ≤ block_rows
    pub whole : (left : ℕ) → block_rows ≤ left
        → valid_along values valpars (cond r.on (valid_within rows p spid (left - block_rows) r.row) r.free) 0 r.count
        ≡ valid_within rows p spid left row
    pub on_free : r.on ≡ true → r.free ≡ true

  -- whether the row that a block starts with is valid, by a chain of at most `left` rows after the block
  unfoldable pub after_block : (left : ℕ) → Block → Bool
  after_block left b = cond b.on (valid_within rows p spid left b.row) b.valid

  -- so it is for any chain of a block or more
  abbrev pub Decides : PcfRow → Block → Type 0
  Decides row b = (left : ℕ) → block_rows ≤ left → after_block (left - block_rows) b ≡ valid_within rows p spid left row

pub record Examples : Type 0 where
  pub goes_on : after_block (among []) [] 7 0 (record { on = true; valid = true; row = plain }) ≡ true
  pub disagrees : after_block (among []) [] 7 0 (record { on = false; valid = false; row = plain }) ≡ false

pub examples : Examples
unfolding after_block valid_within
examples = record { goes_on = refl; disagrees = refl }
