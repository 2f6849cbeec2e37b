-- One law for each return: rows that hold a key, and sound rows of a group.
use mathlib.Core.Path.{◌≡◌}
use mathlib.Core.Bool.{Bool, true, false, not}
use mathlib.Core.List.{List}
use Prim.Native.Nat.{ℕ}
use lib.Dec.{eqb}
use lib.ListN.{get_or}
use borrow.Author.Tests.{eq-eqb, ne_eqb}
use Rattle.symbols.specs.Symbols.{no_id}
use Rattle.kept.specs.Stored.{own_column, key1_column, key2_column, group_column, count_column}
use Rattle.key_rows.specs.KeyRows.{in_column, has_key, shares_by, sound_by, counted_by}

module _ (halves : List ℕ) where
  module _ (id j : ℕ) where
    pub no_key : id ≡ no_id → false ≡ has_key halves id j
    unfolding has_key
    no_key h = rw (eq-eqb id no_id h)

    pub first_key : (id ≡ no_id → ⊥) → (x : ℕ) → x ≡ in_column halves key1_column j → x ≡ id → true ≡ has_key halves id j
    unfolding has_key
    first_key h x e q = rw (ne_eqb id no_id h, ← e, eq-eqb x id q)

    pub second_key : (id ≡ no_id → ⊥) → (x : ℕ) → x ≡ in_column halves key1_column j → (x ≡ id → ⊥)
        → (y : ℕ) → y ≡ in_column halves key2_column j → eqb y id ≡ has_key halves id j
    unfolding has_key
    second_key h x e q y f = rw (ne_eqb id no_id h, ← e, ne_eqb x id q, ← f)

  module _ (i j : ℕ) where
    pub not_itself : i ≡ j → false ≡ shares_by halves i j
    unfolding shares_by
    not_itself h = rw (eq-eqb i j h)

    module _ (other : i ≡ j → ⊥) (x : ℕ) (key1 : x ≡ in_column halves key1_column i) (a : Bool) (one : a ≡ has_key halves x j) where
      pub shares_first : a ≡ true → true ≡ shares_by halves i j
      unfolding shares_by
      shares_first t = rw (ne_eqb i j other, ← key1, ← one, t)

      pub shares_second : a ≡ false → (y : ℕ) → y ≡ in_column halves key2_column i → (b : Bool) → b ≡ has_key halves y j → b ≡ shares_by halves i j
      unfolding shares_by
      shares_second t y key2 b two = rw (ne_eqb i j other, ← key1, ← one, t, ← key2, ← two)

  module _ (cells : List ℕ) (j : ℕ) (x : ℕ) (own : x ≡ in_column halves own_column j) where
    pub sound_cell : x ≡ 0 → (y : ℕ) → y ≡ get_or cells j 0 → not (eqb y 2304) ≡ sound_by halves cells j
    unfolding sound_by
    sound_cell z y e = rw (← own, eq-eqb x 0 z, ← e)

    pub sound_own : (x ≡ 0 → ⊥) → false ≡ sound_by halves cells j
    unfolding sound_by
    sound_own z = rw (← own, ne_eqb x 0 z)

  module _ (bytes cells : List ℕ) (i j : ℕ) where
    module _ (x : ℕ) (count : x ≡ in_column bytes count_column i) where
      pub counts_none : x ≡ 0 → false ≡ counted_by halves bytes cells i j
      unfolding counted_by
      counts_none z = rw (← count, eq-eqb x 0 z)

      module _ (some : x ≡ 0 → ⊥) (g k : ℕ) (group : g ≡ in_column halves group_column j) (key1 : k ≡ in_column halves key1_column i) where
        pub counts_member : g ≡ k → (b : Bool) → b ≡ sound_by halves cells j → b ≡ counted_by halves bytes cells i j
        unfolding counted_by
        counts_member e b s = rw (← count, ne_eqb x 0 some, ← group, ← key1, eq-eqb g k e, ← s)

        pub counts_other : (g ≡ k → ⊥) → false ≡ counted_by halves bytes cells i j
        unfolding counted_by
        counts_other e = rw (← count, ne_eqb x 0 some, ← group, ← key1, ne_eqb g k e)
