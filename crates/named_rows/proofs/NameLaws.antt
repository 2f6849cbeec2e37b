-- One law for each return: rows that hold a key which a row names.
use mathlib.Core.Path.{◌≡◌, ◌∙◌}
use mathlib.Core.Bool.{Bool, true, false, ◌&&◌}
use mathlib.Core.List.{List}
use Prim.Native.Nat.{ℕ}
use Rattle.kept.specs.Stored.{name1_column, name2_column, code1_column, code2_column}
use Rattle.key_rows.specs.KeyRows.{in_column, has_key, sound_by}
use Rattle.named_rows.specs.NamedRows.{named_by, stands_at, is_chained, named_at_by, follower_by}

module _ (halves : List ℕ) where
  -- of two namings
  module _ (i j : ℕ) (one two : Bool) (x : ℕ) (name1 : x ≡ in_column halves name1_column i) (a : Bool) (first : a ≡ (one && has_key halves x j)) where
    pub named_first : a ≡ true → true ≡ named_by halves i one two j
    unfolding named_by
    named_first t = rw (← name1, ← first, t)

    pub named_second : a ≡ false → (y : ℕ) → y ≡ in_column halves name2_column i → (b : Bool) → b ≡ (two && has_key halves y j) → b ≡ named_by halves i one two j
    unfolding named_by
    named_second t y name2 b second = rw (← name1, ← first, t, ← name2, ← second)

  pub at_column : (bytes : List ℕ) (i j column : ℕ) (a b : Bool) → a ≡ stands_at bytes code1_column column i → b ≡ stands_at bytes code2_column column i
      → (r : Bool) → r ≡ named_by halves i a b j → r ≡ named_at_by halves bytes column i j
  unfolding named_at_by
  at_column bytes i j column a b one two r e = e ∙ rw (one, two)

  module _ (bytes cells : List ℕ) (i j : ℕ) where
    module _ (a b : Bool) (one : a ≡ is_chained bytes code1_column i) (two : b ≡ is_chained bytes code2_column i)
        (r : Bool) (named : r ≡ named_by halves i a b j) where
      pub follows_sound : r ≡ true → (s : Bool) → s ≡ sound_by halves cells j → s ≡ follower_by halves bytes cells i j
      unfolding follower_by
      follows_sound t s e = rw (← one, ← two, ← named, t, ← e)

      pub follows_not : r ≡ false → false ≡ follower_by halves bytes cells i j
      unfolding follower_by
      follows_not t = rw (← one, ← two, ← named, t)
