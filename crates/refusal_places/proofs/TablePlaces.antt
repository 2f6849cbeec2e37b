-- The places of refusals 1 and 2 are numbers of tables, and so small.
use mathlib.Core.Path.{◌≡◌}
use mathlib.Core.Bool.{Bool}
use mathlib.Core.List.{List, [], ◌∷◌}
use Prim.Native.Nat.{ℕ, suc, ◌+◌, ◌^◌, ◌≤◌, ◌<◌}
use native.Mathlib.Omega.{arith}
use lib.Dec.{ltb}
use lib.ListN.{length}
use Rattle.laws.proofs.Cases.{cond_cases}
use Rattle.lines.specs.Lines.{lines_of}
use Rattle.verdicts.specs.Answer.{first_table, too_long, too_many_rows, most_rows}
use Rattle.verdicts.specs.Entries.{table_count}

first_most : (test : List ℕ → Bool) (k : ℕ) (texts : List (List ℕ)) → first_table test k texts ≤ k + length texts
unfolding first_table
first_most test k [] = omega arith
first_most test k (text ∷ texts) =
    cond_cases (λ (n : ℕ). n ≤ k + length (text ∷ texts)) (test text) (λ _. omega arith) (λ _. omega (arith, first_most test (suc k) texts))

module _ (texts : List (List ℕ)) (all : length texts ≡ table_count) where
  pub long_small : too_long texts < 2 ^ 32
  unfolding too_long
  long_small = omega (arith, first_most (λ text. ltb 65536 (length text)) 1 texts)

  pub many_small : too_many_rows texts < 2 ^ 32
  unfolding too_many_rows
  many_small = omega (arith, first_most (λ text. ltb most_rows (length (lines_of text))) 1 texts)
