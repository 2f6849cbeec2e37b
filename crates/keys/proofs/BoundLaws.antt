-- What the columns of a line of bytes give, in bounds that machine words keep.
use mathlib.Core.List.{List, [], ◌∷◌, ◌++◌}
use mathlib.Core.Option.{Option, some, none}
use Prim.Native.Nat.{ℕ, zero, suc, ◌^◌, ◌<◌}
use native.Mathlib.Omega.{arith}
use lib.Dec.{eqb, ltb}
use lib.IntN.{ℤ, pos, negsuc}
use lib.ListN.{get_or}
use borrow.Author.Tests.{ltb-true}
use Rattle.laws.proofs.Cases.{cond_cases}
use Rattle.numbers.specs.Number.{number_of}
use Rattle.lines.specs.Columns.{tab, columns_from, columns_of}
use Rattle.decoding.specs.Records.{column}
use Rattle.rows.specs.Values.{natural_from, natural_or}
use Rattle.key_symbols.specs.Bounded.{Digits}
use Rattle.key_symbols.proofs.NumberLaws.{digits_append, digits_all}

-- Columns

abbrev Columns : List (List ℕ) → Type 0
Columns [] = Unit {0}
Columns (c ∷ cs) = Digits 256 c × Columns cs

columns_from_lem : (c bs : List ℕ) → Digits 256 c → Digits 256 bs → Columns (columns_from c bs)
unfolding columns_from
columns_from_lem c [] g h = (g, tt)
columns_from_lem c (b ∷ bs) g h =
    cond_cases Columns (eqb b tab)
    (λ _. (g, columns_from_lem [] bs tt h.1))
    (λ _. columns_from_lem (c ++ b ∷ []) bs (digits_append 256 c (b ∷ []) g (h.0, tt)) h.1)

columns_at : (cs : List (List ℕ)) → Columns cs → (k : ℕ) → Digits 256 (get_or cs k [])
columns_at [] h k = tt
columns_at (c ∷ cs) h zero = h.0
columns_at (c ∷ cs) h (suc k) = columns_at cs h.1 k

-- a column of a line of bytes
pub column_bytes : (line : List ℕ) → ((i : ℕ) → get_or line i 0 < 256) → (k : ℕ) → Digits 256 (column line k)
unfolding column columns_of
column_bytes line h k = columns_at (columns_of line) (columns_from_lem [] line tt (digits_all 256 line h)) k

-- Numbers

natural_from_lem : (default : ℕ) → default < 2 ^ 32 → (v : Option ℤ) → natural_from default v < 2 ^ 32
unfolding natural_from
natural_from_lem default h none = h
natural_from_lem default h (some (pos n)) = cond_cases (λ (m : ℕ). m < 2 ^ 32) (ltb n (2 ^ 32)) (λ t. ltb-true _ _ t) (λ _. h)
natural_from_lem default h (some (negsuc n)) = h

pub natural_bounded : (text : List ℕ) → natural_or 0 text < 2 ^ 32
unfolding natural_or
natural_bounded text = natural_from_lem 0 (omega arith) (number_of text)
