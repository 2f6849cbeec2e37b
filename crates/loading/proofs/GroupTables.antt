-- All rows of a group are of one table, so that there are at most 1,024 of them.
use mathlib.Core.Path.{◌≡◌, ap, sym, ◌∙◌}
use mathlib.Core.Bool.{true}
use mathlib.Core.List.{List, []}
use Prim.Native.Nat.{ℕ, ◌≤◌, ◌<◌}
use native.Mathlib.Omega.{arith}
use lib.Dec.{ltb}
use lib.ListN.{length, get_or-eq_default}
use borrow.Author.Tests.{ltb-true, ltb-false}
use Rattle.laws.specs.Lists.{any}
use Rattle.laws.proofs.Cases.{bool_cases}
use Rattle.laws.proofs.Tests.{any_witness}
use Rattle.lines.specs.Lines.{lines_of}
use Rattle.verdicts.specs.Key.{Key, same_key}
use Rattle.verdicts.specs.Facts.{facts_of}
use Rattle.verdicts.specs.Entries.{table_count, carried_at}
use Rattle.verdicts.specs.Answer.{most_rows}
use Rattle.verdicts.specs.Places.{text_at}
use Rattle.verdicts.proofs.KeyLaws.{same_key_is}
use Rattle.verdicts.proofs.OwnerLaws.{table_index, index_is, group_table, counted_in_lem}
use Rattle.tables.specs.Sizes.{fit, sizes_of}
use Rattle.tables.proofs.SizeLaws.{few}
use Rattle.kept.proofs.KeepingLaws.{sizes_taken}

-- a row of table u that is counted in a group
pub group_table_lem : (u : ℕ) (line : List ℕ) (g : Key) → u < table_count → any (same_key g) (facts_of (carried_at u) line).groups ≡ true → u ≡ table_index
    (group_table g)
group_table_lem u line g h e =
    let w = any_witness (same_key g) (facts_of (carried_at u) line).groups e in
    sym (index_is u h) ∙ ap table_index (counted_in_lem (carried_at u) line w.1 ∙ ap group_table (sym (same_key_is g w.0 w.2)))

-- 01: "over 1,024 rows"
pub few_lines : (tables : List (List ℕ)) → sizes_of tables ≡ fit → (t : ℕ) → length (lines_of (text_at tables t)) ≤ most_rows
unfolding lines_of
few_lines tables e t =
    bool_cases (ltb t (length tables))
    (λ q. few tables t (ltb-true t (length tables) q) (sizes_taken tables e).1)
    (λ q. rw (get_or-eq_default tables [] {n = t} (ltb-false t (length tables) q)) (omega arith))
