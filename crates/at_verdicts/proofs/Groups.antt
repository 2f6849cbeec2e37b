-- The rows that a name counts are of one table, and good rows that hold one key are one row.
use mathlib.Core.Path.{◌≡◌, sym, ap, subst, ◌∙◌}
use mathlib.Core.Bool.{true}
use mathlib.Core.List.{List, Memᴰ}
use Prim.Native.Nat.{ℕ}
use Rattle.laws.specs.Lists.{any}
use Rattle.laws.proofs.Tests.{any_witness}
use Rattle.schemas.specs.declared.Table.{Table}
use Rattle.verdicts.specs.Key.{Key, same_key}
use Rattle.verdicts.specs.Facts.{facts_of}
use Rattle.verdicts.specs.Entries.{Entry}
use Rattle.verdicts.specs.Places.{entry_at}
use Rattle.verdicts.proofs.KeyLaws.{same_key_is}
use Rattle.verdicts.proofs.SoundLaws.{one_holder}
use Rattle.verdicts.proofs.OwnerLaws.{group_table, counted_in_lem}
use Rattle.database.specs.Rows.{Row}
use Rattle.database.specs.GoodRows.{good_rows, holds_key}
use Rattle.at_verdicts.proofs.GoodRows.{entry_of, good_row}
use Rattle.at_verdicts.proofs.NamedRows.{entry_holds}

-- what a group's columns say of a row. 01: "NCURVE counts cap rows", NALIAS "counting txp rows", NBOOL "counting ocp
-- rows"
pub in_group : (t : Table) (line : List ℕ) (key : Key) → any (same_key key) (facts_of t line).groups ≡ true
    → (t ≡ group_table key) × Memᴰ key (facts_of (group_table key) line).groups
in_group t line key h =
    let w = any_witness (same_key key) (facts_of t line).groups h in
    let m : Memᴰ key (facts_of t line).groups = subst (λ (k : Key). Memᴰ k (facts_of t line).groups) (sym (same_key_is key w.0 w.2)) w.1 in
    let c = counted_in_lem t line m in
    (c, subst (λ (x : Table). Memᴰ key (facts_of x line).groups) c m)

-- 01's reason 9, "key held by another row too": no two good rows hold one key
pub one_good : (tables : List (List ℕ)) (key : Key) (a b : Row) → Memᴰ a (good_rows tables) → Memᴰ b (good_rows tables) → holds_key key a ≡ true
    → holds_key key b ≡ true → (a.table ≡ b.table) × (a.number ≡ b.number)
unfolding entry_at
one_good tables key a b m i h k =
    let g = good_row tables a m in
    let o = good_row tables b i in
    let same : entry_of tables a ≡ entry_of tables b =
    one_holder tables (entry_of tables a) (entry_of tables b) key g.there o.there g.good.is_sound
    (entry_holds tables a g key ∙ h) (entry_holds tables b o key ∙ k) in
    (ap (λ (x : Entry). x.table) same, ap (λ (x : Entry). x.row) same)
