-- The table of a row that holds a key; and which rows hold the keys of packets.
use mathlib.Core.Path.{◌≡◌, refl, ap, sym, subst, ◌∙◌}
use mathlib.Core.Bool.{true}
use mathlib.Core.List.{List, [], ◌∷◌, Memᴰ}
use Prim.Native.Nat.{ℕ}
use native.Mathlib.Omega.{arith}
use lib.Dec.{ltb}
use lib.ListN.{get_or-eq_default}
use borrow.Author.Tests.{ltb-true, ltb-false}
use Rattle.laws.specs.Lists.{any}
use Rattle.laws.proofs.Cases.{bool_cases}
use Rattle.laws.proofs.Tests.{any_witness}
use Rattle.schemas.specs.declared.Table.{Table}
use Rattle.schemas.specs.declared.Table.TheVariants.{Pid, Ocp}
use Rattle.decoding.specs.Records.{pid_row}
use Rattle.rows.specs.declared.records.PidRow.{PidRow}
use Rattle.rows.specs.declared.letters.Valid.{Valid}
use Rattle.rows.specs.declared.letters.Valid.TheVariants.{Yes, No}
use Rattle.verdicts.specs.Key.{Key, structure, same_key}
use Rattle.verdicts.specs.Facts.{facts_of, pid_keys, pid_facts}
use Rattle.verdicts.specs.Entries.{carried, table_count, carried_at}
use Rattle.verdicts.proofs.KeyLaws.{same_key_is, same_key_self}
use Rattle.verdicts.proofs.OwnerLaws.{table_index, index_is, owners_of, of_table_lem}
use Rattle.key_symbols.specs.declared.FiveNumbers.{FiveNumbers}
use Rattle.key_symbols.specs.Bounded.{packet_of}
use Rattle.database.specs.Rows.{Row}
use Rattle.database.specs.Packets.{pid_table, five_of, numbers_in, is_yes}
use Rattle.database.specs.GoodRows.{table_of, holds_key}

pub holds_owner : (k : Key) (row : Row) → holds_key k row ≡ true → Memᴰ (table_of row) (owners_of k)
unfolding holds_key
holds_owner k row e =
    let w = any_witness (same_key k) (facts_of (table_of row) row.bytes).keys e in
    subst (λ (x : Key). Memᴰ (table_of row) (owners_of x)) (sym (same_key_is k w.0 w.2)) (of_table_lem (table_of row) row.bytes w.0 w.1)

-- of a key that rows of one table hold
pub only_owner : (k : Key) (table : Table) (row : Row) → owners_of k ≡ table ∷ [] → holds_key k row ≡ true → table_of row ≡ table
only_owner k table row o e = mathlib.Core.List.Memᴰ.eq_of_singleton (subst (λ (l : List Table). Memᴰ (table_of row) l) o (holds_owner k row e))

-- the number of a table, but of the one that stands for what is past the last
pub table_number_lem : (u : ℕ) (t : Table) → (t ≡ Ocp → ⊥) → carried_at u ≡ t → u ≡ table_index t
table_number_lem u t other e =
    bool_cases (ltb u table_count)
    (λ b. sym (index_is u (ltb-true u table_count b)) ∙ ap table_index e)
    (λ f. absurd (other (sym e ∙ get_or-eq_default carried Ocp {n = u} (ltb-false u table_count f))))

-- Packets

-- the key has the five numbers
same_five : (r : PidRow) (n : FiveNumbers) → packet_of n ≡ packet_of (five_of r) → five_of r ≡ n
same_five r n e =
    let a : r.ptype ≡ n.ptype = cc in
    let b : r.stype ≡ n.stype = cc in
    let c : r.apid ≡ n.apid = cc in
    let d : r.pi1 ≡ n.pi1 = cc in
    let f : r.pi2 ≡ n.pi2 = cc in
    λ i. record { ptype = a i; stype = b i; apid = c i; pi1 = d i; pi2 = f i }

-- VALID Y rows alone hold a packet's key, that of their own numbers
valid_holds : (v : Valid) (r : PidRow) → any (same_key (packet_of (five_of r))) (pid_keys v r) ≡ is_yes v
unfolding pid_keys
valid_holds Yes r = rw (same_key_self (packet_of (five_of r))) refl
valid_holds No r = refl

pub packet_holds : (row : Row) → row.table ≡ pid_table → holds_key (packet_of (numbers_in row)) row ≡ is_yes (pid_row row.bytes).valid
unfolding holds_key facts_of pid_facts numbers_in
packet_holds row e = rw e (valid_holds (pid_row row.bytes).valid (pid_row row.bytes))

holds_valid : (v : Valid) (r : PidRow) (n : FiveNumbers) → Memᴰ (packet_of n) (pid_keys v r) → (is_yes v ≡ true) × (five_of r ≡ n)
unfolding pid_keys
holds_valid Yes r n (mathlib.Core.List.Memᴰ.head q) = (refl, same_five r n q)
holds_valid Yes r n (mathlib.Core.List.Memᴰ.tail m) = absurd (apart (mathlib.Core.List.Memᴰ.eq_of_singleton m))
  where
    apart : packet_of n ≡ structure r.spid.0 → ⊥
    apart q = let z : ◌≡◌ {A = ℕ} 0 1 = cc in omega arith
holds_valid No r n m = absurd (mathlib.Core.List.Memᴰ.not-nil m)

-- a row that holds a packet's key is of pid and VALID Y, and has its numbers
pub holds_packet : (n : FiveNumbers) (row : Row) → holds_key (packet_of n) row ≡ true
    → (row.table ≡ pid_table) × (is_yes (pid_row row.bytes).valid ≡ true) × (numbers_in row ≡ n)
unfolding holds_key owners_of table_index facts_of pid_facts numbers_in
holds_packet n row e =
    let t : row.table ≡ pid_table = table_number_lem row.table Pid (λ q. omega (arith, ap table_index q)) (only_owner (packet_of n) Pid row refl e) in
    let w = any_witness (same_key (packet_of n)) (facts_of (table_of row) row.bytes).keys e in
    let m : Memᴰ (packet_of n) (facts_of (table_of row) row.bytes).keys =
    subst (λ (k : Key). Memᴰ k (facts_of (table_of row) row.bytes).keys) (sym (same_key_is (packet_of n) w.0 w.2)) w.1 in
    let h = holds_valid (pid_row row.bytes).valid (pid_row row.bytes) n (rw t at m) in
    (t, h.0, h.1)
