-- Which tables a key, a group and a number belong to: what a table says, once for all that lean on it.
use mathlib.Core.Path.{◌≡◌, refl, sym, ap, subst, ◌∙◌}
use mathlib.Core.List.Memᴰ
use mathlib.Core.List.{List, [], ◌∷◌, map, Memᴰ}
use Prim.Native.Nat.{ℕ, ◌<◌}
use native.Mathlib.Omega.{arith}
use lib.ListN.{get_or}
use Rattle.laws.specs.Values.{tabulate}
use Rattle.laws.proofs.Lists.{map_at}
use Rattle.laws.proofs.Values.{tabulate_at}
use Rattle.schemas.specs.declared.Table.{Table}
use Rattle.schemas.specs.declared.Table.TheVariants.{Pid, Pic, Plf, Pcf, Caf, Cap, Txf, Txp, Ocf, Ocp, Mcf}
use Rattle.decoding.specs.Records.{pid_row}
use Rattle.rows.specs.declared.records.PidRow.{PidRow}
use Rattle.rows.specs.declared.letters.Valid.{Valid}
use Rattle.rows.specs.declared.letters.Valid.TheVariants.{Yes, No}
use Rattle.verdicts.specs.Key.{Key, packet, structure, identification, location, parameter, curve, point, texts, range, limits, check}
use Rattle.verdicts.specs.Facts.{pid_keys, facts_of}
use Rattle.verdicts.specs.Facts.{pid_facts, pic_facts, plf_facts, pcf_facts, caf_facts, cap_facts, txf_facts, txp_facts, ocf_facts, ocp_facts, mcf_facts}
use Rattle.verdicts.specs.Entries.{carried, table_count, carried_at}

-- Numbers

-- the place of a table among those carried, from 0
unfoldable pub table_index : Table → ℕ
table_index Pid = 0
table_index Pic = 1
table_index Plf = 2
table_index Pcf = 3
table_index Caf = 4
table_index Cap = 5
table_index Txf = 6
table_index Txp = 7
table_index Ocf = 8
table_index Ocp = 9
table_index Mcf = 10

pub index_is : (u : ℕ) → u < table_count → table_index (carried_at u) ≡ u
unfolding table_index tabulate
index_is u h =
    let e : map table_index carried ≡ tabulate (λ (i : ℕ). i) 0 table_count = refl in
    sym (map_at table_index carried u Ocp 0 h) ∙ ap (λ (l : List ℕ). get_or l u 0) e ∙ tabulate_at (λ (i : ℕ). i) 0 table_count u h ∙ omega arith

-- Keys

-- the tables whose rows hold keys of this key space
unfoldable pub owners_of : Key → List Table
owners_of (packet ptype stype apid pi1 pi2) = Pid ∷ []
owners_of (structure spid) = Pid ∷ []
owners_of (identification ptype stype apid) = Pic ∷ []
owners_of (location name spid) = Plf ∷ []
owners_of (parameter name) = Pcf ∷ []
owners_of (curve numbr) = Caf ∷ Mcf ∷ []
owners_of (point numbr x) = Cap ∷ []
owners_of (texts numbr) = Txf ∷ []
owners_of (range numbr from) = Txp ∷ []
owners_of (limits name) = Ocf ∷ []
owners_of (check name position) = Ocp ∷ []

of_one : (t : Table) (k l : Key) → Memᴰ t (owners_of l) → Memᴰ k (l ∷ []) → Memᴰ t (owners_of k)
of_one t k l e m = subst (λ (x : Key). Memᴰ t (owners_of x)) (sym (Memᴰ.eq_of_singleton m)) e

of_pid : (v : Valid) (r : PidRow) (k : Key) → Memᴰ k (pid_keys v r) → Memᴰ Pid (owners_of k)
unfolding pid_keys owners_of
of_pid Yes r k (Memᴰ.head q) = subst (λ (x : Key). Memᴰ Pid (owners_of x)) (sym q) (Memᴰ.head refl)
of_pid Yes r k (Memᴰ.tail m) = of_one Pid k (structure r.spid.0) (Memᴰ.head refl) m
of_pid No r k m = absurd (Memᴰ.not-nil m)

pub of_table_lem : (t : Table) (line : List ℕ) (k : Key) → Memᴰ k (facts_of t line).keys → Memᴰ t (owners_of k)
unfolding owners_of facts_of pid_facts pic_facts plf_facts pcf_facts caf_facts cap_facts txf_facts txp_facts ocf_facts ocp_facts mcf_facts
of_table_lem Pid line k m = of_pid (pid_row line).valid (pid_row line) k m
of_table_lem Pic line k m = of_one Pic k _ (Memᴰ.head refl) m
of_table_lem Plf line k m = of_one Plf k _ (Memᴰ.head refl) m
of_table_lem Pcf line k m = of_one Pcf k _ (Memᴰ.head refl) m
of_table_lem Caf line k m = of_one Caf k _ (Memᴰ.head refl) m
of_table_lem Cap line k m = of_one Cap k _ (Memᴰ.head refl) m
of_table_lem Txf line k m = of_one Txf k _ (Memᴰ.head refl) m
of_table_lem Txp line k m = of_one Txp k _ (Memᴰ.head refl) m
of_table_lem Ocf line k m = of_one Ocf k _ (Memᴰ.head refl) m
of_table_lem Ocp line k m = of_one Ocp k _ (Memᴰ.head refl) m
of_table_lem Mcf line k m = of_one Mcf k _ (Memᴰ.tail (Memᴰ.head refl)) m

-- Groups

-- the table whose rows are counted in a group: the points of a curve, the ranges of texts, the checks of limits;
-- no group goes by another key
unfoldable pub group_table : Key → Table
group_table (packet ptype stype apid pi1 pi2) = Ocp
group_table (structure spid) = Ocp
group_table (identification ptype stype apid) = Ocp
group_table (location name spid) = Ocp
group_table (parameter name) = Ocp
group_table (curve numbr) = Cap
group_table (point numbr x) = Ocp
group_table (texts numbr) = Txp
group_table (range numbr from) = Ocp
group_table (limits name) = Ocp
group_table (check name position) = Ocp

pub counted_in_lem : (t : Table) (line : List ℕ) {g : Key} → Memᴰ g (facts_of t line).groups → t ≡ group_table g
unfolding group_table facts_of pid_facts pic_facts plf_facts pcf_facts caf_facts cap_facts txf_facts txp_facts ocf_facts ocp_facts mcf_facts
counted_in_lem Pid line m = absurd (Memᴰ.not-nil m)
counted_in_lem Pic line m = absurd (Memᴰ.not-nil m)
counted_in_lem Plf line m = absurd (Memᴰ.not-nil m)
counted_in_lem Pcf line m = absurd (Memᴰ.not-nil m)
counted_in_lem Caf line m = absurd (Memᴰ.not-nil m)
counted_in_lem Cap line m = ap group_table (sym (Memᴰ.eq_of_singleton m))
counted_in_lem Txf line m = absurd (Memᴰ.not-nil m)
counted_in_lem Txp line m = ap group_table (sym (Memᴰ.eq_of_singleton m))
counted_in_lem Ocf line m = absurd (Memᴰ.not-nil m)
counted_in_lem Ocp line m = ap group_table (sym (Memᴰ.eq_of_singleton m))
counted_in_lem Mcf line m = absurd (Memᴰ.not-nil m)
