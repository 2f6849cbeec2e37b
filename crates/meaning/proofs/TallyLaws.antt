-- Reason 10 by ids: how many sound rows a group has, and which.
use mathlib.Core.Path.{◌≡◌, ap, ap₂, sym, ◌∙◌}
use mathlib.Core.Bool.{Bool, ◌&&◌}
use mathlib.Core.List.{List, map}
use Prim.Native.Nat.{ℕ, ◌≤◌, ◌<◌}
use native.Mathlib.Omega.{arith}
use lib.Dec.{eqb}
use lib.ListN.{length, get_or}
use Rattle.laws.specs.Lists.{keep}
use Rattle.laws.specs.Prefix.{count_with, flag}
use Rattle.laws.proofs.Count.{count_same}
use Rattle.laws.proofs.Places.{keep_places, keep_all, all_same}
use Rattle.symbols.specs.declared.Symbol.{Symbol}
use Rattle.passes.specs.Marked.{has_id}
use Rattle.passes.specs.Groups.{Chained, chain}
use Rattle.passes.proofs.GroupLaws.{group_rows}
use Rattle.verdicts.specs.Key.{Key}
use Rattle.verdicts.specs.Entries.{Entry}
use Rattle.verdicts.specs.Steps.{belongs}
use Rattle.verdicts.specs.Verdicts.{sound, tally}
use Rattle.meaning.specs.Kept.{Coding, key_id, Known, no_entry, kept_entry, Kept}
use Rattle.meaning.proofs.TestLaws.{flag_is}
use Rattle.meaning.proofs.KeyLaws.{belongs_id}

module _ (c : Coding) (symbols : List Symbol) (rows : List Entry) (formed key1 key2 group : List ℕ) (kept : Kept c symbols rows formed key1 key2 group)
    (g : Key) (h : Known c symbols g) where
  abbrev n : ℕ
  n = length rows

  abbrev id : ℕ
  id = key_id c symbols g

  -- marks of the rows that pass a test
  module _ (test : Entry → Bool) (marks : List ℕ) (is : (i : ℕ) → i < n → get_or marks i 0 ≡ flag (test (kept_entry rows i))) where
    member : (i : ℕ) → i < n → (belongs (kept_entry rows i) g && test (kept_entry rows i)) ≡ has_id marks group id i
    unfolding has_id
    member i p =
        ap₂ ◌&&◌
        (belongs_id c symbols g h formed key1 key2 group i (kept_entry rows i) (kept.row i p) (kept.tables.single i p))
        (sym (ap (λ (z : ℕ). eqb z 1) (is i p) ∙ flag_is (test (kept_entry rows i))))

    -- THE LAW OF GROUPS: the rows of a group that pass are those that the links of its id meet, in their order
    pub members_law : (firsts₀ nexts₀ firsts nexts : List ℕ) → Chained marks group firsts₀ nexts₀ firsts nexts 0 n → n ≤ length nexts₀ → id < length firsts₀
        → get_or firsts₀ id 0 ≡ 0
        → keep (λ o. belongs o g && test o) rows ≡ map (kept_entry rows) (chain nexts n (get_or firsts id 0))
    members_law firsts₀ nexts₀ firsts nexts w room b z =
        keep_all no_entry (λ o. belongs o g && test o) rows
        ∙ ap (map (kept_entry rows))
        (all_same (λ i. belongs (kept_entry rows i) g && test (kept_entry rows i)) (has_id marks group id) 0 n (λ i p q. member i (omega arith))
        ∙ sym (group_rows marks group firsts₀ nexts₀ n firsts nexts w room id b z))

  -- THE LAW OF REASON 10: a group has as many sound rows as a counter of their groups says
  pub tally_law : (sounds : List ℕ) → ((i : ℕ) → i < n → get_or sounds i 0 ≡ flag (sound rows (kept_entry rows i))) → tally rows g ≡ count_with
      (has_id sounds group id) n
  unfolding tally
  tally_law sounds is =
      keep_places no_entry (λ o. belongs o g && sound rows o) rows
      ∙ count_same (λ i. belongs (kept_entry rows i) g && sound rows (kept_entry rows i)) (has_id sounds group id) n (member (sound rows) sounds is)
