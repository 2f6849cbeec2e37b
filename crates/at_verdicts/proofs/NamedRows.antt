-- 01's reason 11, "a named row isn't there, good and of the kind asked": the rows that a good row names are found.
use mathlib.Core.Path.{◌≡◌, refl, sym, ap, subst, ◌∙◌}
use mathlib.Core.Logic.{◌↔◌}
use mathlib.Core.Bool.{Bool, true, false, cond}
use mathlib.Core.List.{List, ◌∷◌, Memᴰ}
use mathlib.Core.Option.{Option, none, some}
use Prim.Native.Nat.{ℕ}
use native.Mathlib.Omega.{arith}
use Rattle.laws.specs.Lists.{any}
use Rattle.laws.proofs.Cases.{false_of, false≢true}
use Rattle.verdicts.specs.Key.{Key, same_key}
use Rattle.verdicts.specs.Facts.{Condition, itself, Kind, Naming, Facts, facts_of}
use Rattle.verdicts.specs.Entries.{Entry, all_rows}
use Rattle.verdicts.specs.Steps.{holds}
use Rattle.verdicts.specs.Verdicts.{of_kind}
use Rattle.verdicts.specs.Good.{Meets}
use Rattle.verdicts.proofs.SoundLaws.{one_holder}
use Rattle.database.specs.Rows.{Row}
use Rattle.database.specs.GoodRows.{good_rows, table_of, holds_key, find, among, of_tables}
use Rattle.database.proofs.RowLaws.{found_passes}
use Rattle.at_verdicts.proofs.GoodRows.{entry_of, GoodRow, good_row, row_good}

-- Searching

find_some : (passes : Row → Bool) (rows : List Row) {row : Row} → Memᴰ row rows → passes row ≡ true → (q : Row) × (find passes rows ≡ some q)
unfolding find
find_some passes mathlib.Core.List.[] {row = row} m t = elim m [ ]
find_some passes (x ∷ rows) {row} m t = by (passes x) refl m (λ m'. find_some passes rows m' t)
  where
    by : (b : Bool) → passes x ≡ b → Memᴰ row (x ∷ rows) → (Memᴰ row rows → (q : Row) × (find passes rows ≡ some q))
        → (q : Row) × (cond b (some x) (find passes rows) ≡ some q)
    by true e m ih = (x, refl)
    by false e (Memᴰ.head q) ih = absurd (false≢true (sym e ∙ ap passes (sym q) ∙ t))
    by false e (Memᴰ.tail m') ih = ih m'

pub none≢some : {A : Type 0} (a : A) → none ≡ some a → ⊥
none≢some a e = let z : ◌≡◌ {A = ℕ} 0 1 = cc in omega arith

module _ (texts : List (List ℕ)) (key : Key) where
  -- a row that was found is good, and holds the key
  pub found_good : (row : Row) → (of_tables texts).holder key ≡ some row → GoodRow texts row
  unfolding of_tables among
  found_good row e = good_row texts row (found_passes (holds_key key) (good_rows texts) row e).0

  pub found_holds : (row : Row) → (of_tables texts).holder key ≡ some row → holds_key key row ≡ true
  unfolding of_tables among
  found_holds row e = (found_passes (holds_key key) (good_rows texts) row e).1

  -- a good row that holds the key is found
  pub holder_there : (row : Row) → Memᴰ row (good_rows texts) → holds_key key row ≡ true → (q : Row) × ((of_tables texts).holder key ≡ some q)
  unfolding of_tables among
  holder_there row m t = find_some (holds_key key) (good_rows texts) m t

  nothing_holds : ((row : Row) → Memᴰ row (good_rows texts) → holds_key key row ≡ false) → (of_tables texts).holder key ≡ none
  unfolding of_tables among
  nothing_holds h = go (find (holds_key key) (good_rows texts)) refl
    where
      go : (o : Option Row) → find (holds_key key) (good_rows texts) ≡ o → o ≡ none
      go none q = refl
      go (some row) q = let f = found_passes (holds_key key) (good_rows texts) row q in absurd (false≢true (sym (h row f.0) ∙ f.1))

  -- none is found just where no good row holds the key
  pub holder_none : ((of_tables texts).holder key ≡ none) ↔ ((row : Row) → Memᴰ row (good_rows texts) → holds_key key row ≡ false)
  holder_none =
      (λ e row m. false_of (holds_key key row) (λ t. let w = holder_there row m t in none≢some w.0 (sym e ∙ w.1)), nothing_holds)

-- a good row's entry holds the keys of its line
pub entry_holds : (texts : List (List ℕ)) (row : Row) → GoodRow texts row → (key : Key) → holds (entry_of texts row) key ≡ holds_key key row
unfolding holds holds_key
entry_holds texts row g key = ap (λ (f : Facts). any (same_key key) f.keys) g.says

-- Naming

-- what a column names is found, and is of the kind asked
pub record Named (texts : List (List ℕ)) (n : Naming) : Type 0 where
  pub row : Row
  pub found : (of_tables texts).holder n.key ≡ some row
  pub kind : of_kind (all_rows texts) n.kind (entry_of texts row) ≡ true

module _ (texts : List (List ℕ)) where
  met_named : (n : Naming) (o : Entry) → Meets (all_rows texts) n o → Named texts n
  met_named n o m =
      let r = row_good texts o m.there m.good in
      let g = good_row texts r.row r.among in
      let h : holds_key n.key r.row ≡ true = sym (entry_holds texts r.row g n.key) ∙ ap (λ (e : Entry). holds e n.key) r.is ∙ m.held in
      let w = holder_there texts n.key r.row r.among h in
      let q = found_good texts n.key w.0 w.1 in
      let k : holds (entry_of texts w.0) n.key ≡ true = entry_holds texts w.0 q n.key ∙ found_holds texts n.key w.0 w.1 in
      let same : entry_of texts w.0 ≡ o = one_holder texts (entry_of texts w.0) o n.key q.there m.there q.good.is_sound k m.held in
      record { row = w.0; found = w.1; kind = ap (of_kind (all_rows texts) n.kind) same ∙ m.kind }

  -- the rows that a good row's columns name
  pub named_row : (row : Row) → GoodRow texts row → (n : Naming) → Memᴰ n (facts_of (table_of row) row.bytes).names → Named texts n
  named_row row g n m =
      let w = g.good.named n (subst (λ (f : Facts). Memᴰ n f.names) (sym g.says) m) in
      met_named n w.0 w.1

  -- the row itself meets a condition
  pub named_meets : (n : Naming) (c : Condition) → n.kind ≡ itself c → (w : Named texts n) → (facts_of (table_of w.row) w.row.bytes).meets c ≡ true
  unfolding of_kind
  named_meets n c e w =
      let g = found_good texts n.key w.row w.found in
      ap (λ (f : Facts). f.meets c) (sym g.says) ∙ ap (λ (k : Kind). of_kind (all_rows texts) k (entry_of texts w.row)) (sym e) ∙ w.kind
