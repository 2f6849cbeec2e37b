-- What a verdict of reason 11 says of the rows that it speaks of: none is good and of the kind asked.
use mathlib.Core.Path.{◌≡◌, refl, sym, ◌∙◌}
use mathlib.Core.Bool.{Bool, true, false, cond, ◌&&◌}
use mathlib.Core.List.Memᴰ
use mathlib.Core.List.{List, [], ◌∷◌, map, Memᴰ}
use Prim.Native.Nat.{ℕ, zero, suc, ◌+◌, ◌-◌, ◌/◌, ◌≤◌, ◌<◌}
use native.Mathlib.Omega.{arith}
use lib.Dec.{eqb}
use lib.ListN.{get_or}
use borrow.Author.Tests.{eq-eqb}
use Rattle.laws.specs.Lists.{any, or_else, first}
use Rattle.laws.proofs.Cases.{false_of, false≢true}
use Rattle.laws.proofs.Tests.{any_keep, any_mem}
use Rattle.schemas.specs.Reasons.{reason_at as verdict_of}
use Rattle.lines.specs.Lines.{Line, lines_of}
use Rattle.schemas.specs.declared.Table.{Table}
use Rattle.schemas.specs.declared.Table.TheVariants.{Pid, Pic, Plf, Pcf, Caf, Cap, Txf, Txp, Ocf, Ocp, Mcf}
use Rattle.formed.specs.Formed.{formed}
use Rattle.verdicts.specs.Facts.{Naming, Count, facts_of}
use Rattle.verdicts.specs.Facts.{pid_facts, pic_facts, plf_facts, pcf_facts, caf_facts, cap_facts, txf_facts, txp_facts, ocf_facts, ocp_facts, mcf_facts}
use Rattle.verdicts.specs.Entries.{Entry, bad, fine, reading_of, own, facts_in, facts, carried, all_rows}
use Rattle.verdicts.specs.Steps.{holds}
use Rattle.verdicts.specs.Verdicts.{tally, shared, count_cell, circle, of_kind, asked, name_cell, judge, verdict}
use Rattle.verdicts.specs.Places.{text_at, no_line, entry_at}
use Rattle.verdicts.proofs.EntryLaws.{row_of}
use Rattle.verdicts.proofs.VerdictLaw.{verdict_law}
use Rattle.causes.specs.Causes.{reason_of, column_of_verdict}

-- the first that isn't 0 is one of them
first_some : {A : Type 0} (f : A → ℕ) (l : List A) → (first (map f l) ≡ 0 → ⊥) → (a : A) × Memᴰ a l × (f a ≡ first (map f l))
first_some f [] h = absurd (h refl)
first_some f (a ∷ l) h = go (f a) refl (λ z. first_some f l z) h
  where
    go : (n : ℕ) → f a ≡ n → ((first (map f l) ≡ 0 → ⊥) → (b : _) × Memᴰ b l × (f b ≡ first (map f l)))
        → (or_else n (first (map f l)) ≡ 0 → ⊥) → (b : _) × Memᴰ b (a ∷ l) × (f b ≡ or_else n (first (map f l)))
    go zero e ih z = let w = ih z in (w.0, Memᴰ.tail w.1, w.2)
    go (suc n) e ih z = (a, Memᴰ.head refl, e)

-- the cells of counts are 0 or of reason 10, where their columns are such
pub record Tenth (n : ℕ) : Type 0 where
  pub below : n < 2816
  pub above : (n ≡ 0 → ⊥) → 2560 ≤ n

-- where nothing but reason 11 can have given the verdict
last_reason : (s : Bool) (c : ℕ) (t : Bool) (n v : ℕ) → Tenth c
    → v ≡ or_else (cond s 2304 0) (or_else c (or_else (cond t 3080 0) n)) → v / 256 ≡ 11 → v ≡ n
last_reason true c t n v h e r = absurd (omega arith)
last_reason false zero true n v h e r = absurd (omega arith)
last_reason false zero false n v h e r = e
last_reason false (suc c) t n v h e r = absurd (omega (arith, h.above (λ z. omega arith), h.below))

module _ (rows : List Entry) (e : Entry) where
  abbrev is_good : Entry → Bool
  is_good o = eqb (verdict rows o) 0

  -- this column names no row that is there, good and of the kind asked
  pub record Unmet (n : Naming) : Type 0 where
    pub among : Memᴰ n (facts e).names
    pub column : n.column ≡ column_of_verdict (verdict rows e)
    pub none : (o : Entry) → Memᴰ o rows → holds o n.key ≡ true → verdict rows o ≡ 0 → of_kind rows n.kind o ≡ false

  unmet_cell : (n : Naming) (v : ℕ) → name_cell rows is_good n ≡ v → v / 256 ≡ 11 → (any is_good (asked rows n) ≡ false) × (v ≡ 2816 + n.column)
  unfolding name_cell
  unmet_cell n v q r = go (any is_good (asked rows n)) refl q
    where
      go : (t : Bool) → any is_good (asked rows n) ≡ t → cond t 0 (verdict_of 11 n.column) ≡ v → (t ≡ false) × (v ≡ 2816 + n.column)
      go true z p = absurd (omega arith)
      go false z p = (refl, sym p)

  -- a good row that holds the key isn't of the kind asked
  other_kind_lem : (n : Naming) → any is_good (asked rows n) ≡ false
      → (o : Entry) → Memᴰ o rows → holds o n.key ≡ true → verdict rows o ≡ 0 → of_kind rows n.kind o ≡ false
  unfolding asked
  other_kind_lem n z o m h g =
      let f : Entry → Bool = λ o. holds o n.key && of_kind rows n.kind o in
      false_of (of_kind rows n.kind o)
      (λ k. false≢true (sym z ∙ any_keep f is_good rows ∙ any_mem (λ o. f o && is_good o) m (rw (h, k, eq-eqb _ _ g))))

  -- THE LAW OF REASON 11: the column of the verdict names a key, and no good row that holds it is of the kind asked
  pub unmet : own e.reading ≡ 0 → Tenth (first (map (count_cell rows) (facts e).counts)) → reason_of (verdict rows e) ≡ 11 → (n : Naming) × Unmet n
  unfolding judge
  unmet z h r =
      let v : verdict rows e ≡ first (map (name_cell rows is_good) (facts e).names) =
      last_reason (shared rows e) (first (map (count_cell rows) (facts e).counts)) (circle rows e) _ _ h (verdict_law rows e ∙ rw z) r in
      let w = first_some (name_cell rows is_good) (facts e).names (λ q. omega arith) in
      let c = unmet_cell w.0 (verdict rows e) (w.2 ∙ sym v) r in
      (w.0, record { among = w.1; column = omega (arith, c.1); none = other_kind_lem w.0 c.0 })

-- ---- rows of the tables

-- a count's column is one of its table's
counts_low : (t : Table) (line : List ℕ) {c : Count} → Memᴰ c (facts_of t line).counts → c.column < 256
unfolding facts_of pid_facts pic_facts plf_facts pcf_facts caf_facts cap_facts txf_facts txp_facts ocf_facts ocp_facts mcf_facts
counts_low Pid line m = absurd (Memᴰ.not-nil m)
counts_low Pic line m = absurd (Memᴰ.not-nil m)
counts_low Plf line m = absurd (Memᴰ.not-nil m)
counts_low Pcf line m = absurd (Memᴰ.not-nil m)
counts_low Caf line m = rw (Memᴰ.eq_of_singleton m) (omega arith)
counts_low Cap line m = absurd (Memᴰ.not-nil m)
counts_low Txf line m = rw (Memᴰ.eq_of_singleton m) (omega arith)
counts_low Txp line m = absurd (Memᴰ.not-nil m)
counts_low Ocf line m = rw (Memᴰ.eq_of_singleton m) (omega arith)
counts_low Ocp line m = absurd (Memᴰ.not-nil m)
counts_low Mcf line m = absurd (Memᴰ.not-nil m)

-- a row that isn't well-formed counts nothing
said_low : (t : Table) (line : Line) (b : Bool) (v : ℕ) {c : Count}
    → Memᴰ c (facts_in (cond b (fine (facts_of t line.bytes)) (bad v))).counts → c.column < 256
said_low t line true v m = counts_low t line.bytes m
said_low t line false v m = absurd (Memᴰ.not-nil m)

or_some : (a b : ℕ) → (a ≡ 0 → ⊥) → or_else a b ≡ a
or_some zero b h = absurd (h refl)
or_some (suc a) b h = refl

tenth_first : (rows : List Entry) (l : List Count) → ((c : Count) → Memᴰ c l → c.column < 256) → Tenth (first (map (count_cell rows) l))
unfolding count_cell
tenth_first rows [] h = record { below = omega arith; above = λ z. absurd (z refl) }
tenth_first rows (c ∷ l) h =
    go (eqb (tally rows c.group) c.number) (h c (Memᴰ.head refl)) (tenth_first rows l (λ d m. h d (Memᴰ.tail m)))
  where
    go : (b : Bool) → c.column < 256 → Tenth (first (map (count_cell rows) l)) → Tenth (or_else (cond b 0 (2560 + c.column)) (first (map (count_cell rows) l)))
    go true low r = r
    go false low r =
        rw (or_some (2560 + c.column) (first (map (count_cell rows) l)) (λ z. omega arith))
        (record { below = omega arith; above = λ _. omega arith })

row_low : (texts : List (List ℕ)) (u r : ℕ) (c : Count) → Memᴰ c (facts (entry_at texts u r)).counts → c.column < 256
unfolding entry_at reading_of
row_low texts u r c m =
    let table = get_or carried u Ocp in
    let line = get_or (lines_of (text_at texts u)) (r - 1) no_line in
    said_low table line (eqb (formed table line) 0) (formed table line) m

same_counts : (e x : Entry) → e ≡ x → ((c : Count) → Memᴰ c (facts x).counts → c.column < 256)
    → (c : Count) → Memᴰ c (facts e).counts → c.column < 256
same_counts e x q f c i = f c (rw q at i)

-- THE LAW OF REASON 11 for rows of the tables
pub unmet_row : (texts : List (List ℕ)) (e : Entry) → Memᴰ e (all_rows texts) → own e.reading ≡ 0 → reason_of (verdict (all_rows texts) e) ≡ 11
    → (n : Naming) × Unmet (all_rows texts) e n
unmet_row texts e m z r =
    let low = same_counts e (entry_at texts e.table e.row) (row_of texts e m).1 (row_low texts e.table e.row) in
    unmet (all_rows texts) e z (tenth_first (all_rows texts) (facts e).counts low) r
