-- What makes a step, and that rows with reasons 1 to 8 neither reach nor are reached.
use mathlib.Core.Path.{◌≡◌, sym, ◌∙◌}
use mathlib.Core.Bool.{true, false, ◌&&◌, ◌||◌}
use mathlib.Core.List.{List, Memᴰ}
use Prim.Native.Nat.{ℕ}
use lib.Dec.{eqb}
use Rattle.laws.proofs.Cases.{false≢true, and_left, and_right, or_left, or_right, and_false}
use Rattle.laws.proofs.Tests.{any_mem, any_witness, any_never}
use Rattle.verdicts.specs.Key.{Key}
use Rattle.verdicts.specs.Facts.{Naming, Count}
use Rattle.verdicts.specs.Entries.{Entry, bad, facts}
use Rattle.verdicts.specs.Steps.{holds, belongs, rivals, names, names_at, counts, step, Reach, one, more}
use Rattle.verdicts.specs.Verdicts.{follows}

-- to another row that holds one of its keys
pub rival_step : (e o : Entry) → rivals e o ≡ true → step e o ≡ true
unfolding step
rival_step e o t = or_left _ (or_left _ t)

-- to a row that holds a key which it names
pub name_step : (e o : Entry) (n : Naming) → Memᴰ n (facts e).names → holds o n.key ≡ true → step e o ≡ true
unfolding step names
name_step e o n m t = or_left _ (or_right (rivals e o) (any_mem (λ n. holds o n.key) m t))

-- to a row of a group that it counts
pub count_step : (e o : Entry) (c : Count) → Memᴰ c (facts e).counts → belongs o c.group ≡ true → step e o ≡ true
unfolding step counts
count_step e o c m t = or_right (rivals e o || names e o) (any_mem (λ c. belongs o c.group) m t)

-- to the next row of its VALID chain
pub chain_step : (e o : Entry) → follows e o ≡ true → step e o ≡ true
unfolding follows
chain_step e o t =
    let w = any_witness (λ n. holds o n.key && n.chained) (facts e).names t in
    name_step e o w.0 w.1 (and_left _ _ w.2)

-- to a row that one of its columns names
pub column_step : (column : ℕ) (e o : Entry) → names_at column e o ≡ true → step e o ≡ true
unfolding names_at
column_step column e o t =
    let w = any_witness (λ n. eqb n.column column && holds o n.key) (facts e).names t in
    name_step e o w.0 w.1 (and_right (eqb w.0.column column) _ w.2)

-- a row with one of reasons 1 to 8 holds no key
pub bad_holds : (o : Entry) (v : ℕ) → o.reading ≡ bad v → (k : Key) → holds o k ≡ false
unfolding holds
bad_holds o v b k = rw b

-- and is in no group
pub bad_belongs : (o : Entry) (v : ℕ) → o.reading ≡ bad v → (k : Key) → belongs o k ≡ false
unfolding belongs
bad_belongs o v b k = rw b

-- 01: "Steps for demand 3 are between rows without reasons 1–8": none is from another row
pub no_step_from : (e o : Entry) (v : ℕ) → e.reading ≡ bad v → step e o ≡ false
unfolding step rivals names counts
no_step_from e o v b = simp (b, and_false)

-- and none to another row
pub no_step_to : (e o : Entry) (v : ℕ) → o.reading ≡ bad v → step e o ≡ false
unfolding step rivals names counts
no_step_to e o v b =
    simp (
      any_never (holds o) (facts e).keys (bad_holds o v b),
      any_never (λ n. holds o n.key) (facts e).names (λ n. bad_holds o v b n.key),
      any_never (λ c. belongs o c.group) (facts e).counts (λ c. bad_belongs o v b c.group),
      and_false,
    )

-- a row with one of reasons 1 to 8 reaches nothing
pub no_reach_from : (rows : List Entry) (x e : Entry) (v : ℕ) → e.reading ≡ bad v → Reach rows x e → ⊥
no_reach_from rows x e v b (one m t) = false≢true (sym (no_step_from e x v b) ∙ t)
no_reach_from rows x e v b (more {o = o} m t r) = false≢true (sym (no_step_from e o v b) ∙ t)

-- and nothing reaches it
pub no_reach_to : (rows : List Entry) (x e : Entry) (v : ℕ) → x.reading ≡ bad v → Reach rows x e → ⊥
no_reach_to rows x e v b (one m t) = false≢true (sym (no_step_to e x v b) ∙ t)
no_reach_to rows x e v b (more {o = o} m t r) = no_reach_to rows x o v b r
