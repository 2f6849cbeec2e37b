-- A row without reasons 1 to 9 holds its keys alone.
use mathlib.Core.Path.{◌≡◌, sym, ◌∙◌}
use mathlib.Core.Bool.{true, false, not}
use mathlib.Core.List.{List, Memᴰ}
use Prim.Native.Nat.{ℕ}
use lib.Dec.{eqb}
use Rattle.laws.proofs.Cases.{bool_cases, and_right}
use Rattle.laws.proofs.Tests.{any_mem, any_witness, some_kept}
use Rattle.verdicts.specs.Key.{Key, same_key}
use Rattle.verdicts.specs.Entries.{Entry, own, facts, all_rows}
use Rattle.verdicts.specs.Steps.{twin, holds, rivals}
use Rattle.verdicts.specs.Verdicts.{shared, sound}
use Rattle.verdicts.proofs.KeyLaws.{same_key_is}
use Rattle.verdicts.proofs.EntryLaws.{twin_same}

-- two rows that hold a key: both have reason 9
pub both_shared : (rows : List Entry) (e o : Entry) (k : Key) → Memᴰ o rows → holds e k ≡ true → holds o k ≡ true
    → twin e o ≡ false → shared rows e ≡ true
unfolding shared rivals holds
both_shared rows e o k m he ho q =
    let w = any_witness (same_key k) (facts e).keys he in
    let h : holds o w.0 ≡ true = rw (← same_key_is k w.0 w.2) ho in
    let r : rivals e o ≡ true = rw (q, any_mem (holds o) w.1 h) in
    sym (some_kept (rivals e) rows) ∙ any_mem (rivals e) m r

-- a row that holds a key of a sound row is that row
pub alone : (rows : List Entry) (e o : Entry) (k : Key) → Memᴰ o rows → sound rows e ≡ true
    → holds e k ≡ true → holds o k ≡ true → twin e o ≡ true
unfolding sound
alone rows e o k m s he ho =
    bool_cases (twin e o) (λ t. t)
    (λ f. cc (and_right (eqb (own e.reading) 0) (not (shared rows e)) s, both_shared rows e o k m he ho f))

-- the same among all rows of the tables
pub one_holder : (texts : List (List ℕ)) (e o : Entry) (k : Key) → Memᴰ e (all_rows texts) → Memᴰ o (all_rows texts) → sound (all_rows texts) e ≡ true
    → holds e k ≡ true → holds o k ≡ true → e ≡ o
one_holder texts e o k i m s he ho = twin_same texts e o i m (alone (all_rows texts) e o k m s he ho)
