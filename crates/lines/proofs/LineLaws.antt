-- Laws of the lines of a table, as a walk meets them and as a line is replaced.
use mathlib.Core.Path.{◌≡◌, refl, ap, ◌∙◌}
use mathlib.Core.Bool.{Bool, true, false, not, cond}
use mathlib.Core.List.{List, [], ◌∷◌, ◌++◌}
use Prim.Native.Nat.{ℕ, zero, suc, ◌+◌, ◌-◌, ◌<◌, ◌≤◌}
use native.Mathlib.Omega.{arith}
use lib.Dec.{eqb, ltb, leb-suc-suc}
use lib.ListN.{length, get_or, take, drop, drop_of_length-le, length-drop}
use lib.Seq.{drop-drop}
use borrow.Author.Tests.{eq-eqb, ne_eqb, lt-ltb, le-ltb, ltb-true, ltb-false, eqb-true, not-true}
use Rattle.laws.proofs.Lists.{split}
use Rattle.laws.proofs.Cases.{cond_cases, cond_cases₂, bool_cases, and_left, and_right}
use Rattle.lines.specs.declared.walk.NextLine.{NextLine}
use Rattle.lines.specs.Lines.{Line, line_feed, on_first, lead, lines_of, free, whole, line_length, next_line}

-- The length of a line, byte by byte

pub length_here : (s : List ℕ) (i : ℕ) → i < length s → get_or s i 0 ≡ 10 → line_length (drop i s) ≡ 0
unfolding line_length
length_here s i h e = rw (split s i 0 h, eq-eqb (get_or s i 0) 10 e)

pub length_more : (s : List ℕ) (i : ℕ) → i < length s → (get_or s i 0 ≡ 10 → ⊥) → line_length (drop i s) ≡ suc (line_length (drop (i + 1) s))
unfolding line_length
length_more s i h n = rw (split s i 0 h, ne_eqb (get_or s i 0) 10 n)

pub length_none : (s : List ℕ) (i : ℕ) → length s ≤ i → line_length (drop i s) ≡ 0
unfolding line_length
length_none s i h = rw (drop_of_length-le s h)

pub length_fits : (s : List ℕ) → line_length s ≤ length s
unfolding line_length
length_fits [] = omega arith
length_fits (b ∷ bs) =
    let h : line_length bs ≤ length bs = length_fits bs in
    cond_cases (λ (n : ℕ). n ≤ suc (length bs)) (eqb b 10) (λ _. omega arith) (λ _. omega arith)

-- The line that starts at a place

-- a first line of k bytes, and what follows it
abbrev headed : List ℕ → ℕ → List Line
headed s k = record { bytes = take k s; ended = ltb k (length s) } ∷ lines_of (drop (suc k) s)

lead_headed : (b c k : ℕ) (cs : List ℕ) → lines_of (c ∷ cs) ≡ headed (c ∷ cs) k → lead b (lines_of (c ∷ cs)) ≡ headed (b ∷ c ∷ cs) (cond (eqb b 10) 0 (suc k))
unfolding lead on_first
lead_headed b c k cs h =
    cond_cases₂ (λ (ls : List Line) (n : ℕ). ls ≡ headed (b ∷ c ∷ cs) n) (eqb b 10)
    (λ _. rw (lt-ltb 0 (suc (suc (length cs))) (omega arith)))
    (λ _. simp (h, leb-suc-suc))

first_line : (b : ℕ) (bs : List ℕ) → lines_of (b ∷ bs) ≡ headed (b ∷ bs) (line_length (b ∷ bs))
unfolding lines_of line_length lead on_first
first_line b [] = cond_cases₂ (λ (ls : List Line) (n : ℕ). ls ≡ headed (b ∷ []) n) (eqb b 10) (λ _. refl) (λ _. refl)
first_line b (c ∷ cs) = lead_headed b c (line_length (c ∷ cs)) cs (first_line c cs)

-- past the end there are no lines
pub lines_none : (table : List ℕ) (from : ℕ) → length table ≤ from → lines_of (drop from table) ≡ []
unfolding lines_of
lines_none table from h = rw (drop_of_length-le table h)

-- a walk's next line is within the table, and its next place is further on
pub record Bounds (table : List ℕ) (from : ℕ) (n : NextLine) : Type 0 where
  pub starts : from ≤ n.end
  pub ends : n.end ≤ length table
  pub further : from < n.next
  pub within : n.next ≤ length table

module _ (table : List ℕ) (from : ℕ) (n : NextLine) (e : n ≡ next_line table from) (h : from < length table) where
  -- what is left is the line that n bounds, and the lines from the next place on
  pub lines_next : lines_of (drop from table) ≡ record { bytes = take (n.end - from) (drop from table); ended = n.ended } ∷ lines_of (drop n.next table)
  unfolding next_line
  lines_next =
      let k : ℕ = line_length (drop from table) in
      let m : from + k - from ≡ k = omega arith in
      let p : lines_of (drop from table) ≡ headed (drop from table) k = rw (split table from 0 h) (first_line (get_or table from 0) (drop (from + 1) table)) in
      let d : length (drop from table) ≡ length table - from = length-drop from table in
      p ∙ bool_cases (ltb (from + k) (length table))
      (λ t. let u : from + k < length table = ltb-true _ _ t in
      let v : from + suc k ≡ from + k + 1 = omega arith in
      rw (e, t, m, lt-ltb k (length (drop from table)) (omega arith), drop-drop (suc k) from table, v))
      (λ t. let u : length table ≤ from + k = ltb-false _ _ t in
      rw (
        e,
        t,
        m,
        le-ltb k (length (drop from table)) (omega arith),
        drop-drop (suc k) from table,
        drop_of_length-le table {i = from + suc k} (omega arith),
        drop_of_length-le table {i = from + k} (omega arith),
      ))

  pub next_bounds : Bounds table from n
  unfolding next_line
  next_bounds =
      let k : ℕ = line_length (drop from table) in
      let d : length (drop from table) ≡ length table - from = length-drop from table in
      let f : line_length (drop from table) ≤ length (drop from table) = length_fits (drop from table) in
      bool_cases (ltb (from + k) (length table))
      (λ t. let u : from + k < length table = ltb-true _ _ t in
      rw (e, t) (record { starts = omega arith; ends = omega arith; further = omega arith; within = omega arith }))
      (λ t. let u : length table ≤ from + k = ltb-false _ _ t in
      rw (e, t) (record { starts = omega arith; ends = omega arith; further = omega arith; within = omega arith }))

-- Lines by their bytes

lead_free : (b k : ℕ) (ls : List Line) (d : Line) (t : Bool) → eqb b 10 ≡ t → free d.bytes ≡ true → ((j : ℕ) → free (get_or ls j d).bytes ≡ true)
    → free (get_or (lead b ls) k d).bytes ≡ true
unfolding lead on_first free
lead_free b zero ls d true e h f = rw e
lead_free b (suc k) ls d true e h f = rw e (f k)
lead_free b zero [] d false e h f = simp e
lead_free b (suc k) [] d false e h f = rw e h
lead_free b zero (l ∷ ls) d false e h f = simp e (f 0)
lead_free b (suc k) (l ∷ ls) d false e h f = rw e (f (suc k))

-- no line's bytes hold a line feed; d is what reads past the last line
pub lines_free : (table : List ℕ) (k : ℕ) (d : Line) → free d.bytes ≡ true → free (get_or (lines_of table) k d).bytes ≡ true
unfolding lines_of
lines_free [] k d h = h
lines_free (b ∷ bs) k d h = lead_free b k (lines_of bs) d (eqb b 10) refl h (λ j. lines_free bs j d h)

-- a line and its line feed are one line
pub lines_first : (line after : List ℕ) → free line ≡ true → lines_of (line ++ 10 ∷ after) ≡ record { bytes = line; ended = true } ∷ lines_of after
unfolding lines_of lead on_first free
lines_first [] after h = refl
lines_first (b ∷ bs) after h =
    rw (not-true (eqb b 10) (and_left (not (eqb b 10)) (free bs) h), lines_first bs after (and_right (not (eqb b 10)) (free bs) h))

lead_some : (b : ℕ) (ls : List Line) → 0 < length (lead b ls)
unfolding lead on_first
lead_some b [] = cond_cases (λ (ls : List Line). 0 < length ls) (eqb b 10) (λ _. omega arith) (λ _. omega arith)
lead_some b (l ∷ ls) = cond_cases (λ (ls : List Line). 0 < length ls) (eqb b 10) (λ _. omega arith) (λ _. omega arith)

lead_append : (b : ℕ) (ls ms : List Line) → 0 < length ls → lead b (ls ++ ms) ≡ lead b ls ++ ms
unfolding lead on_first
lead_append b [] ms h = absurd (omega arith)
lead_append b (l ∷ ls) ms h = cond_cases₂ (λ (x y : List Line). x ≡ y ++ ms) (eqb b 10) (λ _. refl) (λ _. refl)

-- the lines of two parts of which the first is empty or ends in a line feed
pub lines_append : (before after : List ℕ) → whole before ≡ true → lines_of (before ++ after) ≡ lines_of before ++ lines_of after
unfolding lines_of whole lead
lines_append [] after h = refl
lines_append (b ∷ []) after h = rw h
lines_append (b ∷ c ∷ bs) after h = ap (lead b) (lines_append (c ∷ bs) after h) ∙ lead_append b (lines_of (c ∷ bs)) (lines_of after) (lead_some c (lines_of bs))

-- a line among others
pub lines_around : (before line after : List ℕ) → whole before ≡ true → free line ≡ true
    → lines_of (before ++ (line ++ 10 ∷ after)) ≡ lines_of before ++ record { bytes = line; ended = true } ∷ lines_of after
lines_around before line after h k = rw (lines_append before (line ++ 10 ∷ after) h, lines_first line after k)

-- lines as bytes, each with its line feed where it has one
unfoldable pub bytes_of : List Line → List ℕ
bytes_of [] = []
bytes_of (l ∷ ls) = l.bytes ++ cond l.ended (line_feed ∷ bytes_of ls) (bytes_of ls)

lead_bytes : (b : ℕ) (ls : List Line) → bytes_of (lead b ls) ≡ b ∷ bytes_of ls
unfolding lead on_first bytes_of
lead_bytes b [] = cond_cases (λ (ls : List Line). bytes_of ls ≡ b ∷ []) (eqb b 10) (λ e. rw (eqb-true b 10 e)) (λ _. refl)
lead_bytes b (l ∷ ls) = cond_cases (λ (ms : List Line). bytes_of ms ≡ b ∷ bytes_of (l ∷ ls)) (eqb b 10) (λ e. rw (eqb-true b 10 e)) (λ _. refl)

-- the lines are the table
pub lines_joined : (table : List ℕ) → bytes_of (lines_of table) ≡ table
unfolding lines_of bytes_of
lines_joined [] = refl
lines_joined (b ∷ bs) = lead_bytes b (lines_of bs) ∙ ap (λ (l : List ℕ). b ∷ l) (lines_joined bs)
