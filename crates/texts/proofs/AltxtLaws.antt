-- Where a column stands in its line, and a line in its table: the part of txp at the place that is answered is ALTXT.
use mathlib.Core.Path.{◌≡◌, refl, sym, ◌∙◌}
use mathlib.Core.List.{List, [], ◌∷◌, ◌++◌, append_assoc}
use Prim.Native.Nat.{ℕ, zero, suc, ◌+◌, ◌-◌, ◌≤◌, ◌<◌}
use native.Mathlib.Omega.{arith}
use lib.Dec.{eqb, leb, ltb}
use lib.ListN.{length, get_or, take, drop, length-append, length-take, length-drop, drop_of_length-le}
use lib.Seq.{take-take, take-nil, drop-drop, append_snoc, take-append_seam, drop-append_seam}
use borrow.Author.Tests.{le-leb, ltb-true, ltb-false}
use Rattle.laws.proofs.Cases.{cond_cases, bool_cases}
use Rattle.lines.specs.Lines.{line_length, line_from}
use Rattle.lines.specs.Columns.{tab, columns_from, columns_of, column_at, Place, places_from, places_of, part_of}
use Rattle.decoding.specs.Records.{column, txp_row}
use Rattle.rows.specs.declared.records.TxpRow.{TxpRow}
use Rattle.string_fields.specs.Text.{part_at}
use Rattle.database.specs.Rows.{Row}
use Rattle.texts.specs.Texts.{altxt_of}

abbrev nowhere : Place
nowhere = record { start = 0; end = 0 }

-- a column starts no later than it ends
starts_first : (a : ℕ) (cs : List (List ℕ)) (k : ℕ) → (get_or (places_from a cs) k nowhere).start ≤ (get_or (places_from a cs) k nowhere).end
unfolding places_from
starts_first a [] k = omega arith
starts_first a (c ∷ cs) zero = omega arith
starts_first a (c ∷ cs) (suc k) = starts_first (a + length c + 1) cs k

-- and ends inside the line
abbrev Inside : ℕ → ℕ → List (List ℕ) → Type 0
Inside most a cs = (k : ℕ) → (get_or (places_from a cs) k nowhere).end ≤ most

inside_more : (most a : ℕ) (c : List ℕ) (cs : List (List ℕ)) → a + length c ≤ most → Inside most (a + length c + 1) cs → Inside most a (c ∷ cs)
unfolding places_from
inside_more most a c cs h w zero = h
inside_more most a c cs h w (suc k) = w k

inside_none : (most a : ℕ) → Inside most a []
unfolding places_from
inside_none most a k = omega arith

ends_inside : (most : ℕ) (bs : List ℕ) (a : ℕ) (c : List ℕ) → a + length c + length bs ≤ most → Inside most a (columns_from c bs)
unfolding columns_from
ends_inside most [] a c h = inside_more most a c [] (omega arith) (inside_none most (a + length c + 1))
ends_inside most (b ∷ bs) a c h =
    cond_cases (Inside most a) (eqb b tab)
    (λ _. inside_more most a c (columns_from [] bs) (omega arith) (ends_inside most bs (a + length c + 1) [] (omega arith)))
    (λ _. ends_inside most bs a (c ++ b ∷ []) (omega (arith, length-append c (b ∷ []))))

module _ (line : List ℕ) where
  place_first : (txp_row line).start ≤ (txp_row line).end
  unfolding txp_row places_of
  place_first = starts_first 0 (columns_of line) 3

  place_inside : (txp_row line).end ≤ length line
  unfolding txp_row places_of columns_of
  place_inside = ends_inside (length line) line 0 [] (omega arith) 3

-- of a row that was read
module _ (line : List ℕ) {range : TxpRow} (e : range ≡ txp_row line) where
  pub altxt_first : range.start ≤ range.end
  altxt_first = rw e (place_first line)

  pub altxt_inside : range.end ≤ length line
  altxt_inside = rw e (place_inside line)

-- A text's bytes: the part of its table at the place that is answered is ALTXT

-- p are the bytes before the column that c starts and l goes on
cut : (p c l : List ℕ) → part_of (p ++ (c ++ l)) (length p) (length p + length c) ≡ c
cut p c l = let n : length p + length c - length p ≡ length c = omega arith in rw (n, drop-append_seam p (c ++ l), take-append_seam c l)

abbrev part_in : List ℕ → List Place → ℕ → List ℕ
part_in line ps k = part_of line (get_or ps k nowhere).start (get_or ps k nowhere).end

parts_from : (l p c : List ℕ) (k : ℕ) → part_in (p ++ (c ++ l)) (places_from (length p) (columns_from c l)) k ≡ column_at (columns_from c l) k
unfolding columns_from places_from
parts_from [] p c zero = cut p c []
parts_from [] p c (suc k) = refl
parts_from (b ∷ bs) p c zero =
    cond_cases (λ (cs : List (List ℕ)). part_in (p ++ (c ++ b ∷ bs)) (places_from (length p) cs) 0 ≡ column_at cs 0) (eqb b tab)
    (λ _. cut p c (b ∷ bs))
    (λ _. rw (append_snoc c b bs) at (parts_from bs p (c ++ b ∷ []) 0))
parts_from (b ∷ bs) p c (suc k) =
    let n : length (p ++ (c ++ b ∷ [])) ≡ length p + length c + 1 = simp length-append (omega arith) in
    cond_cases (λ (cs : List (List ℕ)). part_in (p ++ (c ++ b ∷ bs)) (places_from (length p) cs) (suc k) ≡ column_at cs (suc k)) (eqb b tab)
    (λ _. rw (n, append_assoc p (c ++ b ∷ []) bs, append_snoc c b bs) at (parts_from bs (p ++ (c ++ b ∷ [])) [] k))
    (λ _. rw (append_snoc c b bs) at (parts_from bs p (c ++ b ∷ []) (suc k)))

part_column : (line : List ℕ) → part_of line (txp_row line).start (txp_row line).end ≡ column line 3
unfolding txp_row column places_of columns_of
part_column line = parts_from line [] [] 3

-- a part of the first m elements is that part of them all
part_within : (l : List ℕ) (m s n : ℕ) → s + n ≤ m → take n (drop s (take m l)) ≡ take n (drop s l)
part_within l m zero n h = take-take n m l (omega arith)
part_within l zero (suc s) n h = absurd (omega arith)
part_within [] (suc m) (suc s) n h = refl
part_within (x ∷ l) (suc m) (suc s) n h = part_within l m s n (omega arith)

-- a line ends inside its table
line_inside : (text : List ℕ) (start : ℕ) → length (line_from text start).bytes ≤ length text - start
unfolding line_from
line_inside text start = omega (arith, length-take (line_length (drop start text)) (drop start text), length-drop start text)

line_part : (text : List ℕ) (start s n : ℕ) → (let line = (line_from text start).bytes in
    s + n ≤ length line → take n (drop s line) ≡ take n (drop s (drop start text)))
unfolding line_from
line_part text start s n h =
    part_within (drop start text) (line_length (drop start text)) s n (omega (arith, h, length-take (line_length (drop start text)) (drop start text)))

-- no bytes are no part
no_part : (text : List ℕ) (from : ℕ) → part_at text from 0 ≡ []
unfolding part_at
no_part text from = cond_cases (λ (l : List ℕ). l ≡ []) (leb (from + 0) (length text)) (λ _. refl) (λ _. refl)

-- of a row whose line stands in its table
module _ (text : List ℕ) (row : Row) (stands : row.bytes ≡ (line_from text row.start).bytes) where
  inside : row.start ≤ length text → part_at text (altxt_of row).start (altxt_of row).bytes ≡ column row.bytes 3
  unfolding part_at altxt_of
  inside h =
      let line = row.bytes in
      let start = row.start in
      let s = (txp_row line).start in
      let e = (txp_row line).end in
      let n : length line ≤ length text - start = rw stands (line_inside text start) in
      let p : s + (e - s) ≤ length line = omega (arith, place_first line, place_inside line) in
      rw (le-leb (start + s + (e - s)) (length text) (omega arith), ← drop-drop s start text)
      (sym (line_part text start s (e - s) (rw (← stands) p)) ∙ rw (← stands) (part_column line))

  outside : length text < row.start → part_at text (altxt_of row).start (altxt_of row).bytes ≡ column row.bytes 3
  unfolding altxt_of txp_row column columns_of columns_from places_of places_from line_from
  outside h =
      let e : row.bytes ≡ [] = stands ∙ rw (drop_of_length-le text {i = row.start} (omega arith), take-nil) in
      rw e (no_part text (row.start + 0))

  pub altxt_bytes : part_at text (altxt_of row).start (altxt_of row).bytes ≡ column row.bytes 3
  altxt_bytes = bool_cases (ltb (length text) row.start) (λ t. outside (ltb-true _ _ t)) (λ f. inside (ltb-false _ _ f))
