-- Laws of bytes found in a line, and of decimal digits.
use mathlib.Core.Path.{◌≡◌, refl, sym, ap, ◌∙◌}
use mathlib.Core.Bool.{false}
use mathlib.Core.List.{List, [], ◌∷◌, ◌++◌}
use Prim.Native.Nat.{ℕ, zero, suc, ◌+◌, ◌-◌, ◌/◌, ◌%◌, ◌^◌, ◌<◌, ◌≤◌}
use native.Mathlib.Omega.{arith}
use native.Mathlib.Numerals.{add-one}
use native.Mathlib.Nat.{pow-suc}
use lib.Dec.{eqb, ltb}
use lib.ListN.{length, get_or, take, drop, drop_of_length-le, length-take}
use lib.Seq.{get_or-take}
use borrow.Author.Tests.{eq-eqb, ne_eqb, eqb-true, lt-ltb, le-ltb, ltb-true, ltb-false}
use Rattle.laws.proofs.Lists.{split}
use Rattle.laws.proofs.Cases.{bool_cases, false≢true}
use Rattle.laws.specs.Text.{ascii}
use Rattle.name_bytes.specs.Names.{same_bytes}
use Rattle.spoken.specs.Spoken.{places, decimal, spelled, cell_text, position_text, cells_text, matched, matched_all}
use Rattle.io.specs.Digits.{last_digits, IsDigitCount}

-- Bytes found in a line

pub matched_append : (line : List ℕ) (at : ℕ) (a b : List ℕ) → matched_all line at (a ++ b) ≡ matched_all line (matched_all line at a) b
unfolding matched_all
matched_append line at [] b = refl
matched_append line at (x ∷ a) b = matched_append line (matched line at x) a b

module _ (line : List ℕ) (at : ℕ) (text : List ℕ) (i : ℕ) where
  pub all_more : i < length text → matched_all line at (drop i text) ≡ matched_all line (matched line at (get_or text i 0)) (drop (i + 1) text)
  unfolding matched_all
  all_more h = rw (split text i 0 h)

  pub all_none : length text ≤ i → matched_all line at (drop i text) ≡ at
  unfolding matched_all
  all_none h = rw (drop_of_length-le text h)

module _ (line : List ℕ) (at b : ℕ) where
  pub matched_here : at < length line → get_or line at 0 ≡ b → matched line at b ≡ at + 1
  unfolding matched
  matched_here h e = rw (lt-ltb at (length line) h, eq-eqb (get_or line at 0) b e)

  pub matched_other : at < length line → (get_or line at 0 ≡ b → ⊥) → matched line at b ≡ length line + 1
  unfolding matched
  matched_other h n = rw (lt-ltb at (length line) h, ne_eqb (get_or line at 0) b n)

  pub matched_past : length line ≤ at → matched line at b ≡ length line + 1
  unfolding matched
  matched_past h = rw (le-ltb at (length line) h)

-- from past the end no place of the line is reached
stuck : (line : List ℕ) (at : ℕ) (w : List ℕ) → length line < at → eqb (matched_all line at w) (length line) ≡ false
unfolding matched_all
stuck line at [] h = ne_eqb at (length line) (λ e. omega arith)
stuck line at (b ∷ w) h = rw (matched_past line at b (omega arith)) (stuck line (length line + 1) w (omega arith))

-- a walk that ends where the line ends has found the rest of it
pub matched_is : (line : List ℕ) (at : ℕ) (w : List ℕ) → at ≤ length line → eqb (matched_all line at w) (length line) ≡ same_bytes w (drop at line)
unfolding matched_all same_bytes
matched_is line at [] h =
    bool_cases (eqb at (length line))
    (λ t. let e : at ≡ length line = eqb-true _ _ t in rw (drop_of_length-le line {i = at} (omega arith), t))
    (λ f. let g : (at ≡ length line → ⊥) = λ e. false≢true (sym f ∙ eq-eqb at (length line) e) in
    let n : at < length line = omega arith in
    rw (split line at 0 n, f))
matched_is line at (b ∷ w) h =
    bool_cases (ltb at (length line))
    (λ t. let n : at < length line = ltb-true _ _ t in
    bool_cases (eqb (get_or line at 0) b)
    (λ s. let e : get_or line at 0 ≡ b = eqb-true _ _ s in
    rw (matched_here line at b n e, split line at 0 n, eq-eqb b (get_or line at 0) (sym e)) (matched_is line (at + 1) w (omega arith)))
    (λ s. rw (
      matched_other line at b n (λ e. false≢true (sym s ∙ eq-eqb (get_or line at 0) b e)),
      split line at 0 n,
      ne_eqb b (get_or line at 0) (λ e. false≢true (sym s ∙ eq-eqb (get_or line at 0) b (sym e))),
    )
    (stuck line (length line + 1) w (omega arith))))
    (λ t. let n : length line ≤ at = ltb-false _ _ t in
    rw (matched_past line at b n, drop_of_length-le line n) (stuck line (length line + 1) w (omega arith)))

-- Decimal digits

ten_pow : (j : ℕ) → 1 ≤ 10 ^ j
ten_pow zero = omega arith
ten_pow (suc j) = omega (arith, pow-suc 10 j, ten_pow j)

-- a number of k digits, the fewest, has as many places
pub fewest_is : (most n k : ℕ) → n < 10 ^ suc most → IsDigitCount 10 1 n k → k ≡ places most n
unfolding places
fewest_is most n zero h (f, g, m) = absurd (omega arith)
fewest_is zero n (suc zero) h f = refl
fewest_is (suc most) n (suc zero) h (f, g, m) = rw (lt-ltb n 10 (omega arith))
fewest_is zero n (suc (suc j)) h (f, g, m) =
    let e : suc (suc j) - 1 ≡ suc j = omega arith in
    let q : 10 ^ suc j ≤ n = rw e at (m (omega arith)) in
    absurd (omega (arith, pow-suc 10 j, ten_pow j))
fewest_is (suc most) n (suc (suc j)) h (f, g, m) =
    let e : suc (suc j) - 1 ≡ suc j = omega arith in
    let d : suc j - 1 ≡ j = omega arith in
    let q : 10 ^ suc j ≤ n = rw e at (m (omega arith)) in
    let t : 10 ≤ n = omega (arith, pow-suc 10 j, ten_pow j) in
    let r : IsDigitCount 10 1 (n / 10) (suc j) = (omega arith, omega (arith, pow-suc 10 (suc j)), λ l. rw d (omega (arith, pow-suc 10 j))) in
    rw (le-ltb n 10 t) (ap suc (fewest_is most (n / 10) (suc j) (omega (arith, pow-suc 10 (suc most))) r))

pub decimal_is : (n r : ℕ) (text : List ℕ) → n < 2 ^ 64 → IsDigitCount 10 1 n r → text ≡ last_digits 10 r n → text ≡ decimal n
unfolding decimal
decimal_is n r text h f e = e ∙ ap (λ (k : ℕ). last_digits 10 k n) (fewest_is 20 n r (omega arith) f)

-- A template

module _ (line : List ℕ) (at : ℕ) (template values : List ℕ) (k i : ℕ) where
  pub number_more : i < length template → get_or template i 0 ≡ 35
      → matched_all line at (spelled k (drop i template) values)
      ≡ matched_all line (matched_all line at (decimal (get_or values k 0))) (spelled (k + 1) (drop (i + 1) template) values)
  unfolding spelled
  number_more h e =
      rw (split template i 0 h, eq-eqb (get_or template i 0) 35 e, add-one k)
      (matched_append line at (decimal (get_or values k 0)) (spelled (suc k) (drop (i + 1) template) values))

  pub word_more : i < length template → (get_or template i 0 ≡ 35 → ⊥)
      → matched_all line at (spelled k (drop i template) values)
      ≡ matched_all line (matched line at (get_or template i 0)) (spelled k (drop (i + 1) template) values)
  unfolding spelled matched_all
  word_more h n = rw (split template i 0 h, ne_eqb (get_or template i 0) 35 n)

  pub template_end : length template ≤ i → matched_all line at (spelled k (drop i template) values) ≡ at
  unfolding spelled matched_all
  template_end h = rw (drop_of_length-le template h)

-- Cells

pub cell_good : (line : List ℕ) (at cell : ℕ) → cell ≡ 0 → matched_all line at (ascii " good") ≡ matched_all line at (cell_text cell)
unfolding cell_text
cell_good line at cell e = rw (eq-eqb cell 0 e)

pub cell_bad : (line : List ℕ) (at cell : ℕ) → (cell ≡ 0 → ⊥)
    → matched_all line (matched line (matched_all line (matched line at 32) (decimal (cell / 256))) 58) (decimal (cell % 256))
    ≡ matched_all line at (cell_text cell)
unfolding cell_text matched_all
cell_bad line at cell n = rw (ne_eqb cell 0 n) (sym (matched_append line (matched line at 32) (decimal (cell / 256)) (58 ∷ decimal (cell % 256))))

pub position_none : (line : List ℕ) (at position : ℕ) → position ≡ 0 → at ≡ matched_all line at (position_text position)
unfolding position_text matched_all
position_none line at position e = rw (eq-eqb position 0 e)

pub position_said : (line : List ℕ) (at position : ℕ) → (position ≡ 0 → ⊥)
    → matched_all line (matched line at 64) (decimal position) ≡ matched_all line at (position_text position)
unfolding position_text matched_all
position_said line at position n = rw (ne_eqb position 0 n)

no_positions : (cells : List ℕ) → cells_text cells [] ≡ []
unfolding cells_text
no_positions [] = refl
no_positions (c ∷ cells) = refl

module _ (line : List ℕ) (at : ℕ) (cells positions : List ℕ) (n i : ℕ) where
  pub cells_more : i < n → i < length cells → i < length positions
      → matched_all line at (cells_text (drop i (take n cells)) (drop i positions))
      ≡ matched_all line (matched_all line (matched_all line at (cell_text (get_or cells i 0))) (position_text (get_or positions i 0)))
      (cells_text (drop (i + 1) (take n cells)) (drop (i + 1) positions))
  unfolding cells_text
  cells_more h k p =
      let l : i < length (take n cells) = omega (arith, length-take n cells) in
      let cell = cell_text (get_or cells i 0) in
      let position = position_text (get_or positions i 0) in
      let rest = cells_text (drop (i + 1) (take n cells)) (drop (i + 1) positions) in
      rw (split (take n cells) i 0 l, split positions i 0 p, get_or-take n cells i 0 h)
      (matched_append line at (cell ++ position) rest ∙ ap (λ (k : ℕ). matched_all line k rest) (matched_append line at cell position))

  pub cells_none : length (take n cells) ≤ i → matched_all line at (cells_text (drop i (take n cells)) (drop i positions)) ≡ at
  unfolding cells_text matched_all
  cells_none h = rw (drop_of_length-le (take n cells) h)

  pub positions_none : length positions ≤ i → matched_all line at (cells_text (drop i (take n cells)) (drop i positions)) ≡ at
  unfolding matched_all
  positions_none h = rw (drop_of_length-le positions h, no_positions)

-- An answer, part by part

pub agrees_is : (line sign words text cells : List ℕ)
    → eqb (matched_all line (matched_all line (matched_all line (matched_all line (matched_all line 0 (61 ∷ 32 ∷ [])) sign) words) text) cells)
    (length line)
    ≡ same_bytes (61 ∷ 32 ∷ (sign ++ words ++ text ++ cells)) line
agrees_is line sign words text cells =
    rw (
      ← matched_append line 0 (61 ∷ 32 ∷ []) sign,
      ← matched_append line 0 ((61 ∷ 32 ∷ []) ++ sign) words,
      ← matched_append line 0 ((61 ∷ 32 ∷ []) ++ sign ++ words) text,
      ← matched_append line 0 ((61 ∷ 32 ∷ []) ++ sign ++ words ++ text) cells,
    )
    (matched_is line 0 (61 ∷ 32 ∷ (sign ++ words ++ text ++ cells)) (omega arith))
