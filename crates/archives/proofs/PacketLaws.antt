-- Packets in bytes: one after the other, and in bytes that come in pieces.
use Prim.Native.Nat.{ℕ, zero, suc, ◌+◌, ◌≤◌}
use mathlib.Core.Path.{◌≡◌, refl, ap, ◌∙◌}
use mathlib.Core.Bool.{true, false, cond}
use mathlib.Core.List.{List, [], ◌∷◌, ◌++◌}
use native.Mathlib.Omega.{arith}
use lib.ListN.{length, take, drop, length-append, length-drop, get_or-append}
use lib.Seq.{take-append-le, drop-append-le}
use borrow.Author.Tests.{leb-true, le-leb}
use Rattle.laws.proofs.Cases.{cond_cases, bool_cases}
use Rattle.archives.specs.Packets.{length_said, is_complete, packets_upto, left_upto, packets_in, left_in}

pub said_least : (bytes : List ℕ) → 7 ≤ length_said bytes
unfolding length_said
said_least bytes = omega arith

pub whole_long : (bytes : List ℕ) → is_complete bytes ≡ true → length_said bytes ≤ length bytes
unfolding is_complete
whole_long bytes t = leb-true (length_said bytes) (length bytes) t

-- more than a packet's bytes is enough to count packets by
shorter : (n : ℕ) (bytes : List ℕ) → length bytes ≤ suc n → length (drop (length_said bytes) bytes) ≤ n
shorter n bytes h = let l = said_least bytes in simp length-drop (omega arith)

never_whole : {P : Type 0} (bytes : List ℕ) → length bytes ≤ 0 → is_complete bytes ≡ true → P
never_whole bytes h t = absurd (omega (arith, said_least bytes, whole_long bytes t))

upto_same : (n m : ℕ) (bytes : List ℕ) → length bytes ≤ n → length bytes ≤ m → packets_upto n bytes ≡ packets_upto m bytes
unfolding packets_upto
upto_same zero zero bytes h k = refl
upto_same zero (suc m) bytes h k = cond_cases (λ (ps : List (List ℕ)). [] ≡ ps) (is_complete bytes) (never_whole bytes h) (λ f. refl)
upto_same (suc n) zero bytes h k = cond_cases (λ (ps : List (List ℕ)). ps ≡ []) (is_complete bytes) (never_whole bytes k) (λ f. refl)
upto_same (suc n) (suc m) bytes h k =
    ap (λ (ps : List (List ℕ)). cond (is_complete bytes) (take (length_said bytes) bytes ∷ ps) [])
    (upto_same n m (drop (length_said bytes) bytes) (shorter n bytes h) (shorter m bytes k))

left_same : (n m : ℕ) (bytes : List ℕ) → length bytes ≤ n → length bytes ≤ m → left_upto n bytes ≡ left_upto m bytes
unfolding left_upto
left_same zero zero bytes h k = refl
left_same zero (suc m) bytes h k = cond_cases (λ (l : List ℕ). bytes ≡ l) (is_complete bytes) (never_whole bytes h) (λ f. refl)
left_same (suc n) zero bytes h k = cond_cases (λ (l : List ℕ). l ≡ bytes) (is_complete bytes) (never_whole bytes k) (λ f. refl)
left_same (suc n) (suc m) bytes h k =
    ap (λ (l : List ℕ). cond (is_complete bytes) l bytes) (left_same n m (drop (length_said bytes) bytes) (shorter n bytes h) (shorter m bytes k))

-- the first packet, and those behind it
packets_by_lem : (bytes : List ℕ) → packets_in bytes
    ≡ cond (is_complete bytes) (take (length_said bytes) bytes ∷ packets_in (drop (length_said bytes) bytes)) []
unfolding packets_in packets_upto
packets_by_lem bytes =
    upto_same (length bytes) (suc (length bytes)) bytes (omega arith) (omega arith)
    ∙ ap (λ (ps : List (List ℕ)). cond (is_complete bytes) (take (length_said bytes) bytes ∷ ps) [])
    (upto_same (length bytes) (length (drop (length_said bytes) bytes)) (drop (length_said bytes) bytes)
    (shorter (length bytes) bytes (omega arith)) (omega arith))

left_by : (bytes : List ℕ) → left_in bytes ≡ cond (is_complete bytes) (left_in (drop (length_said bytes) bytes)) bytes
unfolding left_in left_upto
left_by bytes =
    left_same (length bytes) (suc (length bytes)) bytes (omega arith) (omega arith)
    ∙ ap (λ (l : List ℕ). cond (is_complete bytes) l bytes)
    (left_same (length bytes) (length (drop (length_said bytes) bytes)) (drop (length_said bytes) bytes)
    (shorter (length bytes) bytes (omega arith)) (omega arith))

module _ (bytes : List ℕ) where
  pub packets_whole : is_complete bytes ≡ true → packets_in bytes ≡ take (length_said bytes) bytes ∷ packets_in (drop (length_said bytes) bytes)
  packets_whole t = packets_by_lem bytes ∙ rw t

  pub packets_none : is_complete bytes ≡ false → packets_in bytes ≡ []
  packets_none f = packets_by_lem bytes ∙ rw f

  pub left_whole : is_complete bytes ≡ true → left_in bytes ≡ left_in (drop (length_said bytes) bytes)
  left_whole t = left_by bytes ∙ rw t

  pub left_none : is_complete bytes ≡ false → left_in bytes ≡ bytes
  left_none f = left_by bytes ∙ rw f

-- Bytes that come in pieces

module _ (xs ys : List ℕ) (t : is_complete xs ≡ true) where
  said_more : length_said (xs ++ ys) ≡ length_said xs
  unfolding length_said
  said_more =
      let n = whole_long xs t in
      rw (get_or-append xs ys 0 4 (omega (arith, said_least xs)), get_or-append xs ys 0 5 (omega (arith, said_least xs)))

  whole_more : is_complete (xs ++ ys) ≡ true
  unfolding is_complete
  whole_more = rw said_more (simp length-append (le-leb (length_said xs) (length xs + length ys) (omega (arith, whole_long xs t))))

  more_packets : packets_in (xs ++ ys) ≡ take (length_said xs) xs ∷ packets_in (drop (length_said xs) xs ++ ys)
  more_packets =
      packets_whole (xs ++ ys) whole_more
      ∙ rw (said_more, take-append-le (length_said xs) xs ys (whole_long xs t), drop-append-le (length_said xs) xs ys (whole_long xs t))

  more_left : left_in (xs ++ ys) ≡ left_in (drop (length_said xs) xs ++ ys)
  more_left = left_whole (xs ++ ys) whole_more ∙ rw (said_more, drop-append-le (length_said xs) xs ys (whole_long xs t))

-- what is left over of the first bytes stands in front of the next: no packet is lost or cut where they meet
Meets : (xs ys : List ℕ) → Type 0
Meets xs ys = (packets_in (xs ++ ys) ≡ packets_in xs ++ packets_in (left_in xs ++ ys)) × (left_in (xs ++ ys) ≡ left_in (left_in xs ++ ys))

meets_none : (xs ys : List ℕ) → is_complete xs ≡ false → Meets xs ys
unfolding Meets
meets_none xs ys f = (rw (packets_none xs f, left_none xs f), rw (left_none xs f))

meets_whole : (xs ys : List ℕ) → is_complete xs ≡ true → Meets (drop (length_said xs) xs) ys → Meets xs ys
unfolding Meets
meets_whole xs ys t m = (
  rw (more_packets xs ys t, packets_whole xs t, left_whole xs t) (ap (λ (ps : List (List ℕ)). take (length_said xs) xs ∷ ps) m.0),
  rw (more_left xs ys t, left_whole xs t) m.1,
)

meets : (n : ℕ) (xs ys : List ℕ) → length xs ≤ n → Meets xs ys
meets zero xs ys h = bool_cases (is_complete xs) (never_whole xs h) (meets_none xs ys)
meets (suc n) xs ys h =
    bool_cases (is_complete xs) (λ t. meets_whole xs ys t (meets n (drop (length_said xs) xs) ys (shorter n xs h))) (meets_none xs ys)

module _ (xs ys : List ℕ) where
  pub packets_append : packets_in (xs ++ ys) ≡ packets_in xs ++ packets_in (left_in xs ++ ys)
  unfolding Meets
  packets_append = (meets (length xs) xs ys (omega arith)).0

  pub left_append : left_in (xs ++ ys) ≡ left_in (left_in xs ++ ys)
  unfolding Meets
  left_append = (meets (length xs) xs ys (omega arith)).1
