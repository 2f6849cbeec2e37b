-- Hexadecimal digits, written from the last on.
use mathlib.Core.Path.{◌≡◌, sym, ◌∙◌}
use mathlib.Core.List.{List, [], ◌∷◌, ◌++◌, append_assoc, append-nil}
use Prim.Native.Nat.{ℕ, zero, suc, ◌+◌, ◌-◌, ◌/◌, ◌%◌, ◌<◌, ◌≤◌}
use native.Mathlib.Omega.{arith}
use lib.ListN.{length, take, drop, set}
use lib.Seq.{drop-length, drop_at, set_split, length-take-le}
use borrow.Author.Tests.{lt-ltb, le-ltb}
use mathlib.Core.Bool.{false}
use Rattle.laws.specs.Text.{ascii}
use Rattle.answers.specs.Answers.{saying, one}
use Rattle.hex_answers.specs.Hexadecimal.{hex_digit, hexadecimal, bits_answer}

-- before the first of them
pub hex_start : (n : ℕ) (out : List ℕ) → hexadecimal (length out) n ++ drop (length out) out ≡ hexadecimal (length out) n
hex_start n out = rw (drop-length out) (append-nil (hexadecimal (length out) n))

-- what stands from a place on that is written
written : (j d : ℕ) (out : List ℕ) → j < length out → drop j (set out j d) ≡ d ∷ drop (suc j) out
written j d out h = rw (set_split out j d h) (drop_at (take j out) (d ∷ drop (suc j) out) j (length-take-le j out (omega arith)))

-- one digit more
pub hex_more : (i rest d : ℕ) (out whole : List ℕ) → 0 < i → i ≤ length out → d ≡ hex_digit (rest % 16)
    → hexadecimal i rest ++ drop i out ≡ whole → hexadecimal (i - 1) (rest / 16) ++ drop (i - 1) (set out (i - 1) d) ≡ whole
unfolding hexadecimal
hex_more zero rest d out whole p h e w = absurd (omega arith)
hex_more (suc j) rest d out whole p h e w =
    let q : suc j - 1 ≡ j = omega arith in
    rw (q, written j d out (omega arith), e)
    (sym (append_assoc (hexadecimal j (rest / 16)) (hex_digit (rest % 16) ∷ []) (drop (suc j) out)) ∙ w)

-- after the last
pub hex_done : (i rest : ℕ) (out whole : List ℕ) → i ≡ 0 → hexadecimal i rest ++ drop i out ≡ whole → out ≡ whole
unfolding hexadecimal
hex_done i rest out whole z w = rw z at w

-- a digit
pub digit_low : (d : ℕ) → d < 10 → 48 + d ≡ hex_digit d
unfolding hex_digit
digit_low d h = rw (lt-ltb d 10 h)

pub digit_high : (d : ℕ) → 10 ≤ d → 55 + d ≡ hex_digit d
unfolding hex_digit
digit_high d h = rw (le-ltb d 10 h)

-- sixteen of them, before other words
pub digits_long : (xs words : List ℕ) (n : ℕ) → xs ≡ hexadecimal 16 n → length (xs ++ words) ≡ 16 + length words
unfolding hexadecimal
digits_long xs words n e = rw e (omega arith)

pub bits_said : (words xs values : List ℕ) (pattern width : ℕ) → xs ≡ hexadecimal 16 pattern → values ≡ one width
    → saying (ascii "# bits " ++ (xs ++ words)) false values ≡ bits_answer words pattern width
unfolding bits_answer
bits_said words xs values pattern width e v = rw (e, v)
