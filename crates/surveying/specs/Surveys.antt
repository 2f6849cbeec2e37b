-- Packets counted by whether a question answers them, and the weights of the answers added up.
use Rattle.std.specs.Prelude.{◌≡◌, ℕ, ◌+◌, ◌%◌, ◌^◌, ◌≤◌, List, [], ◌∷◌, length, drop, refl, Option, Some, None}
use Rattle.archives.specs.Packets.{packets_in, left_in}
use Rattle.database.specs.Rows.{Rows}
use Rattle.surveying.specs.declared.asking.Question.{Question}
use Rattle.surveying.specs.declared.counting.Tally.{Tally}
use Rattle.surveying.specs.Told.{told}

abbrev pub tallied : (answered refused weight : ℕ) → Tally
tallied answered refused weight = record { answered = answered; refused = refused; weight = weight }

-- as words add
abbrev pub word_sum : ℕ → ℕ → ℕ
word_sum n m = (n + m) % 2 ^ 64

-- one packet more
unfoldable pub noted : Tally → Option ℕ → Tally
noted t (Some w) = tallied (word_sum t.answered 1) t.refused (word_sum t.weight w)
noted t None = tallied t.answered (word_sum t.refused 1) t.weight

unfoldable pub surveyed : (List ℕ → Option ℕ) → Tally → (packets : List (List ℕ)) → Tally
surveyed ask t [] = t
surveyed ask t (p ∷ later) = surveyed ask (noted t (ask p)) later

-- Each packet that stands in the bytes was asked about, and no other; where the bytes begin that are left over.
pub record Surveys (rows : Rows) (name : List ℕ) (question : Question) (begun : Tally) (bytes : List ℕ) (after : Tally) (used : ℕ) : Type 0 where
  pub tally : after ≡ surveyed (told rows name question) begun (packets_in bytes)
  pub left : drop used bytes ≡ left_in bytes
  pub within : used ≤ length bytes

-- of three packets two are answered, and weigh 7 and 2 to the 64th less 2
abbrev asked : List ℕ → Option ℕ
asked [] = None
asked (weight ∷ rest) = Some weight

pub example : surveyed asked (tallied 0 0 0) ((7 ∷ []) ∷ [] ∷ (18446744073709551614 ∷ []) ∷ []) ≡ tallied 2 1 5
unfolding surveyed noted
example = refl
