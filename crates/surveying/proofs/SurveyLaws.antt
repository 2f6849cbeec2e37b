-- The packets of bytes, asked one after the other.
use Rattle.std.specs.Prelude.{Option, Some, None}
use Rattle.std.proofs.Common.{◌≡◌, ℕ, ◌≤◌, List, ◌∷◌, length, drop, sym, refl, ap, ◌∙◌, arith}
use Rattle.lines.specs.Columns.{part_of}
use Rattle.archives.specs.Packets.{packets_in, left_in}
use Rattle.archives.specs.Framing.{framed_at}
use Rattle.archives.proofs.PacketLaws.{packets_none, left_none}
use Rattle.archives.proofs.FrameLaws.{cut_says, next_packets, next_left, next_within}
use Rattle.database.specs.Rows.{Rows}
use Rattle.surveying.specs.declared.asking.Question.{Question}
use Rattle.surveying.specs.declared.counting.Tally.{Tally}
use Rattle.surveying.specs.Told.{told}
use Rattle.surveying.specs.Surveys.{noted, surveyed, Surveys}

-- what is still to be asked leads to where all of it leads
pub record SurveysSo (rows : Rows) (name : List ℕ) (question : Question) (begun : Tally) (bytes : List ℕ) (tally : Tally) (at : ℕ) : Type 0 where
  pub all : surveyed (told rows name question) tally (packets_in (drop at bytes)) ≡ surveyed (told rows name question) begun (packets_in bytes)
  pub left : left_in (drop at bytes) ≡ left_in bytes
  pub within : at ≤ length bytes

module _ (rows : Rows) (name : List ℕ) (question : Question) where
  pub surveys_none : {begun : Tally} {bytes : List ℕ} → SurveysSo rows name question begun bytes begun 0
  surveys_none = record { all = refl; left = refl; within = omega arith }

  asked : (f : List ℕ → Option ℕ) (tally after : Tally) (p : List ℕ) (ps : List (List ℕ)) → after ≡ noted tally (f p)
      → surveyed f after ps ≡ surveyed f tally (p ∷ ps)
  unfolding surveyed
  asked f tally after p ps e = ap (λ (t : Tally). surveyed f t ps) e

  module _ {begun tally : Tally} {bytes : List ℕ} {at : ℕ} (so : SurveysSo rows name question begun bytes tally at) where
    pub surveys_more : {end : ℕ} {packet : List ℕ} {after : Tally} {t : Option ℕ} → framed_at bytes at ≡ Some end → packet ≡ part_of bytes at end
        → t ≡ told rows name question packet → after ≡ noted tally t → SurveysSo rows name question begun bytes after end
    surveys_more {end} {packet} {after} {t} w q a k =
        let f = told rows name question in
        record {
          all =
              asked f tally after packet (packets_in (drop end bytes)) (k ∙ ap (noted tally) a)
              ∙ ap (λ (ps : List (List ℕ)). surveyed f tally ps) (sym (next_packets bytes at w q))
              ∙ so.all;
          left = next_left bytes at w ∙ so.left;
          within = next_within bytes at w;
        }

    pub surveys_end : framed_at bytes at ≡ None → Surveys rows name question begun bytes tally at
    unfolding surveyed
    surveys_end c =
        let f = cut_says bytes at c in
        record {
          tally =
              ap (λ (ps : List (List ℕ)). surveyed (told rows name question) tally ps) (sym (packets_none (drop at bytes) f)) ∙ so.all;
          left = sym (left_none (drop at bytes) f) ∙ so.left;
          within = so.within;
        }
