-- Blocks, one after the other.
use Rattle.std.specs.Prelude.{Option}
use Rattle.std.proofs.Common.{◌≡◌, ℕ, ◌-◌, ◌≤◌, min, List, [], ◌∷◌, ◌++◌, length, sym, refl, ap, ◌∙◌, subst, arith}
use Rattle.lines.specs.Columns.{part_of}
use Rattle.archives.specs.Packets.{length_said, is_complete, packets_in, left_in}
use Rattle.archives.specs.Blocks.{Refilled}
use Rattle.archives.proofs.PacketLaws.{packets_none, left_none}
use Rattle.archives.proofs.BlockLaws.{part_length, part_of_front, new_bytes, packets_next, left_next}
use Rattle.database.specs.Rows.{Rows}
use Rattle.surveying.specs.declared.asking.Question.{Question}
use Rattle.surveying.specs.declared.counting.Tally.{Tally}
use Rattle.surveying.specs.declared.archive.Standing.{Standing}
use Rattle.surveying.specs.Told.{told}
use Rattle.surveying.specs.Surveys.{noted, tallied, surveyed, Surveys}
use Rattle.surveying.specs.Archive.{nothing_read, BlockSurveyed, SurveyedFile}

-- the bytes so far, and what is left over of them stands in the block
pub record SurveyedSo (rows : Rows) (name : List ℕ) (question : Question) (so : Standing) (block : List ℕ) : Type 0 where
  pub bytes : List ℕ
  pub tally : so.tally ≡ surveyed (told rows name question) (tallied 0 0 0) (packets_in bytes)
  pub left : left_in bytes ≡ part_of block so.from so.to
  pub within : so.to ≤ length block

more : (ask : List ℕ → Option ℕ) (t : Tally) (ps qs : List (List ℕ)) → surveyed ask t (ps ++ qs) ≡ surveyed ask (surveyed ask t ps) qs
unfolding surveyed
more ask t [] qs = refl
more ask t (p ∷ ps) qs = more ask (noted t (ask p)) ps qs

module _ (rows : Rows) (name : List ℕ) (question : Question) where
  pub surveyed_none : {s : Standing} {block : List ℕ} → s ≡ nothing_read → SurveyedSo rows name question s block
  unfolding surveyed is_complete length_said
  surveyed_none {s} {block} h =
      let none : packets_in [] ≡ [] = packets_none [] refl in
      let empty : left_in [] ≡ [] = left_none [] refl in
      record {
        bytes = [];
        tally = ap (λ (u : Standing). u.tally) h
            ∙ ap (λ (ps : List (List ℕ)). surveyed (told rows name question) (tallied 0 0 0) ps) (sym none);
        left = empty ∙ rw h;
        within = rw h (omega arith);
      }

  pub surveyed_more : {s t : Standing} {before block : List ℕ} → SurveyedSo rows name question s before → BlockSurveyed rows name question s t before block
      → SurveyedSo rows name question t block
  surveyed_more {s} {t} {before} {block} so turned =
      let ask = told rows name question in
      let r = turned.refilled in
      let p = turned.surveys in
      let all : List ℕ = part_of block 0 t.to in
      record {
        bytes = so.bytes ++ new_bytes r so.bytes so.left;
        tally =
            p.tally
            ∙ ap (λ (u : Tally). surveyed ask u (packets_in all)) so.tally
            ∙ sym (more ask (tallied 0 0 0) (packets_in so.bytes) (packets_in all))
            ∙ ap (λ (ps : List (List ℕ)). surveyed ask (tallied 0 0 0) ps) (sym (packets_next r so.bytes so.left));
        left = left_next r so.bytes so.left ∙ sym p.left ∙ part_of_front block t.from t.to;
        within = r.most;
      }

  pub surveyed_end : {s : Standing} {block : List ℕ} → SurveyedSo rows name question s block → SurveyedFile rows name question s
  surveyed_end {s} {block} so =
      let size = ap length so.left ∙ part_length block s.from s.to in
      record { bytes = so.bytes; tally = so.tally; left = size ∙ ends s.to (length block) s.from so.within }
    where
      ends : (to n from : ℕ) → to ≤ n → min to n - from ≡ to - from
      ends to n from h = omega arith

  -- nothing read is the survey of no packet
  pub surveyed_start : {s : Standing} → s ≡ nothing_read → SurveyedFile rows name question s
  surveyed_start {s} h = surveyed_end (surveyed_none {block = []} h)

  -- the packets of a block are those of the bytes that stand in it
  pub turned : {s t : Standing} {before block bytes : List ℕ} → Refilled s.from s.to t.to before block → bytes ≡ part_of block 0 t.to
      → Surveys rows name question s.tally bytes t.tally t.from → BlockSurveyed rows name question s t before block
  turned {s} {t} r q p =
      record { refilled = r; surveys = subst (λ (l : List ℕ). Surveys rows name question s.tally l t.tally t.from) q p }
