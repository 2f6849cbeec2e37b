-- The template, cut, is kept at the front of 64 bytes.
use mathlib.Core.Path.{ap, ◌∙◌}
use mathlib.Core.Bool.{true}
use mathlib.Core.List.{List}
use Prim.Native.Nat.{ℕ}
use native.Mathlib.Omega.{arith}
use lib.ListN.{length, length-take}
use Rattle.name_bytes.specs.Names.{padded}
use Rattle.name_bytes.proofs.NameLaws.{put_padded}
use Rattle.answers.specs.Answers.{composed}
use Rattle.answers.proofs.answer.compose.Goals as goal

pub put-requires : goal.put-requires
put-requires c = omega (arith, simp length-take at (ap length c.part-words.ensures))

pub returns : goal.returns
unfolding composed
returns c = let p = c.part-words in
    let a = c.args in
    λ i. record {
      readable = true;
      template = (c.put.ensures ∙ put_padded 64 p.result.now ∙ ap (λ (t : List ℕ). padded 64 t) p.ensures) i;
      length = ap (λ (t : List ℕ). length t) p.ensures i;
      negative = a.negative;
      values = a.values;
      from = a.from;
      bytes = a.bytes;
      cells = a.cells;
    }
