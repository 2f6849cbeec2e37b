-- What callers of the first pass need: arrays that are ready for it, and a row's line read again by what is kept of it.
use mathlib.Core.Path.{◌≡◌, refl, ap, sym, ◌∙◌}
use mathlib.Core.List.{List, []}
use Prim.Native.Nat.{ℕ, suc, ◌+◌, ◌-◌, ◌≤◌, ◌<◌}
use native.Mathlib.Omega.{arith}
use lib.Dec.{ltb}
use lib.ListN.{length, get_or, take, drop, replicate, length-drop, length-replicate}
use borrow.Author.Tests.{ltb-true, ltb-false}
use Rattle.laws.proofs.Cases.{bool_cases}
use Rattle.kept.specs.Puts.{all_halves, all_bytes}
use Rattle.kept.proofs.PlaceLaws.{at_is}
use Rattle.lines.specs.Lines.{Line, lines_of, line_length, next_line, line_from}
use Rattle.lines.specs.declared.walk.NextLine.{NextLine}
use Rattle.lines.proofs.LineLaws.{lines_next, lines_none}
use Rattle.schemas.specs.Reasons.{line_of}
use Rattle.symbols.specs.Arrays.{all_words, all_links}
use Rattle.symbols.proofs.FindLaws.{table_zeros}
use Rattle.verdicts.specs.Entries.{Entry, carried_at, entry, all_rows}
use Rattle.verdicts.specs.Places.{text_at, no_line, entry_at, rows_before, place}
use Rattle.verdicts.proofs.EntryLaws.{rows_before_next, row_at}
use Rattle.kept.specs.FirstPass.{arrays, Ready, table_line, Situated}

-- arrays whose links are cleared
pub ready_cleared : (words links₀ links halves bytes : List ℕ) → links ≡ replicate (length links₀) 0 → all_words ≤ length words
    → all_links ≤ length links₀ → all_halves ≤ length halves → all_bytes ≤ length bytes → Ready (arrays words links 0 halves bytes)
ready_cleared words links₀ links halves bytes e w l h b =
    rw e
    (record {
      table = table_zeros words (length links₀);
      spacious = record { words = w; links = omega (arith, length-replicate {A = ℕ} (length links₀) 0) };
      wide = record { halves = h; bytes = b };
    })

module _ (texts : List (List ℕ)) (t start i : ℕ) (w : Situated texts t start i) where
  abbrev text : List ℕ
  text = text_at texts t

  -- its number in its table, from 0
  abbrev j : ℕ
  j = i - rows_before texts t

  pub line_below : j < length (lines_of text)
  line_below = omega (arith, w.low, w.high, rows_before_next texts t)

  -- its line starts in the table
  pub start_below : start < length text
  start_below =
      bool_cases (ltb start (length text))
      (λ q. ltb-true start (length text) q)
      (λ q. let e : drop j (lines_of text) ≡ [] = sym w.start ∙ lines_none text start (ltb-false start (length text) q) in
      absurd (omega (arith, line_below, length-drop j (lines_of text), ap length e)))

  -- and is the one that is met there
  pub line_again : (n : NextLine) → n ≡ next_line text start → table_line text j ≡ line_of (take (n.end - start) (drop start text)) n.ended
  line_again n e = at_is (lines_of text) j no_line (sym w.start ∙ lines_next text start n e start_below)

  -- the row is made of this line
  pub row_again : (d : Entry) → get_or (all_rows texts) i d ≡ entry (carried_at t) t (suc j) (table_line text j)
  unfolding entry_at place
  row_again d =
      let s : suc j - 1 ≡ j = omega arith in
      let z : rows_before texts t + j ≡ i = omega (arith, w.low) in
      rw (s, z) at (row_at texts t (suc j) (record { table = w.below; above = omega arith; below = line_below }) d)

-- its line is the one that starts where it is kept
pub line_there : {texts : List (List ℕ)} {t start i : ℕ} (w : Situated texts t start i)
    → (table_line (text_at texts t) (i - rows_before texts t)).bytes ≡ (line_from (text_at texts t) start).bytes
unfolding next_line line_from
line_there {texts} {t} {start} {i} w =
    let k : ℕ = line_length (drop start (text_at texts t)) in
    let e : start + k - start ≡ k = omega arith in
    ap (λ (l : Line). l.bytes) (line_again texts t start i w (next_line (text_at texts t) start) refl) ∙ rw e
