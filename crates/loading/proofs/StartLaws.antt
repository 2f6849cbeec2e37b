-- Where the lines of a table start: after the lines before, each with its line feed.
use mathlib.Core.Path.{◌≡◌, refl, ap, sym, ◌∙◌}
use mathlib.Core.Bool.{Bool, true, false}
use mathlib.Core.List.{List, [], ◌∷◌}
use Prim.Native.Nat.{ℕ, zero, suc, ◌+◌, ◌-◌, ◌<◌}
use native.Mathlib.Omega.{arith}
use native.Mathlib.Nat.{le_of_suc-le-suc}
use lib.Dec.{eqb}
use lib.ListN.{length, take, drop, length-drop}
use Rattle.lines.specs.Lines.{Line, line_feed, on_first, lead, lines_of}
use Rattle.lines.proofs.LineLaws.{bytes_of, lines_joined}
use Rattle.kept.specs.FirstPass.{StartsAt}

-- the bytes of lines that line feeds end
unfoldable pub extent : List Line → ℕ
extent [] = 0
extent (l ∷ ls) = length l.bytes + 1 + extent ls

-- the lines before any line are ended
abbrev Parted : List Line → Type 0
Parted ls = (j : ℕ) → j < length ls → length (bytes_of ls) ≡ extent (take j ls) + length (bytes_of (drop j ls))

lead_parted : (b : ℕ) (ls : List Line) (t : Bool) → eqb b line_feed ≡ t → Parted ls → Parted (lead b ls)
unfolding lead on_first extent bytes_of
lead_parted b ls true e h zero p = rw e (omega arith)
lead_parted b ls true e h (suc j) p = rw e (omega (arith, h j (le_of_suc-le-suc (rw e at p))))
lead_parted b [] false e h zero p = rw e (omega arith)
lead_parted b [] false e h (suc j) p = absurd (omega (arith, rw e at p))
lead_parted b (l ∷ ls) false e h zero p = rw e (omega arith)
lead_parted b (l ∷ ls) false e h (suc j) p = rw e (omega (arith, h (suc j) (rw e at p)))

parted : (text : List ℕ) → Parted (lines_of text)
unfolding lines_of
parted [] j p = absurd (omega arith)
parted (b ∷ bs) j p = lead_parted b (lines_of bs) (eqb b line_feed) refl (parted bs) j p

-- a line starts where the lines before it end
pub start_is : (text : List ℕ) (j start : ℕ) → j < length (lines_of text) → start < length text → StartsAt text j start → start ≡ extent (take j (lines_of text))
start_is text j start p q e =
    let a : length (bytes_of (lines_of text)) ≡ length text = ap length (lines_joined text) in
    let b : length (bytes_of (drop j (lines_of text))) ≡ length text - start =
    ap (λ (ls : List Line). length (bytes_of ls)) (sym e) ∙ ap length (lines_joined (drop start text)) ∙ length-drop start text in
    omega (arith, parted text j p)
