-- Every line that a line feed ends is one that `Edit` replaces, whatever the new bytes.
use mathlib.Core.Path.{◌≡◌, refl, sym, ap, ◌∙◌}
use mathlib.Core.Bool.{Bool, true, false}
use mathlib.Core.List.{List, [], ◌∷◌, ◌++◌}
use Prim.Native.Nat.{ℕ, zero, suc, ◌-◌, ◌<◌}
use native.Mathlib.Omega.{arith}
use lib.Dec.{eqb}
use lib.ListN.{length, get_or}
use borrow.Author.Tests.{eqb-true}
use Rattle.laws.proofs.Cases.{cond_cases, false≢true}
use Rattle.lines.specs.Lines.{Line, line_feed, on_first, lead, lines_of, free, whole}
use Rattle.verdicts.specs.Places.{text_at, no_line, IsRow, Edit, line_number}

-- a text cut around line i, from 0, and its line feed
record Cut (text : List ℕ) (i : ℕ) : Type 0 where
  before : List ℕ
  old : List ℕ
  after : List ℕ
  stood : text ≡ before ++ (old ++ line_feed ∷ after)
  starts : whole before ≡ true
  one_line : free old ≡ true
  count : length (lines_of before) ≡ i

-- the line is the same, with a byte in front of the first or not
ended_on : (b : ℕ) (ls : List Line) (i : ℕ) → (get_or (on_first b ls) i no_line).ended ≡ (get_or ls i no_line).ended
unfolding on_first
ended_on b [] zero = refl
ended_on b [] (suc i) = refl
ended_on b (l ∷ ls) zero = refl
ended_on b (l ∷ ls) (suc i) = refl

on_some : (b : ℕ) (ls : List Line) → 0 < length ls → length (on_first b ls) ≡ length ls
unfolding on_first
on_some b [] h = absurd (omega arith)
on_some b (l ∷ ls) h = refl

lead_some : (b : ℕ) (ls : List Line) → 0 < length (lead b ls)
unfolding lead on_first
lead_some b [] = cond_cases (λ (ls : List Line). 0 < length ls) (eqb b 10) (λ _. omega arith) (λ _. omega arith)
lead_some b (l ∷ ls) = cond_cases (λ (ls : List Line). 0 < length ls) (eqb b 10) (λ _. omega arith) (λ _. omega arith)

-- a byte of the line, or of a line before it, in front of a text that is cut
byte_before : (b : ℕ) (text : List ℕ) (i : ℕ) → eqb b 10 ≡ false → (before old after : List ℕ) → text ≡ before ++ (old ++ line_feed ∷ after)
    → whole before ≡ true → free old ≡ true → length (lines_of before) ≡ i → Cut (b ∷ text) i
unfolding lines_of lead free whole
byte_before b text i e [] old after stood starts one_line count =
    record { before = []; old = b ∷ old; after = after; stood = ap (λ (l : List ℕ). b ∷ l) stood; starts = refl; one_line = rw e one_line; count = count }
byte_before b text i e (c ∷ cs) old after stood starts one_line count =
    record {
      before = b ∷ c ∷ cs;
      old = old;
      after = after;
      stood = ap (λ (l : List ℕ). b ∷ l) stood;
      starts = starts;
      one_line = one_line;
      count = rw e (on_some b (lines_of (c ∷ cs)) (lead_some c (lines_of cs)) ∙ count);
    }

-- a line feed that ends a line before it
feed_before : (text : List ℕ) (i : ℕ) → (before old after : List ℕ) → text ≡ before ++ (old ++ line_feed ∷ after)
    → whole before ≡ true → free old ≡ true → length (lines_of before) ≡ i → Cut (line_feed ∷ text) (suc i)
unfolding lines_of lead whole
feed_before text i [] old after stood starts one_line count =
    record {
      before = line_feed ∷ [];
      old = old;
      after = after;
      stood = ap
          (λ (l : List ℕ). line_feed ∷ l) stood;
      starts = refl;
      one_line = one_line;
      count = ap suc count;
    }
feed_before text i (c ∷ cs) old after stood starts one_line count =
    record {
      before = line_feed ∷ c ∷ cs;
      old = old;
      after = after;
      stood = ap (λ (l : List ℕ). line_feed ∷ l) stood;
      starts = starts;
      one_line = one_line;
      count = ap suc count;
    }

cut_lead : (b : ℕ) (bs : List ℕ) (i : ℕ) (t : Bool) → eqb b 10 ≡ t → ((j : ℕ) → (get_or (lines_of bs) j no_line).ended ≡ true → Cut bs j)
    → (get_or (lead b (lines_of bs)) i no_line).ended ≡ true → Cut (b ∷ bs) i
unfolding lead free whole lines_of
cut_lead b bs zero true e f h =
    record { before = []; old = []; after = bs; stood = ap (λ (c : ℕ). c ∷ bs) (eqb-true b 10 e); starts = refl; one_line = refl; count = refl }
cut_lead b bs (suc i) true e f h =
    let c : Cut bs i = f i (rw e at h) in
    rw (eqb-true b 10 e) (feed_before bs i c.before c.old c.after c.stood c.starts c.one_line c.count)
cut_lead b bs i false e f h =
    let c : Cut bs i = f i (sym (ended_on b (lines_of bs) i) ∙ rw e at h) in
    byte_before b bs i e c.before c.old c.after c.stood c.starts c.one_line c.count

cut : (text : List ℕ) (i : ℕ) → (get_or (lines_of text) i no_line).ended ≡ true → Cut text i
unfolding lines_of
cut [] i h = absurd (false≢true h)
cut (b ∷ bs) i h = cut_lead b bs i (eqb b 10) refl (cut bs) h

-- the edit of a row by new bytes: of this table, of this number
pub record LineEdit (texts : List (List ℕ)) (u r : ℕ) (bytes : List ℕ) : Type 0 where
  pub edit : Edit texts
  pub table : edit.table ≡ u
  pub row : line_number edit ≡ r
  pub new : edit.new ≡ bytes

pub line_edit : (texts : List (List ℕ)) (u r : ℕ) (bytes : List ℕ) → IsRow texts u r → (get_or (lines_of (text_at texts u)) (r - 1) no_line).ended ≡ true
    → free bytes ≡ true
    → LineEdit texts u r bytes
line_edit texts u r bytes is h f =
    let c : Cut (text_at texts u) (r - 1) = cut (text_at texts u) (r - 1) h in
    record {
      edit = record {
        table = u;
        before = c.before;
        old = c.old;
        new = bytes;
        after = c.after;
        stood = c.stood;
        starts = c.starts;
        one_line = c.one_line;
        new_line = f;
      };
      table = refl;
      row = counted c.count is.above;
      new = refl;
    }
  where
    counted : {n : ℕ} → n ≡ r - 1 → 0 < r → suc n ≡ r
    counted p q = omega arith
