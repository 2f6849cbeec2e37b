-- The walk over a line: what is left of it, with what the walk has met, is the whole.
use mathlib.Core.Path.{◌≡◌, refl, ap, sym, ◌∙◌}
use mathlib.Core.List.{List, [], ◌∷◌, ◌++◌}
use mathlib.Core.Bool.{Bool, true, false, ◌||◌, ◌&&◌}
use Prim.Native.Nat.{ℕ, suc, ◌+◌, ◌-◌, ◌≤◌, ◌<◌}
use native.Mathlib.Omega.{arith}
use native.Mathlib.Numerals.{add-one}
use lib.Dec.{eqb}
use lib.ListN.{length, get_or, take, drop, set, drop_of_length-le, length-set}
use lib.Seq.{sets, length-take-le}
use borrow.Author.Tests.{eq-eqb, ne_eqb, eqb-true}
use Rattle.laws.proofs.Lists.{split}
use Rattle.laws.proofs.Cases.{cond_cases₂, and_right, or_right, or_false, false≢true}
use Rattle.lines.specs.declared.columns.Scanned.{Scanned}
use Rattle.lines.specs.Lines.{line_feed, line_length, next_line, line_from}
use Rattle.lines.specs.Columns.{tab, columns_from, columns_of, ends_from, ends_of, printable, allowed, foreign_in, walked, closed, scanned, part_of}
use Rattle.lines.proofs.LineLaws.{length_fits}

-- as many ends as columns
ends_count : (i : ℕ) (c l : List ℕ) → length (ends_from i l) ≡ length (columns_from c l)
unfolding ends_from columns_from
ends_count i c [] = refl
ends_count i c (b ∷ bs) =
    cond_cases₂ (λ (es : List ℕ) (cs : List (List ℕ)). length es ≡ length cs) (eqb b 9)
    (λ _. ap suc (ends_count (suc i) [] bs))
    (λ _. ends_count (suc i) (c ++ b ∷ []) bs)

-- What is left from place i on

-- the walk ends in front of a line feed, where these end lines
abbrev pub Stops : Bool → ℕ → Type 0
Stops feeds b = (feeds && eqb b line_feed) ≡ true

first_more : (feeds : Bool) (b : ℕ) (bs : List ℕ) → (Stops feeds b → ⊥) → walked feeds (b ∷ bs) ≡ b ∷ walked feeds bs
unfolding line_length
first_more false b bs n = refl
first_more true b bs n = rw (ne_eqb b 10 (λ e. n (eq-eqb b 10 e)))

first_none : (feeds : Bool) (b : ℕ) (bs : List ℕ) → Stops feeds b → walked feeds (b ∷ bs) ≡ []
unfolding line_length
first_none false b bs s = absurd (false≢true s)
first_none true b bs s = rw s

walked_nil : (feeds : Bool) → walked feeds [] ≡ []
unfolding line_length
walked_nil true = refl
walked_nil false = refl

-- The walk

-- what is left from place i on
abbrev left : Bool → List ℕ → ℕ → List ℕ
left feeds text i = walked feeds (drop i text)

pub record Walk (feeds : Bool) (text : List ℕ) (from : ℕ) (ends₀ ends : List ℕ) (count i : ℕ) (foreign : Bool) : Type 0 where
  pub size : length ends ≡ length ends₀
  pub after : from ≤ i
  pub few : count ≤ i - from
  pub room : i - from ≤ length text
  pub place : i + length (left feeds text i) ≡ from + length (left feeds text from)
  pub stored : sets ends count (ends_from (i - from) (left feeds text i)) ≡ sets ends₀ 0 (ends_of (left feeds text from))
  pub counted : count + length (ends_from (i - from) (left feeds text i)) ≡ length (ends_of (left feeds text from))
  pub searched : (foreign || foreign_in (left feeds text i)) ≡ foreign_in (left feeds text from)

-- a printable byte is no TAB and no line feed
pub no_tab : (b : ℕ) → printable b ≡ true → (b ≡ 9 → ⊥)
unfolding printable
no_tab b p e = false≢true (rw e at p)

no_feed : (feeds : Bool) (b : ℕ) → printable b ≡ true → (Stops feeds b → ⊥)
unfolding printable
no_feed feeds b p s = let e : b ≡ 10 = eqb-true b 10 (and_right feeds (eqb b 10) s) in false≢true (rw e at p)

module _ (feeds : Bool) (text : List ℕ) (from : ℕ) where
  pub walk_start : (ends : List ℕ) → Walk feeds text from ends ends 0 from false
  unfolding ends_of
  walk_start ends =
      let z : from - from ≡ 0 = omega arith in
      record {
        size = refl;
        after = omega arith;
        few = omega arith;
        room = omega arith;
        place = refl;
        stored = rw z;
        counted = rw z (omega arith);
        searched = refl;
      }

  module _ (ends₀ ends : List ℕ) (count i : ℕ) (foreign : Bool) (w : Walk feeds text from ends₀ ends count i foreign) (h : i < length text) where
    abbrev b : ℕ
    b = get_or text i 0

    further : i + 1 - from ≡ suc (i - from)
    further = omega (arith, w.after)

    module _ (n : Stops feeds b → ⊥) where
      one_more : left feeds text i ≡ b ∷ left feeds text (i + 1)
      one_more = rw (split text i 0 h) (first_more feeds b (drop (i + 1) text) n)

      placed : i + 1 + length (left feeds text (i + 1)) ≡ from + length (left feeds text from)
      placed = omega (arith, w.place, ap length one_more)

      -- a byte that is no TAB
      module _ (o : b ≡ 9 → ⊥) where
        same_ends : ends_from (i - from) (left feeds text i) ≡ ends_from (i + 1 - from) (left feeds text (i + 1))
        unfolding ends_from
        same_ends = rw (one_more, ne_eqb b 9 o, further)

        other : (foreign' : Bool) → (foreign' || foreign_in (left feeds text (i + 1))) ≡ foreign_in (left feeds text from)
            → Walk feeds text from ends₀ ends count (i + 1) foreign'
        other foreign' s =
            record {
              size = w.size;
              after = omega (arith, w.after);
              few = omega (arith, w.few, further);
              room = omega arith;
              place = placed;
              stored = ap (sets ends count) (sym same_ends) ∙ w.stored;
              counted = ap (λ (es : List ℕ). count + length es) (sym same_ends) ∙ w.counted;
              searched = s;
            }

        pub walk_foreign : printable b ≡ false → Walk feeds text from ends₀ ends count (i + 1) true
        unfolding foreign_in allowed
        walk_foreign p = other true (sym (or_right foreign (rw (one_more, ne_eqb b 9 o, p))) ∙ w.searched)

      allowed_more : allowed b ≡ true → (foreign || foreign_in (left feeds text (i + 1))) ≡ foreign_in (left feeds text from)
      unfolding foreign_in
      allowed_more a = sym (rw (one_more, a)) ∙ w.searched

    pub walk_printable : printable b ≡ true → Walk feeds text from ends₀ ends count (i + 1) foreign
    unfolding allowed
    walk_printable p = other (no_feed feeds b p) (no_tab b p) foreign (allowed_more (no_feed feeds b p) (or_right (eqb b tab) p))

    pub walk_tab : {ends' : List ℕ} → b ≡ 9 → ends' ≡ set ends count (i - from) → Walk feeds text from ends₀ ends' (count + 1) (i + 1) foreign
    unfolding allowed ends_from
    walk_tab {ends'} e k =
        let n : Stops feeds b → ⊥ = λ s. false≢true (rw e at (and_right feeds (eqb b 10) s)) in
        let es : ends_from (i - from) (left feeds text i) ≡ (i - from) ∷ ends_from (i + 1 - from) (left feeds text (i + 1)) =
        rw (one_more n, eq-eqb b 9 e, further) in
        record {
          size = ap length k ∙ length-set ends count (i - from) ∙ w.size;
          after = omega (arith, w.after);
          few = omega (arith, w.few, further);
          room = omega arith;
          place = placed n;
          stored = rw (k, add-one count) (ap (sets ends count) (sym es) ∙ w.stored);
          counted = omega (arith, w.counted, ap length es);
          searched = allowed_more n (ap allowed e);
        }

-- Its end

-- the walk ends where the text does, or in front of a line feed that ends the line
pub data Ended (feeds : Bool) (text : List ℕ) (i : ℕ) : Type 0 where
  past : length text ≤ i → Ended feeds text i
  here : i < length text → Stops feeds (get_or text i 0) → Ended feeds text i

none_left : {feeds : Bool} {text : List ℕ} {i : ℕ} → Ended feeds text i → left feeds text i ≡ []
none_left {feeds} {text} (past h) = rw (drop_of_length-le text h) (walked_nil feeds)
none_left {feeds} {text} {i} (here h s) = rw (split text i 0 h) (first_none feeds (get_or text i 0) (drop (i + 1) text) s)

module _ (feeds : Bool) (text : List ℕ) (from : ℕ) (ends₀ ends : List ℕ) (count i : ℕ) (foreign : Bool)
    (w : Walk feeds text from ends₀ ends count i foreign) where
  pub end_size : {ends' : List ℕ} → ends' ≡ set ends count (i - from) → length ends' ≡ length ends₀
  end_size k = ap length k ∙ length-set ends count (i - from) ∙ w.size

  module _ (end : Ended feeds text i) where
    pub end_stored : {ends' : List ℕ} → ends' ≡ set ends count (i - from) → ends' ≡ sets ends₀ 0 (ends_of (left feeds text from))
    unfolding ends_from
    end_stored k = k ∙ (rw (none_left end) at w.stored)

    pub end_scanned : closed (length text) i (count + 1) foreign ≡ scanned feeds text from
    unfolding scanned ends_from ends_of columns_of foreign_in
    end_scanned =
        let none : left feeds text i ≡ [] = none_left end in
        let line : List ℕ = left feeds text from in
        let p : i ≡ from + length line = omega (arith, w.place, ap length none) in
        let n : count + 1 ≡ length (columns_from [] line) = (rw none at w.counted) ∙ ends_count 0 [] line in
        let f : foreign ≡ foreign_in line = sym (or_false foreign) ∙ (rw none at w.searched) in
        rw (← p, ← n, ← f)

-- The line that a walk goes over is the one that starts there

line_length_lem : (s : List ℕ) → length (take (line_length s) s) ≡ line_length s
line_length_lem s = length-take-le (line_length s) s (length_fits s)

module _ (text : List ℕ) (at : ℕ) {walk : Scanned} (e : walk ≡ scanned true text at) where
  pub walk_bytes : part_of text at walk.end ≡ (line_from text at).bytes
  unfolding scanned line_from
  walk_bytes =
      let n : at + line_length (drop at text) - at ≡ line_length (drop at text) = omega arith in
      rw (e, line_length_lem (drop at text), n)

  pub walk_end : walk.end ≡ (next_line text at).end
  unfolding scanned next_line
  walk_end = rw (e, line_length_lem (drop at text))

  pub walk_ended : walk.ended ≡ (line_from text at).ended
  unfolding scanned line_from next_line
  walk_ended = rw (e, line_length_lem (drop at text))

  pub walk_next : walk.next ≡ (next_line text at).next
  unfolding scanned next_line
  walk_next = rw (e, line_length_lem (drop at text))

  pub walk_count : walk.count ≡ length (columns_of (line_from text at).bytes)
  unfolding scanned line_from
  walk_count = ap (λ (w : Scanned). w.count) e

  pub walk_found : walk.foreign ≡ foreign_in (line_from text at).bytes
  unfolding scanned line_from
  walk_found = ap (λ (w : Scanned). w.foreign) e
