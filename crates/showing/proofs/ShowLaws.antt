-- A packet's line, and the stretch that it ends or makes longer.
use Prim.Native.Nat.{ℕ}
use mathlib.Core.Path.{◌≡◌, ◌∙◌}
use mathlib.Core.Bool.{Bool, true, false}
use mathlib.Core.List.{List}
use lib.Dec.{leb}
use borrow.Author.Tests.{eq-eqb, ne_eqb}
use Rattle.std.specs.Prelude.{Ok, Err}
use Rattle.outcomes.specs.Refusals.{refusal_number, refusal_place}
use Rattle.outcomes.specs.declared.Refusal.{Refusal}
use Rattle.accepting.specs.declared.step.Stepped.{Stepped}
use Rattle.showing.specs.Count.{sequence_count_in}
use Rattle.showing.specs.Lines.{refusal_in, place_shown, printed_line}
use Rattle.showing.specs.Stretches.{joins, extended, shown}
use Rattle.showing.specs.declared.packet_lines.Line.{Line}
use Rattle.showing.specs.declared.stretches.Stretch.{Stretch}
use Rattle.showing.specs.declared.stretches.Showing.{Showing}
use Rattle.showing.specs.declared.stretches.Showing.TheVariants.{Each, Runs, Last}

abbrev pub line_with : (number count refusal place : ℕ) → Stepped → Line
line_with number count refusal place r =
    record { number = number; count = count; refusal = refusal; place = place; run = r.state.run; announced = r.state.announced }

module _ (number count : ℕ) (r : Stepped) where
  pub line_taken : r.answer ≡ Ok tt → line_with number count 0 0 r ≡ printed_line number count r
  unfolding printed_line refusal_in place_shown
  line_taken e = rw e

  pub line_refused : {refusal : Refusal} {n p : ℕ} → r.answer ≡ Err refusal → n ≡ refusal_number refusal → p ≡ refusal_place refusal
      → line_with number count n p r ≡ printed_line number count r
  unfolding printed_line refusal_in place_shown
  line_refused e f g = rw (e, f, g)

module _ (a b : Line) where
  pub joins_refusal : (a.refusal ≡ b.refusal → ⊥) → false ≡ joins a b
  unfolding joins
  joins_refusal h = rw (ne_eqb a.refusal b.refusal h)

  module _ (e : a.refusal ≡ b.refusal) where
    pub joins_place : (a.place ≡ b.place → ⊥) → false ≡ joins a b
    unfolding joins
    joins_place h = rw (eq-eqb a.refusal b.refusal e, ne_eqb a.place b.place h)

    module _ (f : a.place ≡ b.place) where
      pub joins_announced : (a.announced ≡ b.announced → ⊥) → false ≡ joins a b
      unfolding joins
      joins_announced h = rw (eq-eqb a.refusal b.refusal e, eq-eqb a.place b.place f, ne_eqb a.announced b.announced h)

      pub joins_run : a.announced ≡ b.announced → leb a.run b.run ≡ joins a b
      unfolding joins
      joins_run g =
          rw (eq-eqb a.refusal b.refusal e, eq-eqb a.place b.place f, eq-eqb a.announced b.announced g)

module _ (s : Stretch) (line : Line) where
  pub extended_none : s.first.number ≡ 0 → record { first = line; last = line } ≡ extended s line
  unfolding extended
  extended_none e = rw (eq-eqb s.first.number 0 e)

  module _ (h : s.first.number ≡ 0 → ⊥) {t : Bool} (j : t ≡ joins s.last line) where
    pub extended_on : t ≡ true → record { first = s.first; last = line } ≡ extended s line
    unfolding extended
    extended_on e = rw (ne_eqb s.first.number 0 h, ← j, e)

    pub extended_new : t ≡ false → record { first = line; last = line } ≡ extended s line
    unfolding extended
    extended_new e = rw (ne_eqb s.first.number 0 h, ← j, e)

module _ {showing : Showing} (s : Stretch) (number : ℕ) (packet : List ℕ) (r : Stepped) where
  pub shown_each : showing ≡ Each → s ≡ shown showing s number packet r
  unfolding shown
  shown_each e = rw e

  pub shown_last : showing ≡ Last → s ≡ shown showing s number packet r
  unfolding shown
  shown_last e = rw e

  pub shown_runs : showing ≡ Runs → {count : ℕ} {line : Line} {t : Stretch} → count ≡ sequence_count_in packet → line ≡ printed_line number count r
      → t ≡ extended s line → t ≡ shown showing s number packet r
  unfolding shown
  shown_runs e c l x = x ∙ rw (e, l, c)
