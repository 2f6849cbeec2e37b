-- Packets one after the other that have the same answer.
use Rattle.std.specs.Prelude.{ℕ, ◌≡◌, refl, Bool, true, false, cond, ◌&&◌, List, eqb, leb}
use Rattle.accepting.specs.declared.step.Stepped.{Stepped}
use Rattle.showing.specs.Count.{sequence_count_in}
use Rattle.showing.specs.Lines.{printed_line}
use Rattle.showing.specs.declared.stretches.Showing.{Showing}
use Rattle.showing.specs.declared.stretches.Showing.TheVariants.{Each, Runs, Last}
use Rattle.showing.specs.declared.packet_lines.Line.{Line}
use Rattle.showing.specs.declared.stretches.Stretch.{Stretch}

-- the next packet has the same answer: refused with the same number and place,
-- or taken with the same announced while run doesn't fall
unfoldable pub joins : Line → Line → Bool
joins a b =
    eqb a.refusal b.refusal && eqb a.place b.place && eqb a.announced b.announced && leb a.run b.run

-- the stretch that is open after a packet: no packet has number 0, and a stretch of it is none
unfoldable pub extended : Stretch → Line → Stretch
extended s line =
    record {
      first = cond (eqb s.first.number 0) line (cond (joins s.last line) s.first line);
      last = line;
    }

-- the same by how packets are shown: only where runs are said is there a stretch
unfoldable pub shown : Showing → Stretch → (number : ℕ) → (packet : List ℕ) → Stepped → Stretch
shown Each s number packet r = s
shown Runs s number packet r = extended s (printed_line number (sequence_count_in packet) r)
shown Last s number packet r = s

-- packets 54 and 55 are taken with runs of 13 and 14, and 56 is refused
abbrev taken : (number run announced : ℕ) → Line
taken n r a = record { number = n; count = n; refusal = 0; place = 0; run = r; announced = a }

pub record Examples : Type 0 where
  pub rising : joins (taken 54 13 1) (taken 55 14 1) ≡ true
  pub falling : joins (taken 54 13 0) (taken 55 0 0) ≡ false
  pub announced : joins (taken 54 13 1) (taken 55 14 2) ≡ false
  pub refused : joins (taken 55 14 1) (record { number = 56; count = 55; refusal = 35; place = 0; run = 14; announced = 1 }) ≡ false
  pub longer : extended (record { first = taken 53 12 1; last = taken 54 13 1 }) (taken 55 14 1) ≡ record { first = taken 53 12 1; last = taken 55 14 1 }
  pub another : extended (record { first = taken 53 12 1; last = taken 54 13 1 }) (taken 55 14 2) ≡ record { first = taken 55 14 2; last = taken 55 14 2 }

pub examples : Examples
unfolding joins extended
examples = record { rising = refl; falling = refl; announced = refl; refused = refl; longer = refl; another = refl }
