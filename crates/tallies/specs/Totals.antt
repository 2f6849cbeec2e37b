-- How many questions of each kind were asked, how many answers differ, and how many lines can't be read.
use Rattle.std.specs.Prelude.{ℕ, ◌+◌, ◌-◌, ◌≡◌, refl, cond, ◌∷◌, leb, get_or, set, replicate}
use Rattle.laws.specs.Values.{tabulate}
use Rattle.scripts.specs.Words.{question_count}
use Rattle.comparing.specs.declared.compare.Verdict.{Verdict}
use Rattle.comparing.specs.declared.compare.Verdict.TheVariants.{Unread, Same, Differs}
use Rattle.tallies.specs.declared.Tally.{Tally}

-- a count stops at the greatest number of 64 bits
unfoldable pub plus : ℕ → ℕ → ℕ
plus a b = cond (leb a (18446744073709551615 - b)) (a + b) 18446744073709551615

-- a question that is asked is counted among those of its kind; one that can't be read is a line that can't
unfoldable pub tally_after : Tally → ℕ → Verdict → Tally
tally_after t k Same = record { asked = set t.asked k (plus (get_or t.asked k 0) 1); differ = t.differ; unread = t.unread }
tally_after t k Differs = record { asked = set t.asked k (plus (get_or t.asked k 0) 1); differ = plus t.differ 1; unread = t.unread }
tally_after t k Unread = record { asked = t.asked; differ = t.differ; unread = plus t.unread 1 }

-- the tallies of two files
unfoldable pub together : Tally → Tally → Tally
together a b =
    record {
      asked = tabulate (λ k. plus (get_or a.asked k 0) (get_or b.asked k 0)) 0 question_count;
      differ = plus a.differ b.differ;
      unread = plus a.unread b.unread;
    }

-- nothing is counted
unfoldable pub no_tally : Tally
no_tally = record { asked = replicate question_count 0; differ = 0; unread = 0 }

pub record Examples : Type 0 where
  pub few : plus 3 4 ≡ 7
  pub many : plus 18446744073709551615 4 ≡ 18446744073709551615
  pub differs : tally_after no_tally 1 Differs
      ≡ record { asked = 0 ∷ 1 ∷ replicate 12 0; differ = 1; unread = 0 }
  pub twice : (together (tally_after no_tally 0 Unread) (tally_after no_tally 0 Unread)).unread ≡ 2

pub examples : Examples
unfolding plus tally_after together no_tally tabulate
examples = record { few = refl; many = refl; differs = refl; twice = refl }
