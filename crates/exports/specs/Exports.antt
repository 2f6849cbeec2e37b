-- What the C functions are lent, and what is promised of an import and of an index.
use Rattle.std.specs.Prelude.{ℕ, ◌≡◌, refl, List, [], ◌∷◌, ℤ, length, get_or}
use Rattle.verdicts.specs.Answer.{room_in, import_of, cells_after, positions_after}
use Rattle.plain_answers.specs.Values.{counts_of, of_counts}
use Rattle.telling.specs.Answers.{plain_of, Told}
use Rattle.index_calls.specs.IndexCalls.{made_of, count_of, list_after}
use Rattle.index_telling.specs.Values.{of_entries}

-- raised with each change of a signature or of an answer
abbrev pub interface_version : ℕ
interface_version = 5

-- the tables in 01's order; 02, P1: "eleven tables, mcf last"
abbrev pub in_order : (pid pic plf pcf caf cap txf txp ocf ocp mcf : List ℕ) → List (List ℕ)
in_order pid pic plf pcf caf cap txf txp ocf ocp mcf =
    pid ∷ pic ∷ plf ∷ pcf ∷ caf ∷ cap ∷ txf ∷ txp ∷ ocf ∷ ocp ∷ mcf ∷ []

-- 11 is mcf
pub example : (pid pic plf pcf caf cap txf txp ocf ocp mcf : List ℕ) → get_or (in_order pid pic plf pcf caf cap txf txp ocf ocp mcf) 10 [] ≡ mcf
example pid pic plf pcf caf cap txf txp ocf ocp mcf = refl

-- its result and answer, its cells and its positions
pub record ImportTold (texts : List (List ℕ)) (cells cells' positions positions' : List ℕ) (before after : List ℤ) (r : ℕ) : Type 0 where
  pub told : Told (plain_of of_counts (counts_of (import_of texts (room_in cells positions)))) before after r
  pub left : cells' ≡ cells_after texts cells (import_of texts (room_in cells positions))
  pub beside : positions' ≡ positions_after texts positions (import_of texts (room_in cells positions))

-- its result and answer, and its entries
pub record IndexTold (texts : List (List ℕ)) (rows rows' : List ℕ) (before after : List ℤ) (r : ℕ) : Type 0 where
  pub told : Told (plain_of of_entries (count_of (made_of texts (length rows)))) before after r
  pub left : rows' ≡ list_after rows (made_of texts (length rows))
