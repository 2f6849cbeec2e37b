-- Rows that are kept in the arrays, and what each says fits into symbols.
use mathlib.Core.Path.{◌≡◌, ◌∙◌}
use mathlib.Core.List.{List}
use Prim.Native.Nat.{ℕ, ◌*◌, ◌<◌}
use lib.ListN.{length, get_or, drop}
use lib.Seq.{get_or-take, get_or-drop}
use Rattle.arrays.specs.Room.{most_places}
use Rattle.verdicts.specs.Entries.{Entry, facts}
use Rattle.key_symbols.specs.Keyed.{symbol_of}
use Rattle.key_symbols.specs.Bounded.{Bounded}
use Rattle.key_symbols.proofs.ExactLaws.{symbol_exact}
use Rattle.keys.proofs.Fitting.{Fits}
use Rattle.meaning.specs.Kept.{Coding, kept_entry, ToldApart}
use Rattle.kept.specs.Stored.{at, Stored}
use Rattle.judged.specs.Passes.{column_of}

-- keys as their symbols
abbrev pub coding : Coding
coding = record { symbol_of = symbol_of; Fit = Bounded; exact = symbol_exact }

pub record Held (rows : List Entry) (words links : List ℕ) (count : ℕ) (halves bytes : List ℕ) : Type 0 where
  pub stored : Stored rows words links count halves bytes
  pub fits : (i : ℕ) → i < length rows → Fits (facts (kept_entry rows i))
  pub tables : ToldApart rows

-- a place of a column
pub column_at_lem : (columns : List ℕ) (c i : ℕ) → i < most_places → get_or (column_of columns c) i 0 ≡ at columns c i
column_at_lem columns c i h = get_or-take most_places (drop (c * most_places) columns) i 0 h ∙ get_or-drop (c * most_places) columns i 0
