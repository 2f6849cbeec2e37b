-- Refusals 1 and 2, which come before all else in any call with tables.
use Rattle.std.specs.Prelude.{ℕ, ◌+◌, cond, zero, suc, List, [], ◌∷◌, eqb, Option, Some, None, Result, Ok, Err}
use Rattle.lines.specs.Lines.{line_feed}
use Rattle.verdicts.specs.Answer.{too_long, too_many_rows}
use Rattle.units.specs.declared.TableNumber.{TableNumber}
use Rattle.tables.specs.declared.SizeError.{SizeError}
use Rattle.tables.specs.declared.SizeError.TheVariants.{TooLong, TooManyRows}

-- the sizes of tables: they fit, or the call is refused with a number and a place
pub data Sized : Type 0 where
  fit : Sized
  refused_by : (number place : ℕ) → Sized

-- 01's number and place of each case
abbrev pub size_refusal : SizeError → Sized
size_refusal (TooLong table) = refused_by 1 table.0
size_refusal (TooManyRows table) = refused_by 2 table.0

abbrev pub said_sizes : Result Unit SizeError → Sized
said_sizes (Ok done) = fit
said_sizes (Err error) = size_refusal error

-- the number of a table, from 1; 0 is none's
abbrev pub numbered : ℕ → Option TableNumber
numbered zero = None
numbered (suc n) = Some (record { 0 = suc n })

-- 01: "1, 2 … any call with tables, before all else: a table over 65,536 bytes; over 1,024 rows"; "for 1 and 2 the
-- first such table, 1 to 10", and by 02, P1, to 11: "cells and places count eleven tables"
unfoldable pub sizes_of : List (List ℕ) → Sized
sizes_of texts =
    cond (eqb (too_long texts) 0) (cond (eqb (too_many_rows texts) 0) fit (refused_by 2 (too_many_rows texts))) (refused_by 1 (too_long texts))

-- how many line feeds there are
unfoldable pub feeds : List ℕ → ℕ
feeds [] = 0
feeds (b ∷ bs) = cond (eqb b line_feed) 1 0 + feeds bs
