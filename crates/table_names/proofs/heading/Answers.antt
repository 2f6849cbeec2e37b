-- `column` reads the column at place k - 1. Past the twenty-fourth there is none, since the line has no more.
use Prim.Native.Nat.{ℕ, suc, ◌≤◌, ◌<◌, ◌-◌}
use mathlib.Core.Path.{◌≡◌, refl, sym, ◌∙◌, ap}
use mathlib.Core.List.{List, [], ◌∷◌}
use native.Mathlib.Omega.{arith}
use lib.ListN.{length, get_or, get_or-eq_default}
use borrow.Author.Rules.{rules}
use Rattle.lines.specs.Columns.{columns_of, column_in, divided}
use Rattle.name_bytes.specs.Names.{name_of}
use Rattle.lines.proofs.ColumnLaws.{column_is}
use Rattle.table_names.specs.Headings.{heading}
use Rattle.table_names.proofs.heading.Goals as goal

none-at-0 : (line : List ℕ) (k : ℕ) → k ≡ 0 → name_of [] ≡ heading line k
unfolding heading
none-at-0 line k h = rw h

none_past : (line : List ℕ) (k : ℕ) → length (columns_of line) ≤ 24 → 24 < k → name_of [] ≡ heading line k
unfolding heading
none_past line k few h = ap name_of (sym (get_or-eq_default ([] ∷ columns_of line) [] {n = k} (omega arith)))

one-before : (line : List ℕ) (k : ℕ) → 1 ≤ k → k ≤ 24 → name_of (column_in line (divided line) (k - 1)) ≡ heading line k
unfolding heading
one-before line k some h =
    let e : k ≡ suc (k - 1) = omega arith in
    ap name_of (column_is line (divided line) (k - 1) refl (omega arith) ∙ sym (ap (λ (n : ℕ). get_or ([] ∷ columns_of line) n []) e))

pub returns-then-k-eq0 : goal.returns-then-k-eq0
returns-then-k-eq0 c = c.name_of.ensures ∙ none-at-0 _ _ c.if-k-eq0.true

pub returns-then-k-gt-MOST_COLUMNS : goal.returns-then-k-gt-MOST_COLUMNS
returns-then-k-gt-MOST_COLUMNS c = c.name_of-then-k-gt-MOST_COLUMNS.ensures ∙ none_past _ _ (search rules) (omega arith)

pub returns : goal.returns
returns c = cc (one-before c.args.line.now c.args.k (omega arith) (omega arith))
