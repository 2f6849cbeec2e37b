-- By the table and the row.
use mathlib.Core.Path.{◌≡◌, ap, ◌∙◌}
use native.Mathlib.Omega.{arith}
use Rattle.cell_questions.proofs.CellReplyLaws.{tab_cut, row_no_table, row_no_tab, row_asked, only_is}
use Prim.Native.Nat.{ℕ, ◌+◌}
use lib.ListN.{length}
use mathlib.Core.Path.{◌≡◌}
use lib.ListN.{take}
use Rattle.lines.proofs.ColumnLaws.{part_rest}
use Rattle.scripts.specs.Words.{upto, setting_of}
use Rattle.cell_questions.specs.CellReplies.{blank_cells}
use Rattle.cell_questions.specs.CellReplies.{only_table}
use lib.ListN.{drop}
use Rattle.cell_questions.proofs.judge_row.Goals as goal

pub returns-then-t-ge-TABLES : goal.returns-then-t-ge-TABLES
returns-then-t-ge-TABLES g c =
    let place : c.setting_of-t.result ≡ setting_of (take (upto 9 c.args.text.now) c.args.text.now) = c.setting_of-t.ensures ∙ ap setting_of (c.part.ensures ∙ tab_cut _ _ c.find_byte-tab.ensures.0) in
    row_no_table _ _ _ place (omega arith)

pub returns-then-text-tab : goal.returns-then-text-tab
returns-then-text-tab g c =
    let place : c.setting_of-t.result ≡ setting_of (take (upto 9 c.args.text.now) c.args.text.now) = c.setting_of-t.ensures ∙ ap setting_of (c.part.ensures ∙ tab_cut _ _ c.find_byte-tab.ensures.0) in
    row_no_tab _ _ _ place (omega arith) (omega (arith, c.find_byte-tab.ensures.0))

pub returns : goal.returns
unfolding blank_cells
returns g c =
    let place : c.setting_of-t.result ≡ setting_of (take (upto 9 c.args.text.now) c.args.text.now) = c.setting_of-t.ensures ∙ ap setting_of (c.part.ensures ∙ tab_cut _ _ c.find_byte-tab.ensures.0) in
    c.row_into.ensures ∙ row_asked _ _ _ place _ (omega arith) (omega (arith, c.find_byte-tab.ensures.0))
    (only_is _ _ _ c.part-none.ensures ∙ ap (only_table c.setting_of-t.result)
    (c.part-2.ensures ∙ part_rest c.args.text.now (c.find_byte-tab.result + 1) (length c.args.text.now) (omega arith)
    ∙ ap (λ (n : ℕ). drop (n + 1) c.args.text.now) c.find_byte-tab.ensures.0))
