-- By the columns.
use Rattle.lines.specs.Columns.{columns_of, column_at}
use Rattle.scripts.specs.Numerals.{natural_in, at_most}
use mathlib.Core.Path.{sym, ap, ◌∙◌}
use native.Mathlib.Omega.{arith}
use Rattle.settings.proofs.SettingLaws.{fill_count, fill_byte, fill_run, run_is, run_unread}
use mathlib.Core.Path.{ap₂}
use Prim.Native.Nat.{ℕ}
use Rattle.areas.specs.Memory.{unread}
use Rattle.scripts.specs.Words.{setting_of}
use Rattle.settings.specs.Settings.{byte_in, add_run, run_bytes}
use Rattle.settings.proofs.add_fill.Goals as goal

pub returns-then-column_count-ne3 : goal.returns-then-column_count-ne3
unfolding unread
returns-then-column_count-ne3 c = fill_count _ _ _ c.column_count.ensures c.if-column_count-ne3.true

pub returns-then-byte-gt255 : goal.returns-then-byte-gt255
unfolding unread
returns-then-byte-gt255 c = let b = c.byte_in-byte.ensures.0 ∙ ap byte_in c.column_at-2.ensures in
    fill_byte _ _ _ c.column_count.ensures c.if-column_count-ne3.false (rw b at c.if-byte-gt255.true)

pub returns : goal.returns
unfolding run_bytes
returns c = let b = c.byte_in-byte.ensures.0 ∙ ap byte_in c.column_at-2.ensures in
    let t = c.setting_of-t.ensures ∙ ap setting_of c.column_at.ensures in
    c.add_run.ensures ∙ run_is _ _ _ _ _ (sym c.natural_at.ensures ∙ c.in-Some.is)
    ∙ ap₂ (λ (t b : ℕ). add_run (record { space = c.args.space.now; ends = c.args.ends.now }) t b
    (at_most 65537 (natural_in (column_at (columns_of c.args.text.now) 1)))) t b
    ∙ fill_run _ _ _ c.column_count.ensures c.if-column_count-ne3.false (omega (arith, b))

pub returns-in_default : goal.returns-in_default
unfolding unread
returns-in_default c = let b = c.byte_in-byte.ensures.0 ∙ ap byte_in c.column_at-2.ensures in
    run_unread _ _ _ _ (sym c.natural_at.ensures ∙ c.in_default.is) ∙ fill_run _ _ _ c.column_count.ensures c.if-column_count-ne3.false (omega (arith, b))
