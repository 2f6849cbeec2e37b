-- Without the flag none; with it the row of this APID, else the one of none.
use borrow.Author.Tests.{not-true, not-false}
use mathlib.Core.Path.{◌≡◌, ◌∙◌}
use mathlib.Core.List.{List}
use Prim.Native.Nat.{ℕ}
use Rattle.std.specs.Prelude.{Some, None}
use Rattle.verdicts.specs.Key.{identification}
use Rattle.database.specs.Rows.{Rows}
use Rattle.database.specs.Arrays.{database, row_for, answers}
use Rattle.five_numbers.specs.Numbers.{or_other, pic_row_of}
use Rattle.database.proofs.FindLaws.{holder_is}
use Rattle.five_numbers.proofs.PicLaws.{pic_plain, pic_flagged, own_found, any_found}
use Rattle.five_numbers.proofs.find_pic.Goals as goal

pub returns-then-not-head : goal.returns-then-not-head
unfolding row_for
returns-then-not-head c texts = pic_plain _ _ _ (not-true _ c.if-not-head.true)

pub returns-then-own-ne0 : goal.returns-then-own-ne0
returns-then-own-ne0 c texts =
    let rows : List (List ℕ) → Rows = λ texts. answers (database texts c.args.words.now c.args.links.now c.args.columns.now) in
    let with-flag : (texts : List (List ℕ)) → or_other ((rows texts).holder (identification c.header_byte-ptype.result c.header_byte-stype.result (Some c.args.head.apid))) ((rows texts).holder (identification c.header_byte-ptype.result c.header_byte-stype.result None)) ≡ pic_row_of (rows texts) c.args.head c.args.p.now = λ texts. pic_flagged _ _ _ (not-false _ c.if-not-head.false) c.header_byte-ptype.ensures c.header_byte-stype.ensures in
    let own : (texts : List (List ℕ)) → ((rows texts).holder (identification c.header_byte-ptype.result c.header_byte-stype.result (Some c.args.head.apid)) ≡ row_for texts c.args.columns.now c.holder_of-own.result) = λ texts. holder_is texts _ _ _ _ _ c.identification_key.ensures.0 c.identification_key.ensures.1 _ c.holder_of-own.ensures.0 in
    own_found texts _ _ _ _ (own texts) c.if-own-ne0.true
    ∙ with-flag texts

pub returns : goal.returns
returns c texts =
    let rows : List (List ℕ) → Rows = λ texts. answers (database texts c.args.words.now c.args.links.now c.args.columns.now) in
    let with-flag : (texts : List (List ℕ)) → or_other ((rows texts).holder (identification c.header_byte-ptype.result c.header_byte-stype.result (Some c.args.head.apid))) ((rows texts).holder (identification c.header_byte-ptype.result c.header_byte-stype.result None)) ≡ pic_row_of (rows texts) c.args.head c.args.p.now = λ texts. pic_flagged _ _ _ (not-false _ c.if-not-head.false) c.header_byte-ptype.ensures c.header_byte-stype.ensures in
    let own : (texts : List (List ℕ)) → ((rows texts).holder (identification c.header_byte-ptype.result c.header_byte-stype.result (Some c.args.head.apid)) ≡ row_for texts c.args.columns.now c.holder_of-own.result) = λ texts. holder_is texts _ _ _ _ _ c.identification_key.ensures.0 c.identification_key.ensures.1 _ c.holder_of-own.ensures.0 in
    any_found texts _ _ _ _ (own texts) _ c.if-own-ne0.false (holder_is texts _ _ _ _ _ c.identification_key-2.ensures.0 c.identification_key-2.ensures.1 _ c.holder_of.ensures.0)
    ∙ with-flag texts
