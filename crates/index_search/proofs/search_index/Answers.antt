use mathlib.Core.Path.{◌≡◌, sym, ◌∙◌}
use mathlib.Core.List.{map}
use Prim.Native.Nat.{◌+◌, ◌/◌, ◌<◌}
use native.Mathlib.Omega.{arith}
use lib.ListN.{length, length-map}
use Rattle.packet_order.specs.declared.Order.{Order}
use Rattle.packet_order.specs.declared.Order.TheVariants.{Before, Same, After}
use Rattle.packet_order.specs.Order.{compared}
use Rattle.packet_index.specs.Index.{numbers_at}
use Rattle.packet_index.proofs.RisingLaws.{at}
use Rattle.index_entries.specs.Loaded.{packets_in}
use Rattle.index_search.proofs.LoopLaws.{told_as, start, ended, here, earlier, later, entry_told}
use Rattle.index_search.proofs.search_index.Goals as goal

pub loop-left-init : goal.loop-left-init
loop-left-init c = let packets = packets_in (map (λ x. x.now) c.args.tables) c.args.words.now c.args.links.now c.args.columns.now in
    (omega arith, omega arith, start _ _ _ (sym (length-map c.args.index.now (numbers_at packets))))

pub loop-left-preserved-in-Before : goal.loop-left-preserved-in-Before
loop-left-preserved-in-Before c =
    let order : (r : Order) → c.compare-order.result ≡ r → (compared c.args.numbers (at (map (numbers_at (packets_in (map (λ x. x.now) c.args.tables) c.args.words.now c.args.links.now c.args.columns.now)) c.args.index.now) (c.loop-left.before + c.loop-left.left / 2)) ≡ r) = λ r e. let h : c.loop-left.before + c.loop-left.left / 2 < length c.args.index.now = omega arith in
    let key = numbers_at (packets_in (map (λ x. x.now) c.args.tables) c.args.words.now c.args.links.now c.args.columns.now) in
    entry_told c.args.numbers key c.args.index.now _ h c.row_of.ensures c.numbers_at-stored.ensures c.compare-order.ensures r e in
    (omega arith, omega arith, earlier _ _ _ _ _ c.loop-left.invariant.2 (omega arith) (order Before c.in-Before.is))

pub returns-in-Same : goal.returns-in-Same
returns-in-Same c =
    let order : (r : Order) → c.compare-order.result ≡ r → (compared c.args.numbers (at (map (numbers_at (packets_in (map (λ x. x.now) c.args.tables) c.args.words.now c.args.links.now c.args.columns.now)) c.args.index.now) (c.loop-left.before + c.loop-left.left / 2)) ≡ r) = λ r e. let h : c.loop-left.before + c.loop-left.left / 2 < length c.args.index.now = omega arith in
    let key = numbers_at (packets_in (map (λ x. x.now) c.args.tables) c.args.words.now c.args.links.now c.args.columns.now) in
    entry_told c.args.numbers key c.args.index.now _ h c.row_of.ensures c.numbers_at-stored.ensures c.compare-order.ensures r e in
    told_as _ _ c.told.ensures.0 c.told.ensures.1 c.told.ensures.2 ∙ here _ _ _ _ _ c.loop-left.invariant.2 (omega arith) (order Same c.in-Same.is)

pub loop-left-preserved : goal.loop-left-preserved
loop-left-preserved c =
    let order : (r : Order) → c.compare-order.result ≡ r → (compared c.args.numbers (at (map (numbers_at (packets_in (map (λ x. x.now) c.args.tables) c.args.words.now c.args.links.now c.args.columns.now)) c.args.index.now) (c.loop-left.before + c.loop-left.left / 2)) ≡ r) = λ r e. let h : c.loop-left.before + c.loop-left.left / 2 < length c.args.index.now = omega arith in
    let key = numbers_at (packets_in (map (λ x. x.now) c.args.tables) c.args.words.now c.args.links.now c.args.columns.now) in
    entry_told c.args.numbers key c.args.index.now _ h c.row_of.ensures c.numbers_at-stored.ensures c.compare-order.ensures r e in
    (omega arith, omega arith, later _ _ _ _ _ c.loop-left.invariant.2 (omega arith) (order After c.in-After.is))

pub returns : goal.returns
returns c = told_as _ _ c.told-2.ensures.0 c.told-2.ensures.1 c.told-2.ensures.2 ∙ ended _ _ _ _ _ c.loop-left.invariant.2 (omega arith)
