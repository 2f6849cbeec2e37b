use mathlib.Core.Path.{◌≡◌, ◌∙◌}
use mathlib.Core.List.{List, []}
use Prim.Native.Nat.{ℕ, ◌<◌}
use native.Mathlib.Omega.{arith}
use lib.ListN.{length, get_or}
use Rattle.name_bytes.specs.Names.{name_of, same_name}
use Rattle.lines.specs.Columns.{columns_of}
use Rattle.scripts.proofs.WordLaws.{place_here, place_more, place_none}
use Rattle.scripts.proofs.verb.place_in.Goals as goal

pub loop-k-init : goal.loop-k-init
loop-k-init c = (omega arith, omega arith)

pub returns-then-same_name : goal.returns-then-same_name
returns-then-same_name c =
    let words : List (List ℕ) = columns_of c.args.list.now in
    let below : c.loop-k.k < length words = omega (arith, c.column_count-count.ensures) in
    let tested : same_name (name_of (get_or words c.loop-k.k [])) (name_of c.args.word.now) ≡ c.same_name.result = cc c.column_at.ensures in
    omega (arith, place_here c.args.word.now words c.loop-k.k below (tested ∙ c.if-same_name.true))

pub overflow_add-k : goal.overflow_add-k
overflow_add-k c =
    let words : List (List ℕ) = columns_of c.args.list.now in
    let below : c.loop-k.k < length words = omega (arith, c.column_count-count.ensures) in
    omega (arith, below)

pub loop-k-smaller : goal.loop-k-smaller
loop-k-smaller c =
    let words : List (List ℕ) = columns_of c.args.list.now in
    let below : c.loop-k.k < length words = omega (arith, c.column_count-count.ensures) in
    omega (arith, below)

pub loop-k-preserved : goal.loop-k-preserved
loop-k-preserved c =
    let words : List (List ℕ) = columns_of c.args.list.now in
    let below : c.loop-k.k < length words = omega (arith, c.column_count-count.ensures) in
    let tested : same_name (name_of (get_or words c.loop-k.k [])) (name_of c.args.word.now) ≡ c.same_name.result = cc c.column_at.ensures in
    (omega (arith, below), omega (arith, place_more c.args.word.now words c.loop-k.k below (tested ∙ c.if-same_name.false)))

pub returns : goal.returns
returns c = omega (arith, place_none c.args.word.now (columns_of c.args.list.now) c.loop-k.k (omega (arith, c.column_count-count.ensures)))
