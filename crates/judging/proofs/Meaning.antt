-- Where the arrays say of the rows what they are to say, the cells are the definition's verdicts.
use mathlib.Core.Path.{◌≡◌, refl, ap, sym, ◌∙◌}
use mathlib.Core.Bool.{Bool, true, false}
use mathlib.Core.List.{List, map}
use Prim.Native.Nat.{ℕ, ◌+◌, ◌≤◌, ◌<◌}
use native.Mathlib.Omega.{arith}
use lib.Dec.{eqb}
use lib.ListN.{length, get_or, length-map}
use lib.Seq.{ext_get_or}
use Rattle.laws.specs.Prefix.{flag}
use Rattle.laws.proofs.Lists.{map_at}
use Rattle.laws.proofs.Values.{tabulate_at, tabulate_length}
use Rattle.verdicts.specs.Entries.{Entry}
use Rattle.verdicts.specs.Verdicts.{verdict}
use Rattle.manners.specs.Manners.{manner_at}
use Rattle.chain_steps.specs.Chains.{no_row}
use Rattle.met_names.specs.Names.{firm_of, final_at}
use Rattle.base_verdicts.specs.Judged.{filled, next_of, clean_rows, firm_rows, chained_at, good_at, next_rows, base_rows, cells_by, cell_rows}
use Rattle.judging.proofs.Resolved.{no_entry, row_at, Arrays, code1, row1, code2, row2, Resolved}
use Rattle.judging.proofs.PassLaws.{filled_at}
use Rattle.judging.proofs.KindMeaning.{kinds_in}
use Rattle.judging.proofs.VerdictMeaning.{base_in, base_is}
use Rattle.judging.proofs.GoodMeaning.{Says, final_is, chained_says}

module _ (rows : List Entry) (w : Arrays) (layer : ℕ → ℕ) (v : Resolved rows w layer) where
  abbrev kinds : List ℕ
  kinds = kinds_in rows w

  abbrev n : ℕ
  n = length rows

  abbrev nexts : List ℕ
  nexts = next_rows w.own w.sound w.counts w.codes1 w.found1 w.codes2 w.found2 n

  abbrev bases : List ℕ
  bases = base_rows w.own w.sound w.counts w.codes1 w.found1 w.codes2 w.found2 n

  abbrev cleans : List ℕ
  cleans = clean_rows kinds bases w.codes1 w.found1 w.codes2 w.found2 nexts n

  abbrev firms : List ℕ
  firms = firm_rows kinds bases w.codes1 w.found1 w.codes2 w.found2 nexts n

  abbrev chaineds : List ℕ
  chaineds = filled 0 (chained_at kinds bases w.codes1 w.found1 w.codes2 w.found2 nexts n) n

  abbrev goods : List ℕ
  goods = filled 0 (good_at kinds bases w.codes1 w.found1 w.codes2 w.found2 nexts n) n

  nexts_are : (i : ℕ) → i < n → get_or nexts i no_row ≡ next_of w.sound (code1 w i) (row1 w i)
  nexts_are i p = filled_at no_row _ n i no_row v.few p

  bases_are : (i : ℕ) → i < n → get_or bases i 0 ≡ base_in rows (row_at rows i)
  bases_are i p = filled_at 0 _ n i 0 v.few p ∙ base_is rows w layer v nexts nexts_are i p _ (filled_at 0 _ n i 0 v.few p)

  cleans_are : (i : ℕ) → i < n → get_or cleans i 0 ≡ flag (eqb (base_in rows (row_at rows i)) 0)
  cleans_are i p = filled_at 0 _ n i 0 v.few p ∙ ap (λ (b : ℕ). flag (eqb b 0)) (bases_are i p)

  firms_are : (i : ℕ) → i < n → get_or firms i 0
      ≡ flag (firm_of kinds cleans (base_in rows (row_at rows i)) (code1 w i) (row1 w i) (get_or nexts i no_row) (code2 w i) (row2 w i))
  firms_are i p =
      filled_at 0 _ n i 0 v.few p
      ∙ ap (λ (b : ℕ). flag (firm_of kinds cleans b (code1 w i) (row1 w i) (get_or nexts i no_row) (code2 w i) (row2 w i))) (bases_are i p)

  chained : Says rows w layer v 1 chaineds
  chained = chained_says rows w layer v cleans nexts firms cleans_are nexts_are firms_are chaineds (λ j q. filled_at 0 _ n j 0 v.few q)

  -- a row's verdict by marks that say of what it names which rows are good: those of lower layers,
  -- and of its own along a chain
  by_marks : (most : ℕ) (g : List ℕ) → Says rows w layer v most g → 1 ≤ most → (i : ℕ) → i < n → layer i ≤ most + 1
      → final_at kinds bases w.codes1 w.found1 w.codes2 w.found2 g i ≡ verdict rows (row_at rows i)
  by_marks most g says some i p l =
      final_is rows w layer v most g says i p (λ c f. low (manner_at (code1 w i)).chained refl c f) (λ c f. omega (arith, v.layers.below2 i p c f))
      (get_or bases i 0) (bases_are i p)
    where
      low : (b : Bool) → (manner_at (code1 w i)).chained ≡ b → (code1 w i ≡ 0 → ⊥) → (row1 w i ≡ no_row → ⊥) → layer (row1 w i) ≤ most
      low true t c f = omega (arith, (v.layers.along i p t).1 f)
      low false t c f = omega (arith, v.layers.below1 i p t c f)

  good : Says rows w layer v 2 goods
  good j q l =
      filled_at 0 _ n j 0 v.few q
      ∙ ap (λ (x : ℕ). flag (eqb x 0)) (filled_at 0 _ n j 0 v.few q ∙ by_marks 1 chaineds chained (omega arith) j q l)

  final : (i : ℕ) → i < n → final_at kinds bases w.codes1 w.found1 w.codes2 w.found2 goods i ≡ verdict rows (row_at rows i)
  final i p = by_marks 2 goods good (omega arith) i p (v.layers.most i p)

  -- the cells are the verdicts of the rows
  pub judged_are : cell_rows w.own w.sound w.counts w.codes1 w.found1 w.codes2 w.found2 w.marks n ≡ map (verdict rows) rows
  unfolding cell_rows cells_by kinds_in
  judged_are =
      let f : ℕ → ℕ = final_at kinds bases w.codes1 w.found1 w.codes2 w.found2 goods in
      let l = tabulate_length f 0 n in
      ext_get_or 0 _ _ (l ∙ sym (length-map rows (verdict rows)))
      (λ i h. let p : i < n = rw l at h in
      tabulate_at f 0 n i p ∙ ap f (omega arith) ∙ final i p ∙ sym (map_at (verdict rows) rows i no_entry 0 p))
