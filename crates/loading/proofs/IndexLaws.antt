-- What loading leaves in the arrays of the database answers what the tables do.
use mathlib.Core.Path.{◌≡◌, ap, ◌∙◌}
use mathlib.Core.List.{List}
use Prim.Native.Nat.{ℕ, ◌+◌, ◌≤◌, ◌<◌}
use native.Mathlib.Omega.{arith}
use lib.ListN.{length, get_or, drop, get_or-append}
use lib.Seq.{sets, sets-eq}
use Rattle.verdicts.specs.Entries.{all_rows}
use Rattle.verdicts.specs.Verdicts.{verdicts}
use Rattle.verdicts.proofs.CellLaws.{length_cells}
use Rattle.kept.specs.FirstPass.{Arrays}
use Rattle.kept.specs.Keeping.{KeepsRows}
use Rattle.judged.proofs.TableLaws.{held}
use Rattle.database.specs.Arrays.{database, answers}
use Rattle.database.specs.GoodRows.{among, of_tables}
use Rattle.loading.specs.Index.{Indexed}
use Rattle.loading.proofs.IndexedRows.{IndexedRows}
use Rattle.loading.proofs.HolderLaws.{holder_is}
use Rattle.loading.proofs.MemberLaws.{members_are}
use Rattle.loading.proofs.PacketLaws.{packet_is}

-- by every key
rows_answer : {texts : List (List ℕ)} {words links : List ℕ} {count : ℕ} {halves bytes cells columns : List ℕ}
    → IndexedRows texts words links count halves bytes cells columns → answers (database texts words links columns) ≡ of_tables texts
unfolding answers of_tables among
rows_answer r =
    λ i. record {
      holder = λ key. holder_is r key i;
      members = λ key. members_are r key i;
      numbered = λ number. packet_is r number i;
    }

-- cells into which the verdicts were put
pub cells_hold : (texts : List (List ℕ)) (before cells : List ℕ) → length (all_rows texts) ≤ length before → cells ≡ sets before 0 (verdicts texts)
    → (i : ℕ) → i < length (all_rows texts) → get_or cells i 0 ≡ get_or (verdicts texts) i 0
cells_hold texts before cells h e i p =
    let l = length_cells texts in
    ap (λ (xs : List ℕ). get_or xs i 0) (e ∙ sets-eq (verdicts texts) before 0 (omega arith))
    ∙ get_or-append (verdicts texts) (drop (0 + length (verdicts texts)) before) 0 i (omega arith)

-- THE LAW OF THE DATABASE
pub indexed_answers : (texts : List (List ℕ)) (s₀ s : Arrays) (rows count : ℕ) (cells columns : List ℕ) → KeepsRows texts s₀ s rows count
    → ((i : ℕ) → i < rows → get_or cells i 0 ≡ get_or (verdicts texts) i 0) → Indexed texts s.halves s.bytes cells columns rows
    → answers (database texts s.words s.links columns) ≡ of_tables texts
indexed_answers texts s₀ s rows count cells columns k c x =
    rows_answer
    (record {
      fits = k.fits;
      held = held texts s₀ s rows count k;
      situated = rw k.count at k.situated;
      judged = rw k.count at c;
      index = rw k.count at x;
    })
