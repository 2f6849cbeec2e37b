-- Laws of the questions that lend cells and positions, one for each case.
use mathlib.Core.Path.{◌≡◌, refl, ap, ◌∙◌}
use mathlib.Core.List.{List, [], ◌∷◌, map}
use Prim.Native.Nat.{ℕ, zero, suc, ◌+◌, ◌<◌, ◌≤◌}
use native.Mathlib.Nat.{sub-zero}
use denote.Ref.{Bor}
use lib.ListN.{length, get_or, take, drop, set, replicate}
use native.Mathlib.Omega.{arith}
use lib.Dec.{eqb}
use borrow.Author.Tests.{lt-ltb, le-ltb}
use Rattle.laws.proofs.Cases.{bool_cases}
use Rattle.lines.specs.Columns.{columns_of, part_of}
use Rattle.verdicts.specs.Entries.{table_count}
use Rattle.verdicts.specs.Answer.{Imported, room_in, import_of, cells_after, positions_after, most_cells}
use Rattle.std.specs.Prelude as rust
use Rattle.scripts.proofs.NumeralLaws.{most_is}
use Rattle.scripts.specs.Words.{upto, setting_of}
use Rattle.answers.specs.declared.answer.Answer.{Answer}
use Rattle.comparing.specs.declared.compare.Verdict.{Verdict}
use Rattle.comparing.specs.declared.compare.Verdict.TheVariants.{Unread}
use Rattle.comparing.specs.Compared.{verdict_of}
use Rattle.replies.specs.Replies.{only_answer}
use Rattle.cell_questions.specs.CellReplies.{blank_cells, import_verdict, cells_lent, positions_lent, import_lent, import_in}
use Rattle.cell_questions.specs.CellReplies.{left_verdict, only_left, row_verdict, only_table, row_reply}

module _ (texts : List (List ℕ)) (cells positions text line : List ℕ) where
  pub import_lent_lem : (room more : ℕ) → cells_lent text ≡ rust.Some room → positions_lent text ≡ rust.Some more
      → import_verdict texts (take room cells) (take more positions) line ≡ import_in texts cells positions text line
  unfolding import_in import_lent
  import_lent_lem room more e f = rw (e, f)

  pub cells_unread : cells_lent text ≡ rust.None → Unread ≡ import_in texts cells positions text line
  unfolding import_in import_lent
  cells_unread e = rw e

  pub positions_unread : (room : ℕ) → cells_lent text ≡ rust.Some room → positions_lent text ≡ rust.None
      → Unread ≡ import_in texts cells positions text line
  unfolding import_in import_lent
  positions_unread room e f = rw (e, f)

-- no more are lent than there are

pub cells_fit : (text : List ℕ) (n : ℕ) → cells_lent text ≡ rust.Some n → n ≤ most_cells
unfolding cells_lent
cells_fit text n e =
    bool_cases (eqb (length text) 0)
    (λ t. let h : rust.Some most_cells ≡ rust.Some n = rw t at e in
    let i : most_cells ≡ n = cc in omega arith)
    (λ f. most_is most_cells n _ (rw f at e))

pub positions_fit : (text : List ℕ) (n : ℕ) → positions_lent text ≡ rust.Some n → n ≤ most_cells
unfolding positions_lent
positions_fit text n e =
    bool_cases (eqb (length (columns_of text)) 1)
    (λ t. cells_fit text n (rw t at e))
    (λ f. bool_cases (eqb (length (columns_of text)) 2)
    (λ t. most_is most_cells n _ (rw (f, t) at e))
    (λ g. let h : rust.None ≡ rust.Some n = rw (f, g) at e in
    let z : ◌≡◌ {A = ℕ} 0 1 = cc in absurd (omega arith)))

-- A table's only row

-- step by step: what the import says and leaves, the cell and the position, and their words
pub row_is : (texts : List (List ℕ)) (cells positions line : List ℕ) {after placed txp : List ℕ} {imported : Imported} {cell position : ℕ}
    {said : Answer} {v : Verdict}
    → imported ≡ import_of texts (room_in cells positions) → after ≡ cells_after texts cells imported → placed ≡ positions_after texts positions imported
    → cell ≡ get_or after 0 0 → position ≡ get_or placed 0 0 → said ≡ only_answer imported cell position → txp ≡ get_or texts 7 []
    → v ≡ verdict_of said txp after placed line → v ≡ row_verdict texts cells positions line
unfolding row_verdict left_verdict only_left
row_is texts cells positions line i a b c p s t v = cc

pub tab_cut : (text : List ℕ) (n : ℕ) → n ≡ upto 9 text → part_of text 0 n ≡ take (upto 9 text) text
tab_cut text n e = rw (e, sub-zero)

module _ (text line : List ℕ) (t : ℕ) (e : t ≡ setting_of (take (upto 9 text) text)) where
  pub row_no_table : table_count ≤ t → Unread ≡ row_reply text line
  unfolding row_reply
  row_no_table h = rw (← e, le-ltb t table_count h)

  pub row_no_tab : t < table_count → length text ≤ upto 9 text → Unread ≡ row_reply text line
  unfolding row_reply
  row_no_tab h l = rw (← e, lt-ltb t table_count h, le-ltb (upto 9 text) (length text) l)

  pub row_asked : (texts : List (List ℕ)) → t < table_count → upto 9 text < length text → texts ≡ only_table t (drop (upto 9 text + 1) text)
      → row_verdict texts blank_cells blank_cells line ≡ row_reply text line
  unfolding row_reply
  row_asked texts h l p = rw (← e, lt-ltb t table_count h, lt-ltb (upto 9 text) (length text) l, p)

map_set : {A B : Type 0} (f : A → B) (l : List A) (i : ℕ) (a : A) → map f (set l i a) ≡ set (map f l) i (f a)
map_set f [] i a = refl
map_set f (x ∷ l) zero a = refl
map_set f (x ∷ l) (suc i) a = ap (λ r. f x ∷ r) (map_set f l i a)

pub only_is : (x row : Bor (List ℕ)) (t : ℕ) → x.now ≡ []
    → map (λ x. x.now) (set (replicate table_count x) t row) ≡ only_table t row.now
unfolding only_table
only_is x row t e =
    map_set (λ x. x.now) (replicate table_count x) t row
    ∙ ap (λ (l : List ℕ). set (replicate table_count l) t row.now) e
