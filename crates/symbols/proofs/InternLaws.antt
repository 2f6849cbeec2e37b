-- Interning in a table: the symbols stay or grow by the key, and they stand in a table again.
use mathlib.Core.Path.{◌≡◌, refl, ap, sym, ◌∙◌}
use mathlib.Core.Bool.{Bool, true, false, cond}
use mathlib.Core.List.{List, [], ◌∷◌, ◌++◌}
use Prim.Native.Nat.{ℕ, ◌+◌, ◌≤◌, ◌<◌}
use native.Mathlib.Omega.{arith}
use lib.Dec.{eqb}
use lib.ListN.{length}
use borrow.Author.Tests.{eqb-true, eqb-false}
use Rattle.laws.proofs.Cases.{bool_cases, and_left, and_right}
use Rattle.symbols.specs.declared.Symbol.{Symbol}
use Rattle.symbols.specs.declared.Interned.{Interned}
use Rattle.symbols.specs.Symbols.{symbol_place, id_of, grown}
use Rattle.symbols.specs.Arrays.{symbols, put_symbol, put_link, has_space}
use Rattle.symbols.specs.Searches.{followed, sought, found, Table}
use Rattle.symbols.specs.Interning.{is_new, interned, words_after, links_after, Interns}
use Rattle.symbols.proofs.PlaceLaws.{id_is, grown_old, grown_full, grown_new, grown_longer, grown_most, grown_has, new_place, Extends, extends_grown}
use Rattle.symbols.proofs.AnswerLaws.{room_tells}
use Rattle.symbols.proofs.FindLaws.{symbols_length, found_id, sought_none, sought_some}
use Rattle.symbols.proofs.PutLaws.{symbols_put, table_put}

module _ (words links : List ℕ) (n : ℕ) (k : Symbol) where
  abbrev after : List Symbol
  after = grown (has_space words links n) k (symbols words n)

  -- the symbols afterwards, the key's id among them, and that they stand in a table
  pub record Grows (words₁ links₁ : List ℕ) (r : Interned) : Type 0 where
    pub list : symbols words₁ r.count ≡ after
    pub id : r.id ≡ id_of k after
    pub table : Table words₁ links₁ r.count

module _ (words links : List ℕ) (n : ℕ) (t : Table words links n) (k : Symbol) where
  abbrev ls : List Symbol
  ls = symbols words n

  abbrev room : Bool
  room = has_space words links n

  grows_new : sought words links k ≡ 0 → room ≡ true → Grows words links n k (put_symbol words n k) (put_link links n (followed words links k).place)
      (record { id = n; count = n + 1 })
  grows_new z q =
      let r = room_tells words links n q in
      let s = symbols_length words n in
      let p = sought_none words links n t k z in
      let w : length ls ≤ symbol_place k ls = omega arith in
      let g : grown room k ls ≡ ls ++ k ∷ [] = grown_new room k ls w q in
      let f : symbol_place k (grown room k ls) ≡ n = ap (symbol_place k) g ∙ new_place room k ls w ∙ s in
      record {
        list = symbols_put words n k r.place ∙ sym g;
        id = sym (id_is k (grown room k ls) (grown_has room k ls q) ∙ f);
        table = table_put words n k r.place links t r.few r.link z;
      }

  stays : is_new words links n k ≡ false → grown room k ls ≡ ls
  unfolding is_new
  stays e =
      bool_cases (eqb (sought words links k) 0)
      (λ q. grown_full room k ls (rw q at e))
      (λ q. let s = symbols_length words n in
      let z = eqb-false (sought words links k) 0 q in
      let p = sought_some words links n t k (omega (arith, z)) in
      grown_old room k ls (omega arith))

  grows_old : is_new words links n k ≡ false → Grows words links n k words links (record { id = found words links k; count = n })
  grows_old e = record { list = sym (stays e); id = found_id words links n t k ∙ ap (id_of k) (sym (stays e)); table = t }

  grows_by : Grows words links n k (words_after words links n k) (links_after words links n k) (interned words links n k)
  unfolding interned words_after links_after is_new
  grows_by = go (is_new words links n k) refl
    where
      go : (b : Bool) → is_new words links n k ≡ b
          → Grows words links n k (cond b (put_symbol words n k) words) (cond b (put_link links n (followed words links k).place) links)
          (cond b (record { id = n; count = n + 1 }) (record { id = found words links k; count = n }))
      go true e = grows_new (eqb-true (sought words links k) 0 (and_left (eqb (sought words links k) 0) room e))
          (and_right (eqb (sought words links k) 0) room e)
      go false e = grows_old e

  -- THE LAW OF INTERNING
  pub interns : {words₁ links₁ : List ℕ} {r : Interned} → Interns words links words₁ links₁ n k r → Grows words links n k words₁ links₁ r
  interns w = rw (w.words, w.links, w.answer) grows_by

-- what follows for whoever keeps ids
module _ {words links words₁ links₁ : List ℕ} {n : ℕ} {k : Symbol} {r : Interned} (w : Grows words links n k words₁ links₁ r) where
  abbrev now : List Symbol
  now = symbols words₁ r.count

  pub id_now : r.id ≡ id_of k now
  id_now = rw w.list w.id

  -- ids that are kept stay right
  pub extends : Extends (symbols words n) now
  extends = rw w.list (extends_grown (has_space words links n) k (symbols words n))

  size : length now ≡ length (after words links n k)
  size = ap length w.list

  pub count_least : n ≤ r.count
  count_least =
      omega (arith, size, symbols_length words₁ r.count, symbols_length words n, grown_longer (has_space words links n) k (symbols words n))

  pub count_most : r.count ≤ n + 1
  count_most =
      omega (arith, size, symbols_length words₁ r.count, symbols_length words n, grown_most (has_space words links n) k (symbols words n))

  -- where there is room, the key is a symbol
  pub is_symbol : has_space words links n ≡ true → symbol_place k now < length now
  is_symbol h = rw w.list (grown_has (has_space words links n) k (symbols words n) h)

  pub id_small : has_space words links n ≡ true → r.id < r.count
  id_small h =
      let s = is_symbol h in
      omega (arith, id_now, id_is k now s, symbols_length words₁ r.count)
