-- The index that is made: of packets with different numbers it is the one.
use mathlib.Core.Path.{◌≡◌, refl, ap, ap₂, sym, ◌∙◌}
use mathlib.Core.Bool.{Bool, true, false, not, ◌&&◌, ◌||◌}
use mathlib.Core.List.{List, [], ◌∷◌, ◌++◌, map, map-append}
use Prim.Native.Nat.{ℕ, zero, suc, ◌+◌, ◌≤◌, ◌<◌}
use native.Mathlib.Omega.{arith}
use native.Mathlib.Decide.{ℕ_discrete}
use lib.Dec.{eqb, leb}
use lib.ListN.{length, get_or, take, drop, take-append-drop, length-take, length-drop, length-map}
use lib.Seq.{get_or-take, get_or-drop}
use borrow.Author.Tests.{eq-eqb, ne_eqb, leb-true, le-leb}
use Rattle.laws.specs.Lists.{any}
use Rattle.laws.specs.Prefix.{any_with}
use Rattle.laws.proofs.At.{same_test, place_any}
use Rattle.laws.proofs.Cases.{cond_cases, false_of, and_left, and_right, and_both, and_false, or_right, or_left}
use Rattle.laws.proofs.Count.{any_none}
use Rattle.laws.proofs.Lists.{map_at}
use Rattle.verdicts.specs.Answer.{most_rows}
use Rattle.key_symbols.specs.declared.FiveNumbers.{FiveNumbers}
use Rattle.packet_order.specs.declared.Order.TheVariants.{Before}
use Rattle.packet_order.specs.Order.{compared}
use Rattle.packet_order.proofs.OrderLaws.{after_before}
use Rattle.packet_index.specs.Index.{Packets, zeros, is_packet, numbers_at, rising, every, missing, is_index}
use Rattle.packet_index.specs.Search.{searched}
use Rattle.packet_index.specs.Making.{insert_at, with_row, made_to, index_of}
use Rattle.packet_index.proofs.RisingLaws.{at, Rises, rising_rises, rises_rising, rises_take, rises_drop, rises_append}
use Rattle.packet_index.proofs.SearchLaws.{found_stands, search_place, place_within}
use Rattle.packet_index.proofs.IndexLaws.{one_index, packet_from}

-- lists

any_append : (f : ℕ → Bool) (xs ys : List ℕ) → any f (xs ++ ys) ≡ (any f xs || any f ys)
any_append f [] ys = refl
any_append f (x ∷ xs) ys = rw (any_append f xs ys) (go (f x))
  where
    go : (t : Bool) → (t || (any f xs || any f ys)) ≡ ((t || any f xs) || any f ys)
    go true = refl
    go false = refl

any_insert : (f : ℕ → Bool) (place row : ℕ) (rows : List ℕ) → any f (insert_at place row rows) ≡ (f row || any f rows)
any_insert f place row rows =
    any_append f (take place rows) (row ∷ drop place rows)
    ∙ go (any f (take place rows)) (f row) (any f (drop place rows))
    ∙ ap (λ (t : Bool). f row || t) (sym (any_append f (take place rows) (drop place rows)) ∙ ap (any f) (take-append-drop place rows))
  where
    go : (a b c : Bool) → (a || (b || c)) ≡ (b || (a || c))
    go true true c = refl
    go true false c = refl
    go false b c = refl

module _ (key : ℕ → FiveNumbers) where
  map_take : (n : ℕ) (l : List ℕ) → map key (take n l) ≡ take n (map key l)
  map_take zero l = refl
  map_take (suc n) [] = refl
  map_take (suc n) (x ∷ l) = ap {B = List FiveNumbers} (λ m. key x ∷ m) (map_take n l)

  map_drop : (n : ℕ) (l : List ℕ) → map key (drop n l) ≡ drop n (map key l)
  map_drop zero l = refl
  map_drop (suc n) [] = refl
  map_drop (suc n) (x ∷ l) = map_drop n l

  pub map_insert : (place row : ℕ) (l : List ℕ) → map key (insert_at place row l) ≡ insert_at place (key row) (map key l)
  map_insert place row l =
      map-append key (take place l) (row ∷ drop place l)
      ∙ ap₂ (λ (a b : List FiveNumbers). a ++ key row ∷ b) (map_take place l) (map_drop place l)

-- every element passes where every member does
every_of : (f : ℕ → Bool) (rows : List ℕ) → ((row : ℕ) → any (eqb row) rows ≡ true → f row ≡ true) → every f rows ≡ true
unfolding every
every_of f [] h = refl
every_of f (row ∷ rows) h =
    and_both (h row (or_left (any (eqb row) rows) (eq-eqb row row refl))) (every_of f rows (λ r t. h r (or_right (eqb r row) t)))

-- a list that rises goes on rising with the target at its place
module _ (target : FiveNumbers) (xs : List FiveNumbers) (rises : rising xs ≡ true) (none : (searched target xs).found ≡ false) where
  abbrev place : ℕ
  place = (searched target xs).place

  within : place ≤ length xs
  within = place_within target xs

  from_target : Rises (target ∷ drop place xs)
  from_target =
      rises_append (target ∷ []) (drop place xs) (λ i j h k. absurd (omega arith)) (rises_drop place xs (rising_rises xs rises))
      (λ i j h k. later i j h (omega (arith, length-drop place xs)))
    where
      later : (i j : ℕ) → i < 1 → place + j < length xs → compared (at (target ∷ []) i) (at (drop place xs) j) ≡ Before
      later zero j h k =
          rw (get_or-drop place xs j zeros)
          (after_before (at xs (place + j)) target ((search_place target xs rises none).1 (place + j) (omega arith) k))
      later (suc i) j h k = absurd (omega arith)

  pub insert_rises : rising (insert_at place target xs) ≡ true
  insert_rises =
      rises_rising (insert_at place target xs)
      (rises_append (take place xs) (target ∷ drop place xs) (rises_take place xs (rising_rises xs rises)) from_target across)
    where
      -- the target is the first of those after
      before : (i : ℕ) → i < place → compared (at xs i) target ≡ Before
      before i h = (search_place target xs rises none).0 i h

      across : (i j : ℕ) → i < length (take place xs) → j < length (target ∷ drop place xs)
          → compared (at (take place xs) i) (at (target ∷ drop place xs) j) ≡ Before
      across i zero h k =
          let l = length-take place xs in
          rw (get_or-take place xs i zeros (omega arith)) (before i (omega arith))
      across i (suc j) h k =
          let l = length-take place xs in
          let m = length-drop place xs in
          rw (get_or-take place xs i zeros (omega arith), get_or-drop place xs j zeros) (rising_rises xs rises i (place + j) (omega arith) (omega arith))

-- no two packets have the same numbers
abbrev pub Apart : Packets → Type 0
Apart packets = (r s : ℕ) → is_packet packets r ≡ true → is_packet packets s ≡ true → numbers_at packets r ≡ numbers_at packets s → r ≡ s

-- a row other than the next one is among as many rows as before
steps_on : (row n : ℕ) → (row ≡ suc n → ⊥) → leb row n ≡ leb row (suc n)
steps_on row n z = same_test (leb row n) (leb row (suc n)) (λ t. le-leb row (suc n) (omega (arith, leb-true row n t)))
    (λ t. le-leb row n (omega (arith, z, leb-true row (suc n) t)))

module _ (packets : Packets) (apart : Apart packets) where
  -- after n rows
  record Made (n : ℕ) (index : List ℕ) : Type 0 where
    rises : rising (map (numbers_at packets) index) ≡ true
    members : (row : ℕ) → any (eqb row) index ≡ (leb row n && is_packet packets row)

  made_none : Made 0 []
  unfolding rising
  made_none = record { rises = refl; members = λ row. none row (leb row 0) refl (is_packet packets row) refl }
    where
      none : (row : ℕ) (t : Bool) → leb row 0 ≡ t → (u : Bool) → is_packet packets row ≡ u → false ≡ (t && u)
      none row false p u q = refl
      none row true p false q = refl
      none row true p true q = absurd (omega (arith, leb-true row 0 p, packet_from packets row q))

  module _ (n : ℕ) (index : List ℕ) (made : Made n index) where
    -- one row more, which is no packet
    skipped : is_packet packets (suc n) ≡ false → Made (suc n) index
    skipped t = record { rises = made.rises; members = λ row. made.members row ∙ more row (ℕ_discrete row (suc n)) }
      where
        more : (row : ℕ) → Dec (row ≡ suc n) → (leb row n && is_packet packets row) ≡ (leb row (suc n) && is_packet packets row)
        more row (yes e) =
            let f : is_packet packets row ≡ false = ap (is_packet packets) e ∙ t in
            rw f (and_false (leb row n) ∙ sym (and_false (leb row (suc n))))
        more row (no z) = ap (λ (b : Bool). b && is_packet packets row) (steps_on row n z)

    module _ (t : is_packet packets (suc n) ≡ true) where
      abbrev target : FiveNumbers
      target = numbers_at packets (suc n)

      abbrev entries : List FiveNumbers
      entries = map (numbers_at packets) index

      -- its numbers aren't there yet
      not_yet : (searched target entries).found ≡ false
      not_yet = false_of (searched target entries).found λ e.
          let s = found_stands target entries e in
          let place : ℕ = (searched target entries).place in
          let h : place < length index = omega (arith, s.0, length-map index (numbers_at packets)) in
          let row : ℕ = get_or index place 0 in
          let m : any (eqb row) index ≡ true = place_any 0 (eqb row) index place h (eq-eqb row row refl) in
          let b : (leb row n && is_packet packets row) ≡ true = sym (made.members row) ∙ m in
          let e : numbers_at packets row ≡ target = sym (map_at (numbers_at packets) index place 0 zeros h) ∙ s.1 in
          let same = apart row (suc n) (and_right (leb row n) (is_packet packets row) b) t e in
          omega (arith, leb-true row n (and_left (leb row n) (is_packet packets row) b))

      put : Made (suc n) (insert_at (searched target entries).place (suc n) index)
      put =
          let place : ℕ = (searched target entries).place in
          let rise = insert_rises target entries made.rises not_yet in
          record {
            rises = ap rising (map_insert (numbers_at packets) place (suc n) index) ∙ rise;
            members = λ row. any_insert (eqb row) place (suc n) index
                ∙ ap (λ (b : Bool). eqb row (suc n) || b) (made.members row) ∙ more row (ℕ_discrete row (suc n));
          }
        where
          more : (row : ℕ) → Dec (row ≡ suc n) → (eqb row (suc n) || (leb row n && is_packet packets row)) ≡ (leb row (suc n) && is_packet packets row)
          more row (yes e) =
              let f : is_packet packets row ≡ true = ap (is_packet packets) e ∙ t in
              rw (eq-eqb row (suc n) e, le-leb row (suc n) (omega arith), f)
          more row (no z) = rw (ne_eqb row (suc n) z) (ap (λ (b : Bool). b && is_packet packets row) (steps_on row n z))

    made_more : Made (suc n) (with_row packets (suc n) index)
    unfolding with_row
    made_more = cond_cases (Made (suc n)) (is_packet packets (suc n)) (λ t. put t) (λ t. skipped t)

  made_to_lem : (n : ℕ) → Made n (made_to packets n)
  unfolding made_to
  made_to_lem zero = made_none
  made_to_lem (suc n) = made_more n (made_to packets n) (made_to_lem n)

  made : Made most_rows (index_of packets)
  unfolding index_of
  made = made_to_lem most_rows

  -- what is made is an index
  pub an_index : is_index packets (index_of packets) ≡ true
  unfolding is_index missing
  an_index = and_both packets_only (and_both made.rises (ap not lacks_none))
    where
      packets_only : every (is_packet packets) (index_of packets) ≡ true
      packets_only = every_of (is_packet packets) (index_of packets) λ row t.
          and_right (leb row most_rows) (is_packet packets row) (sym (made.members row) ∙ t)

      lacks_none : any_with (missing packets (index_of packets)) (suc most_rows) ≡ false
      lacks_none = any_none (suc most_rows) (missing packets (index_of packets)) λ row h.
          rw (made.members row, le-leb row most_rows (omega arith)) (never (is_packet packets row))
        where
          never : (t : Bool) → (t && not t) ≡ false
          never true = refl
          never false = refl

  -- and the only one
  pub exactly_one : (is_index packets (index_of packets) ≡ true) × ((index : List ℕ) → is_index packets index ≡ true → index ≡ index_of packets)
  exactly_one = (an_index, λ index is. one_index packets index (index_of packets) is an_index)
