-- The index: a search of it answers which packet there is, and there is at most one.
use mathlib.Core.Path.{◌≡◌, refl, ap, sym, ◌∙◌}
use mathlib.Core.Bool.{Bool, true, false, not, ◌&&◌}
use mathlib.Core.List.{List, [], ◌∷◌, map, Memᴰ}
use mathlib.Core.Option
use mathlib.Core.Option.{Option, none, some}
use Prim.Native.Nat.{ℕ, suc, ◌≤◌, ◌<◌}
use native.Mathlib.Omega.{arith}
use lib.Dec.{eqb, leb, ltb}
use lib.ListN.{length, get_or, length-map}
use borrow.Author.Tests.{eqb-true, leb-true, le-leb, ltb-true, lt-ltb}
use Rattle.laws.specs.Lists.{any}
use Rattle.laws.specs.Prefix.{any_with}
use Rattle.laws.proofs.Cases.{false≢true, and_left, and_right, and_both}
use Rattle.laws.proofs.Count.{any_one}
use Rattle.laws.proofs.At.{any_place}
use Rattle.laws.proofs.Lists.{map_at, at_mem}
use Rattle.laws.proofs.Tests.{any_witness}
use Rattle.verdicts.specs.Answer.{most_rows}
use Rattle.key_symbols.specs.declared.FiveNumbers.{FiveNumbers}
use Rattle.packet_order.specs.Order.{compared}
use Rattle.packet_order.proofs.OrderLaws.{before_transitive, never_before_itself}
use Rattle.packet_index.specs.Index.{Packets, zeros, is_some, is_packet, numbers_at, is_before, rising_from, rising, every, missing, is_index}
use Rattle.packet_index.specs.Search.{searched}
use Rattle.packet_index.proofs.RisingLaws.{at, member_before}
use Rattle.packet_index.proofs.SearchLaws.{found_stands, search_finds}

-- each element of a list passes
pub every_member : (f : ℕ → Bool) {row : ℕ} {rows : List ℕ} → Memᴰ row rows → every f rows ≡ true → f row ≡ true
unfolding every
every_member f (Memᴰ.head {x = x} {xs = xs} e) t = ap f e ∙ and_left (f x) (every f xs) t
every_member f (Memᴰ.tail {x = x} {xs = xs} m) t = every_member f m (and_right (f x) (every f xs) t)

module _ (packets : Packets) where
  -- a packet is a row from 1 to 1,024 with numbers
  pub packet_row : (row : ℕ) (numbers : FiveNumbers) → 0 < row → row ≤ most_rows → packets row ≡ some numbers → is_packet packets row ≡ true
  unfolding is_packet
  packet_row row numbers h k e = and_both (lt-ltb 0 row h) (and_both (le-leb row most_rows k) (ap is_some e))

  numbers_is : (row : ℕ) (numbers : FiveNumbers) → packets row ≡ some numbers → numbers_at packets row ≡ numbers
  unfolding numbers_at
  numbers_is row numbers e = rw e

  module _ (row : ℕ) (t : is_packet packets row ≡ true) where
    pub packet_from : 0 < row
    unfolding is_packet
    packet_from = ltb-true 0 row (and_left (ltb 0 row) (leb row most_rows && is_some (packets row)) t)

    rest : (leb row most_rows && is_some (packets row)) ≡ true
    unfolding is_packet
    rest = and_right (ltb 0 row) (leb row most_rows && is_some (packets row)) t

    pub packet_to : row ≤ most_rows
    packet_to = leb-true row most_rows (and_left (leb row most_rows) (is_some (packets row)) rest)

    pub packet_some : packets row ≡ some (numbers_at packets row)
    unfolding numbers_at
    packet_some = go (packets row) (and_right (leb row most_rows) (is_some (packets row)) rest)
      where
        go : (o : Option FiveNumbers) → is_some o ≡ true → o ≡ some (Option.get_or o zeros)
        go none e = absurd (false≢true e)
        go (some numbers) e = refl

  module _ (index : List ℕ) (is : is_index packets index ≡ true) where
    abbrev entries : List FiveNumbers
    entries = map (numbers_at packets) index

    pub all_packets : every (is_packet packets) index ≡ true
    unfolding is_index
    all_packets = and_left (every (is_packet packets) index) (rising entries && not (any_with (missing packets index) (suc most_rows))) is

    others : (rising entries && not (any_with (missing packets index) (suc most_rows))) ≡ true
    unfolding is_index
    others = and_right (every (is_packet packets) index) (rising entries && not (any_with (missing packets index) (suc most_rows))) is

    pub entries_rise : rising entries ≡ true
    entries_rise = and_left (rising entries) (not (any_with (missing packets index) (suc most_rows))) others

    -- every packet is in it
    pub packet_in : (row : ℕ) → is_packet packets row ≡ true → any (eqb row) index ≡ true
    unfolding missing
    packet_in row t = go (any (eqb row) index) refl
      where
        lacks_none : not (any_with (missing packets index) (suc most_rows)) ≡ true
        lacks_none = and_right (rising entries) (not (any_with (missing packets index) (suc most_rows))) others

        go : (b : Bool) → any (eqb row) index ≡ b → b ≡ true
        go true e = refl
        go false e =
            let m : (is_packet packets row && not (any (eqb row) index)) ≡ true = and_both t (ap not e) in
            let l = any_one (suc most_rows) row (missing packets index) (omega (arith, packet_to row t)) m in
            absurd (false≢true (sym (ap not l) ∙ lacks_none))

    entry_is : (i : ℕ) → i < length index → at entries i ≡ numbers_at packets (get_or index i 0)
    entry_is i h = map_at (numbers_at packets) index i 0 zeros h

    -- a packet is found, and its row is the entry there
    pub index_finds : (row : ℕ) (numbers : FiveNumbers) → 0 < row → row ≤ most_rows → packets row ≡ some numbers
        → ((searched numbers entries).found ≡ true) × (get_or index (searched numbers entries).place 0 ≡ row)
    index_finds row numbers h k e =
        let p = any_place 0 (eqb row) index (packet_in row (packet_row row numbers h k e)) in
        let q : row ≡ get_or index p.at 0 = eqb-true row (get_or index p.at 0) p.holds in
        let s =
        search_finds numbers entries entries_rise p.at (omega (arith, p.below, length-map index (numbers_at packets)))
        (entry_is p.at p.below ∙ ap (numbers_at packets) (sym q) ∙ numbers_is row numbers e) in
        (s.0, ap (λ (i : ℕ). get_or index i 0) s.1 ∙ sym q)

    -- what is found is the row of a packet with these numbers
    pub index_found : (numbers : FiveNumbers) → (searched numbers entries).found ≡ true
        → (is_packet packets (get_or index (searched numbers entries).place 0) ≡ true) × (packets (get_or index (searched numbers entries).place 0) ≡ some numbers)
    index_found numbers e =
        let s = found_stands numbers entries e in
        let h : (searched numbers entries).place < length index = omega (arith, s.0, length-map index (numbers_at packets)) in
        let row : ℕ = get_or index (searched numbers entries).place 0 in
        let t = every_member (is_packet packets) (at_mem index (searched numbers entries).place 0 h) all_packets in
        (t, packet_some row t ∙ ap {B = Option FiveNumbers} some (sym (entry_is (searched numbers entries).place h) ∙ s.1))

    -- where no packet has these numbers nothing is found
    pub index_misses : (numbers : FiveNumbers) → ((row : ℕ) → is_packet packets row ≡ true → packets row ≡ some numbers → ⊥)
        → (searched numbers entries).found ≡ false
    index_misses numbers n = go (searched numbers entries).found refl
      where
        go : (b : Bool) → (searched numbers entries).found ≡ b → b ≡ false
        go true e = let f = index_found numbers e in absurd (n (get_or index (searched numbers entries).place 0) f.0 f.1)
        go false e = refl

    -- 02, P4: "The answer, 25 included, equals 01's"
    pub index_answers : (numbers : FiveNumbers)
        → ((row : ℕ) → 0 < row → row ≤ most_rows → packets row ≡ some numbers
        → ((searched numbers entries).found ≡ true) × (get_or index (searched numbers entries).place 0 ≡ row))
        × (((row : ℕ) → is_packet packets row ≡ true → packets row ≡ some numbers → ⊥) → (searched numbers entries).found ≡ false)
    index_answers numbers = ((λ row. index_finds row numbers), index_misses numbers)

-- two lists of the same rows that rise by the same numbers are equal
pub tail_rises : (a : FiveNumbers) (xs : List FiveNumbers) → rising_from a xs ≡ true → rising xs ≡ true
unfolding rising rising_from
tail_rises a [] t = refl
tail_rises a (b ∷ xs) t = and_right (is_before (compared a b)) (rising_from b xs) t

in_tail : {z y : ℕ} {ys : List ℕ} → Memᴰ z (y ∷ ys) → (z ≡ y → ⊥) → Memᴰ z ys
in_tail (Memᴰ.head e) n = absurd (n e)
in_tail (Memᴰ.tail m) n = m

module _ (key : ℕ → FiveNumbers) where
  -- the first doesn't stand there again
  pub not_again : {row z : ℕ} {rows : List ℕ} → Memᴰ z rows → rising_from (key row) (map key rows) ≡ true → row ≡ z → ⊥
  not_again {row} m t e = never_before_itself (key row) (ap (λ (n : ℕ). compared (key row) (key n)) e ∙ member_before key (key row) m t)

  pub same_rows : (xs ys : List ℕ) → rising (map key xs) ≡ true → rising (map key ys) ≡ true → ((z : ℕ) → Memᴰ z xs → Memᴰ z ys)
      → ((z : ℕ) → Memᴰ z ys → Memᴰ z xs) → xs ≡ ys
  unfolding rising
  same_rows [] [] p q f g = refl
  same_rows [] (y ∷ ys) p q f g = elim (g y (Memᴰ.head refl)) [ ]
  same_rows (x ∷ xs) [] p q f g = elim (f x (Memᴰ.head refl)) [ ]
  same_rows (x ∷ xs) (y ∷ ys) p q f g =
      let e : x ≡ y = first (f x (Memᴰ.head refl)) (g y (Memᴰ.head refl)) in
      let r : xs ≡ ys =
      same_rows xs ys (tail_rises (key x) (map key xs) p) (tail_rises (key y) (map key ys) q)
      (λ z m. in_tail (f z (Memᴰ.tail m)) (λ h. not_again m p (omega arith)))
      (λ z m. in_tail (g z (Memᴰ.tail m)) (λ h. not_again m q (omega arith))) in
      cc
    where
      first : Memᴰ x (y ∷ ys) → Memᴰ y (x ∷ xs) → x ≡ y
      first (Memᴰ.head e) m = e
      first (Memᴰ.tail m) (Memᴰ.head e) = sym e
      first (Memᴰ.tail m) (Memᴰ.tail n) =
          absurd (never_before_itself (key x) (before_transitive (key x) (key y) (key x) (member_before key (key x) n p) (member_before key (key y) m q)))

-- a row of one index is a row of any other
moves : (packets : Packets) (xs ys : List ℕ) → is_index packets xs ≡ true → is_index packets ys ≡ true → (z : ℕ) → Memᴰ z xs → Memᴰ z ys
moves packets xs ys p q z m =
    let t = every_member (is_packet packets) m (all_packets packets xs p) in
    let w = any_witness (eqb z) ys (packet_in packets ys q z t) in
    let e : z ≡ w.0 = eqb-true z w.0 w.2 in
    rw e w.1

-- there is at most one index
pub one_index : (packets : Packets) (xs ys : List ℕ) → is_index packets xs ≡ true → is_index packets ys ≡ true → xs ≡ ys
one_index packets xs ys p q =
    same_rows (numbers_at packets) xs ys (entries_rise packets xs p) (entries_rise packets ys q) (moves packets xs ys p q) (moves packets ys xs q p)
