-- The rows of a group, listed by `list_members` into an array of zeros, and an array filled with what they say.
use mathlib.Core.Path.{◌≡◌, refl, sym, ap, ◌∙◌}
use mathlib.Core.Bool.{true}
use mathlib.Core.List.{List, [], ◌∷◌, map, map-map}
use mathlib.Core.Option.{some}
use Prim.Native.Nat.{ℕ, zero, suc, ◌-◌, ◌≤◌, ◌<◌}
use native.Mathlib.Omega.{arith}
use lib.Dec.{eqb}
use lib.IntN.{ℤ}
use lib.ListN.{length, get_or, get_elem?, take, drop, replicate, length-map, length-take, length-replicate}
use lib.Seq.{sets, get_or-take}
use Rattle.laws.proofs.Cases.{cond_cases}
use Rattle.passes.specs.Groups.{chain}
use Rattle.symbols.specs.declared.Symbol.{Symbol}
use Rattle.verdicts.specs.Key.{Key}
use Rattle.key_symbols.specs.Keyed.{symbol_of}
use Rattle.key_symbols.specs.Bounded.{key_fits}
use Rattle.database.specs.Rows.{Row}
use Rattle.database.specs.Arrays.{database, first_column, next_column, row_at, keyed, keyed_by, group_places, answers}
use Rattle.database.proofs.FindLaws.{members_are}
use Rattle.laws.proofs.Fill.{front_is, front_long}

-- the first n places are those of the rows of a group
pub record Listed (texts : List (List ℕ)) (words links columns : List ℕ) (k : Key) (places : List ℕ) (n : ℕ) : Type 0 where
  pub rows : map (row_at texts columns) (take n places) ≡ (answers (database texts words links columns)).members k
  pub long : 1024 ≡ length places
  pub few : n ≤ 1024

pub listed : (texts : List (List ℕ)) (words links columns : List ℕ) (k : Key) {s : Symbol} {places : List ℕ} {n : ℕ} → (s ≡ symbol_of k) × (key_fits k ≡ true)
    → (let all = group_places columns (keyed words links columns first_column s) in (n ≡ length all) × ((places ≡ sets (replicate 1024 0) 0 all) × (n ≤ 1024)))
    → Listed texts words links columns k places n
listed texts words links columns k {s} {places} {n} e l =
    let all : List ℕ = group_places columns (keyed words links columns first_column s) in
    let z : length {A = ℕ} (replicate 1024 0) ≡ 1024 = length-replicate {A = ℕ} 1024 0 in
    let room : length all ≤ length {A = ℕ} (replicate 1024 0) = omega (arith, l.0, l.1.1) in
    record {
      rows =
          ap (map (row_at texts columns)) (front_is (replicate 1024 0) all room l.1.0 n l.0)
          ∙ sym (members_are texts words links columns k s e.0 e.1);
      long = sym (front_long (replicate 1024 0) all room l.1.0 ∙ z);
      few = l.1.1;
    }

pub part_long : {A : Type 0} (n : ℕ) (xs : List A) → n ≤ length xs → n ≡ length (take n xs)
part_long n xs h = omega (arith, length-take n xs)

element : {A B : Type 0} (g : A → B) (l : List A) (i : ℕ) (d : A) → i < length l → get_elem? (map g l) i ≡ some (g (get_or l i d))
element g [] i d h = absurd (omega arith)
element g (a ∷ l) zero d h = refl
element g (a ∷ l) (suc i) d h = element g l i d (omega arith)

chain_few : (nexts : List ℕ) (steps at : ℕ) → length (chain nexts steps at) ≤ steps
unfolding chain
chain_few nexts zero at = omega arith
chain_few nexts (suc steps) at =
    cond_cases (λ (l : List ℕ). length l ≤ suc steps) (eqb at 0) (λ _. omega arith) (λ _. omega (arith, chain_few nexts steps (get_or nexts (at - 1) 0)))

-- an array whose front is filled with what rows say
pub front_filled : {A : Type 0} (f : Row → A) (rows : List Row) (xs₀ : List A) → length rows ≤ length xs₀
    → take (length rows) (sets xs₀ 0 (map f rows)) ≡ map f rows
front_filled f rows xs₀ h = front_is xs₀ (map f rows) (omega (arith, length-map rows f)) refl (length rows) (sym (length-map rows f))

module _ {texts : List (List ℕ)} {words links columns : List ℕ} {k : Key} {places : List ℕ} {n : ℕ} (l : Listed texts words links columns k places n) where
  pub listed_room : n ≤ length places
  listed_room = omega (arith, l.few, l.long)

  pub listed_part : n ≡ length (take n places)
  listed_part = part_long n places listed_room

  pub listed_count : n ≡ length ((answers (database texts words links columns)).members k)
  listed_count = listed_part ∙ sym (length-map (take n places) (row_at texts columns)) ∙ ap length l.rows

  pub member_at : (i : ℕ) → i < n → get_elem? ((answers (database texts words links columns)).members k) i ≡ some (row_at texts columns (get_or places i 0))
  member_at i h =
      ap (λ (rows : List Row). get_elem? rows i) (sym l.rows)
      ∙ element (row_at texts columns) (take n places) i 0 (omega (arith, listed_part))
      ∙ ap (λ (p : ℕ). some (row_at texts columns p)) (get_or-take n places i 0 h)

  module _ (f : Row → ℤ) (xs₀ : List ℤ) {xs : List ℤ} (q : xs ≡ sets xs₀ 0 (map (λ i. f (row_at texts columns i)) (take n places))) where
    pub filled : xs ≡ sets xs₀ 0 (map f ((answers (database texts words links columns)).members k))
    filled = q ∙ ap (sets xs₀ 0) (sym (map-map f (row_at texts columns) (take n places)) ∙ ap (map f) l.rows)

    pub filled_front : 1024 ≤ length xs₀ → take n xs ≡ map f ((answers (database texts words links columns)).members k)
    filled_front h =
        rw (listed_count, filled) (front_filled f ((answers (database texts words links columns)).members k) xs₀ (omega (arith, listed_count, l.few)))

-- a group has at most 1,024 rows
pub members_few : (texts : List (List ℕ)) (words links columns : List ℕ) (k : Key) → length ((answers (database texts words links columns)).members k) ≤ 1024
unfolding answers group_places
members_few texts words links columns k =
    let nexts : List ℕ = drop next_column columns in
    let first : ℕ = keyed_by words links columns first_column k in
    omega (arith, length-map (chain nexts 1024 first) (row_at texts columns), chain_few nexts 1024 first)
