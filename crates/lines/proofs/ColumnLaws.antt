-- Laws of the columns of a line and of their places.
use mathlib.Core.Path.{◌≡◌, refl, sym, ap, ◌∙◌}
use mathlib.Core.List.{List, [], ◌∷◌, ◌++◌, map, append-nil, append_assoc}
use Prim.Native.Nat.{ℕ, zero, suc, ◌+◌, ◌-◌, ◌<◌, ◌≤◌}
use native.Mathlib.Omega.{arith}
use lib.Dec.{eqb}
use lib.ListN.{length, get_or, take, drop, set, replicate, drop_of_length-le, length-append, length-take, length-drop, get_or-replicate, get_or-map}
use lib.ListN.{get_or-eq_default}
use lib.Seq.{sets, take_all, take-nil, get_or-take, append_snoc, take-append_seam, drop-append_seam}
use borrow.Author.Tests.{eqb-true}
use Rattle.laws.proofs.Cases.{cond_cases, cond_cases₂}
use Rattle.lines.specs.Columns.{
  tab,
  columns_from,
  columns_of,
  column_at,
  Place,
  places_from,
  places_of,
  ends_from,
  ends_of,
  firsts,
  divided,
  part_of,
  start_in,
  column_in,
}

-- The first n of a list

zeros_more : (n m : ℕ) → n ≤ m → take {A = ℕ} n (replicate m 0) ≡ take n (replicate (suc m) 0)
zeros_more zero m h = refl
zeros_more (suc n) zero h = absurd (omega arith)
zeros_more (suc n) (suc m) h = ap (λ (l : List ℕ). 0 ∷ l) (zeros_more n m (omega arith))

set_next : (n m : ℕ) (l : List ℕ) (x : ℕ) → n ≤ m → set (take n (l ++ replicate m 0)) (length l) x ≡ take n (l ++ (x ∷ []) ++ replicate m 0)
set_next zero m [] x h = refl
set_next zero m (y ∷ l) x h = refl
set_next (suc n) zero l x h = absurd (omega arith)
set_next (suc n) (suc m) [] x h = ap (λ (l : List ℕ). x ∷ l) (zeros_more n m (omega arith))
set_next (suc n) (suc m) (y ∷ l) x h = ap (λ (l : List ℕ). y ∷ l) (set_next n (suc m) l x (omega arith))

-- one more is stored at the next place, or nowhere where all n are held
pub firsts_next : (n : ℕ) (l : List ℕ) (x : ℕ) → set (firsts n l) (length l) x ≡ firsts n (l ++ x ∷ [])
unfolding firsts
firsts_next n l x = set_next n n l x (omega arith)

at_zeros : (n : ℕ) (l : List ℕ) (k : ℕ) → k < n → get_or (l ++ replicate n 0) k 0 ≡ get_or l k 0
at_zeros n [] k h = get_or-replicate n k 0 0 h
at_zeros n (x ∷ l) zero h = refl
at_zeros n (x ∷ l) (suc k) h = at_zeros n l k (omega arith)

pub firsts_at : (n : ℕ) (l : List ℕ) (k : ℕ) → k < n → get_or (firsts n l) k 0 ≡ get_or l k 0
unfolding firsts
firsts_at n l k h = rw (get_or-take n (l ++ replicate n 0) k 0 h) (at_zeros n l k h)

-- the next ones are stored at the next places
firsts_all : (n : ℕ) (l vs : List ℕ) → sets (firsts n l) (length l) vs ≡ firsts n (l ++ vs)
firsts_all n l [] = rw (append-nil l)
firsts_all n l (v ∷ vs) =
    let e : suc (length l) ≡ length (l ++ v ∷ []) = simp length-append (omega arith) in
    rw (firsts_next n l v, e, firsts_all n (l ++ v ∷ []) vs, append_assoc l (v ∷ []) vs)

-- the ends of all columns, stored where there is room
pub divided_stored : (line : List ℕ) → sets (replicate 24 0) 0 (ends_of line) ≡ divided line
unfolding divided firsts
divided_stored line = firsts_all 24 [] (ends_of line)

-- Parts of a line

pub part_none : (line : List ℕ) (a e : ℕ) → e ≤ a → part_of line a e ≡ []
part_none line a e h = let z : e - a ≡ 0 = omega arith in rw z

pub part_past : (line : List ℕ) (a e : ℕ) → length line ≤ a → part_of line a e ≡ []
part_past line a e h = rw (drop_of_length-le line h, take-nil)

pub part_rest : (line : List ℕ) (a e : ℕ) → length line ≤ e → part_of line a e ≡ drop a line
part_rest line a e h = take_all (e - a) (drop a line) (simp length-drop (omega arith))

pub part_short : (line : List ℕ) (a e : ℕ) → length (part_of line a e) ≤ e
part_short line a e = simp length-take (omega arith)

-- What stands before the ends

-- where column k starts of columns of which the first starts at a
abbrev start_from : ℕ → List ℕ → ℕ → ℕ
start_from a ends zero = a
start_from a ends (suc k) = get_or ends k 0 + 1

start_next : (a e : ℕ) (ends : List ℕ) (k : ℕ) → start_from a (e ∷ ends) (suc k) ≡ start_from (e + 1) ends k
start_next a e ends zero = refl
start_next a e ends (suc k) = refl

start_first : (ends : List ℕ) (k : ℕ) → start_in ends k ≡ start_from 0 ends k
start_first ends zero = refl
start_first ends (suc k) = refl

abbrev part_from : List ℕ → ℕ → List ℕ → ℕ → List ℕ
part_from line a ends k = part_of line (start_from a ends k) (get_or ends k 0)

cut : (p c l : List ℕ) (e : ℕ) → e ≡ length p + length c → part_of (p ++ (c ++ l)) (length p) e ≡ c
cut p c l e h = let n : e - length p ≡ length c = omega arith in rw (n, drop-append_seam p (c ++ l), take-append_seam c l)

-- p are the bytes before the column that c starts and l goes on
parts_from : (l p c : List ℕ) (e : ℕ) → e ≡ length p + length c → (k : ℕ)
    → part_from (p ++ (c ++ l)) (length p) (ends_from e l) k ≡ column_at (columns_from c l) k
unfolding columns_from ends_from
parts_from [] p c e h zero = cut p c [] e h
parts_from [] p c e h (suc k) = part_none (p ++ (c ++ [])) (start_from (length p) (e ∷ []) (suc k)) 0 (omega arith)
parts_from (b ∷ bs) p c e h zero =
    let n : suc e ≡ length p + length (c ++ b ∷ []) = simp length-append (omega arith) in
    cond_cases₂ (λ (es : List ℕ) (cs : List (List ℕ)). part_from (p ++ (c ++ b ∷ bs)) (length p) es 0 ≡ column_at cs 0) (eqb b 9)
    (λ _. cut p c (b ∷ bs) e h)
    (λ _. rw (append_snoc c b bs) at (parts_from bs p (c ++ b ∷ []) (suc e) n 0))
parts_from (b ∷ bs) p c e h (suc k) =
    let n : suc e ≡ length p + length (c ++ b ∷ []) = simp length-append (omega arith) in
    let q : List ℕ = p ++ (c ++ b ∷ []) in
    let m : length q ≡ e + 1 = simp length-append (omega arith) in
    cond_cases₂ (λ (es : List ℕ) (cs : List (List ℕ)). part_from (p ++ (c ++ b ∷ bs)) (length p) es (suc k) ≡ column_at cs (suc k)) (eqb b 9)
    (λ _. rw (start_next (length p) e (ends_from (suc e) bs) k)
    (rw (m, append_assoc p (c ++ b ∷ []) bs, append_snoc c b bs) at (parts_from bs q [] (suc e) (omega (arith, m)) k)))
    (λ _. rw (append_snoc c b bs) at (parts_from bs p (c ++ b ∷ []) (suc e) n (suc k)))

start_firsts : (n : ℕ) (es : List ℕ) (k : ℕ) → k < n → start_in (firsts n es) k ≡ start_in es k
start_firsts n es zero h = refl
start_firsts n es (suc k) h = ap (λ (e : ℕ). e + 1) (firsts_at n es k (omega arith))

-- the part of a line before the end of its column k is the column, and the empty one where there are fewer columns
pub column_is : (line ends : List ℕ) (k : ℕ) → ends ≡ divided line → k < 24 → column_in line ends k ≡ column_at (columns_of line) k
unfolding divided ends_of columns_of
column_is line ends k e h =
    let es : List ℕ = ends_from 0 line in
    rw (e, start_firsts 24 es k h, firsts_at 24 es k h, start_first es k) (parts_from line [] [] 0 refl k)

pub column_first : (line ends : List ℕ) (k : ℕ) → k ≡ 0 → part_of line 0 (get_or ends 0 0) ≡ column_in line ends k
column_first line ends k z = rw z

pub column_next : (line ends : List ℕ) (k : ℕ) → (k ≡ 0 → ⊥) → part_of line (get_or ends (k - 1) 0 + 1) (get_or ends k 0) ≡ column_in line ends k
column_next line ends zero n = absurd (n refl)
column_next line ends (suc k) n = let e : suc k - 1 ≡ k = omega arith in rw e

-- no end is kept past the room, so there the column is empty
pub column_none : (line ends : List ℕ) (k : ℕ) → length ends ≤ k → column_in line ends k ≡ []
column_none line ends k h = rw (get_or-eq_default ends 0 h) (part_none line (start_in ends k) 0 (omega arith))

-- nor is there one behind a column that ends past the line
pub column_past : (line ends : List ℕ) (k : ℕ) → (k ≡ 0 → ⊥) → length line ≤ get_or ends (k - 1) 0 → column_in line ends k ≡ []
column_past line ends k n h = sym (column_next line ends k n) ∙ part_past line (get_or ends (k - 1) 0 + 1) (get_or ends k 0) (omega arith)

-- Ends and places

ends_from_lem : (a : ℕ) (c l : List ℕ) (e : ℕ) → e ≡ a + length c → ends_from e l ≡ map (λ p. p.end) (places_from a (columns_from c l))
unfolding ends_from columns_from places_from
ends_from_lem a c [] e h = ap (λ (n : ℕ). n ∷ []) h
ends_from_lem a c (b ∷ bs) e h =
    let n : suc e ≡ a + length (c ++ b ∷ []) = simp length-append (omega arith) in
    cond_cases₂ (λ (es : List ℕ) (cs : List (List ℕ)). es ≡ map (λ p. p.end) (places_from a cs)) (eqb b 9)
    (λ _. rw (← h) (ap (λ (es : List ℕ). e ∷ es) (ends_from_lem (e + 1) [] bs (suc e) (omega arith))))
    (λ _. ends_from_lem a (c ++ b ∷ []) bs (suc e) n)

-- a column's end is that of its place
pub end_is : (line ends : List ℕ) (k : ℕ) → ends ≡ divided line → k < 24 → get_or ends k 0 ≡ (get_or (places_of line) k record { start = 0; end = 0 }).end
unfolding divided ends_of places_of columns_of
end_is line ends k e h =
    rw (e, firsts_at 24 (ends_from 0 line) k h, ends_from_lem 0 [] line 0 refl)
    (get_or-map (λ (p : Place). p.end) (places_from 0 (columns_from [] line)) k record { start = 0; end = 0 })

place_long : (a : ℕ) (cs : List (List ℕ)) (k : ℕ)
    → (let p = get_or (places_from a cs) k record { start = 0; end = 0 } in p.end ≡ p.start + length (get_or cs k []))
unfolding places_from
place_long a [] k = refl
place_long a (c ∷ cs) zero = refl
place_long a (c ∷ cs) (suc k) = place_long (a + length c + 1) cs k

-- a place is as long as its column
pub place_length : (line : List ℕ) (k : ℕ)
    → (let p = get_or (places_of line) k record { start = 0; end = 0 } in p.end ≡ p.start + length (column_at (columns_of line) k))
unfolding places_of
place_length line k = place_long 0 (columns_of line) k

-- The columns themselves

some_from : (c l : List ℕ) → 1 ≤ length (columns_from c l)
unfolding columns_from
some_from c [] = omega arith
some_from c (b ∷ bs) = cond_cases (λ (cs : List (List ℕ)). 1 ≤ length cs) (eqb b 9) (λ _. omega arith) (λ _. some_from (c ++ b ∷ []) bs)

-- a line has a column
pub columns_some : (line : List ℕ) → 1 ≤ length (columns_of line)
unfolding columns_of
columns_some line = some_from [] line

-- the columns, each after a TAB
unfoldable pub tabbed : List (List ℕ) → List ℕ
tabbed [] = []
tabbed (c ∷ cs) = tab ∷ (c ++ tabbed cs)

tabbed_from : (c l : List ℕ) → tabbed (columns_from c l) ≡ tab ∷ (c ++ l)
unfolding columns_from tabbed
tabbed_from c [] = refl
tabbed_from c (b ∷ bs) =
    cond_cases (λ (cs : List (List ℕ)). tabbed cs ≡ tab ∷ (c ++ b ∷ bs)) (eqb b 9)
    (λ e. rw (tabbed_from [] bs, eqb-true b 9 e))
    (λ _. tabbed_from (c ++ b ∷ []) bs ∙ ap (λ (l : List ℕ). tab ∷ l) (append_snoc c b bs))

-- divided by TABs, the columns are the line
pub columns_joined : (line : List ℕ) → tabbed (columns_of line) ≡ tab ∷ line
unfolding columns_of
columns_joined line = tabbed_from [] line
