-- The symbols in the arrays of a table, and the id under which a key is found.
use mathlib.Core.Path.{◌≡◌, refl, ap, sym, ◌∙◌}
use mathlib.Core.List.{List, [], ◌∷◌, ◌++◌}
use Prim.Native.Nat.{ℕ, zero, suc, ◌+◌, ◌-◌, ◌≤◌, ◌<◌}
use native.Mathlib.Omega.{arith}
use native.Mathlib.Decide.{ℕ_discrete}
use lib.Dec.{ltb}
use lib.ListN.{length, get_or, replicate, length-append, length-replicate, get_or-replicate, get_or-append, get_or-eq_default}
use lib.Seq.{get_or-append_seam}
use borrow.Author.Tests.{ltb-true, ltb-false}
use Rattle.laws.proofs.Cases.{bool_cases}
use Rattle.symbols.specs.declared.Symbol.{Symbol}
use Rattle.symbols.specs.Symbols.{symbol_place, id_of}
use Rattle.symbols.specs.Arrays.{symbol_at, symbols, heads}
use Rattle.symbols.specs.Searches.{sought, found, Table}
use Rattle.symbols.proofs.PlaceLaws.{place_holds, place_first, id_is, id_none}
use Rattle.symbols.proofs.AnswerLaws.{found_some, found_none}
use Rattle.symbols.proofs.TableLaws.{sound, complete}

pub symbols_length : (words : List ℕ) (n : ℕ) → length (symbols words n) ≡ n
unfolding symbols
symbols_length words zero = refl
symbols_length words (suc n) = omega (arith, length-append (symbols words n) (symbol_at words n ∷ []), symbols_length words n)

pub symbols_at : (words : List ℕ) (d : Symbol) (n i : ℕ) → i < n → get_or (symbols words n) i d ≡ symbol_at words i
unfolding symbols
symbols_at words d zero i h = absurd (omega arith)
symbols_at words d (suc n) i h = go (ℕ_discrete i n) (λ q. symbols_at words d n i q)
  where
    go : Dec (i ≡ n) → (i < n → get_or (symbols words n) i d ≡ symbol_at words i) → get_or (symbols words n ++ symbol_at words n ∷ []) i d ≡ symbol_at words i
    go (yes e) r =
        let p : i ≡ length (symbols words n) = omega (arith, symbols_length words n) in
        ap (λ (j : ℕ). get_or (symbols words n ++ symbol_at words n ∷ []) j d) p ∙ get_or-append_seam (symbols words n) (symbol_at words n) [] d ∙ ap
        (symbol_at words) (sym e)
    go (no z) r =
        let q : i < n = omega (arith, z) in
        let p : i < length (symbols words n) = omega (arith, symbols_length words n) in
        get_or-append (symbols words n) (symbol_at words n ∷ []) d i p ∙ r q

module _ (words links : List ℕ) (n : ℕ) (t : Table words links n) (k : Symbol) where
  abbrev p : ℕ
  p = symbol_place k (symbols words n)

  pub sought_symbol : p < n → sought words links k ≡ p + 1
  sought_symbol h =
      complete words links n t k p h
      (sym (symbols_at words k n p h) ∙ place_holds k k (symbols words n) (omega (arith, symbols_length words n)))

  -- a key is sought in vain just where it is no symbol
  pub sought_none : sought words links k ≡ 0 → n ≤ p
  sought_none e = bool_cases (ltb p n) (λ q. absurd (omega (arith, sought_symbol (ltb-true p n q)))) (λ q. ltb-false p n q)

  pub sought_some : 0 < sought words links k → p < n
  sought_some h =
      let w = sound words links n t k (sought words links k - 1) (omega arith) in
      let l = symbols_length words n in
      omega (
        arith,
        w.0,
        place_first k k (symbols words n) (sought words links k - 1) (omega (arith, w.0))
            (symbols_at words k n (sought words links k - 1) w.0 ∙ w.1),
      )

  -- THE LAW OF FINDING: in a table a key is found under its id
  pub found_id : found words links k ≡ id_of k (symbols words n)
  found_id =
      let l = symbols_length words n in
      bool_cases (ltb p n)
      (λ q. let h = ltb-true p n q in
      let e : p + 1 ≡ sought words links k = sym (sought_symbol h) in
      let r : p + 1 - 1 ≡ p = omega arith in
      sym (found_some words links k (p + 1) e (omega arith)) ∙ r ∙ sym (id_is k (symbols words n) (omega arith)))
      (λ q. let h = ltb-false p n q in
      bool_cases (ltb 0 (sought words links k))
      (λ x. absurd (omega (arith, sought_some (ltb-true 0 (sought words links k) x))))
      (λ x. let z = ltb-false 0 (sought words links k) x in
      sym (found_none words links k (sought words links k) refl (omega arith)) ∙ sym (id_none k (symbols words n) (omega arith))))

-- no symbols: buckets that lead nowhere
pub table_none : (words links : List ℕ) → ((h : ℕ) → h < heads → get_or links h 0 ≡ 0) → Table words links 0
table_none words links e =
    record {
      few = omega arith;
      first = λ h p. omega (arith, e h p);
      next = λ i t p q. absurd (omega arith);
      later = λ i t p q z. absurd (omega arith);
      finds = λ i p. absurd (omega arith);
    }

-- arrays of zeros
pub table_zeros : (words : List ℕ) (size : ℕ) → Table words (replicate size 0) 0
table_zeros words size = table_none words (replicate size 0) (λ h p. zero_at_lem h)
  where
    zero_at_lem : (h : ℕ) → ◌≡◌ {A = ℕ} (get_or (replicate size 0) h 0) 0
    zero_at_lem h =
        bool_cases (ltb h size) (λ q. get_or-replicate size h 0 0 (ltb-true h size q))
        (λ q. get_or-eq_default (replicate size 0) 0 {n = h} (omega (arith, ltb-false h size q, length-replicate {A = ℕ} size 0)))
