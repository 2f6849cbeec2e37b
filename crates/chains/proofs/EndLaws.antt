-- A chain that comes to its end never comes back.
use mathlib.Core.Path.{◌≡◌, refl, ap, sym, subst, ◌∙◌}
use mathlib.Core.Bool.{true, false}
use mathlib.Core.List.{List}
use Prim.Native.Nat.{ℕ, zero, suc, ◌<◌}
use native.Mathlib.Omega.{arith}
use lib.Dec.{eqb}
use lib.ListN.{get_or, set, replicate}
use lib.Seq.{get_or-set_other}
use borrow.Author.Tests.{eq-eqb, ne_eqb, eqb-true, eqb-false}
use Rattle.laws.proofs.Cases.{bool_cases, false_of, false≢true}
use Rattle.chain_steps.specs.Chains.{no_row, row_after, comes_to}
use Rattle.chains.specs.Courses.{Ends, last, on, KnownEnds, is_return, Followed}
use Rattle.chains.specs.declared.ends.Course.{Course}
use Rattle.chains.specs.declared.ends.Course.TheVariants as course

-- an array that nothing was written to
pub none_marked : (n j : ℕ) → get_or (replicate {A = ℕ} n 0) j 0 ≡ 0
none_marked zero j = refl
none_marked (suc n) zero = refl
none_marked (suc n) (suc j) = none_marked n j

module _ (next : List ℕ) where
  -- how many rows come after the first
  rest : {i : ℕ} → Ends next i → ℕ
  rest (last e) = 0
  rest (on h e) = suc (rest e)

  rest_same : {i : ℕ} (e f : Ends next i) → rest e ≡ rest f
  unfolding rest
  rest_same (last p) (last q) = refl
  rest_same (last p) (on h f) = absurd (h p)
  rest_same (on h e) (last q) = absurd (h q)
  rest_same (on h e) (on k f) = ap suc (rest_same e f)

  -- a row that it comes to has fewer after it
  record Fewer (z m : ℕ) : Type 0 where
    end : Ends next z
    less : rest end < m

  comes_fewer : (z n : ℕ) {i : ℕ} (e : Ends next i) → comes_to next z n i ≡ true → Fewer z (rest e)
  unfolding comes_to rest
  comes_fewer z zero e t = absurd (false≢true t)
  comes_fewer z (suc n) {i} (last p) t = absurd (false≢true (rw (eq-eqb (row_after next i) no_row p) at t))
  comes_fewer z (suc n) {i} (on h e) t =
      bool_cases (eqb (row_after next i) z)
      (λ q. subst (λ (y : ℕ). Fewer y (suc (rest e))) (eqb-true _ z q) (record { end = e; less = omega arith }))
      (λ q. let f = comes_fewer z n e (rw (ne_eqb (row_after next i) no_row h, q) at t) in record { end = f.end; less = omega (arith, f.less) })

  pub ends_no_circle : (n : ℕ) {i : ℕ} → Ends next i → comes_to next i n i ≡ false
  ends_no_circle n {i} e = false_of (comes_to next i n i) (λ t. let f = comes_fewer i n e t in omega (arith, f.less, rest_same f.end e))

  pub ends_next : {i : ℕ} → Ends next i → (row_after next i ≡ no_row → ⊥) → Ends next (row_after next i)
  ends_next (last p) h = absurd (h p)
  ends_next (on k e) h = e

  -- marks
  pub known_none : (n : ℕ) → KnownEnds next (replicate {A = ℕ} n 0)
  known_none n = record { row = λ j h. absurd (omega (arith, h, none_marked n j)) }

  module _ (ended : List ℕ) (at : ℕ) (known : KnownEnds next ended) (e : Ends next at) where
    more : (j : ℕ) → get_or (set ended at 1) j 0 ≡ 1 → Ends next j
    more j h =
        bool_cases (eqb j at) (λ q. subst (Ends next) (sym (eqb-true j at q)) e)
        (λ q. known.row j (sym (get_or-set_other ended at j 1 0 (eqb-false j at q)) ∙ h))

    pub known_more : KnownEnds next (set ended at 1)
    known_more = record { row = more }

  -- row is the one after row at
  module _ (at row : ℕ) (is : row ≡ row_after next at) where
    pub ends_here : row ≡ no_row → Ends next at
    ends_here e = last (sym is ∙ e)

    pub ends_from_lem : (row ≡ no_row → ⊥) → Ends next row → Ends next at
    ends_from_lem there e = on (λ q. there (is ∙ q)) (subst (Ends next) is e)

    pub ends_on : (row ≡ no_row → ⊥) → Ends next at → Ends next row
    ends_on there e = subst (Ends next) (sym is) (ends_next e (λ q. there (is ∙ q)))

  -- what a course tells
  module _ (n i : ℕ) where
    pub course_ends : Ends next i → Followed next n i course.Ends
    unfolding is_return
    course_ends e = record { circle = sym (ends_no_circle n e); ends = λ _. e }

    pub course_returns : true ≡ comes_to next i n i → Followed next n i course.Returns
    unfolding is_return
    course_returns h = record { circle = h; ends = λ q. absurd (let z : ◌≡◌ {A = ℕ} 0 1 = cc in omega arith) }

    pub course_rounds : false ≡ comes_to next i n i → Followed next n i course.Rounds
    unfolding is_return
    course_rounds h = record { circle = h; ends = λ q. absurd (let z : ◌≡◌ {A = ℕ} 0 1 = cc in omega arith) }

    pub told_by : {r s : Course} → Followed next n i r → r ≡ s → is_return s ≡ comes_to next i n i
    told_by f e = ap is_return (sym e) ∙ f.circle
