-- One symbol more put to the arrays of a table.
use mathlib.Core.Path.{◌≡◌, refl, ap, sym, ◌∙◌}
use mathlib.Core.Bool.{Bool, true, false}
use mathlib.Core.List.{List, [], ◌∷◌, ◌++◌}
use Prim.Native.Nat.{ℕ, zero, suc, ◌+◌, ◌*◌, ◌-◌, ◌≤◌, ◌<◌}
use native.Mathlib.Omega.{arith}
use native.Mathlib.Numerals.{add-one}
use native.Mathlib.Decide.{ℕ_discrete}
use lib.ListN.{length, get_or, set, length-set}
use lib.Seq.{get_or-set_same, get_or-set_other}
use Rattle.symbols.specs.declared.Symbol.{Symbol}
use Rattle.symbols.specs.Symbols.{same_symbol}
use Rattle.symbols.specs.Arrays.{symbol_at, symbols, put_symbol, bucket_of, heads, link_from, turned, put_link}
use Rattle.symbols.specs.Searches.{follow, followed, sought, Table}
use Rattle.symbols.proofs.SameLaws.{same_self}
use Rattle.symbols.proofs.FollowLaws.{step_none, step_here, step_on}
use Rattle.symbols.proofs.TableLaws.{Reached, reached_first, reached_next, ended}

module _ (words : List ℕ) (n : ℕ) (k : Symbol) where
  module _ (room : 4 * n + 3 < length words) where
    abbrev w₁ : List ℕ
    w₁ = set words (4 * n) k.space

    abbrev w₂ : List ℕ
    w₂ = set w₁ (4 * n + 1) k.a

    abbrev w₃ : List ℕ
    w₃ = set w₂ (4 * n + 2) k.b

    l₁ : length w₁ ≡ length words
    l₁ = length-set words (4 * n) k.space

    l₂ : length w₂ ≡ length words
    l₂ = length-set w₁ (4 * n + 1) k.a ∙ l₁

    l₃ : length w₃ ≡ length words
    l₃ = length-set w₂ (4 * n + 2) k.b ∙ l₂

    pub put_new : symbol_at (put_symbol words n k) n ≡ k
    unfolding symbol_at put_symbol
    put_new =
        λ i. record {
          space = (get_or-set_other w₃ (4 * n + 3) (4 * n) k.c 0 (λ q. omega arith)
              ∙ get_or-set_other w₂ (4 * n + 2) (4 * n) k.b 0 (λ q. omega arith)
              ∙ get_or-set_other w₁ (4 * n + 1) (4 * n) k.a 0 (λ q. omega arith)
              ∙ get_or-set_same words (4 * n) k.space 0 (omega arith)) i;
          a = (get_or-set_other w₃ (4 * n + 3) (4 * n + 1) k.c 0 (λ q. omega arith)
              ∙ get_or-set_other w₂ (4 * n + 2) (4 * n + 1) k.b 0 (λ q. omega arith)
              ∙ get_or-set_same w₁ (4 * n + 1) k.a 0 (omega (arith, l₁))) i;
          b = (get_or-set_other w₃ (4 * n + 3) (4 * n + 2) k.c 0 (λ q. omega arith)
              ∙ get_or-set_same w₂ (4 * n + 2) k.b 0 (omega (arith, l₂))) i;
          c = get_or-set_same w₃ (4 * n + 3) k.c 0 (omega (arith, l₃)) i;
        }

    -- a word below those of symbol n stays
    word_old : (p : ℕ) → p < 4 * n → get_or (put_symbol words n k) p 0 ≡ get_or words p 0
    unfolding put_symbol
    word_old p h =
        get_or-set_other w₃ (4 * n + 3) p k.c 0 (λ q. omega arith)
        ∙ get_or-set_other w₂ (4 * n + 2) p k.b 0 (λ q. omega arith)
        ∙ get_or-set_other w₁ (4 * n + 1) p k.a 0 (λ q. omega arith)
        ∙ get_or-set_other words (4 * n) p k.space 0 (λ q. omega arith)

    pub put_old : (i : ℕ) → i < n → symbol_at (put_symbol words n k) i ≡ symbol_at words i
    unfolding symbol_at
    put_old i h =
        λ z. record {
          space = word_old (4 * i) (omega arith) z;
          a = word_old (4 * i + 1) (omega arith) z;
          b = word_old (4 * i + 2) (omega arith) z;
          c = word_old (4 * i + 3) (omega arith) z;
        }

    symbols_old : (m : ℕ) → m ≤ n → symbols (put_symbol words n k) m ≡ symbols words m
    unfolding symbols
    symbols_old zero h = refl
    symbols_old (suc m) h = rw (put_old m (omega arith), symbols_old m (omega arith))

    pub symbols_put : symbols (put_symbol words n k) (n + 1) ≡ symbols words n ++ k ∷ []
    unfolding symbols
    symbols_put = rw (add-one n, put_new, symbols_old n (omega arith))

    -- symbol n led to from a place whose link led nowhere
    module _ (links : List ℕ) (t : Table words links n) (few : n < 65535) (long : heads + 2 * n + 1 < length links) (vain : sought words links k ≡ 0) where
      abbrev end : ℕ
      end = (followed words links k).place

      abbrev after : List ℕ
      after = put_symbol words n k

      abbrev later : List ℕ
      later = put_link links n end

      abbrev k₁ : List ℕ
      k₁ = set links (heads + 2 * n) 0

      abbrev k₂ : List ℕ
      k₂ = set k₁ (heads + 2 * n + 1) 0

      long₂ : length k₂ ≡ length links
      long₂ = length-set k₁ (heads + 2 * n + 1) 0 ∙ length-set links (heads + 2 * n) 0

      empty : get_or links end 0 ≡ 0
      empty = (ended words links n t k vain).empty

      below : end < heads + 2 * n
      below = (ended words links n t k vain).known

      link_end : get_or later end 0 ≡ n + 1
      unfolding put_link
      link_end = get_or-set_same k₂ end (n + 1) 0 (omega (arith, below, long₂))

      link_old : (p : ℕ) → p < heads + 2 * n → (p ≡ end → ⊥) → get_or later p 0 ≡ get_or links p 0
      unfolding put_link
      link_old p h z =
          get_or-set_other k₂ end p (n + 1) 0 z
          ∙ get_or-set_other k₁ (heads + 2 * n + 1) p 0 0 (λ q. omega arith)
          ∙ get_or-set_other links (heads + 2 * n) p 0 0 (λ q. omega arith)

      link_new : (u : ℕ) → u < 2 → get_or later (heads + 2 * n + u) 0 ≡ 0
      unfolding put_link
      link_new zero h =
          let e : heads + 2 * n + 0 ≡ heads + 2 * n = omega arith in
          rw e
          (get_or-set_other k₂ end (heads + 2 * n) (n + 1) 0 (λ q. omega (arith, below))
          ∙ get_or-set_other k₁ (heads + 2 * n + 1) (heads + 2 * n) 0 0 (λ q. omega arith)
          ∙ get_or-set_same links (heads + 2 * n) 0 0 (omega arith))
      link_new (suc zero) h =
          get_or-set_other k₂ end (heads + 2 * n + 1) (n + 1) 0 (λ q. omega (arith, below))
          ∙ get_or-set_same k₁ (heads + 2 * n + 1) 0 0 (omega (arith, length-set links (heads + 2 * n) 0))
      link_new (suc (suc u)) h = absurd (omega arith)

      -- a place whose link leads on has its link still
      led : (p : ℕ) → p < heads + 2 * n → (get_or links p 0 ≡ 0 → ⊥) → get_or later p 0 ≡ get_or links p 0
      led p h z = link_old p h (λ q. z (ap (λ (j : ℕ). get_or links j 0) q ∙ empty))

      -- and the symbol that it leads to
      module _ {before p : ℕ} (w : Reached words links n t before p) (z : get_or links p 0 ≡ 0 → ⊥) where
        same_link : get_or later p 0 ≡ get_or links p 0
        same_link = led p w.known z

        full : get_or later p 0 ≡ 0 → ⊥
        full q = z (sym same_link ∙ q)

        same_symbol_lem : symbol_at after (get_or later p 0 - 1) ≡ symbol_at words (get_or links p 0 - 1)
        same_symbol_lem = ap (λ (x : ℕ). symbol_at after (x - 1)) same_link ∙ put_old (get_or links p 0 - 1) (omega (arith, w.within, z))

      -- a search that finds a symbol finds it still
      keeps : (l : Symbol) (steps : ℕ) (trail : Symbol) (before p : ℕ) → Reached words links n t before p → (i : ℕ)
          → (follow words links l steps trail p).at ≡ i + 1 → (follow after later l steps trail p).at ≡ i + 1
      unfolding follow
      keeps l zero trail before p w i e = absurd (omega arith)
      keeps l (suc steps) trail before p w i e =
          go (ℕ_discrete (get_or links p 0) 0) (λ z q. keeps l steps (turned trail) (get_or links p 0) (link_from (get_or links p 0 - 1) trail)
          (reached_next words links n t w z trail) i q)
        where
          Rest : Type 0
          Rest = (get_or links p 0 ≡ 0 → ⊥) → (follow words links l steps (turned trail) (link_from (get_or links p 0 - 1) trail)).at ≡ i + 1
              → (follow after later l steps (turned trail) (link_from (get_or links p 0 - 1) trail)).at ≡ i + 1

          some : Rest → (z : get_or links p 0 ≡ 0 → ⊥) → (b : Bool) → same_symbol l (symbol_at words (get_or links p 0 - 1)) ≡ b → (follow after later l
              (suc steps) trail p).at ≡ i + 1
          some rest z true q =
              ap (λ x. x.at) (step_here after later l steps trail p (full w z) (ap (same_symbol l) (same_symbol_lem w z) ∙ q))
              ∙ same_link w z ∙ sym (ap (λ x. x.at) (step_here words links l steps trail p z q)) ∙ e
          some rest z false q =
              ap (λ x. x.at) (step_on after later l steps trail p (full w z) (ap (same_symbol l) (same_symbol_lem w z) ∙ q))
              ∙ ap (λ (x : ℕ). (follow after later l steps (turned trail) (link_from (x - 1) trail)).at) (same_link w z)
              ∙ rest z (sym (ap (λ x. x.at) (step_on words links l steps trail p z q)) ∙ e)

          go : Dec (get_or links p 0 ≡ 0) → Rest → (follow after later l (suc steps) trail p).at ≡ i + 1
          go (yes z) rest = let r : 0 ≡ i + 1 = sym (ap (λ x. x.at) (step_none words links l steps trail p z)) ∙ e in absurd (omega arith)
          go (no z) rest = some rest z (same_symbol l (symbol_at words (get_or links p 0 - 1))) refl

      -- the search that ended in vain finds the new symbol
      gains : (steps : ℕ) (trail : Symbol) (before p : ℕ) → Reached words links n t before p → 65536 ≤ steps + before
          → (follow words links k steps trail p).at ≡ 0 → (follow words links k steps trail p).place ≡ end → (follow after later k steps trail p).at ≡ n + 1
      unfolding follow
      gains zero trail before p w r e f = absurd (omega (arith, w.few, t.few))
      gains (suc steps) trail before p w r e f =
          go (ℕ_discrete (get_or links p 0) 0)
          (λ z. gains steps (turned trail) (get_or links p 0) (link_from (get_or links p 0 - 1) trail) (reached_next words links n t w z trail)
          (omega (arith, w.rises z)))
        where
          Rest : Type 0
          Rest = (get_or links p 0 ≡ 0 → ⊥) → (follow words links k steps (turned trail) (link_from (get_or links p 0 - 1) trail)).at ≡ 0
              → (follow words links k steps (turned trail) (link_from (get_or links p 0 - 1) trail)).place ≡ end
              → (follow after later k steps (turned trail) (link_from (get_or links p 0 - 1) trail)).at ≡ n + 1

          some : Rest → (z : get_or links p 0 ≡ 0 → ⊥) → (b : Bool) → same_symbol k (symbol_at words (get_or links p 0 - 1)) ≡ b → (follow after later k
              (suc steps) trail p).at ≡ n + 1
          some rest z true q = absurd (z (sym (ap (λ x. x.at) (step_here words links k steps trail p z q)) ∙ e))
          some rest z false q =
              let s = step_on words links k steps trail p z q in
              ap (λ x. x.at) (step_on after later k steps trail p (full w z) (ap (same_symbol k) (same_symbol_lem w z) ∙ q))
              ∙ ap (λ (x : ℕ). (follow after later k steps (turned trail) (link_from (x - 1) trail)).at) (same_link w z)
              ∙ rest z (sym (ap (λ x. x.at) s) ∙ e) (sym (ap (λ x. x.place) s) ∙ f)

          here : get_or later p 0 ≡ n + 1 → (follow after later k (suc steps) trail p).at ≡ n + 1
          here l =
              let i : get_or later p 0 - 1 ≡ n = omega arith in
              ap (λ x. x.at) (step_here after later k steps trail p (λ q. omega arith)
              (ap (λ (j : ℕ). same_symbol k (symbol_at after j)) i ∙ ap (same_symbol k) put_new ∙ same_self k))
              ∙ l

          go : Dec (get_or links p 0 ≡ 0) → Rest → (follow after later k (suc steps) trail p).at ≡ n + 1
          go (yes z) rest =
              let q : p ≡ end = sym (ap (λ x. x.place) (step_none words links k steps trail p z)) ∙ f in
              here (ap (λ (j : ℕ). get_or later j 0) q ∙ link_end)
          go (no z) rest = some rest z (same_symbol k (symbol_at words (get_or links p 0 - 1))) refl

      found_old : (i : ℕ) → i < n → sought after later (symbol_at after i) ≡ i + 1
      unfolding followed
      found_old i h =
          ap (sought after later) (put_old i h)
          ∙ keeps (symbol_at words i) 65536 (symbol_at words i) 0 (bucket_of (symbol_at words i)) (reached_first words links n t (symbol_at words i)) i
          (t.finds i h)

      found_new : sought after later (symbol_at after n) ≡ n + 1
      unfolding followed
      found_new = ap (sought after later) put_new ∙ gains 65536 k 0 (bucket_of k) (reached_first words links n t k) (omega arith) vain refl

      -- a link of before, or the new one
      link_most : (p : ℕ) → p < heads + 2 * n → get_or links p 0 ≤ n → get_or later p 0 ≤ n + 1
      link_most p h b = go (ℕ_discrete p end)
        where
          go : Dec (p ≡ end) → get_or later p 0 ≤ n + 1
          go (yes e) = omega (arith, ap (λ (j : ℕ). get_or later j 0) e, link_end)
          go (no z) = omega (arith, link_old p h z)

      link_rises : (i u : ℕ) → i < n → u < 2 → (get_or later (heads + 2 * i + u) 0 ≡ 0 → ⊥) → i + 1 < get_or later (heads + 2 * i + u) 0
      link_rises i u h b y = go (ℕ_discrete (heads + 2 * i + u) end)
        where
          go : Dec (heads + 2 * i + u ≡ end) → i + 1 < get_or later (heads + 2 * i + u) 0
          go (yes e) = omega (arith, ap (λ (j : ℕ). get_or later j 0) e, link_end)
          go (no z) =
              let l = link_old (heads + 2 * i + u) (omega arith) z in
              omega (arith, l, t.later i u h b (λ q. y (l ∙ q)))

      pub table_put : Table after later (n + 1)
      table_put =
          record {
            few = omega arith;
            first = λ h p. link_most h (omega arith) (t.first h p);
            next = λ i u p q. next i u q (ℕ_discrete i n) p;
            later = λ i u p q z. rises i u q (ℕ_discrete i n) p z;
            finds = λ i p. finds i (ℕ_discrete i n) p;
          }
        where
          next : (i u : ℕ) → u < 2 → Dec (i ≡ n) → i < n + 1 → get_or later (heads + 2 * i + u) 0 ≤ n + 1
          next i u q (yes e) p = omega (arith, ap (λ (j : ℕ). get_or later (heads + 2 * j + u) 0) e, link_new u q)
          next i u q (no z) p = link_most (heads + 2 * i + u) (omega (arith, z)) (t.next i u (omega (arith, z)) q)

          rises : (i u : ℕ) → u < 2 → Dec (i ≡ n) → i < n + 1 → (get_or later (heads + 2 * i + u) 0 ≡ 0 → ⊥) → i + 1 < get_or later (heads + 2 * i + u) 0
          rises i u q (yes e) p y = absurd (y (ap (λ (j : ℕ). get_or later (heads + 2 * j + u) 0) e ∙ link_new u q))
          rises i u q (no z) p y = link_rises i u (omega (arith, z)) q y

          finds : (i : ℕ) → Dec (i ≡ n) → i < n + 1 → sought after later (symbol_at after i) ≡ i + 1
          finds i (yes e) p = rw e found_new
          finds i (no z) p = found_old i (omega (arith, z))
