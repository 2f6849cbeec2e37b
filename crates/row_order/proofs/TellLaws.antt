-- One law for each return of telling: rows are put to the order, and marked.
use mathlib.Core.Path.{◌≡◌, refl, ap, ap₂, sym, subst, ◌∙◌}
use mathlib.Core.Bool.{Bool, true, false, not, cond, ◌&&◌, ◌||◌}
use mathlib.Core.List.{List, [], ◌∷◌, ◌++◌, append-nil}
use Prim.Native.Nat.{ℕ, zero, suc, ◌+◌, ◌-◌, ◌*◌, ◌≤◌, ◌<◌}
use native.Mathlib.Omega.{arith}
use lib.Dec.{eqb}
use lib.ListN.{length, get_or, set, replicate, length-append, length-set, length-replicate, get_or-replicate}
use lib.Seq.{sets, get_or-set_same, get_or-set_other}
use borrow.Author.Tests.{eqb-true, eqb-false}
use Rattle.laws.specs.Prefix.{all_from}
use Rattle.laws.proofs.Cases.{bool_cases}
use Rattle.arrays.specs.Room.{most_places}
use Rattle.std.specs.Prelude.{Option, Some, None}
use Rattle.pointing.specs.Pointing.{first_of}
use Rattle.row_order.specs.RowOrder.{in_turn, first_cause, is_in, on_a_row, way_to, told_before, order_of}
use Rattle.row_order.specs.Telling.{Marks, Told, Tells, TellsAll}

-- one row more is put
pub sets_more : {A : Type 0} (xs : List A) (at : ℕ) (vs : List A) (v : A) → set (sets xs at vs) (at + length vs) v ≡ sets xs at (vs ++ v ∷ [])
sets_more xs at [] v = let e : at + 0 ≡ at = omega arith in rw e
sets_more xs at (w ∷ vs) v =
    let e : at + suc (length vs) ≡ suc at + length vs = omega arith in
    rw e (sets_more (set xs at w) (suc at) vs v)

pub sets_append : {A : Type 0} (xs : List A) (at : ℕ) (vs ws : List A) → sets (sets xs at vs) (at + length vs) ws ≡ sets xs at (vs ++ ws)
sets_append xs at [] ws = let e : at + 0 ≡ at = omega arith in rw e
sets_append xs at (w ∷ vs) ws =
    let e : at + suc (length vs) ≡ suc at + length vs = omega arith in
    rw e (sets_append (set xs at w) (suc at) vs ws)

-- a row is in either of two lists
pub in_append : (x : ℕ) (a b : List ℕ) → is_in x (a ++ b) ≡ (is_in x a || is_in x b)
in_append x [] b = refl
in_append x (y ∷ a) b = go (eqb x y) (is_in x (a ++ b)) (is_in x a) (is_in x b) (in_append x a b)
  where
    go : (s t u v : Bool) → t ≡ (u || v) → (s || t) ≡ ((s || u) || v)
    go true t u v e = refl
    go false t u v e = e

-- the first of n rows is one of them
pub first_below : (passes : ℕ → Bool) (lo d j : ℕ) → Some j ≡ first_of (all_from passes lo d) → j < lo + d
unfolding first_of all_from
first_below passes lo zero j e = absurd (let c : ◌≡◌ {A = ℕ} 0 1 = cc in omega arith)
first_below passes lo (suc d) j e = go (passes lo) e (λ q. first_below passes (lo + 1) d j q)
  where
    go : (t : Bool) → Some j ≡ first_of (cond t (lo ∷ all_from passes (lo + 1) d) (all_from passes (lo + 1) d))
        → (Some j ≡ first_of (all_from passes (lo + 1) d) → j < lo + 1 + d) → j < lo + suc d
    go true e r = let q : j ≡ lo = cc in omega arith
    go false e r = let q : j < lo + 1 + d = r e in omega arith

-- what a search from the first row on finds
module _ (passes : ℕ → Bool) (n : ℕ) (r : Option ℕ) (found : r ≡ first_of (all_from passes 0 (n - 0))) where
  pub first_is_lem : r ≡ first_of (all_from passes 0 n)
  first_is_lem = let z : n - 0 ≡ n = omega arith in found ∙ ap (λ (k : ℕ). first_of (all_from passes 0 k)) z

  pub first_row_lem : (j : ℕ) → r ≡ Some j → j < n
  first_row_lem j e = let q : j < 0 + n = first_below passes 0 n j (sym e ∙ first_is_lem) in omega arith

pub not_true : (b : Bool) → not b ≡ true → b ≡ false
not_true true e = sym e
not_true false e = refl

pub not_false : (b : Bool) → not b ≡ false → b ≡ true
not_false true e = refl
not_false false e = sym e

module _ (first : ℕ → Option ℕ) (naming : ℕ → Bool) (n : ℕ) where
  -- marks tell whether a row is due
  pub due_same : (marks told : List ℕ) → Marks naming n marks told → (i : ℕ) → i < n → (naming i && eqb (get_or marks i 0) 0) ≡ (naming i && not (is_in i told))
  due_same marks told m i h = go (naming i) (m i h)
    where
      go : (t : Bool) → (t ≡ true → eqb (get_or marks i 0) 0 ≡ not (is_in i told)) → (t && eqb (get_or marks i 0) 0) ≡ (t && not (is_in i told))
      go true e = e refl
      go false e = refl

  -- a row is marked
  pub mark_one : (marks told : List ℕ) → Marks naming n marks told → (i : ℕ) → i < length marks → Marks naming n (set marks i 1) (i ∷ told)
  mark_one marks told m i h x q t =
      bool_cases (eqb x i)
      (λ e. let s : x ≡ i = eqb-true x i e in rw (e, s, get_or-set_same marks i 1 0 h))
      (λ e. rw (e, get_or-set_other marks i x 1 0 (eqb-false x i e)) (m x q t))

  -- in whatever order rows were told, the same are marked
  pub marks_same : (marks told told' : List ℕ) → ((x : ℕ) → is_in x told ≡ is_in x told') → Marks naming n marks told → Marks naming n marks told'
  marks_same marks told told' s m x q t = m x q t ∙ ap not (s x)

  -- the row comes last
  moved : (i : ℕ) (told way : List ℕ) (x : ℕ) → is_in x ((i ∷ told) ++ way) ≡ is_in x (told ++ (way ++ i ∷ []))
  moved i told way x = rw (in_append x told way, in_append x told (way ++ i ∷ []), in_append x way (i ∷ [])) (go (eqb x i) (is_in x told) (is_in x way))
    where
      go : (a b c : Bool) → (a || (b || c)) ≡ (b || (c || (a || false)))
      go true true c = refl
      go true false true = refl
      go true false false = refl
      go false true c = refl
      go false false true = refl
      go false false false = refl

  no_steps : (told : List ℕ) (i : ℕ) → way_to first naming 0 told i ≡ []
  unfolding way_to
  no_steps told i = refl

  not_due : (steps : ℕ) (told : List ℕ) (i : ℕ) → (naming i && not (is_in i told)) ≡ false → way_to first naming steps told i ≡ []
  unfolding way_to
  not_due zero told i e = refl
  not_due (suc steps) told i e = rw e

  due_way : (steps : ℕ) (told : List ℕ) (i : ℕ) (c : Option ℕ) → (naming i && not (is_in i told)) ≡ true → first i ≡ c
      → way_to first naming (suc steps) told i ≡ on_a_row (way_to first naming steps (i ∷ told)) c ++ i ∷ []
  unfolding way_to
  due_way steps told i c e f = rw (e, f)

  -- nothing was told
  pub told_none : (told marks order : List ℕ) (at : ℕ) → Marks naming n marks told → Told first naming n told [] order at marks order at
  told_none told marks order at m =
      record { ended = omega arith; put = refl; marked = marks_same marks told (told ++ []) (λ x. ap (is_in x) (sym (append-nil told))) m }

  -- the row itself is told last
  told_more : (told way order marks order' order'' : List ℕ) (at end end' i : ℕ) → Told first naming n (i ∷ told) way order at marks order' end
      → order'' ≡ set order' end i → end' ≡ end + 1 → Told first naming n told (way ++ i ∷ []) order at marks order'' end'
  told_more told way order marks order' order'' at end end' i t e f =
      record {
        ended = omega (arith, length-append way (i ∷ []), t.ended, f);
        put = e ∙ ap₂ (λ (l : List ℕ) (k : ℕ). set l k i) t.put t.ended ∙ sets_more order at way i;
        marked = marks_same marks ((i ∷ told) ++ way) (told ++ (way ++ i ∷ [])) (moved i told way) t.marked;
      }

  module _ (steps i : ℕ) (marks order : List ℕ) (at : ℕ) where
    stays : (told : List ℕ) → Marks naming n marks told → way_to first naming steps told i ≡ []
        → Told first naming n told (way_to first naming steps told i) order at marks order at
    stays told m e = subst (λ (w : List ℕ). Told first naming n told w order at marks order at) (sym e) (told_none told marks order at m)

    pub tells_none : steps ≡ 0 → Tells first naming n steps i marks order at marks order at
    tells_none z =
        record {
          most = omega arith;
          size = refl;
          long = refl;
          tells = λ told m. stays told m (ap (λ (k : ℕ). way_to first naming k told i) z ∙ no_steps told i);
        }

    module _ (below : i < n) (due : Bool) (asked : due ≡ (naming i && eqb (get_or marks i 0) 0)) where
      pub tells_not : due ≡ false → Tells first naming n steps i marks order at marks order at
      tells_not f =
          record {
            most = omega arith;
            size = refl;
            long = refl;
            tells = λ told m. stays told m (not_due steps told i (sym (due_same marks told m i below) ∙ sym asked ∙ f));
          }

      module _ (yes : due ≡ true) (some : steps ≡ 0 → ⊥) (room : n ≤ length marks) where
        way_is : (told : List ℕ) → Marks naming n marks told → (c : Option ℕ) → first i ≡ c
            → on_a_row (way_to first naming (steps - 1) (i ∷ told)) c ++ i ∷ [] ≡ way_to first naming steps told i
        way_is told m c f =
            let z : suc (steps - 1) ≡ steps = omega arith in
            sym (due_way (steps - 1) told i c (sym (due_same marks told m i below) ∙ sym asked ∙ yes) f)
            ∙ ap (λ (k : ℕ). way_to first naming k told i) z

        -- the row was marked
        module _ (marks₁ : List ℕ) (m₁ : marks₁ ≡ set marks i 1) where
          marks_one : (told : List ℕ) → Marks naming n marks told → Marks naming n marks₁ (i ∷ told)
          marks_one told m = subst (λ (l : List ℕ). Marks naming n l (i ∷ told)) (sym m₁) (mark_one marks told m i (omega arith))

          pub tells_last : None ≡ first i → (order' : List ℕ) → order' ≡ set order at i → (end : ℕ) → end ≡ at + 1
              → Tells first naming n steps i marks order at marks₁ order' end
          tells_last f order' e end q =
              record {
                most = omega arith;
                size = ap length m₁ ∙ length-set marks i 1;
                long = ap length e ∙ length-set order at i;
                tells = λ told m.
                    subst (λ (w : List ℕ). Told first naming n told w order at marks₁ order' end) (way_is told m None (sym f))
                    (told_more told [] order marks₁ order order' at at end i (told_none (i ∷ told) marks₁ order at (marks_one told m)) e q);
              }

          pub tells_after : (j : ℕ) → Some j ≡ first i → (marks' order' : List ℕ) (end : ℕ)
              → Tells first naming n (steps - 1) j marks₁ order at marks' order' end
              → (order'' : List ℕ) → order'' ≡ set order' end i → (end' : ℕ) → end' ≡ end + 1 → Tells first naming n steps i marks order at marks' order'' end'
          tells_after j f marks' order' end t order'' e end' q =
              record {
                most = omega (arith, t.most);
                size = t.size ∙ ap length m₁ ∙ length-set marks i 1;
                long = ap length e ∙ length-set order' end i ∙ t.long;
                tells = λ told m.
                    subst (λ (w : List ℕ). Told first naming n told w order at marks' order'' end') (way_is told m (Some j) (sym f))
                    (told_more told (way_to first naming (steps - 1) (i ∷ told) j) order marks' order' order'' at end end' i
                    (t.tells (i ∷ told) (marks_one told m)) e q);
              }

  before_more : (i : ℕ) → told_before first naming n i ++ way_to first naming n (told_before first naming n i) i ≡ told_before first naming n (i + 1)
  unfolding told_before
  before_more i = let z : i + 1 ≡ suc i = omega arith in rw z

  -- the rows before row i were told
  pub record Telling (order₀ : List ℕ) (from i : ℕ) (marks order : List ℕ) (at : ℕ) : Type 0 where
    pub within : i ≤ n
    pub size : length marks ≡ most_places
    pub long : length order ≡ length order₀
    pub most : at ≤ from + i * most_places
    pub told : Told first naming n [] (told_before first naming n i) order₀ from marks order at

  pub telling_none : (order : List ℕ) (from : ℕ) (marks : List ℕ) → marks ≡ replicate most_places 0 → n ≤ most_places → Telling order from 0 marks order from
  unfolding told_before
  telling_none order from marks e few =
      record {
        within = omega arith;
        size = ap length e ∙ length-replicate {A = ℕ} most_places 0;
        long = refl;
        most = omega arith;
        told = told_none [] marks order from (λ i h t. rw (e, get_or-replicate {A = ℕ} most_places i 0 0 (omega arith)));
      }

  module _ (order₀ : List ℕ) (from i : ℕ) (marks order : List ℕ) (at : ℕ) (l : Telling order₀ from i marks order at) where
    pub telling_more : i < n → n ≤ most_places → (marks' order' : List ℕ) (end : ℕ) → Tells first naming n n i marks order at marks' order' end
        → Telling order₀ from (i + 1) marks' order' end
    telling_more h few marks' order' end t =
        let before = told_before first naming n i in
        let way = way_to first naming n before i in
        let s = t.tells before l.told.marked in
        record {
          within = omega arith;
          size = t.size ∙ l.size;
          long = t.long ∙ l.long;
          most = omega (arith, t.most, l.most);
          told =
              subst (λ (w : List ℕ). Told first naming n [] w order₀ from marks' order' end) (before_more i)
              (record {
                ended = omega (arith, s.ended, l.told.ended, length-append before way);
                put = s.put ∙ ap₂ (λ (xs : List ℕ) (k : ℕ). sets xs k way) l.told.put l.told.ended ∙ sets_append order₀ from before way;
                marked = s.marked;
              });
        }

    pub telling_all : n ≤ i → TellsAll first naming n order₀ from order at
    telling_all h =
        let z : i ≡ n = omega (arith, l.within) in
        record {
          ends = l.told.ended ∙ ap (λ (k : ℕ). from + length (told_before first naming n k)) z;
          ordered = l.told.put ∙ ap (λ (k : ℕ). sets order₀ from (told_before first naming n k)) z;
        }

-- the three turns one after the other
module _ (halves bytes cells : List ℕ) (n : ℕ) (order₀ order₁ order₂ order₃ : List ℕ) (formed keyed end : ℕ)
    (f : formed ≡ 0 + length (all_from (in_turn cells 1) 0 n)) (put₁ : order₁ ≡ sets order₀ 0 (all_from (in_turn cells 1) 0 n))
    (k : keyed ≡ formed + length (all_from (in_turn cells 2) 0 n)) (put₂ : order₂ ≡ sets order₁ formed (all_from (in_turn cells 2) 0 n))
    (t : TellsAll (first_cause halves bytes cells n) (in_turn cells 3) n order₂ keyed order₃ end) where
  abbrev one : List ℕ
  one = all_from (in_turn cells 1) 0 n

  abbrev two : List ℕ
  two = all_from (in_turn cells 2) 0 n

  abbrev three : List ℕ
  three = told_before (first_cause halves bytes cells n) (in_turn cells 3) n n

  pub order_length : end ≡ length (order_of halves bytes cells n)
  unfolding order_of
  order_length = omega (arith, f, k, t.ends, length-append one (two ++ three), length-append two three)

  pub order_put : order₃ ≡ sets order₀ 0 (order_of halves bytes cells n)
  unfolding order_of
  order_put =
      t.ordered
      ∙ ap₂ (λ (l : List ℕ) (m : ℕ). sets l m three) put₂ k
      ∙ sets_append order₁ formed two three
      ∙ ap₂ (λ (l : List ℕ) (m : ℕ). sets l m (two ++ three)) put₁ f
      ∙ sets_append order₀ 0 one (two ++ three)
