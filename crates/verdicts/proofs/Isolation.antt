-- The core of demand 3, over lists of rows: where some rows are replaced,
-- a row that reaches none of them keeps its verdict.
use mathlib.Core.Path.{◌≡◌, refl, sym, ap, ap₂, ◌∙◌}
use mathlib.Core.Bool.{Bool, true, false, cond, ◌&&◌, ◌||◌}
use mathlib.Core.List.{List, [], ◌∷◌, ◌++◌, Memᴰ}
use Prim.Native.Nat.{ℕ, zero, suc, ◌+◌}
use lib.Dec.{eqb}
use lib.ListN.{length}
use Rattle.laws.specs.Lists.{any, keep, nonempty}
use Rattle.laws.proofs.Cases.{bool_cases, false≢true, false_of, and_left}
use Rattle.laws.proofs.Tests.{any_same, map_same, keep_mem}
use Rattle.verdicts.specs.Facts.{Kind, itself, through, Naming, Count}
use Rattle.verdicts.specs.Entries.{Entry, facts}
use Rattle.verdicts.specs.Steps.{twin, holds, belongs, rivals, names_at, step, Reach, one, more}
use Rattle.verdicts.specs.Verdicts.{shared, sound, tally, count_cell, follows, next, leads, circle}
use Rattle.verdicts.specs.Verdicts.{of_kind, asked, name_cell, judge, within, verdict}
use Rattle.verdicts.proofs.StepLaws.{rival_step, name_step, count_step, chain_step, column_step}

-- the same rows in the same order, but where a row that is Out stood one that is In may stand
pub data Like (Out In : Entry → Type 0) : List Entry → List Entry → Type 0 where
  none : Like Out In [] []
  like : {o : Entry} {l l' : List Entry} → Like Out In l l' → Like Out In (o ∷ l) (o ∷ l')
  here : {x x' : Entry} {l l' : List Entry} → Out x → In x' → Like Out In l l' → Like Out In (x ∷ l) (x' ∷ l')

module _ {Out In : Entry → Type 0} where
  -- as many rows
  pub like_length : {l l' : List Entry} → Like Out In l l' → length l ≡ length l'
  like_length none = refl
  like_length (like s) = ap suc (like_length s)
  like_length (here p q s) = ap suc (like_length s)

  -- rows of which none is replaced
  pub like_self : (l : List Entry) → Like Out In l l
  like_self [] = none
  like_self (o ∷ l) = like (like_self l)

  -- one part after another
  pub like_append : {l l' m m' : List Entry} → Like Out In l l' → Like Out In m m' → Like Out In (l ++ m) (l' ++ m')
  like_append none q = q
  like_append (like s) q = like (like_append s q)
  like_append (here x x' s) q = here x x' (like_append s q)

  -- tests that no replaced row passes and that agree on the others keep the same rows
  like_keep : {l l' : List Entry} → Like Out In l l' → (f g : Entry → Bool)
      → ((x : Entry) → Out x → Memᴰ x l → f x ≡ false) → ((x : Entry) → In x → Memᴰ x l' → g x ≡ false)
      → ((o : Entry) → Memᴰ o l → Memᴰ o l' → f o ≡ g o) → keep f l ≡ keep g l'
  like_keep none f g hf hg h = refl
  like_keep (like {o = o} s) f g hf hg h =
      ap₂ (λ (b : Bool) (k : List Entry). cond b (o ∷ k) k) (h o (Memᴰ.head refl) (Memᴰ.head refl))
      (like_keep s f g (λ x p m. hf x p (Memᴰ.tail m)) (λ x p m. hg x p (Memᴰ.tail m)) (λ o m m'. h o (Memᴰ.tail m) (Memᴰ.tail m')))
  like_keep (here {x = x} {x' = x'} p q s) f g hf hg h =
      simp (hf x p (Memᴰ.head refl), hg x' q (Memᴰ.head refl))
      (like_keep s f g (λ x p m. hf x p (Memᴰ.tail m)) (λ x p m. hg x p (Memᴰ.tail m)) (λ o m m'. h o (Memᴰ.tail m) (Memᴰ.tail m')))

-- the rows are l before and l' after
module _ (Out In : Entry → Type 0) (l l' : List Entry) (alike : Like Out In l l') where
  -- a row that reaches no replaced row, before or after
  abbrev pub Safe : Entry → Type 0
  Safe e = ((x : Entry) → Out x → Reach l x e → ⊥) × ((x : Entry) → In x → Reach l' x e → ⊥)

  -- a step from a safe row, to a row that is there before and after, is to a safe row
  onward : {e o : Entry} → Safe e → Memᴰ o l → Memᴰ o l' → step e o ≡ true → Safe o
  onward s m m' t = (λ x p r. s.0 x p (more m t r), λ x p r. s.1 x p (more m' t r))

  -- tests that pass only rows one step away from a safe row, and agree on safe rows, keep the same rows
  kept : (e : Entry) → Safe e → (f g : Entry → Bool) → ((o : Entry) → f o ≡ true → step e o ≡ true)
      → ((o : Entry) → g o ≡ true → step e o ≡ true) → ((o : Entry) → Safe o → f o ≡ g o) → keep f l ≡ keep g l'
  kept e s f g hf hg h =
      like_keep alike f g (λ x p m. false_of _ (λ t. s.0 x p (one m (hf x t)))) (λ x p m. false_of _ (λ t. s.1 x p (one m (hg x t))))
      (λ o m m'. bool_cases (step e o) (λ t. h o (onward s m m' t))
      (λ n. false_of (f o) (λ t. false≢true (cc (hf o t))) ∙ sym (false_of (g o) (λ t. false≢true (cc (hg o t))))))

  -- and those rows are safe
  kept_safe : (e : Entry) → Safe e → (f g : Entry → Bool) → ((o : Entry) → f o ≡ true → step e o ≡ true) → keep f l ≡ keep g l'
      → (o : Entry) → Memᴰ o (keep f l) → Safe o
  kept_safe e s f g hf q o m = onward s (keep_mem f l m).0 (keep_mem g l' (rw q at m)).0 (hf o (keep_mem f l m).1)

  -- a safe row shares a key before just if it does after
  shared_same : (e : Entry) → Safe e → shared l e ≡ shared l' e
  unfolding shared
  shared_same e s = ap nonempty (kept e s (rivals e) (rivals e) (rival_step e) (rival_step e) (λ o _. refl))

  -- and is sound alike
  sound_same : (e : Entry) → Safe e → sound l e ≡ sound l' e
  unfolding sound
  sound_same e s = rw (shared_same e s)

  -- what it counts is alike
  count_same : (e : Entry) → Safe e → (c : Count) → Memᴰ c (facts e).counts → count_cell l c ≡ count_cell l' c
  unfolding count_cell tally
  count_same e s c m =
      rw (kept e s (λ o. belongs o c.group && sound l o) (λ o. belongs o c.group && sound l' o)
      (λ o t. count_step e o c m (and_left _ _ t)) (λ o t. count_step e o c m (and_left _ _ t)) (λ o s'. rw (sound_same o s')))

  -- its chain goes on alike
  next_same : (e : Entry) → Safe e → next l e ≡ next l' e
  unfolding next
  next_same e s =
      kept e s (λ o. follows e o && sound l o) (λ o. follows e o && sound l' o) (λ o t. chain_step e o (and_left _ _ t))
      (λ o t. chain_step e o (and_left _ _ t)) (λ o s'. rw (sound_same o s'))

  -- to safe rows
  next_safe : (e : Entry) → Safe e → (o : Entry) → Memᴰ o (next l e) → Safe o
  unfolding next
  next_safe e s = kept_safe e s (λ o. follows e o && sound l o) (λ o. follows e o && sound l' o) (λ o t. chain_step e o (and_left _ _ t)) (next_same e s)

  -- and leads to the same rows
  leads_same : (n : ℕ) (e z : Entry) → Safe e → leads n l e z ≡ leads n l' e z
  unfolding leads
  leads_same zero e z s = refl
  leads_same (suc n) e z s =
      any_same (λ o. twin o z || leads n l o z) (λ o. twin o z || leads n l' o z) (next l e) (λ o m. rw (leads_same n o z (next_safe e s o m)))
      ∙ rw (next_same e s)

  -- so it is on a circle alike
  circle_same : (e : Entry) → Safe e → circle l e ≡ circle l' e
  unfolding circle
  circle_same e s = rw (← like_length alike) (leads_same (length l) e e s)

  -- and is of a kind alike: a second row is one step away from it
  kind_same : (k : Kind) (o : Entry) → Safe o → of_kind l k o ≡ of_kind l' k o
  unfolding of_kind
  kind_same (itself c) o s = refl
  kind_same (through column c) o s =
      rw (kept o s (names_at column o) (names_at column o) (column_step column o) (column_step column o) (λ q _. refl))

  -- where before and after the same safe rows are good
  module _ (good good' : Entry → Bool) (h : (o : Entry) → Safe o → good o ≡ good' o) (e : Entry) (s : Safe e) where
    name_same : (n : Naming) → Memᴰ n (facts e).names → name_cell l good n ≡ name_cell l' good' n
    unfolding name_cell asked
    name_same n m =
        let f : Entry → Bool = λ o. holds o n.key && of_kind l n.kind o in
        let g : Entry → Bool = λ o. holds o n.key && of_kind l' n.kind o in
        let hf : (o : Entry) → f o ≡ true → step e o ≡ true = λ o t. name_step e o n m (and_left _ _ t) in
        let hg : (o : Entry) → g o ≡ true → step e o ≡ true = λ o t. name_step e o n m (and_left _ _ t) in
        let q : keep f l ≡ keep g l' = kept e s f g hf hg (λ o s'. rw (kind_same n.kind o s')) in
        ap (λ (b : Bool). cond b 0 (2816 + n.column))
        (any_same good good' (keep f l) (λ o i. h o (kept_safe e s f g hf q o i)) ∙ ap (any good') q)

    judge_same : judge l good e ≡ judge l' good' e
    unfolding judge
    judge_same =
        rw (
          shared_same e s,
          circle_same e s,
          map_same (count_cell l) (count_cell l') (facts e).counts (count_same e s),
          map_same (name_cell l good) (name_cell l' good') (facts e).names name_same,
        )

  -- by induction on the number of names in the definition
  within_same : (n : ℕ) (e : Entry) → Safe e → within n l e ≡ within n l' e
  unfolding within
  within_same zero e s = refl
  within_same (suc n) e s = judge_same (λ o. eqb (within n l o) 0) (λ o. eqb (within n l' o) 0) (λ o s'. rw (within_same n o s')) e s

  -- a safe row keeps its verdict
  pub verdict_same : (e : Entry) → Safe e → verdict l e ≡ verdict l' e
  unfolding verdict
  verdict_same e s = rw (← like_length alike) (within_same (suc (length l)) e s)
