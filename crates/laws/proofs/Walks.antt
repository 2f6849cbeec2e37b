-- A walk that gets stuck just where no word can go on tells how long the longest beginning of a word is.
use mathlib.Core.Path.{◌≡◌, refl, sym, ap, ◌∙◌}
use mathlib.Core.List.{List, [], ◌∷◌, ◌++◌}
use mathlib.Core.Bool.{Bool, true, false}
use Prim.Native.Nat.{ℕ, zero, suc, ◌<◌, ◌≤◌}
use native.Mathlib.Omega.{arith}
use lib.Dec.{ltb}
use lib.ListN.{length, take}
use borrow.Author.Tests.{ltb-true, ltb-false}
use Rattle.laws.specs.Walks.{Begins, Longest, Walk, through, accepts, lead_on}
use Rattle.laws.proofs.Cases.{bool_cases, false≢true}

module _ {S : Type 0} (walk : Walk S) where
  -- where the walk is stuck no word can go on, and where it isn't one can
  pub record Faithful : Type 0 where
    pub free : walk.stuck walk.start ≡ false
    pub stays : (s : S) (c : ℕ) → walk.stuck s ≡ true → walk.stuck (walk.after s c) ≡ true
    pub none : (s : S) → walk.stuck s ≡ true → walk.ends s ≡ false
    pub some : (s : S) → walk.stuck s ≡ false → (text : List ℕ) × (walk.ends (through walk s text) ≡ true)

  module _ (f : Faithful) where
    never : (s : S) (text : List ℕ) → walk.stuck s ≡ true → walk.ends (through walk s text) ≡ false
    unfolding through
    never s [] t = f.none s t
    never s (c ∷ text) t = never (walk.after s c) text (f.stays s c t)

    -- the same from any state that isn't stuck
    record From (s : S) (text : List ℕ) (n : ℕ) : Type 0 where
      within : n ≤ length text
      begins : (rest : List ℕ) × (walk.ends (through walk s (take n text ++ rest)) ≡ true)
      ends : n < length text → (rest : List ℕ) → walk.ends (through walk s (take (suc n) text ++ rest)) ≡ true → ⊥

    from : (s : S) (text : List ℕ) → walk.stuck s ≡ false → From s text (lead_on walk s text)
    unfolding through lead_on
    from s [] t = record { within = omega arith; begins = f.some s t; ends = λ h. absurd (omega arith) }
    from s (c ∷ text) t =
        bool_cases (walk.stuck (walk.after s c))
        (λ q. rw q record {
          within = omega arith;
          begins = f.some s t;
          ends = λ h rest e. false≢true (sym (never (walk.after s c) rest q) ∙ e);
        })
        (λ q. let r = from (walk.after s c) text q in
        rw q record { within = omega (arith, r.within); begins = r.begins; ends = λ h. r.ends (omega arith) })

    pub longest : (text : List ℕ) → Longest (accepts walk) text (lead_on walk walk.start text)
    unfolding accepts
    longest text =
        let r = from walk.start text f.free in
        record {
          within = r.within;
          begins = record { rest = r.begins.0; word = r.begins.1 };
          ends = λ h b. r.ends h b.rest b.word;
        }

-- there is one longest beginning
module _ (isWord : List ℕ → Bool) (text : List ℕ) where
  -- what a beginning begins with is a beginning
  shorter : (n m : ℕ) (t : List ℕ) → n ≤ m → (rest : List ℕ) → (more : List ℕ) × (take m t ++ rest ≡ take n t ++ more)
  shorter zero m t h rest = (take m t ++ rest, refl)
  shorter (suc n) zero t h rest = absurd (omega arith)
  shorter (suc n) (suc m) [] h rest = (rest, refl)
  shorter (suc n) (suc m) (c ∷ t) h rest = let w = shorter n m t (omega arith) rest in (w.0, ap (λ (l : List ℕ). c ∷ l) w.1)

  begins_shorter : (n m : ℕ) → n ≤ m → Begins isWord (take m text) → Begins isWord (take n text)
  begins_shorter n m h b = let w = shorter n m text h b.rest in record { rest = w.0; word = ap isWord (sym w.1) ∙ b.word }

  not_below : (n m : ℕ) → Longest isWord text n → Longest isWord text m → n < m → ⊥
  not_below n m a b h = a.ends (omega (arith, b.within)) (begins_shorter (suc n) m (omega arith) b.begins)

  pub longest_unique : (n m : ℕ) → Longest isWord text n → Longest isWord text m → n ≡ m
  longest_unique n m a b =
      bool_cases (ltb n m)
      (λ t. absurd (not_below n m a b (ltb-true n m t)))
      (λ f. bool_cases (ltb m n)
      (λ t. absurd (not_below m n b a (ltb-true m n t)))
      (λ g. omega (arith, ltb-false n m f, ltb-false m n g)))
