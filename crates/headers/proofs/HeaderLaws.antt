-- The refusals of a header, test by test.
use mathlib.Core.Path.{◌≡◌, refl, ap, sym, ◌∙◌}
use mathlib.Core.Logic.{◌⊎◌, inl, inr}
use mathlib.Core.Bool.{Bool, true, false, not, cond, ◌&&◌, ◌||◌}
use mathlib.Core.List.{List}
use Prim.Native.Nat.{ℕ, ◌+◌, ◌*◌, ◌^◌, ◌≤◌, ◌<◌}
use native.Mathlib.Omega.{arith}
use lib.Dec.{eqb, ltb}
use lib.IntN.{pos}
use lib.ListN.{length}
use borrow.Author.Tests.{eq-eqb, ne_eqb, eqb-true, lt-ltb, le-ltb}
use Rattle.laws.proofs.Cases.{false≢true}
use Rattle.laws.specs.Said.{value}
use Rattle.fields.specs.Bits.{number_at}
use Rattle.std.specs.Prelude.{Result, Ok, Err}
use Rattle.fields.specs.Field.{unsigned_at, said_unsigned, said_error}
use Rattle.fields.specs.declared.field.FieldError.{FieldError}
use Rattle.fields.specs.declared.field.FieldError.TheVariants.{Outside, NoWidth}
use Rattle.fields.proofs.FieldLaws.{field_value, unsigned_read}
use Rattle.outcomes.specs.Outcome.{Outcome, refused, answer}
use Rattle.headers.specs.Header.{version, type_bit, flagged, apid, sequence_count, length_field, head_of}
use Rattle.headers.specs.declared.Head.{Head}

-- a field that a packet has is read
module _ (p : List ℕ) (at n : ℕ) (r : Result ℕ FieldError) (s : said_unsigned r ≡ unsigned_at p at n) where
  pub bits_read : (v : ℕ) → r ≡ Ok v → (v ≡ number_at p at n) × (v < 2 ^ n)
  unfolding said_unsigned
  bits_read v e = let u = unsigned_read p at n v (sym (ap said_unsigned e) ∙ s) in (u.is, u.below)

  module _ (wide : 1 ≤ n) (narrow : n ≤ 64) (here : at + n ≤ length p * 8) where
    there : said_unsigned r ≡ value (pos (number_at p at n))
    unfolding unsigned_at
    there = s ∙ sym (field_value pos p at n wide narrow here)

    pub bits_there : (error : FieldError) → r ≡ Err error → ⊥
    unfolding said_unsigned said_error
    bits_there Outside e = false≢true (cc (there, e))
    bits_there NoWidth e = false≢true (cc (there, e))

-- a header with these numbers
abbrev told : Bool → (apid count : ℕ) → Outcome Head
told b a n = answer (record { flagged = b; apid = a; count = n })

module _ (p : List ℕ) where
  -- the first four bits are the version and the type bit
  pub first_bits : number_at p 0 4 ≡ version p * 2 + type_bit p
  unfolding version type_bit number_at
  first_bits = omega arith

  pub refused_short : length p < 7 → refused 20 0 ≡ head_of p
  unfolding head_of
  refused_short h = rw (lt-ltb _ _ h)

  pub refused_long : 7 ≤ length p → 8192 < length p → refused 20 0 ≡ head_of p
  unfolding head_of
  refused_long g h = rw (le-ltb _ _ g, lt-ltb _ _ h)

  module _ (g : 7 ≤ length p) (h : length p ≤ 8192) where
    pub refused_version : (number_at p 0 4 ≡ 0 → ⊥) → refused 21 0 ≡ head_of p
    unfolding head_of
    refused_version n = rw (le-ltb _ _ g, le-ltb _ _ h, set) refl
      where
        go : (b : Bool) → eqb (version p) 0 ≡ b → (not b || not (eqb (type_bit p) 0)) ≡ true
        go true e = rw (ne_eqb (type_bit p) 0 (λ z. n (omega (arith, first_bits, eqb-true (version p) 0 e))))
        go false e = refl

        set : (not (eqb (version p) 0) || not (eqb (type_bit p) 0)) ≡ true
        set = go (eqb (version p) 0) refl

    module _ (z : number_at p 0 4 ≡ 0) where
      clear : (eqb (version p) 0 ≡ true) × (eqb (type_bit p) 0 ≡ true)
      clear = (eq-eqb (version p) 0 (omega (arith, first_bits)), eq-eqb (type_bit p) 0 (omega (arith, first_bits)))

      pub refused_field : (length_field p + 7 ≡ length p → ⊥) → refused 22 0 ≡ head_of p
      unfolding head_of
      refused_field n = rw (le-ltb _ _ g, le-ltb _ _ h, clear.0, clear.1, ne_eqb _ _ n)

      module _ (l : length_field p + 7 ≡ length p) where
        pub refused_data : flagged p ≡ true → length p < 9 → refused 23 0 ≡ head_of p
        unfolding head_of
        refused_data f n = rw (le-ltb _ _ g, le-ltb _ _ h, clear.0, clear.1, eq-eqb _ _ l, f, lt-ltb _ _ n)

        pub heading_is : (b : Bool) (a n : ℕ) → b ≡ flagged p → a ≡ apid p → n ≡ sequence_count p → (b ≡ false) ⊎ ((b ≡ true) × (9 ≤ length p))
            → told b a n ≡ head_of p
        unfolding head_of
        heading_is b a n f i c w =
            rw (le-ltb _ _ g, le-ltb _ _ h, clear.0, clear.1, eq-eqb _ _ l, ← f, ← i, ← c)
            (go w)
          where
            go : (b ≡ false) ⊎ ((b ≡ true) × (9 ≤ length p)) → told b a n ≡ cond (b && ltb (length p) 9) (refused 23 0) (told b a n)
            go (inl e) = rw e
            go (inr e) = rw (e.0, le-ltb _ _ e.1)

-- the header that passes tells the APID and the count of the packet
pub record Tells (p : List ℕ) (head : Head) : Type 0 where
  pub id : head.apid ≡ apid p
  pub last : head.count ≡ sequence_count p

pub head_tells : (p : List ℕ) {head : Head} → head_of p ≡ answer head → Tells p head
unfolding head_of
head_tells p {head} e =
    go (ltb (length p) 7 || ltb 8192 (length p)) (not (eqb (version p) 0) || not (eqb (type_bit p) 0))
    (not (eqb (length_field p + 7) (length p))) (flagged p && ltb (length p) 9) e
  where
    go : (v w x y : Bool)
        → cond v (refused 20 0) (cond w (refused 21 0) (cond x (refused 22 0)
        (cond y (refused 23 0) (answer (record { flagged = flagged p; apid = apid p; count = sequence_count p })))))
        ≡ answer head
        → Tells p head
    go true w x y e = absurd (false≢true cc)
    go false true x y e = absurd (false≢true cc)
    go false false true y e = absurd (false≢true cc)
    go false false false true e = absurd (false≢true cc)
    go false false false false e = record { id = cc; last = cc }
