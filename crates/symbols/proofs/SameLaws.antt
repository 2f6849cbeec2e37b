-- Symbols compared.
use mathlib.Core.Path.{◌≡◌, refl}
use mathlib.Core.Bool.{true}
use Prim.Native.Nat.{◌<◌}
use native.Mathlib.Omega.{arith}
use lib.Dec.{eqb}
use borrow.Author.Tests.{eqb-true, eq-eqb}
use Rattle.laws.proofs.Cases.{and_left, and_right, and_both}
use Rattle.symbols.specs.declared.Symbol.{Symbol}
use Rattle.symbols.specs.Symbols.{same_symbol}
use Rattle.symbols.specs.Arrays.{bucket_of, heads}

pub same_is : (k l : Symbol) → same_symbol k l ≡ true → k ≡ l
unfolding same_symbol
same_is k l e =
    let r = and_right (eqb k.a l.a) _ e in
    let s = and_right (eqb k.b l.b) _ r in
    λ i. record {
      space = eqb-true k.space l.space (and_right (eqb k.c l.c) _ s) i;
      a = eqb-true k.a l.a (and_left (eqb k.a l.a) _ e) i;
      b = eqb-true k.b l.b (and_left (eqb k.b l.b) _ r) i;
      c = eqb-true k.c l.c (and_left (eqb k.c l.c) _ s) i;
    }

pub same_self : (k : Symbol) → same_symbol k k ≡ true
unfolding same_symbol
same_self k =
    and_both (eq-eqb k.a k.a refl)
    (and_both (eq-eqb k.b k.b refl) (and_both (eq-eqb k.c k.c refl) (eq-eqb k.space k.space refl)))

-- all that laws know of the hash
pub bucket_below : (k : Symbol) → bucket_of k < heads
unfolding bucket_of
bucket_below k = omega arith
