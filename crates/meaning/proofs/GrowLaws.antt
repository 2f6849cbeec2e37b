-- What is kept of a row stays right as symbols grow.
use mathlib.Core.Path.{◌≡◌, refl, sym, ◌∙◌}
use mathlib.Core.List.{List, [], ◌∷◌}
use Prim.Native.Nat.{ℕ}
use native.Mathlib.Omega.{arith}
use lib.ListN.{drop}
use Rattle.symbols.specs.declared.Symbol.{Symbol}
use Rattle.symbols.proofs.PlaceLaws.{Extends, id_stays}
use Rattle.verdicts.specs.Key.{Key}
use Rattle.verdicts.specs.Entries.{Entry, facts}
use Rattle.meaning.specs.Kept.{Coding, Known, first_id, AllKnown, none, more, KeptRow}

module _ (c : Coding) (ls ms : List Symbol) (w : Extends ls ms) where
  pub known_grows : (k : Key) → Known c ls k → Known c ms k
  known_grows k h = let e = id_stays w (c.symbol_of k) h.numbered in record { fits = h.fits; numbered = omega (arith, h.numbered) }

  pub all_grows : (ks : List Key) → AllKnown c ls ks → AllKnown c ms ks
  all_grows [] none = none
  all_grows (k ∷ ks) (more h a) = more (known_grows k h) (all_grows ks a)

  first_grows : (ks : List Key) → AllKnown c ls ks → first_id c ms ks ≡ first_id c ls ks
  first_grows [] none = refl
  first_grows (k ∷ ks) (more h a) = id_stays w (c.symbol_of k) h.numbered

  rest : (ks : List Key) → AllKnown c ls ks → AllKnown c ls (drop 1 ks)
  rest [] none = none
  rest (k ∷ ks) (more h a) = a

  -- THE LAW OF ROWS KEPT
  pub row_grows : (e : Entry) (f k₁ k₂ g : ℕ) → KeptRow c ls e f k₁ k₂ g → KeptRow c ms e f k₁ k₂ g
  row_grows e f k₁ k₂ g r =
      record {
        formed = r.formed;
        key1 = r.key1 ∙ sym (first_grows (facts e).keys r.known);
        key2 = r.key2 ∙ sym (first_grows (drop 1 (facts e).keys) (rest (facts e).keys r.known));
        group = r.group ∙ sym (first_grows (facts e).groups r.grouped);
        known = all_grows (facts e).keys r.known;
        grouped = all_grows (facts e).groups r.grouped;
      }
