-- Namings go down in rank, but for the VALID chain.
use mathlib.Core.Path.{◌≡◌, sym, ap, ◌∙◌}
use mathlib.Core.Bool.{true, false}
use mathlib.Core.List.{Memᴰ}
use Prim.Native.Nat.{◌<◌}
use Rattle.std.specs.Prelude.{Option, is_some}
use native.Mathlib.Omega.{arith}
use Rattle.laws.proofs.Cases.{and_left, and_right, bool_cases}
use Rattle.symbols.specs.declared.Symbol.{Symbol}
use Rattle.symbols.specs.Symbols.{same_symbol}
use Rattle.symbols.proofs.SameLaws.{same_is}
use Rattle.verdicts.specs.Key.{Key}
use Rattle.verdicts.specs.Facts.{Naming}
use Rattle.verdicts.specs.Entries.{Entry, facts}
use Rattle.verdicts.specs.Steps.{holds}
use Rattle.row_keys.specs.declared.records.RowKeys.{RowKeys}
use Rattle.row_keys.specs.Parts.{key_in}
use Rattle.key_symbols.specs.Keyed.{symbol_of, space_of}
use Rattle.keys.specs.Ranks.{rank}
use Rattle.key_symbols.specs.Bounded.{Bounded}
use Rattle.keys.specs.Says.{has, rank_in, Says}
use Rattle.keys.proofs.HoldLaws.{holds_has}

-- a symbol that is given
has_given : (s : Option Symbol) (k : Symbol) → has s k ≡ true → is_some s ≡ true
has_given s k e = and_left (is_some s) (same_symbol k (key_in s)) e

has_key : (s : Option Symbol) (k : Symbol) → has s k ≡ true → k ≡ key_in s
has_key s k e = same_is k (key_in s) (and_right (is_some s) (same_symbol k (key_in s)) e)

-- the rank of a key that a row holds is the row's
pub holds_rank : (o : Entry) (r : RowKeys) → Says (facts o) r → (k : Key) → Bounded k → holds o k ≡ true → rank (space_of k) ≡ rank_in r
holds_rank o r h k b e =
    bool_cases (has r.first (symbol_of k))
    (λ t. ap (λ (s : Symbol). rank s.space) (has_key r.first (symbol_of k) t))
    (λ t.
    let u : has r.second (symbol_of k) ≡ true = rw t at (sym (holds_has o r h k b) ∙ e) in
    ap (λ (s : Symbol). rank s.space) (has_key r.second (symbol_of k) u) ∙ h.level (has_given r.second (symbol_of k) u))

module _
    (e o : Entry) (d r : RowKeys) (h : Says (facts e) d) (j : Says (facts o) r)
    (n : Naming) (m : Memᴰ n (facts e).names) (q : holds o n.key ≡ true) where
  -- the row named has a lower rank
  pub names_lower : n.chained ≡ false → rank_in r < rank_in d
  names_lower c = omega (arith, h.below n m c, holds_rank o r j n.key (h.names_bounded n m) q)

  -- along the VALID chain the same
  pub chain_level : n.chained ≡ true → rank_in r ≡ rank_in d
  chain_level c =
      let p = h.chain n m c in
      sym (holds_rank o r j n.key (h.names_bounded n m) q) ∙ ap rank (p.0 ∙ sym p.1)
