-- The key of a row, where PI1 is as small as a row's.
use mathlib.Core.Path.{refl, sym}
use Prim.Native.Nat.{◌^◌}
use lib.Dec.{ltb}
use borrow.Author.Tests.{le-ltb}
use Rattle.laws.proofs.Cases.{false≢true, and_false}
use Rattle.key_symbols.specs.Bounded.{key_fits}
use Rattle.key_symbols.proofs.packet_key.Goals as goal

pub returns-then-n-lt4294967296 : goal.returns-then-n-lt4294967296
returns-then-n-lt4294967296 c = (sym c.pid_key-key.ensures.1, (λ _. c.pid_key-key.ensures.0), λ e. absurd (false≢true (sym e)))

pub returns : goal.returns
unfolding key_fits
returns c = (rw (le-ltb c.args.n.pi1 (2 ^ 32) c.if-n-lt4294967296.false) (sym (and_false (ltb c.args.n.stype (2 ^ 32)))), (λ e. absurd (false≢true e)), λ _. refl)
