-- What is left of the bytes, after the number so far, gives the number of all.
use mathlib.Core.Path.{◌≡◌}
use Prim.Native.Nat.{◌≤◌, ◌<◌, ◌^◌}
use lib.ListN.{length, drop}
use Rattle.key_symbols.specs.Keyed.{number_from, digits_number}
use Rattle.key_symbols.proofs.words.bytes_word.Given as goal

abbrev pub invariant-loop-i : goal.invariant-loop-i
invariant-loop-i l = (l.i ≤ length l.bytes) × (l.n < 256 ^ l.i) × (number_from 256 l.n (drop l.i l.bytes) ≡ digits_number 256 l.bytes)
