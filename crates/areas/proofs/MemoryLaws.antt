-- Laws of the memory of a vector file.
use mathlib.Core.Path.{◌≡◌}
use mathlib.Core.Bool.{Bool, true}
use mathlib.Core.List.{List, []}
use Prim.Native.Nat.{ℕ, suc, ◌+◌, ◌*◌, ◌<◌, ◌≤◌}
use native.Mathlib.Omega.{arith}
use lib.ListN.{length, get_or, drop, set, drop_of_length-le}
use lib.Seq.{sets}
use borrow.Author.Tests.{lt-ltb, le-ltb}
use Rattle.laws.proofs.Lists.{split}
use Rattle.lines.specs.Columns.{part_of}
use Rattle.tables.specs.Parts.{part_size}
use Rattle.areas.specs.Memory.{Memory, KeptMemory, area_within, cleared, added, area_count}
use Rattle.areas.specs.Memory.{unread}

-- Bytes put one after the other

module _ (xs : List ℕ) (at : ℕ) (bytes : List ℕ) (i : ℕ) where
  pub put_more : i < length bytes → sets xs (at + i) (drop i bytes) ≡ sets (set xs (at + i) (get_or bytes i 0)) (at + (i + 1)) (drop (i + 1) bytes)
  put_more h =
      let e : at + (i + 1) ≡ suc (at + i) = omega arith in
      rw (split bytes i 0 h, e)

  pub put_none : length bytes ≤ i → sets xs (at + i) (drop i bytes) ≡ xs
  put_none h = rw (drop_of_length-le bytes h)

-- Areas

pub clear_in : (ends : List ℕ) (t : ℕ) → t < area_count → set ends t (t * part_size) ≡ cleared ends t
unfolding cleared
clear_in ends t h = rw (lt-ltb t area_count h)

pub clear_out : (ends : List ℕ) (t : ℕ) → area_count ≤ t → ends ≡ cleared ends t
unfolding cleared
clear_out ends t h = rw (le-ltb t area_count h)

pub area_in : (m : Memory) (t e : ℕ) → t < area_count → e ≡ get_or m.ends t 0 → part_of m.space (t * part_size) e ≡ area_within m t
unfolding area_within
area_in m t e h p = rw (lt-ltb t area_count h, p)

pub area_out : (m : Memory) (t : ℕ) → area_count ≤ t → [] ≡ area_within m t
unfolding area_within
area_out m t h = rw (le-ltb t area_count h)

module _ (m : Memory) (t : ℕ) (bytes : List ℕ) where
  pub add_out : area_count ≤ t → unread m ≡ added m t bytes
  unfolding added
  add_out h = rw (le-ltb t area_count h)

  pub add_small : t < area_count → length m.space < t * part_size + part_size → unread m ≡ added m t bytes
  unfolding added
  add_small h l = rw (lt-ltb t area_count h, lt-ltb (length m.space) (t * part_size + part_size) l)

  pub add_full : t < area_count → t * part_size + part_size ≤ length m.space → t * part_size + part_size < get_or m.ends t 0 + length bytes
      → unread m ≡ added m t bytes
  unfolding added
  add_full h l k =
      rw (lt-ltb t area_count h, le-ltb (length m.space) (t * part_size + part_size) l, lt-ltb (t * part_size + part_size) (get_or m.ends t 0 + length bytes) k)

  pub add_fits : t < area_count → t * part_size + part_size ≤ length m.space → get_or m.ends t 0 + length bytes ≤ t * part_size + part_size
      → record { readable = true; space = sets m.space (get_or m.ends t 0) bytes; ends = set m.ends t (get_or m.ends t 0 + length bytes) }
      ≡ added m t bytes
  unfolding added
  add_fits h l k =
      rw (lt-ltb t area_count h, le-ltb (length m.space) (t * part_size + part_size) l, le-ltb (t * part_size + part_size) (get_or m.ends t 0 + length bytes) k)

-- what is kept, part by part
pub kept_parts : (r : Bool) {s s' e e' : List ℕ} → s ≡ s' → e ≡ e'
    → ◌≡◌ {A = KeptMemory} (record { readable = r; space = s; ends = e }) (record { readable = r; space = s'; ends = e' })
kept_parts r p q = λ i. record { readable = r; space = p i; ends = q i }
