-- An array of slices, as its bytes.
use mathlib.Core.Path.{◌≡◌, sym, ◌∙◌}
use mathlib.Core.List.{List, [], map}
use Prim.Native.Nat.{ℕ}
use denote.Ref.{Bor}
use lib.ListN.{length, get_or, length-map, get_or-map}
use Rattle.verdicts.specs.Entries.{table_count}

-- the bytes of an array's slice are the bytes at that place
pub at : (ts : List (Bor (List ℕ))) (t : ℕ) → (get_or ts t record { ref_ptr = (0, 0); now = [] }).now ≡ get_or (map (λ x. x.now) ts) t []
at ts t = sym (get_or-map (λ x. x.now) ts t record { ref_ptr = (0, 0); now = [] })

pub count : (ts : List (Bor (List ℕ))) → length ts ≡ table_count → length (map (λ x. x.now) ts) ≡ table_count
count ts e = length-map ts (λ x. x.now) ∙ e
