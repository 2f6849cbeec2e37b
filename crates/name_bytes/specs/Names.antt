-- Names.
use Rattle.std.specs.Prelude.{ℕ, ◌-◌, ◌≡◌, refl, List, [], ◌∷◌, ◌++◌, Bool, true, false, cond, ◌&&◌, eqb, leb, length, replicate}
use Rattle.laws.specs.Text.{ascii}
use Rattle.name_bytes.specs.declared.Name.{Name}
use Rattle.name_bytes.specs.declared.CurveName.{CurveName}

-- the bytes of a text at the front of n, zeros after them
abbrev pub padded : ℕ → List ℕ → List ℕ
padded n text = text ++ replicate (n - length text) 0

-- a text that is too long for a name of n bytes names nothing, as the empty one does
abbrev pub fitting : ℕ → List ℕ → List ℕ
fitting n text = cond (leb (length text) n) text []

-- 01: "A name is kept as eight bytes and a length, or ten for curves"
unfoldable pub name_of : List ℕ → Name
name_of text = record { bytes = padded 8 (fitting 8 text); len = length (fitting 8 text) }

unfoldable pub curve_name_of : List ℕ → CurveName
curve_name_of text = record { bytes = padded 10 (fitting 10 text); len = length (fitting 10 text) }

-- 01: "and compared byte by byte"
unfoldable pub same_bytes : List ℕ → List ℕ → Bool
same_bytes [] [] = true
same_bytes [] (y ∷ ys) = false
same_bytes (x ∷ xs) [] = false
same_bytes (x ∷ xs) (y ∷ ys) = eqb x y && same_bytes xs ys

unfoldable pub same_name : Name → Name → Bool
same_name a b = eqb a.len b.len && same_bytes a.bytes b.bytes

unfoldable pub same_curve_name : CurveName → CurveName → Bool
same_curve_name a b = eqb a.len b.len && same_bytes a.bytes b.bytes

pub record Examples : Type 0 where
  pub name : name_of (ascii "T1") ≡ record { bytes = 84 ∷ 49 ∷ 0 ∷ 0 ∷ 0 ∷ 0 ∷ 0 ∷ 0 ∷ []; len = 2 }
  pub same : same_name (name_of (ascii "T1")) (name_of (ascii "T1")) ≡ true
  pub longer : same_name (name_of (ascii "T1")) (name_of (ascii "T12")) ≡ false

pub examples : Examples
unfolding name_of same_name same_bytes
examples = record { name = refl; same = refl; longer = refl }
