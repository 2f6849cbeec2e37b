-- The straight line through two points of a curve.
use Rattle.std.specs.Prelude.{◌≡◌, refl, Bool, cond, ◌&&◌, ℤ, pos, negsuc, nat_abs, ◌+ℤ◌, ◌-ℤ◌, ◌*ℤ◌, Result, Ok, Err}
use Rattle.std.specs.Int.Signed.{le_z, lt_z}
use Rattle.laws.specs.Said.{Said, value, refused, free}
use Rattle.curves.specs.Floor.{floor_div}
use Rattle.curves.specs.declared.line.Point.{Point}
use Rattle.curves.specs.declared.line.LineError.{LineError}
use Rattle.curves.specs.declared.line.LineError.TheVariants.{Beyond, NoLine}

-- z is from low to high
unfoldable pub is_between : ℤ → ℤ → ℤ → Bool
is_between low high z = le_z low z && le_z z high

-- 01: "XVALS 14! and YVALS 14!, each −1,073,741,824 to 1,073,741,823"
unfoldable pub is_coordinate : ℤ → Bool
is_coordinate z = is_between (negsuc 1073741823) (pos 1073741823) z

unfoldable pub is_point : Point → Bool
is_point p = is_coordinate p.x && is_coordinate p.y

-- 01: "A curve's points are taken by rising X."
unfoldable pub is_segment : Point → Point → Bool
is_segment p q = is_point p && (is_point q && lt_z p.x q.x)

-- 01: "Field widths by type": a raw value has at most 32 bits, signed or unsigned
unfoldable pub is_raw : ℤ → Bool
is_raw x = is_between (negsuc 2147483647) (pos 4294967295) x

-- 01: "the straight line's exact fraction is rounded down"
-- the height of p is whole, so only what the line adds to it is rounded
unfoldable pub height_at : Point → Point → ℤ → ℤ
height_at p q x = p.y +ℤ floor_div ((q.y -ℤ p.y) *ℤ (x -ℤ p.x)) (nat_abs (q.x -ℤ p.x))

-- 01: "31 … curve result outside −2,147,483,648 to 2,147,483,647"
unfoldable pub result_of : ℤ → Said
result_of y = cond (is_between (negsuc 2147483647) (pos 2147483647) y) (value y) (refused 31)

-- the line through p and q at x; 01 has no other points, and no other raw values
unfoldable pub line_at : Point → Point → ℤ → Said
line_at p q x = cond (is_segment p q && is_raw x) (result_of (height_at p q x)) free

unfoldable pub said_on_line : Result ℤ LineError → Said
said_on_line (Ok y) = value y
said_on_line (Err Beyond) = refused 31
said_on_line (Err NoLine) = free

-- through (0,1) and (2,0): 1 gives 1/2, so 0, and 3 gives -1/2, so -1; the other way round is no line
halves : (
    let p : Point = record { x = pos 0; y = pos 1 } in
    let q : Point = record { x = pos 2; y = pos 0 } in
    (line_at p q (pos 1) ≡ value (pos 0)) × (line_at p q (pos 3) ≡ value (negsuc 0)) × (line_at q p (pos 1) ≡ free)
    )
unfolding line_at is_segment is_point is_coordinate is_raw is_between result_of height_at floor_div
halves = (refl, refl, refl)
