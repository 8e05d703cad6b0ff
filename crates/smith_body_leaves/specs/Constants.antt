-- Drawn constants. The choice of the interesting values is a rule of this project.
use Rattle.std.specs.Prelude.{ℕ, ◌+◌, ◌*◌, ◌^◌, ℤ, pos, List, [], ◌∷◌}
use Rattle.std.specs.Int.{cast_signed, w8, w32, w64, w128}
use Rattle.smith_bytes.specs.Draws.{whole_at}
use Rattle.smith_draw_types.specs.Choices.{chosen_at}
use Rattle.smith_body_leaves.specs.declared.constant_tables.ConstantWay.{ConstantWay}
use Rattle.smith_body_leaves.specs.declared.constant_tables.ConstantWay.TheVariants as way
use Rattle.smith_body_leaves.specs.declared.constant_tables.LaneFamily.{LaneFamily}
use Rattle.smith_body_leaves.specs.declared.constant_tables.LaneFamily.TheVariants as lane

-- the ways to draw a constant, each listed as often as its weight
abbrev pub constant_ways : List ConstantWay
constant_ways =
    way.Small ∷
    way.Interesting ∷
    way.Interesting ∷
    way.Whole ∷
    []

-- the kinds of lanes of an interesting vector
abbrev pub lane_families : List LaneFamily
lane_families =
    lane.Bytes ∷
    lane.Integers32 ∷
    lane.Integers64 ∷
    lane.Floats ∷
    lane.Doubles ∷
    []

-- interesting values of an i32: small ones, the least, the greatest, powers of two, and numbers next
-- to these
abbrev pub integers32 : List ℕ
integers32 =
    0x00000000 ∷
    0x00000001 ∷
    0x00000002 ∷
    0x00000003 ∷
    0x00000004 ∷
    0x00000007 ∷
    0x00000008 ∷
    0x0000000f ∷
    0x00000010 ∷
    0x0000001f ∷
    0x00000020 ∷
    0x00000021 ∷
    0x0000003f ∷
    0x00000040 ∷
    0x0000007f ∷
    0x00000080 ∷
    0x000000ff ∷
    0x00000100 ∷
    0x00007fff ∷
    0x00008000 ∷
    0x0000ffff ∷
    0x00010000 ∷
    0x01000000 ∷
    0x7ffffffe ∷
    0x7fffffff ∷
    0x80000000 ∷
    0x80000001 ∷
    0xffff7fff ∷
    0xffff8000 ∷
    0xffffff80 ∷
    0xfffffffe ∷
    0xffffffff ∷
    []

-- interesting values of an i64
abbrev pub integers64 : List ℕ
integers64 =
    0x0000000000000000 ∷
    0x0000000000000001 ∷
    0x0000000000000002 ∷
    0x0000000000000008 ∷
    0x000000000000001f ∷
    0x0000000000000020 ∷
    0x000000000000003f ∷
    0x0000000000000040 ∷
    0x0000000000000041 ∷
    0x000000000000007f ∷
    0x0000000000000080 ∷
    0x00000000000000ff ∷
    0x0000000000007fff ∷
    0x0000000000008000 ∷
    0x000000000000ffff ∷
    0x0000000000010000 ∷
    0x000000007fffffff ∷
    0x0000000080000000 ∷
    0x00000000ffffffff ∷
    0x0000000100000000 ∷
    0x0020000000000000 ∷
    0x4000000000000000 ∷
    0x7ffffffffffffffe ∷
    0x7fffffffffffffff ∷
    0x8000000000000000 ∷
    0x8000000000000001 ∷
    0xffffffff7fffffff ∷
    0xffffffff80000000 ∷
    0xffffffffffff8000 ∷
    0xffffffffffffff80 ∷
    0xfffffffffffffffe ∷
    0xffffffffffffffff ∷
    []

-- the bits of interesting values of an f32: zeros, ones, infinities, NaNs, subnormal numbers, the
-- least normal number, the greatest ones, and numbers at the limits of integers
abbrev pub floats : List ℕ
floats =
    0x00000000 ∷
    0x80000000 ∷
    0x3f800000 ∷
    0xbf800000 ∷
    0x7f800000 ∷
    0xff800000 ∷
    0x7fc00000 ∷
    0xffc00000 ∷
    0x7fa00000 ∷
    0xffa00001 ∷
    0x7fffffff ∷
    0x00000001 ∷
    0x80000001 ∷
    0x007fffff ∷
    0x00800000 ∷
    0x7f7fffff ∷
    0xff7fffff ∷
    0x3f000000 ∷
    0xbf7fffff ∷
    0x3fc00000 ∷
    0x4b800000 ∷
    0x4effffff ∷
    0x4f000000 ∷
    0xcf000000 ∷
    0xcf000001 ∷
    0x4f7fffff ∷
    0x4f800000 ∷
    0x5effffff ∷
    0x5f000000 ∷
    0xdf000000 ∷
    0x5f7fffff ∷
    0x5f800000 ∷
    []

-- the bits of interesting values of an f64
abbrev pub doubles : List ℕ
doubles =
    0x0000000000000000 ∷
    0x8000000000000000 ∷
    0x3ff0000000000000 ∷
    0xbff0000000000000 ∷
    0x7ff0000000000000 ∷
    0xfff0000000000000 ∷
    0x7ff8000000000000 ∷
    0xfff8000000000000 ∷
    0x7ff4000000000000 ∷
    0xfff4000000000001 ∷
    0x7fffffffffffffff ∷
    0x0000000000000001 ∷
    0x8000000000000001 ∷
    0x000fffffffffffff ∷
    0x0010000000000000 ∷
    0x7fefffffffffffff ∷
    0xffefffffffffffff ∷
    0x3fe0000000000000 ∷
    0xbfefffffffffffff ∷
    0x3ff8000000000000 ∷
    0x4340000000000000 ∷
    0x41dfffffffc00000 ∷
    0x41e0000000000000 ∷
    0xc1e0000000000000 ∷
    0xc1e0000000200000 ∷
    0x41efffffffe00000 ∷
    0x41f0000000000000 ∷
    0x43dfffffffffffff ∷
    0x43e0000000000000 ∷
    0xc3e0000000000000 ∷
    0x43efffffffffffff ∷
    0x43f0000000000000 ∷
    []

-- the bits of zero and one of an f32, with both signs
abbrev pub small_floats : List ℕ
small_floats =
    0x00000000 ∷
    0x80000000 ∷
    0x3f800000 ∷
    0xbf800000 ∷
    []

-- the bits of zero and one of an f64, with both signs
abbrev pub small_doubles : List ℕ
small_doubles =
    0x0000000000000000 ∷
    0x8000000000000000 ∷
    0x3ff0000000000000 ∷
    0xbff0000000000000 ∷
    []

-- a drawn value, changed, and the bytes left
abbrev pub with_value : {A B : Type 0} → (A → B) → A × List ℕ → B × List ℕ
with_value change drawn = (change drawn.0, drawn.1)

-- a drawn item of a table of numbers
abbrev pub listed_at : List ℕ → List ℕ → ℕ × List ℕ
listed_at table bytes = chosen_at 0 table bytes

-- a value of 32 bits: a byte with its sign, an interesting one, or any
abbrev pub integer32_by : ConstantWay → List ℕ → ℤ × List ℕ
integer32_by way.Small bytes = with_value (cast_signed w8) (whole_at 1 bytes)
integer32_by way.Interesting bytes = with_value (cast_signed w32) (listed_at integers32 bytes)
integer32_by way.Whole bytes = with_value (cast_signed w32) (whole_at 4 bytes)

unfoldable pub integer32_at : List ℕ → ℤ × List ℕ
integer32_at bytes = let drawn = chosen_at way.Small constant_ways bytes in integer32_by drawn.0 drawn.1

-- a value of 64 bits
abbrev pub integer64_by : ConstantWay → List ℕ → ℤ × List ℕ
integer64_by way.Small bytes = with_value (cast_signed w8) (whole_at 1 bytes)
integer64_by way.Interesting bytes = with_value (cast_signed w64) (listed_at integers64 bytes)
integer64_by way.Whole bytes = with_value (cast_signed w64) (whole_at 8 bytes)

unfoldable pub integer64_at : List ℕ → ℤ × List ℕ
integer64_at bytes = let drawn = chosen_at way.Small constant_ways bytes in integer64_by drawn.0 drawn.1

-- the bits of an f32: of zero or one with a sign, of an interesting value, or any
abbrev pub float_by : ConstantWay → List ℕ → ℕ × List ℕ
float_by way.Small bytes = listed_at small_floats bytes
float_by way.Interesting bytes = listed_at floats bytes
float_by way.Whole bytes = whole_at 4 bytes

unfoldable pub float_at : List ℕ → ℕ × List ℕ
float_at bytes = let drawn = chosen_at way.Small constant_ways bytes in float_by drawn.0 drawn.1

-- the bits of an f64
abbrev pub double_by : ConstantWay → List ℕ → ℕ × List ℕ
double_by way.Small bytes = listed_at small_doubles bytes
double_by way.Interesting bytes = listed_at doubles bytes
double_by way.Whole bytes = whole_at 8 bytes

unfoldable pub double_at : List ℕ → ℕ × List ℕ
double_at bytes = let drawn = chosen_at way.Small constant_ways bytes in double_by drawn.0 drawn.1

-- the bits of a vector: of two halves, of two values that alternate, and of one byte in each lane
-- (Structure, Values, Vectors)
abbrev pub halves : ℕ → ℕ → ℕ
halves low high = low + high * 2 ^ 64

abbrev pub alternating : ℕ → ℕ → ℕ
alternating low high = halves (low + high * 2 ^ 32) (low + high * 2 ^ 32)

abbrev pub same_bytes : ℕ → ℕ
same_bytes byte = byte * 0x01010101010101010101010101010101

-- two drawn items of a table of numbers, combined
abbrev pub both_listed_at : (ℕ → ℕ → ℕ) → List ℕ → List ℕ → ℕ × List ℕ
both_listed_at combine table bytes =
    let low = listed_at table bytes in
    let high = listed_at table low.1 in
    (combine low.0 high.0, high.1)

-- the bits of an interesting vector
abbrev pub lanes_by : LaneFamily → List ℕ → ℕ × List ℕ
lanes_by lane.Bytes bytes = with_value same_bytes (whole_at 1 bytes)
lanes_by lane.Integers32 bytes = with_value (λ number. alternating number number) (listed_at integers32 bytes)
lanes_by lane.Integers64 bytes = both_listed_at halves integers64 bytes
lanes_by lane.Floats bytes = both_listed_at alternating floats bytes
lanes_by lane.Doubles bytes = both_listed_at halves doubles bytes

unfoldable pub lanes_at : List ℕ → ℕ × List ℕ
lanes_at bytes = let drawn = chosen_at lane.Bytes lane_families bytes in lanes_by drawn.0 drawn.1

-- a vector: a byte, interesting lanes, or any
abbrev pub vector_by : ConstantWay → List ℕ → ℤ × List ℕ
vector_by way.Small bytes = with_value pos (whole_at 1 bytes)
vector_by way.Interesting bytes = with_value (cast_signed w128) (lanes_at bytes)
vector_by way.Whole bytes = with_value (cast_signed w128) (whole_at 16 bytes)

unfoldable pub vector_at : List ℕ → ℤ × List ℕ
vector_at bytes = let drawn = chosen_at way.Small constant_ways bytes in vector_by drawn.0 drawn.1
