-- Each draw as a function of the bytes of the source: the value drawn, and the bytes left. Past the
-- end, a draw reads zeros.
use Rattle.std.specs.Prelude.{ℕ, zero, suc, ◌+◌, ◌-◌, ◌*◌, ◌/◌, ◌%◌, ◌^◌, ◌==◌, Bool, List, [], ◌∷◌, take, drop, fold, length, nat_le}
use Rattle.std.specs.Prelude.{if◌then◌else◌, slice_index, slice_get, Option}

-- the number with these base-256 digits, least significant first
abbrev pub little_endian : List ℕ → ℕ
little_endian [] = 0
little_endian (b ∷ bs) = b + 256 * little_endian bs

-- the number with these base-256 digits, most significant first
abbrev pub big_endian : List ℕ → ℕ
big_endian = fold (λ x b. 256 * x + b) 0

-- the number of base-256 digits of `d`, or `n` if that is less; 0 for zero
abbrev pub digit_count_within : ℕ → ℕ → ℕ
digit_count_within zero d = 0
digit_count_within (suc n) zero = 0
digit_count_within (suc n) (suc d) = 1 + digit_count_within n (suc d / 256)

-- the number of base-256 digits of a number below 2^128; 0 for zero
unfoldable pub digit_count : ℕ → ℕ
digit_count d = digit_count_within 16 d

-- a whole number of n bytes, least significant byte first; missing bytes are 0
unfoldable pub whole_at : ℕ → List ℕ → ℕ × List ℕ
whole_at n bytes = (little_endian (take n bytes), drop n bytes)

-- a bool: the lowest bit of one byte
unfoldable pub bool_at : List ℕ → Bool × List ℕ
bool_at bytes = (slice_index bytes 0 % 2 == 1, drop 1 bytes)

-- a number in lo..=hi, from as many bytes as hi - lo has base-256 digits, most significant byte
-- first
unfoldable pub range_at : ℕ → ℕ → List ℕ → ℕ × List ℕ
range_at lo hi bytes =
    let n = digit_count (hi - lo) in
    (lo + big_endian (take n bytes) % (hi - lo + 1), drop n bytes)

-- true with probability n in m: a number drawn in 1..=m is at most n
unfoldable pub ratio_at : ℕ → ℕ → List ℕ → Bool × List ℕ
ratio_at n m bytes = let drawn = range_at 1 m bytes in (nat_le drawn.0 n, drawn.1)

-- the item at a drawn index, or none if the list is empty
unfoldable pub choose_at : {A : Type 0} → List A → List ℕ → Option A × List ℕ
choose_at items bytes = let place = range_at 0 (length items - 1) bytes in (slice_get items place.0, place.1)

-- the number of bytes that encode a length, at the end of `n` bytes
abbrev pub length_size : ℕ → ℕ
length_size n =
    if n == 0 then 0
    else if nat_le n 256 then 1
    else if nat_le n 65537 then 2
    else if nat_le n (2 ^ 32 + 3) then 4
    else 8

-- a length, encoded by the bytes at the end; at most the number of bytes before these
unfoldable pub len_at : List ℕ → ℕ × List ℕ
len_at bytes =
    let most = length bytes - length_size (length bytes) in
    ((range_at 0 most (drop most bytes)).0, take most bytes)
