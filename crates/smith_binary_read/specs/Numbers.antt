-- Readings of numbers.
use Rattle.std.specs.Prelude.{ℕ, zero, suc, ◌+◌, ◌-◌, ◌*◌, ◌^◌, List, [], ◌∷◌, length, Ok, nat_lt, nat_le, ◌&&◌}
use Rattle.std.specs.Prelude.{if◌then◌else◌, ℤ, pos, negsuc, ◌+ℤ◌, ◌*ℤ◌}
use Rattle.smith_binary_read.specs.declared.error.Fault.{Fault}
use Rattle.smith_binary_read.specs.declared.error.Reason.TheVariants.{UnexpectedEnd, IntegerTooLarge, IntegerTooLong}
use Rattle.smith_binary_read.specs.Readings.{Reading, ◌>>=◌, fault_at, byte_at, joined_at, mapped_at}

-- reads an unsigned integer of `bits` bits
unfoldable pub unsigned_at : ℕ → List ℕ → Reading ℕ
unsigned_at bits [] = fault_at UnexpectedEnd []
unsigned_at bits (byte ∷ bytes) =
    if nat_lt byte 128 then (if nat_lt byte (2 ^ bits) then Ok (byte, bytes) else fault_at IntegerTooLarge (byte ∷ bytes))
    else (if nat_lt 7 bits && nat_lt byte 256 then (unsigned_at (bits - 7) bytes >>= λ high. Ok (128 * high.0 + (byte - 128), high.1))
    else fault_at IntegerTooLong (byte ∷ bytes))

-- reads a signed integer of `bits` bits
unfoldable pub signed_at : ℕ → List ℕ → Reading ℤ
signed_at bits [] = fault_at UnexpectedEnd []
signed_at bits (byte ∷ bytes) =
    if nat_lt byte 64 then (if nat_lt byte (2 ^ (bits - 1)) then Ok (pos byte, bytes) else fault_at IntegerTooLarge (byte ∷ bytes))
    else (if nat_lt byte 128 then (if nat_le 128 (byte + 2 ^ (bits - 1)) then Ok (negsuc (127 - byte), bytes)
    else fault_at IntegerTooLarge (byte ∷ bytes))
    else (if nat_lt 7 bits && nat_lt byte 256 then
    (signed_at (bits - 7) bytes >>= λ high. Ok (pos 128 *ℤ high.0 +ℤ pos (byte - 128), high.1))
    else fault_at IntegerTooLong (byte ∷ bytes)))

-- the fault of an integer, at its first byte that is one: it is lacking, too large as the last byte,
-- or one too many
abbrev pub integer_fault : List ℕ → Fault
integer_fault [] = record { left = 0; reason = UnexpectedEnd }
integer_fault (byte ∷ bytes) = record {
  left = length (byte ∷ bytes);
  reason = if nat_lt byte 128 then IntegerTooLarge else IntegerTooLong;
}

-- reads a number of `count` bytes, the least significant first
unfoldable pub little_endian_at : ℕ → List ℕ → Reading ℕ
little_endian_at zero bytes = Ok (0, bytes)
little_endian_at (suc count) bytes = byte_at bytes >>= (λ low. little_endian_at count low.1 >>= (λ high. Ok (low.0 + 256 * high.0, high.1)))

-- the signed integer with these 128 bits
abbrev pub as_signed : ℕ → ℤ
as_signed n = if nat_lt n (2 ^ 127) then pos n else negsuc (2 ^ 128 - 1 - n)

-- reads 128 bits as a signed integer
unfoldable pub vector_at : List ℕ → Reading ℤ
vector_at bytes = mapped_at as_signed (little_endian_at 16) bytes

-- reads a lane index, a byte (Vector Instructions)
abbrev pub lane_at : List ℕ → Reading ℕ
lane_at [] = fault_at UnexpectedEnd []
lane_at (lane ∷ bytes) = Ok (lane, bytes)

-- reads two indices
abbrev pub two_at : List ℕ → Reading (ℕ × ℕ)
two_at = joined_at (λ first second. (first, second)) (unsigned_at 32) (unsigned_at 32)
