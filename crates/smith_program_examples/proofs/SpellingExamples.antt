-- Integers, types and sections as they are written.
use Rattle.smith_program_examples.proofs.Common.{[], ap, arith, length, List, refl, ℕ, ◌<◌, ◌∙◌, ◌∷◌, ◌≡◌, ◌≤◌}
use Rattle.std.proofs.Common.{length-append, ◌++◌, ◌+◌}
use Rattle.smith_binary.specs.Numbers.{IsUnsigned}
use Rattle.smith_binary.specs.Pieces.{Each, Joined, IsByte, IsListIn, IsSectionIn}
use Rattle.smith_binary.specs.Spelling.{IsPadded, Shortest}
use Rattle.smith_binary.specs.Spelling.Spelling.{written}
use Rattle.smith_binary.proofs.NumberLemmas.{byte_before, unsigned_last}
use Rattle.smith_types.specs.ExampleTypes.{final_type, plain_func}
use Rattle.smith_binary_sections.specs.Types.{IsRecGroupWrittenIn, IsValTypeIn}

-- a first piece, then a second
pub both : {First Second : List ℕ → Type 0} (first second : List ℕ) → First first → Second second → Joined First Second (first ++ second)
both first second one other = record { first = first; second = second; is_first = one; is_second = other; whole = refl }

pub length_joined : {First Second : List ℕ → Type 0} (piece : List ℕ) (joined : Joined First Second piece)
    → length piece ≡ length joined.first + length joined.second
length_joined piece joined = ap length joined.whole ∙ length-append joined.first joined.second

-- a spelling in as many bytes as are wanted
pub padded : (least bits n : ℕ) (piece : List ℕ) → IsUnsigned bits n piece → length piece ≡ least → Shortest (IsPadded least bits n) piece
padded least bits n piece is long = record {
  spelled = record { spelled = is; enough = omega (arith, long) };
  least = λ other h. let enough : least ≤ length other = h.enough in omega (arith, long, enough);
}

-- an integer of 32 bits in two bytes, and 5 in five and in six
pub in_two : (n : ℕ) → n < 128 → IsUnsigned 32 n ((n + 128) ∷ 0x00 ∷ [])
unfolding IsUnsigned
in_two n small = (0, (refl, omega arith, omega arith), omega arith, omega (arith, small), omega (arith, small), omega arith)

pub in_five : IsUnsigned 32 5 (0x85 ∷ 0x80 ∷ 0x80 ∷ 0x80 ∷ 0x00 ∷ [])
in_five =
    let last : IsUnsigned 4 0 (0x00 ∷ []) = (unsigned_last 4 0 (omega arith) (omega arith)).spelled in
    let fourth : IsUnsigned 11 0 (0x80 ∷ 0x00 ∷ []) = byte_before 11 0 (0x00 ∷ []) (omega arith) last in
    let third : IsUnsigned 18 0 (0x80 ∷ 0x80 ∷ 0x00 ∷ []) = byte_before 18 0 (0x80 ∷ 0x00 ∷ []) (omega arith) fourth in
    let second : IsUnsigned 25 0 (0x80 ∷ 0x80 ∷ 0x80 ∷ 0x00 ∷ []) = byte_before 25 0 (0x80 ∷ 0x80 ∷ 0x00 ∷ []) (omega arith) third in
    byte_before 32 5 (0x80 ∷ 0x80 ∷ 0x80 ∷ 0x00 ∷ []) (omega arith) second

pub in_five_of_more : IsUnsigned 64 5 (0x85 ∷ 0x80 ∷ 0x80 ∷ 0x80 ∷ 0x00 ∷ [])
in_five_of_more =
    let last : IsUnsigned 36 0 (0x00 ∷ []) = (unsigned_last 36 0 (omega arith) (omega arith)).spelled in
    let fourth : IsUnsigned 43 0 (0x80 ∷ 0x00 ∷ []) = byte_before 43 0 (0x00 ∷ []) (omega arith) last in
    let third : IsUnsigned 50 0 (0x80 ∷ 0x80 ∷ 0x00 ∷ []) = byte_before 50 0 (0x80 ∷ 0x00 ∷ []) (omega arith) fourth in
    let second : IsUnsigned 57 0 (0x80 ∷ 0x80 ∷ 0x80 ∷ 0x00 ∷ []) = byte_before 57 0 (0x80 ∷ 0x80 ∷ 0x00 ∷ []) (omega arith) third in
    byte_before 64 5 (0x80 ∷ 0x80 ∷ 0x80 ∷ 0x00 ∷ []) (omega arith) second

-- 2^14 in three bytes, which is the least
in_three : IsUnsigned 32 16384 (0x80 ∷ 0x80 ∷ 0x01 ∷ [])
in_three =
    let last : IsUnsigned 18 1 (0x01 ∷ []) = (unsigned_last 18 1 (omega arith) (omega arith)).spelled in
    let second : IsUnsigned 25 128 (0x80 ∷ 0x01 ∷ []) = byte_before 25 128 (0x01 ∷ []) (omega arith) last in
    byte_before 32 16384 (0x80 ∷ 0x01 ∷ []) (omega arith) second

needs_three : (piece : List ℕ) → IsPadded 2 32 16384 piece → 3 ≤ length piece
unfolding IsUnsigned
needs_three [] h = absurd h.spelled
needs_three (a ∷ []) h = let enough : 2 ≤ 1 = h.enough in omega (arith, enough)
needs_three (a ∷ b ∷ []) h =
    let (m, (is, low, fits), sum, high, byte, room) = h.spelled in
    omega (arith, is, low, sum, byte)
needs_three (a ∷ b ∷ c ∷ piece) h = omega arith

pub shortest_three : Shortest (IsPadded 2 32 16384) (0x80 ∷ 0x80 ∷ 0x01 ∷ [])
shortest_three = record { spelled = record { spelled = in_three; enough = omega arith }; least = needs_three }

-- the type section of a function type without parameters and results
none_in_two : {A : Type 0} (Item : A → List ℕ → Type 0) → IsListIn (written 2) Item [] (0x80 ∷ 0x00 ∷ [])
unfolding Each
none_in_two Item = both (0x80 ∷ 0x00 ∷ []) [] (padded 2 32 0 (0x80 ∷ 0x00 ∷ []) (in_two 0 (omega arith)) refl) refl

abbrev pub function_bytes : List ℕ
function_bytes = 0x60 ∷ 0x80 ∷ 0x00 ∷ 0x80 ∷ 0x00 ∷ []

group_in_two : IsRecGroupWrittenIn (written 2) (final_type plain_func ∷ []) function_bytes
group_in_two =
    let none = none_in_two (IsValTypeIn (written 2)) in
    let lists = both (0x80 ∷ 0x00 ∷ []) (0x80 ∷ 0x00 ∷ []) none none in
    both [] function_bytes refl (both (0x60 ∷ []) (0x80 ∷ 0x00 ∷ 0x80 ∷ 0x00 ∷ []) refl lists)

groups_in_two : IsListIn (written 2) (IsRecGroupWrittenIn (written 2)) ((final_type plain_func ∷ []) ∷ []) (0x81 ∷ 0x00 ∷ function_bytes)
unfolding Each
groups_in_two =
    let one = padded 2 32 1 (0x81 ∷ 0x00 ∷ []) (in_two 1 (omega arith)) refl in
    both (0x81 ∷ 0x00 ∷ []) function_bytes one (both function_bytes [] group_in_two refl)

pub types_in_two : IsSectionIn (written 2) 1 (IsListIn (written 2) (IsRecGroupWrittenIn (written 2)) ((final_type plain_func ∷ []) ∷ []))
    (0x01 ∷ 0x87 ∷ 0x00 ∷ 0x81 ∷ 0x00 ∷ function_bytes)
types_in_two =
    let content = 0x81 ∷ 0x00 ∷ function_bytes in
    let size = padded 2 32 7 (0x87 ∷ 0x00 ∷ []) (in_two 7 (omega arith)) refl in
    both (0x01 ∷ []) (0x87 ∷ 0x00 ∷ content) refl
    (record { content = content; is_content = groups_in_two; form = both (0x87 ∷ 0x00 ∷ []) content size refl })

-- a size and a length in one byte, where there are two at least
pub size_too_short : IsSectionIn (written 2) 1 (λ content. Unit {0}) (0x01 ∷ 0x00 ∷ []) → ⊥
size_too_short h =
    let whole : 2 ≡ length h.first + length h.second = length_joined (0x01 ∷ 0x00 ∷ []) h in
    let one : length h.first ≡ 1 = ap length h.is_first in
    let form = h.is_second.form in
    let size : length h.second ≡ length form.first + length form.second = length_joined h.second form in
    let enough : 2 ≤ length form.first = form.is_first.spelled.enough in
    omega (arith, whole, one, size, enough)

pub length_too_short : IsListIn (written 2) IsByte [] (0x00 ∷ []) → ⊥
length_too_short h =
    let whole : 1 ≡ length h.first + length h.second = length_joined (0x00 ∷ []) h in
    let enough : 2 ≤ length h.first = h.is_first.spelled.enough in
    omega (arith, whole, enough)
