-- Custom sections of few bytes fit the format.
use Rattle.std.proofs.Common.{◌≡◌, ℕ, ◌+◌, ◌-◌, ◌*◌, ◌≤◌, inl, inr, List, [], ◌∷◌, length, refl, ap, ◌∙◌, subst, arith, length-append}
use Rattle.std.specs.Prelude.{All, Any}
use Rattle.smith_binary.specs.Faults.{IsFault}
use Rattle.smith_binary.specs.declared.error.EncodeError.{EncodeError}
use Rattle.smith_binary.specs.declared.error.EncodeError.TheVariants.{Memory, TooLong}
use Rattle.smith_binary.specs.Numbers.{IsUnsigned}
use Rattle.smith_binary.specs.Pieces.{Is, IsByte, Joined, Each, IsName}
use Rattle.smith_custom_sections.specs.declared.custom_section.CustomSection.{CustomSection}
use Rattle.smith_custom_sections.specs.CustomDraws.{IsShort}
use Rattle.smith_custom_sections.specs.CustomSections.{IsLongCustom}

-- a number takes a byte for each seven bits
unsigned_short : (k bits n : ℕ) (piece : List ℕ) → bits ≤ 7 * k → IsUnsigned bits n piece → length piece ≤ k + 1
unfolding IsUnsigned
unsigned_short k bits n [] fits h = absurd h
unsigned_short k bits n (byte ∷ []) fits h = omega arith
unsigned_short k bits n (byte ∷ next ∷ piece) fits h =
    let rest : length (next ∷ piece) ≤ (k - 1) + 1 = unsigned_short (k - 1) (bits - 7) h.0 (next ∷ piece) (omega arith) h.1 in
    omega arith

bytes_long : (bytes piece : List ℕ) → Each IsByte bytes piece → length piece ≡ length bytes
unfolding Each
bytes_long [] piece h = ap length h
bytes_long (byte ∷ bytes) piece h =
    let rest = bytes_long bytes h.second h.is_second in
    rw (h.whole, h.is_first) (omega (arith, rest))

-- such a content is short
content_short : (custom : CustomSection) (piece : List ℕ) → IsShort custom → Joined (IsName custom.name) (Is custom.bytes) piece
    → length piece ≤ 1106
content_short custom piece short h =
    let name = h.is_first.form in
    let count = unsigned_short 5 32 (length custom.name) name.first (omega arith) name.is_first in
    let text = bytes_long custom.name name.second name.is_second in
    let front = ap length name.whole ∙ length-append name.first name.second in
    let all = ap length h.whole ∙ length-append h.first h.second in
    let back = ap length h.is_second in
    omega (arith, count, text, front, all, back, short.name, short.bytes)

fits : (custom : CustomSection) → IsShort custom → IsLongCustom custom → ⊥
fits custom short (inl long) = omega (arith, short.name, long)
fits custom short (inr long) = omega (arith, content_short custom long.piece short long.spelled, long.long)

pub all_fit : (customs : List CustomSection) → All IsShort customs → Any IsLongCustom customs → ⊥
all_fit customs short long = fits long.1 (subst IsShort long.3 (short long.0 long.1 long.2)) long.4

-- a fault of what is never too long
pub only_memory : {IsLong : Type 0} (e : EncodeError) → (IsLong → ⊥) → IsFault IsLong e → e ≡ Memory
only_memory Memory never h = refl
only_memory TooLong never h = absurd (never h)
