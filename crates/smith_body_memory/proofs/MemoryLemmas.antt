-- The pages of valid memories.
use Rattle.smith_body_memory.proofs.Common.{arith, Bool, get_or, length, List, MemoryType, None, Option, Some, true, ℕ, ◌-◌, ◌<◌, ◌≡◌, ◌≤◌}
use Rattle.std.proofs.Common.{false, inl, inr, ◌^◌, ◌⊎◌}
use Rattle.std.specs.Prelude.{IfSome, IsTrue, All, if◌then◌else◌}
use Rattle.smith_types.specs.Syntax.Features.{Features}
use Rattle.smith_types.specs.Entities.{IsMemoryValid, addresses, page_log2}

-- a page has at most 64 KiB
page_fits : (features : Features) (stated : Option ℕ)
    → IfSome stated (λ log2. ((log2 ≡ 0) ⊎ (log2 ≡ 16)) × IsTrue features.custom_page_sizes) → page_log2 stated ≤ 16
page_fits features None is = omega arith
page_fits features (Some log2) (is, custom) = elim is [
  | inl one ↦ omega arith
  | inr large ↦ omega arith
]

pub pages_fit : (features : Features) (memories : List MemoryType) (index : ℕ) (d : MemoryType) → All (IsMemoryValid features) memories
    → index < length memories → page_log2 (get_or memories index d).page_size_log2 ≤ 16
pages_fit features memories index d valid inside = page_fits features (get_or memories index d).page_size_log2
    (valid index d inside).page_size

-- an address of a memory is below the number of its addresses
pub address_fits : (wide : Bool) (offset : ℕ) → offset ≤ addresses wide - 1 → offset < (if wide then 2 ^ 64 else 2 ^ 32)
address_fits true offset last = omega arith
address_fits false offset last = omega arith
