-- The numbers of pages that a drawn memory may have.
use Rattle.smith_draw_types.proofs.Common.{arith, Bool, cond, Config, false, inl, inr, IsSome, IsTrue, lit<, None, Option, refl, Some, suc}
use Rattle.smith_draw_types.proofs.Common.{true, zero, ℕ, ◌-◌, ◌<◌, ◌^◌, ◌||◌, ◌≡◌, ◌≤◌, ◌⊎◌}
use Rattle.std.proofs.Common.{max, min, ◌*◌, ◌/◌}
use Rattle.std.proofs.Math.Nat.{le-div_iff_mul-le, div-mul-le_self, mul-le-mul_right, pow-le-pow_right, one-le-pow}
use Rattle.std.specs.Prelude.{IfSome}
use Rattle.smith_types.specs.Entities.{AreLimitsValid, page_log2, addresses, most_pages}
use Rattle.smith_types.specs.Syntax.entity_type.MemoryType.{MemoryType}
use Rattle.smith_draw_types.specs.Callers.{PassesButImports}
use Rattle.smith_config.specs.EntityBounds.{memory_bytes, ArePagesWithin, IsMemoryWithin}
use Rattle.smith_draw_types.specs.Memories.{least_pages, drawn_pages}

quotient_le : (a b size : ℕ) → 0 < size → a ≤ b → a / size ≤ b / size
quotient_le a b size some le = let low = div-mul-le_self a size in (le-div_iff_mul-le some).1 (omega (arith, low))

pages_fit : (least bytes all size : ℕ) → 0 < size → size ≤ all → bytes ≤ all → least ≤ 1 → min (max least (bytes / size)) (all - 1) ≤ min
    (all / size) (all - 1)
pages_fit least bytes all size some fits le few =
    let more = quotient_le bytes all size some le in
    let one : 1 ≤ all / size = (le-div_iff_mul-le some).1 (omega arith) in
    omega (arith, more, one)

pages_kept : (traps : Bool) (quotient bytes all size : ℕ) → ((x : ℕ) → x ≤ quotient → x * size ≤ bytes)
    → (min (max (cond traps 1 0) quotient) (all - 1) * size ≤ bytes) ⊎ (IsTrue traps × (min (max (cond traps 1 0) quotient) (all - 1) ≤ 1))
pages_kept false quotient bytes all size within = inl (within (min (max 0 quotient) (all - 1)) (omega arith))
pages_kept true zero bytes all size within = inr (refl, omega arith)
pages_kept true (suc quotient) bytes all size within = inl (within (min (max 1 (suc quotient)) (all - 1)) (omega arith))

least_few : (traps : Bool) → cond traps 1 0 ≤ 1
least_few true = omega arith
least_few false = omega arith

bytes_fit : (config : Config) (memory64 : Bool) → PassesButImports config → memory_bytes config memory64 ≤ addresses memory64
bytes_fit config true passes = passes.1.memory64
bytes_fit config false passes = passes.1.memory32

size_fits : (memory64 : Bool) (log2 : ℕ) → log2 ≤ 16 → 2 ^ log2 ≤ addresses memory64
size_fits true log2 le = let small = pow-le-pow_right {n = 2} (lit< tt) le in omega (arith, small)
size_fits false log2 le = let small = pow-le-pow_right {n = 2} (lit< tt) le in omega (arith, small)

-- at most as many as a valid memory may have
pub drawn_pages_fit : (config : Config) (memory64 : Bool) (page_size : Option ℕ) → page_log2 page_size ≤ 16 → PassesButImports config
    → drawn_pages config memory64 page_size ≤ most_pages memory64 page_size
unfolding drawn_pages
drawn_pages_fit config memory64 page_size small passes =
    pages_fit (least_pages config) (memory_bytes config memory64) (addresses memory64) (2 ^ page_log2 page_size)
    (one-le-pow (page_log2 page_size) 2 (lit< tt))
    (size_fits memory64 (page_log2 page_size) small) (bytes_fit config memory64 passes) (least_few config.disallow_traps)

-- at most the configured bytes
pub drawn_pages_kept : (config : Config) (memory64 : Bool) (page_size : Option ℕ)
    → (drawn_pages config memory64 page_size * 2 ^ page_log2 page_size ≤ memory_bytes config memory64)
    ⊎ (IsTrue config.disallow_traps × (drawn_pages config memory64 page_size ≤ 1))
unfolding drawn_pages
drawn_pages_kept config memory64 page_size =
    let size = 2 ^ page_log2 page_size in
    pages_kept config.disallow_traps (memory_bytes config memory64 / size) (memory_bytes config memory64) (addresses memory64) size
    (λ x le. (le-div_iff_mul-le (one-le-pow (page_log2 page_size) 2 (lit< tt))).0 le)

fewer : (pages most size bytes : ℕ) (traps : Bool) → pages ≤ most → (most * size ≤ bytes) ⊎ (IsTrue traps × (most ≤ 1))
    → (pages * size ≤ bytes) ⊎ (IsTrue traps × (pages ≤ 1))
fewer pages most size bytes traps le (inl h) = let less = mul-le-mul_right size le in inl (omega (arith, less))
fewer pages most size bytes traps le (inr h) = inr (h.0, omega (arith, h.1))

-- fewer pages respect the bytes too
fewer_kept : (config : Config) (memory : MemoryType) (pages most : ℕ) → pages ≤ most → ArePagesWithin config memory most
    → ArePagesWithin config memory pages
fewer_kept config memory pages most le h = fewer pages most (2 ^ page_log2 memory.page_size_log2) (memory_bytes config memory.memory64)
    config.disallow_traps le h

-- limits within the drawn pages are valid
pub limits_fit : (most top minimum : ℕ) (maximum : Option ℕ) → most ≤ top → minimum ≤ most
    → IfSome maximum (λ n. (minimum ≤ n) × (n ≤ most)) → AreLimitsValid top minimum maximum
limits_fit most top minimum None le low high = record { minimum_fits = omega arith; maximum_fits = tt }
limits_fit most top minimum (Some n) le low (above, below) = record { minimum_fits = omega arith; maximum_fits = (above, omega arith) }

maximum_kept : (config : Config) (memory : MemoryType) (most : ℕ) (maximum : Option ℕ)
    → IfSome maximum (λ n. (memory.minimum ≤ n) × (n ≤ most)) → ArePagesWithin config memory most
    → IfSome maximum (ArePagesWithin config memory)
maximum_kept config memory most None h kept = tt
maximum_kept config memory most (Some n) h kept = fewer_kept config memory n most h.1 kept

-- limits within the drawn pages respect the configured bytes
pub limits_kept : (config : Config) (memory : MemoryType) (most : ℕ) → memory.minimum ≤ most
    → IfSome memory.maximum (λ n. (memory.minimum ≤ n) × (n ≤ most)) → ArePagesWithin config memory most
    → (IsTrue config.memory_max_size_required → IsSome memory.maximum) → IsMemoryWithin config memory
limits_kept config memory most low high kept required = record {
  minimum = fewer_kept config memory memory.minimum most low kept;
  maximum = maximum_kept config memory most memory.maximum high kept;
  required = required;
}

-- a maximum that either of two conditions requires
pub either_left : (a b : Bool) → IsTrue a → (a || b) ≡ true
either_left true b h = refl
either_left false b h = cc

pub either_right : (a b : Bool) → IsTrue b → (a || b) ≡ true
either_right true b h = refl
either_right false b h = h
