-- A drawn configuration passes the check.
use Rattle.std.proofs.Common.{◌≡◌, ℕ, ◌≤◌, ◌^◌, List, Bool, true, false, min, arith, refl, if◌then◌else◌}
use Rattle.smith_bytes.specs.Draws.{range_at}
use Rattle.smith_bytes.specs.declared.error.Count.{Count}
use Rattle.smith_bytes.specs.declared.error.Count.TheVariants.{Types, Memories, Tables}
use Rattle.smith_bytes.proofs.DrawnLemmas.{range_within}
use Rattle.smith_config.specs.Arbitrary.{config_at, maximums_at, sizes_at, proposals_at, instruction_kinds_at, rules_at}
use Rattle.smith_config.specs.Faults.{Passes, minimum_of, maximum_of}

few : (most : ℕ) (bytes : List ℕ) → most ≤ 1000 → (range_at 0 most bytes).0 ≤ 2 ^ 31
few most bytes small = let le = range_within 0 most bytes (omega arith) in omega arith

few_tables : (wanted : Bool) (bytes : List ℕ)
    → (if wanted then (range_at 0 100 bytes).0 else min (range_at 0 100 bytes).0 1) ≤ 2 ^ 31
few_tables true bytes = few 100 bytes (omega arith)
few_tables false bytes = omega arith

no_minimum : (bytes : List ℕ) (count : Count) → minimum_of (config_at bytes).0 count ≡ 0
unfolding config_at maximums_at sizes_at proposals_at instruction_kinds_at rules_at
no_minimum bytes Types = refl
no_minimum bytes count = refl

small_maximum : (bytes : List ℕ) (count : Count) → maximum_of (config_at bytes).0 count ≤ 2 ^ 31
unfolding config_at maximums_at sizes_at proposals_at instruction_kinds_at rules_at
small_maximum bytes Tables = few_tables _ _
small_maximum bytes Memories = few 100 _ (omega arith)
small_maximum bytes count = few 1000 _ (omega arith)

small_memory32 : (bytes : List ℕ) → (config_at bytes).0.max_memory32_bytes ≤ 2 ^ 32
unfolding config_at maximums_at sizes_at proposals_at instruction_kinds_at rules_at
small_memory32 bytes = range_within 0 (2 ^ 32) _ (omega arith)

small_memory64 : (bytes : List ℕ) → (config_at bytes).0.max_memory64_bytes ≤ 2 ^ 64
unfolding config_at maximums_at sizes_at proposals_at instruction_kinds_at rules_at
small_memory64 bytes = range_within 0 (2 ^ 64) _ (omega arith)

pub config_at-passes : (bytes : List ℕ) → Passes (config_at bytes).0
config_at-passes bytes = record {
  ordered = λ count used. let zero = no_minimum bytes count in omega arith;
  few = small_maximum bytes;
  memory32 = small_memory32 bytes;
  memory64 = small_memory64 bytes;
}
