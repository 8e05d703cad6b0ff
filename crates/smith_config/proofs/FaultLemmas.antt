-- A configuration that passes has no fault, and one without faults passes.
use Rattle.std.proofs.Common.{◌≡◌, ℕ, ◌+◌, ◌<◌, ◌≤◌, ◌^◌, take, drop, get_or, arith, subst, refl, suc}
use Rattle.std.proofs.Math.Seq.{split_at}
use Rattle.std.specs.List.{All, AllByRecursion as Each}
use Rattle.smith_bytes.specs.declared.error.Count.{Count}
use Rattle.smith_bytes.specs.declared.error.Count.TheVariants.{
  Types,
  Imports,
  Tags,
  Funcs,
  Globals,
  Exports,
  ElementSegments,
  Elements,
  DataSegments,
  Memories,
  Tables,
}
use Rattle.smith_bytes.specs.declared.error.ConfigFault.{ConfigFault}
use Rattle.smith_bytes.specs.declared.error.ConfigFault.TheVariants.{
  MinAboveMax,
  MaxTooLarge,
  Memory32Bytes,
  Memory64Bytes,
}
use Rattle.smith_config.specs.declared.config.Config.{Config}
use Rattle.smith_config.specs.Decided.{AreBoundsInOrder}
use Rattle.smith_config.specs.Faults.{minimum_of, maximum_of, BoundsApply, HasFault, IsFirstFault, Passes, counts, faults}

pub no_fault : (config : Config) → Passes config → (fault : ConfigFault) → ¬ HasFault config fault
no_fault config p (MinAboveMax count) h = let le = p.ordered count h.0 in omega arith
no_fault config p (MaxTooLarge count) h = let le = p.few count in omega arith
no_fault config p Memory32Bytes h = let le = p.memory32 in omega arith
no_fault config p Memory64Bytes h = let le = p.memory64 in omega arith

-- the position of a count among the counts
abbrev place_of : Count → ℕ
place_of Types = 0
place_of Imports = 1
place_of Tags = 2
place_of Funcs = 3
place_of Globals = 4
place_of Exports = 5
place_of ElementSegments = 6
place_of Elements = 7
place_of DataSegments = 8
place_of Memories = 9
place_of Tables = 10

listed_pair : (count : Count) → get_or faults (place_of count) Memory32Bytes ≡ MinAboveMax count
listed_pair Types = refl
listed_pair count = refl

listed_most : (count : Count) → get_or faults (11 + place_of count) Memory32Bytes ≡ MaxTooLarge count
listed_most Types = refl
listed_most count = refl

place_of-lt : (count : Count) → place_of count < 11
place_of-lt Types = omega arith
place_of-lt count = omega arith

pub passes-no_fault : (config : Config) → All (λ fault. ¬ HasFault config fault) faults → Passes config
passes-no_fault config none =
    let free : (i : ℕ) (fault : ConfigFault) → get_or faults i Memory32Bytes ≡ fault → i < 24 → ¬ HasFault config fault =
    λ i fault e lt. subst (λ f. ¬ HasFault config f) e (none i Memory32Bytes lt) in
    record {
      ordered = λ count used.
          let h = free (place_of count) (MinAboveMax count) (listed_pair count) (omega (arith, place_of-lt count)) in
          let kept : ¬ (maximum_of config count < minimum_of config count) = λ above. h (used, above) in
          omega arith;
      few = λ count. let h = free (11 + place_of count) (MaxTooLarge count) (listed_most count) (omega (arith, place_of-lt count)) in
          omega arith;
      memory32 = let h = free 22 Memory32Bytes refl (omega arith) in omega arith;
      memory64 = let h = free 23 Memory64Bytes refl (omega arith) in omega arith;
    }

pub first_fault : (config : Config) (i : ℕ) (d : ConfigFault) → i < 24
    → All (λ other. ¬ HasFault config other) (take i faults) → HasFault config (get_or faults i d) → IsFirstFault config (get_or faults i d)
first_fault config i d lt none there = record {
  before = take i faults;
  after = drop (suc i) faults;
  order = split_at faults i d lt;
  earlier = none;
  there = there;
}

-- a property of each count in turn holds for all counts
of_each : (P : Count → Type 0) → Each P counts → (count : Count) → P count
of_each P h Types = h.0
of_each P h Imports = h.1.0
of_each P h Tags = h.1.1.0
of_each P h Funcs = h.1.1.1.0
of_each P h Globals = h.1.1.1.1.0
of_each P h Exports = h.1.1.1.1.1.0
of_each P h ElementSegments = h.1.1.1.1.1.1.0
of_each P h Elements = h.1.1.1.1.1.1.1.0
of_each P h DataSegments = h.1.1.1.1.1.1.1.1.0
of_each P h Memories = h.1.1.1.1.1.1.1.1.1.0
of_each P h Tables = h.1.1.1.1.1.1.1.1.1.1.0

each_of : (P : Count → Type 0) → ((count : Count) → P count) → Each P counts
each_of P h = (
  h Types,
  (
    h Imports,
    (
      h Tags,
      (
        h Funcs,
        (h Globals, (h Exports, (h ElementSegments, (h Elements, (h DataSegments, (h Memories, (h Tables, tt))))))),
      ),
    ),
  ),
)

pub in_order : (config : Config) (count : Count) → (BoundsApply config count → minimum_of config count ≤ maximum_of config count)
    → AreBoundsInOrder config count
in_order config count kept = record { kept = kept }

pub kept_in_order : (config : Config) (count : Count) → AreBoundsInOrder config count → BoundsApply config count
    → minimum_of config count ≤ maximum_of config count
kept_in_order config count ordered = ordered.kept

pub passes_by : (config : Config) → Each (AreBoundsInOrder config) counts
    → Each (λ count. maximum_of config count ≤ 2 ^ 31) counts
    × ((config.max_memory32_bytes ≤ 2 ^ 32) × (config.max_memory64_bytes ≤ 2 ^ 64)) → Passes config
passes_by config ordered few = record {
  ordered = λ count. (of_each (AreBoundsInOrder config) ordered count).kept;
  few = of_each _ few.0;
  memory32 = few.1.0;
  memory64 = few.1.1;
}

pub ordered_counts : (config : Config) → Passes config → Each (AreBoundsInOrder config) counts
ordered_counts config p = each_of (AreBoundsInOrder config) (λ count. record { kept = p.ordered count })

pub few_counts : (config : Config) → Passes config → Each (λ count. maximum_of config count ≤ 2 ^ 31) counts
    × ((config.max_memory32_bytes ≤ 2 ^ 32) × (config.max_memory64_bytes ≤ 2 ^ 64))
few_counts config p = (each_of _ p.few, (p.memory32, p.memory64))
