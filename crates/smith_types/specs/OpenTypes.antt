-- Valid types while a group is under construction. Type validation, in the section Validation,
-- Types, of the WebAssembly Core Specification 3.0.
use Rattle.std.specs.Prelude.{◌≡◌, ℕ, ◌≤◌, Some, length, slice_get, All}
use Rattle.smith_types.specs.Common.{Features, SubType}
use Rattle.smith_types.specs.GroupedTypes.{GroupedTypes}
use Rattle.smith_types.specs.Types.{IsOrderly, AreConsecutive, next_start}
use Rattle.smith_types.specs.ValidTypes.{IsTypeValid, IsGroupValid}

-- valid groups, then types that are valid in a group that ends at `end` (Validation, Recursive
-- Types)
pub record AreTypesOpen (features : Features) (end : ℕ) (space : GroupedTypes) : Type 0 where
  pub consecutive : AreConsecutive 0 space.groups
  pub within : next_start space.groups ≤ length space.types
  pub room : length space.types ≤ end
  pub orderly : IsOrderly space.types
  pub groups : All (IsGroupValid features space.types) space.groups
  pub following : (i : ℕ) (t : SubType) → next_start space.groups ≤ i → slice_get space.types i ≡ Some t
      → IsTypeValid features space.types end t
