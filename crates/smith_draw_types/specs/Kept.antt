-- Properties that a drawn type has if the type has them in whose place it is drawn.
use Rattle.std.specs.Prelude.{ℕ, ◌≤◌, IsTrue, List, length, All}
use Rattle.smith_types.specs.Syntax.Features.{Features}
use Rattle.smith_types.specs.ValidTypes.{IsValTypeValid, IsShareable, values_of_storage, values_of}
use Rattle.smith_draw_types.specs.Common.{FieldType, Func, FuncType, StorageType, SubType}

-- a type is shared only if that is enabled (own rule)
abbrev pub IsSharingEnabled : Features → SubType → Type 0
IsSharingEnabled features t = IsTrue t.composite_type.shared → IsTrue features.shared_everything_threads

-- for each end after these types, which are shared only if that is enabled: the drawn item is valid
-- if the other item is (own rule)
pub record StaysValid {A : Type 0} (IsValid : ℕ → A → Type 0) (features : Features) (types : List SubType) (ty drawn : A) : Type 0 where
  pub against : (end : ℕ) → length types ≤ end → All (IsSharingEnabled features) types → IsValid end ty → IsValid end drawn

-- the value type of a storage type, if it is not packed, is valid (Validation, Field Types)
abbrev pub IsStorageValid : Features → ℕ → StorageType → Type 0
IsStorageValid features end ty = All (IsValTypeValid features end) (values_of_storage ty)

-- the storage type of a field is valid (Validation, Field Types)
abbrev pub IsFieldValid : Features → ℕ → FieldType → Type 0
IsFieldValid features end field = IsStorageValid features end field.element_type

-- the value type of a storage type, if it is not packed, may occur in a shared type (own rule)
abbrev pub IsStorageShareable : List SubType → StorageType → Type 0
IsStorageShareable types ty = All (IsShareable types) (values_of_storage ty)

-- the parameters and results of a function may occur in a shared type (own rule)
abbrev pub IsFuncShareable : List SubType → FuncType → Type 0
IsFuncShareable types function = All (IsShareable types) (values_of (Func function))
