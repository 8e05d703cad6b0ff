-- Matching of storage, field and composite types. Sections are those of the WebAssembly Core
-- Specification 3.0. Subtyping of value types follows the own rules of `Subtyping`.
use Rattle.std.specs.Prelude.{◌≡◌, IsTrue, List, [], ◌∷◌, All}
use Rattle.smith_types.specs.Common.{Array, CompositeInnerType, FieldType, Func, FuncType, I16, I8, StorageType, Struct, SubType, Val}
use Rattle.smith_types.specs.Common.{ValType}
use Rattle.smith_syntax.specs.declared.composite_type.CompositeType.{CompositeType}
use Rattle.smith_types.specs.Subtyping.{IsValBelow, IsValInRange}

-- one storage type matches another: a packed type matches only itself (Validation, Matching, Field
-- Types)
abbrev pub IsStorageMatch : List SubType → StorageType → StorageType → Type 0
IsStorageMatch types I8 I8 = Unit {0}
IsStorageMatch types I16 I16 = Unit {0}
IsStorageMatch types (Val a) (Val b) = IsValBelow types a b
IsStorageMatch types _ _ = ⊥

-- one field type matches another: mutability is the same, and storage types match, for mutable
-- fields in both directions (Validation, Matching, Field Types)
pub record IsFieldMatch (types : List SubType) (f g : FieldType) : Type 0 where
  pub same : f.mutable ≡ g.mutable
  pub below : IsStorageMatch types f.element_type g.element_type
  pub above : IsTrue g.mutable → IsStorageMatch types g.element_type f.element_type

-- the first struct has at least the fields of the second, and its fields match them in order
-- (Validation, Matching, Composite Types)
abbrev pub AreFieldsMatched : List SubType → List FieldType → List FieldType → Type 0
AreFieldsMatched types fs [] = Unit {0}
AreFieldsMatched types [] (g ∷ gs) = ⊥
AreFieldsMatched types (f ∷ fs) (g ∷ gs) = IsFieldMatch types f g × AreFieldsMatched types fs gs

-- the lists have the same length, and each type of the first is a subtype of its counterpart in the
-- second (Validation, Matching, Result Types)
abbrev pub AreBelow : List SubType → List ValType → List ValType → Type 0
AreBelow types [] [] = Unit {0}
AreBelow types (a ∷ as') (b ∷ bs) = IsValBelow types a b × AreBelow types as' bs
AreBelow types _ _ = ⊥

-- one function type matches another: parameters are contravariant, results covariant (Validation,
-- Matching, Composite Types)
pub record IsFuncMatch (types : List SubType) (f g : FuncType) : Type 0 where
  pub params : AreBelow types g.params f.params
  pub results : AreBelow types f.results g.results

-- a composite type matches another of the same kind (Validation, Matching, Composite Types)
abbrev pub IsInnerMatch : List SubType → CompositeInnerType → CompositeInnerType → Type 0
IsInnerMatch types (Array a) (Array b) = IsFieldMatch types a.0 b.0
IsInnerMatch types (Func f) (Func g) = IsFuncMatch types f g
IsInnerMatch types (Struct s) (Struct r) = AreFieldsMatched types s.fields r.fields
IsInnerMatch types _ _ = ⊥

-- one composite type matches another (Validation, Matching, Composite Types); both are shared or
-- neither is (own rule)
pub record IsCompositeMatch (types : List SubType) (a b : CompositeType) : Type 0 where
  pub inner : IsInnerMatch types a.inner b.inner
  pub shared : a.shared ≡ b.shared

-- the type that a storage type refers to exists (own rule)
abbrev pub IsStorageInRange : List SubType → StorageType → Type 0
IsStorageInRange types (Val v) = IsValInRange types v
IsStorageInRange types _ = Unit {0}

-- the type that a field refers to exists (own rule)
abbrev pub IsFieldInRange : List SubType → FieldType → Type 0
IsFieldInRange types f = IsStorageInRange types f.element_type

-- the types that parameters and results refer to exist (own rule)
pub record IsFuncInRange (types : List SubType) (f : FuncType) : Type 0 where
  pub params : All (IsValInRange types) f.params
  pub results : All (IsValInRange types) f.results

-- the types that a composite type refers to exist (own rule)
abbrev pub IsInnerInRange : List SubType → CompositeInnerType → Type 0
IsInnerInRange types (Array a) = IsFieldInRange types a.0
IsInnerInRange types (Func f) = IsFuncInRange types f
IsInnerInRange types (Struct s) = All (IsFieldInRange types) s.fields
