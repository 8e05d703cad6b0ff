-- Types that refer only to types that exist.
use Rattle.std.proofs.Common.{◌≡◌, ◌<◌, List, length, sym, subst, ◌∙◌, arith, get_or}
use Rattle.std.specs.Prelude.{All}
use Rattle.std.proofs.lemmas.List.Elements.{All-weaker}
use Rattle.std.proofs.lemmas.Option.{slice_get-get_or, slice_get_within, same_Some}
use Rattle.smith_validity.proofs.HeldValueLemmas.{held_from_values, all_apart}
use Rattle.smith_types.specs.Syntax.Features.{Features}
use Rattle.smith_types.specs.GroupedTypes.{GroupedTypes}
use Rattle.smith_validity.specs.Decided.{IsStored, AreInRange}
use Rattle.smith_types.specs.Syntax.value_type.HeapType.{HeapType}
use Rattle.smith_types.specs.Syntax.value_type.HeapType.TheVariants.{Abstract, Concrete, Exact}
use Rattle.smith_types.specs.Syntax.value_type.ValType.TheVariants.{I32, I64, F32, F64, V128, Ref}
use Rattle.smith_types.proofs.GroupGrowthLemmas.{AreTypesOpen-at, AreTypesOpen-start}
use Rattle.smith_types.specs.ValidTypes.{values_of, IsHeapTypeValid, IsValTypeValid, AreTypesValid}
use Rattle.smith_types.specs.Subtyping.{IsValInRange, IsInRange}
use Rattle.smith_types.specs.Matching.{IsInnerInRange, IsStorageInRange, IsFieldInRange}
use Rattle.smith_types.specs.Syntax.value_type.ValType.{ValType}
use Rattle.smith_types.specs.Syntax.composite_type.StorageType.{StorageType}
use Rattle.smith_types.specs.Syntax.composite_type.StorageType.TheVariants.{I8, I16, Val}
use Rattle.smith_types.specs.Syntax.composite_type.FieldType.{FieldType}
use Rattle.smith_types.specs.Syntax.composite_type.SubType.{SubType}
use Rattle.smith_types.specs.Syntax.composite_type.CompositeInnerType.{CompositeInnerType}
use Rattle.smith_types.specs.Syntax.composite_type.CompositeInnerType.TheVariants.{Array, Func, Struct}

-- the types that a composite type refers to exist
stored_in_range : (types : List SubType) (storage : StorageType) → IsStored (IsValInRange types) storage → IsStorageInRange types storage
stored_in_range types I8 h = tt
stored_in_range types I16 h = tt
stored_in_range types (Val value) h = h

pub inner_in_range : (types : List SubType) (inner : CompositeInnerType) → All (IsValInRange types) (values_of inner)
    → IsInnerInRange types inner
inner_in_range types (Array array) h = stored_in_range types array.0.element_type (held_from_values (IsValInRange types) (Array array) h)
inner_in_range types (Func function) h = let apart = all_apart (IsValInRange types) function.params function.results h in
    record { params = apart.0; results = apart.1 }
inner_in_range types (Struct structure) h =
    All-weaker (λ (field : FieldType). IsStored (IsValInRange types) field.element_type) (IsFieldInRange types)
    (λ field. stored_in_range types field.element_type) structure.fields
    (held_from_values (IsValInRange types) (Struct structure) h)

-- types whose value types refer only to existing types do so themselves
pub all_in_range : (types : List SubType) → All (λ (t : SubType). All (IsValInRange types) (values_of t.composite_type.inner)) types
    → AreInRange types
all_in_range types all = record {
  each = λ i t at.
      let inside : i < length types = slice_get_within types i t at in
      let same : get_or types i t ≡ t = same_Some (get_or types i t) t (sym (slice_get-get_or types i t inside) ∙ at) in
      inner_in_range types t.composite_type.inner (subst (λ (t : SubType). All (IsValInRange types) (values_of t.composite_type.inner)) same
      (all i t inside));
}

pub value_in_range : (features : Features) (types : List SubType) (value : ValType) → IsValTypeValid features (length types) value
    → IsValInRange types value
value_in_range features types (Ref reference) h = heap_in_range reference.heap_type h.1.heap_type where
  heap_in_range : (heap : HeapType) → IsHeapTypeValid features (length types) heap → IsInRange types heap
  heap_in_range (Abstract shared ty) h = tt
  heap_in_range (Concrete index) h = h.1
  heap_in_range (Exact index) h = h.1
value_in_range features types I32 h = tt
value_in_range features types I64 h = tt
value_in_range features types F32 h = tt
value_in_range features types F64 h = tt
value_in_range features types V128 h = tt

-- the types of a valid space refer only to existing types
pub valid_in_range : (features : Features) (space : GroupedTypes) → AreTypesValid features space
    → All (λ (t : SubType). All (IsValInRange space.types) (values_of t.composite_type.inner)) space.types
valid_in_range features space valid i d inside =
    let t = get_or space.types i d in
    All-weaker (IsValTypeValid features (length space.types)) (IsValInRange space.types) (value_in_range features space.types)
    (values_of t.composite_type.inner)
    (AreTypesOpen-at features (length space.types) space (AreTypesOpen-start features (length space.types) space (omega arith) valid) i t
    (slice_get-get_or space.types i d inside)).values
