-- Entities that name no type of their own list are valid over other types.
use Rattle.smith_draw_definitions.proofs.Common.{[], All, AreTypesValid, Concrete, EntitySpaces, Exact, false, Features}
use Rattle.smith_draw_definitions.proofs.Common.{get_or_from_slice_get, GlobalType, GroupedTypes, IsGlobalValid, IsTableValid, length, List}
use Rattle.smith_draw_definitions.proofs.Common.{Ref, slice_get, slice_get_within, Some, subst, SubType, sym, TableType, ValType, ℕ, ◌++◌}
use Rattle.smith_draw_definitions.proofs.Common.{◌+◌, ◌∙◌, ◌∷◌, ◌≡◌}
use Rattle.smith_types.specs.Types.{next_group}
use Rattle.smith_types.specs.ValidTypes.{IsHeapTypeValid, IsRefTypeValid, IsTypeValid, IsValTypeValid, values_of}
use Rattle.smith_types.specs.Syntax.value_type.HeapType.{HeapType}
use Rattle.smith_types.specs.Syntax.value_type.HeapType.TheVariants.{Abstract}
use Rattle.smith_types.specs.Syntax.value_type.RefType.{RefType}
use Rattle.smith_types.specs.Syntax.value_type.ValType.TheVariants.{F32, F64, I32, I64, V128}
use Rattle.smith_validity.proofs.HeldValueLemmas.{all_values_apart}
use Rattle.smith_types.proofs.SpaceLemmas.{IsOrderly-push}
use Rattle.smith_types.proofs.ValidityLemmas.{AreTypesValid-at, AreTypesValid-single}
use Rattle.smith_config.specs.Shapes.{IsHeapTypeIncluded, IsValTypeIncluded, IsNotConcrete, HasNoConcrete, IsTypePlain, IsNothingLeftOut}
use Rattle.smith_config.specs.Shapes.{ArePlain}

-- a property of each item of a list holds for the item at a place
pub all_at : {A : Type 0} (P : A → Type 0) (xs : List A) (i : ℕ) (x : A) → All P xs → slice_get xs i ≡ Some x → P x
all_at P xs i x all at = subst P (get_or_from_slice_get xs i x x at) (all i x (slice_get_within xs i x at))

module _ (features : Features) (end other : ℕ) where
  heap_moved : (heap : HeapType) → IsHeapTypeIncluded heap → IsNotConcrete heap → IsHeapTypeValid features end heap
      → IsHeapTypeValid features other heap
  heap_moved (Abstract shared ty) included plain h = h
  heap_moved (Concrete index) included plain h = absurd plain
  heap_moved (Exact index) included plain h = absurd included

  reference_moved : (reference : RefType) → IsValTypeIncluded (Ref reference) → HasNoConcrete (Ref reference)
      → IsRefTypeValid features end reference → IsRefTypeValid features other reference
  reference_moved reference included plain h = record {
    heap_type = heap_moved reference.heap_type included plain h.heap_type;
    nullable = h.nullable;
  }

  value_moved : (value : ValType) → IsValTypeIncluded value → HasNoConcrete value → IsValTypeValid features end value
      → IsValTypeValid features other value
  value_moved I32 included plain h = h
  value_moved I64 included plain h = h
  value_moved F32 included plain h = h
  value_moved F64 included plain h = h
  value_moved V128 included plain h = h
  value_moved (Ref reference) included plain h = (h.0, reference_moved reference included plain h.1)

-- the types and the entities of a plain shape, without the parts that are left out
module _ (features : Features) (space : GroupedTypes) (spaces : EntitySpaces) (plain : ArePlain space.types spaces)
    (included : IsNothingLeftOut space.types spaces) where
  pub table_over : (others : List SubType) (index : ℕ) (table : TableType) → slice_get spaces.tables index ≡ Some table
      → IsTableValid features space.types table → IsTableValid features others table
  table_over others index table at h =
      let value = λ (one : TableType). Ref one.element_type in
      let inside = all_at (λ (one : TableType). IsValTypeIncluded (value one)) spaces.tables index table
      (all_values_apart IsValTypeIncluded space.types spaces included.values).1 at in
      let simple = all_at (λ (one : TableType). HasNoConcrete (value one)) spaces.tables index table
      (all_values_apart HasNoConcrete space.types spaces plain.values).1 at in
      let alone : table.shared ≡ false = all_at (λ (one : TableType). one.shared ≡ false) spaces.tables index table included.tables at in
      record {
        limits = h.limits;
        element = reference_moved features (length space.types) (length others) table.element_type inside simple h.element;
        element_enabled = h.element_enabled;
        table64 = h.table64;
        shared = λ shared. absurd (cc (sym shared ∙ alone));
      }

  pub global_over : (others : List SubType) (index : ℕ) (global : GlobalType) → slice_get spaces.globals index ≡ Some global
      → IsGlobalValid features space.types global → IsGlobalValid features others global
  global_over others index global at h =
      let inside = all_at (λ (one : GlobalType). IsValTypeIncluded one.val_type) spaces.globals index global
      (all_values_apart IsValTypeIncluded space.types spaces included.values).2 at in
      let simple = all_at (λ (one : GlobalType). HasNoConcrete one.val_type) spaces.globals index global
      (all_values_apart HasNoConcrete space.types spaces plain.values).2 at in
      let alone : global.shared ≡ false = all_at (λ (one : GlobalType). one.shared ≡ false) spaces.globals index global included.globals
      at in
      record {
        value = value_moved features (length space.types) (length others) global.val_type inside simple h.value;
        shared = λ shared. absurd (cc (sym shared ∙ alone));
      }

  -- a type of a plain shape is valid after other types
  type_over : (others : List SubType) (end index : ℕ) (t : SubType) → slice_get space.types index ≡ Some t → AreTypesValid features space
      → IsTypeValid features others end t
  type_over others end index t at valid =
      let (last, h) = AreTypesValid-at features space valid index t at in
      let one = all_at IsTypePlain space.types index t plain.types at in
      let inside = all_at (λ (each : SubType). All IsValTypeIncluded (values_of each.composite_type.inner)) space.types index t
      (all_values_apart IsValTypeIncluded space.types spaces included.values).0 at in
      let simple = all_at (λ (each : SubType). All HasNoConcrete (values_of each.composite_type.inner)) space.types index t
      (all_values_apart HasNoConcrete space.types spaces plain.values).0 at in
      let alone : t.composite_type.shared ≡ false = all_at (λ (each : SubType). each.composite_type.shared ≡ false) space.types index t
      included.types at in
      record {
        enabled = h.enabled;
        values = λ k d below. value_moved features last end _ (inside k d below) (simple k d below) (h.values k d below);
        declared = λ s up. absurd (cc (sym up ∙ one.root));
        shareable = λ shared. absurd (cc (sym shared ∙ alone));
      }

  -- types stay valid with such a type after them, in a group of its own
  pub types_over_valid : (ours : GroupedTypes) (index : ℕ) (t : SubType) → slice_get space.types index ≡ Some t
      → AreTypesValid features space → AreTypesValid features ours
      → AreTypesValid features (record {
        types = ours.types ++ t ∷ [];
        groups = ours.groups ++ next_group (ours.types ++ t ∷ []) ours.groups
            ∷ [];
      })
  types_over_valid ours index t at valid now =
      let one = all_at IsTypePlain space.types index t plain.types at in
      AreTypesValid-single features ours.types ours.groups t
      (IsOrderly-push ours.types t now.orderly (λ s up. absurd (cc (sym up ∙ one.root)))) now
      (type_over (ours.types ++ t ∷ []) (length ours.types + 1) index t at valid)
