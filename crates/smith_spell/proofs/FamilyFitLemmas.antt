-- The types of a member of the family refer only to earlier types, and its groups fit.
use Rattle.smith_spell.proofs.Common.{[], Abstract, append_assoc, arith, Concrete, Config, length, length-append, List, refl, slice_get}
use Rattle.smith_spell.proofs.Common.{Some, subst, SubType, sym, ℕ, ◌++◌, ◌<◌, ◌∷◌, ◌≡◌, ◌≤◌}
use Rattle.std.proofs.Common.{inl, inr}
use Rattle.std.specs.List.{All, flat_map, AllByRecursion as ByRecursion}
use Rattle.std.proofs.Math.Seq.{take-append_seam}
use Rattle.std.proofs.lemmas.List.Elements.{All-weaker, recursion_from_All}
use Rattle.smith_validity.specs.Decided.{IsStored, AreHeld}
use Rattle.smith_types.specs.Subtyping.{IsInRange}
use Rattle.smith_types.specs.ValidTypes.{values_of}
use Rattle.smith_types.specs.Syntax.value_type.HeapType.{HeapType}
use Rattle.smith_types.specs.Syntax.value_type.HeapType.TheVariants.{Exact}
use Rattle.smith_types.specs.Syntax.value_type.ValType.{ValType}
use Rattle.smith_types.specs.Syntax.value_type.ValType.TheVariants.{I32, I64, F32, F64, V128, Ref}
use Rattle.smith_types.specs.Syntax.composite_type.StorageType.{StorageType}
use Rattle.smith_types.specs.Syntax.composite_type.StorageType.TheVariants.{I8, I16, Val}
use Rattle.smith_types.specs.Syntax.composite_type.FieldType.{FieldType}
use Rattle.smith_types.specs.Syntax.composite_type.CompositeInnerType.{CompositeInnerType}
use Rattle.smith_types.specs.Syntax.composite_type.CompositeInnerType.TheVariants.{Array, Func, Struct}
use Rattle.smith_validity.proofs.HeldValueLemmas.{values_from_held}
use Rattle.smith_draw_types.specs.Spelling.{RefersTo, ReferBack, GroupsFit}
use Rattle.smith_spell.specs.Family.{IsMemberHeapType, IsMemberValType, IsMemberStorage, IsMemberField, IsMemberInner, IsMemberType}
use Rattle.smith_spell.specs.Family.{IsInFamily}
use Rattle.smith_spell.specs.Written.{AreMembers}

heap_stands : (config : Config) (types : List SubType) (ty : HeapType) → IsMemberHeapType config types ty → IsInRange types ty
heap_stands config types (Abstract shared ty) h = tt
heap_stands config types (Concrete index) h = h.1
heap_stands config types (Exact index) h = absurd h

value_refers : (config : Config) (types : List SubType) (value : ValType) → IsMemberValType config types value → RefersTo config types value
value_refers config types I32 h = tt
value_refers config types I64 h = tt
value_refers config types F32 h = tt
value_refers config types F64 h = tt
value_refers config types V128 h = tt
value_refers config types (Ref reference) (enabled, h, granted) =
    (heap_stands config types reference.heap_type h, elim granted [ inl nullable ↦ inl nullable | inr grounded ↦ inr grounded.1 ])

storage_refers : (config : Config) (types : List SubType) (storage : StorageType) → IsMemberStorage config types storage
    → IsStored (RefersTo config types) storage
storage_refers config types I8 h = tt
storage_refers config types I16 h = tt
storage_refers config types (Val value) h = value_refers config types value h

inner_refers : (config : Config) (types : List SubType) (inner : CompositeInnerType) → IsMemberInner config types inner
    → AreHeld (RefersTo config types) inner
inner_refers config types (Array array) h = storage_refers config types array.0.element_type h.1
inner_refers config types (Func function) h = (
  All-weaker (IsMemberValType config types) (RefersTo config types) (value_refers config types) function.params h.params,
  All-weaker (IsMemberValType config types) (RefersTo config types) (value_refers config types) function.results h.results,
)
inner_refers config types (Struct structure) (gc, few, h) =
    All-weaker (IsMemberField config types) (λ (field : FieldType). IsStored (RefersTo config types) field.element_type)
    (λ field f. storage_refers config types field.element_type f) structure.fields h

type_refers : (config : Config) (types : List SubType) (t : SubType) → IsMemberType config types t
    → All (RefersTo config types) (values_of t.composite_type.inner)
type_refers config types t h = values_from_held (RefersTo config types) t.composite_type.inner
    (inner_refers config types t.composite_type.inner h.inner)

same_members : (config : Config) (types others : List SubType) → types ≡ others → AreMembers config others → AreMembers config types
same_members config types others same each = subst (AreMembers config) (sym same) each

at_seam : (before : List SubType) (t : SubType) (more : List SubType) → slice_get (before ++ t ∷ more) (length before) ≡ Some t
at_seam [] t more = refl
at_seam (b ∷ before) t more = at_seam before t more

refer_back : (config : Config) (before group more : List SubType) → AreMembers config (before ++ (group ++ more))
    → ReferBack config before group
refer_back config before [] more each = tt
refer_back config before (t ∷ group) more each = (
  type_refers config before t
      (subst (λ (list : List SubType). IsMemberType config list t) (take-append_seam before (t ∷ (group ++ more)))
      (each (length before) t (at_seam before t (group ++ more)))),
  refer_back config (before ++ t ∷ []) group more (same_members config ((before ++ t ∷ []) ++ (group ++ more))
      (before ++ t ∷ (group ++ more)) (append_assoc before (t ∷ []) (group ++ more)) each),
)

groups_fit : (config : Config) (before : List SubType) (groups : List (List SubType))
    → ByRecursion (λ (group : List SubType). 0 < length group) groups → length (before ++ flat_map (λ group. group) groups)
    ≤ config.max_types
    → AreMembers config (before ++ flat_map (λ group. group) groups) → GroupsFit config before groups
groups_fit config before [] filled few each = tt
groups_fit config before (group ∷ groups) filled few each =
    let more : List SubType = flat_map (λ group. group) groups in
    let same = append_assoc before group more in
    let all = length-append before (group ++ more) in
    let inner = length-append group more in
    let fewer : length ((before ++ group) ++ more) ≤ config.max_types = subst (λ (types : List SubType). length types ≤ config.max_types)
    (sym same) few in (
      filled.0,
      omega arith,
      refer_back config before group more each,
      groups_fit config (before ++ group) groups filled.1 fewer (same_members config ((before ++ group) ++ more) (before ++ (group ++ more))
          same each),
    )

pub family_fits : (config : Config) (groups : List (List SubType)) (funcs : List ℕ) → IsInFamily config groups funcs
    → GroupsFit config [] groups
family_fits config groups funcs h =
    groups_fit config [] groups (recursion_from_All (λ (group : List SubType). 0 < length group) groups h.filled) h.few_types h.each_type
