-- From a source that starts with a piece that spells a type, this type is drawn, if it refers to
-- existing types that ground its references.
use Rattle.smith_draw_types.proofs.Common.{[], ap, Array, Bool, CompositeType, Config, Context, false, FieldType, Func, FuncType}
use Rattle.smith_draw_types.proofs.Common.{GroupedTypes, HeapType, IsInRange, IsOrderly, IsSanitized, List, Ref, RefType, SpellsSuch}
use Rattle.smith_draw_types.proofs.Common.{StorageType, Struct, StructType, subst, SubType, sym, true, ValType, values_of}
use Rattle.smith_draw_types.proofs.Common.{values_of_storage, ℕ, ◌∙◌, ◌≡◌}
use Rattle.std.specs.List.{All}
use Rattle.smith_bytes.specs.Takes.{Takes}
use Rattle.smith_bytes.proofs.SpelledLemmas.{takes_by}
use Rattle.smith_config.specs.Shapes.{space_of}
use Rattle.smith_draw_types.specs.ValueTypes.{heap_type_at, ref_type_at, val_type_at}
use Rattle.smith_draw_types.specs.FieldTypes.{storage_type_at, field_type_at}
use Rattle.smith_draw_types.specs.CompositeTypes.{func_type_at, struct_type_at, composite_type_at}
use Rattle.smith_draw_types.specs.SubTypes.{sub_type_at}
use Rattle.smith_draw_types.specs.RecGroups.{rec_group_at, types_at}
use Rattle.smith_draw_types.specs.Spelling.{IsRoot, SpellsSubType, SpellsAdded, SpellsSpace, SpellsHeapType, SpellsRefType, SpellsValType}
use Rattle.smith_draw_types.specs.Spelling.{SpellsStorage, SpellsField, SpellsFuncType, SpellsStructType, SpellsCompositeType, RefersTo}
use Rattle.smith_draw_types.proofs.SpelledValueLemmas.{readable, heap_type_read, ref_type_read, val_type_read}
use Rattle.smith_draw_types.proofs.SpelledTypeLemmas.{storage_read, field_read, func_type_read, struct_type_read, composite_type_read}
use Rattle.smith_draw_types.proofs.SpelledTypeLemmas.{inner_readable}
use Rattle.smith_draw_types.proofs.SpelledSubTypeLemmas.{sub_type_read, roots_orderly}
use Rattle.smith_draw_types.proofs.SpelledGroupLemmas.{group_read, types_read}

pub heap_type_taken : (config : Config) (types : List SubType) (must_share : Bool) (limit : ℕ) (old : List ℕ) (drawn : HeapType)
    (new : List ℕ) → must_share ≡ false → heap_type_at config types must_share limit old ≡ (drawn, new)
    → Takes (SpellsSuch (IsInRange types) (SpellsHeapType config limit)) old drawn new
heap_type_taken config types must_share limit old drawn new free made =
    takes_by (heap_type_at config types false limit) (λ ty piece after h. heap_type_read config types limit ty piece after h.holds
    h.spelled)
    (subst (λ (share : Bool). heap_type_at config types share limit old ≡ (drawn, new)) free made)

pub ref_type_taken : (config : Config) (context : Context) (same : context.features.custom_descriptors ≡ config.custom_descriptors_enabled)
    (must_share : Bool) (limit : ℕ) (old : List ℕ) (drawn : RefType) (new : List ℕ) → IsOrderly context.types → must_share ≡ false
    → ref_type_at config context must_share limit old ≡ (drawn, new)
    → Takes (SpellsSuch (λ (reference : RefType). RefersTo config context.types (Ref reference)) (SpellsRefType config limit)) old drawn new
ref_type_taken config context same must_share limit old drawn new orderly free made =
    takes_by (ref_type_at config context false limit) (λ ty piece after h. ref_type_read config context limit ty piece after
    (readable config context (Ref ty) same orderly h.holds) h.spelled)
    (subst (λ (share : Bool). ref_type_at config context share limit old ≡ (drawn, new)) free made)

pub val_type_taken : (config : Config) (context : Context) (same : context.features.custom_descriptors ≡ config.custom_descriptors_enabled)
    (must_share : Bool) (limit : ℕ) (old : List ℕ) (drawn : ValType) (new : List ℕ) → IsOrderly context.types → must_share ≡ false
    → val_type_at config context must_share limit old ≡ (drawn, new)
    → Takes (SpellsSuch (RefersTo config context.types) (SpellsValType config limit)) old drawn new
val_type_taken config context same must_share limit old drawn new orderly free made =
    takes_by (val_type_at config context false limit) (λ ty piece after h. val_type_read config context limit ty piece after
    (readable config context ty same orderly h.holds) h.spelled)
    (subst (λ (share : Bool). val_type_at config context share limit old ≡ (drawn, new)) free made)

pub storage_type_taken : (config : Config) (context : Context) (same : context.features.custom_descriptors
    ≡ config.custom_descriptors_enabled) (must_share : Bool) (limit : ℕ) (old : List ℕ) (drawn : StorageType) (new : List ℕ)
    → IsOrderly context.types → must_share ≡ false → storage_type_at config context must_share limit old ≡ (drawn, new)
    → Takes (SpellsSuch (λ (storage : StorageType). All (RefersTo config context.types) (values_of_storage storage))
    (SpellsStorage config limit)) old drawn new
storage_type_taken config context same must_share limit old drawn new orderly free made =
    let storage_readable = λ (storage : StorageType). inner_readable config context
    (Array (record { 0 = record { element_type = storage; mutable = false } })) same orderly in
    takes_by (storage_type_at config context false limit) (λ ty piece after h. storage_read config context limit ty piece after
    (storage_readable ty h.holds) h.spelled)
    (subst (λ (share : Bool). storage_type_at config context share limit old ≡ (drawn, new)) free made)

pub field_type_taken : (config : Config) (context : Context) (same : context.features.custom_descriptors
    ≡ config.custom_descriptors_enabled) (must_share : Bool) (limit : ℕ) (old : List ℕ) (drawn : FieldType) (new : List ℕ)
    → IsOrderly context.types → must_share ≡ false → field_type_at config context must_share limit old ≡ (drawn, new)
    → Takes (SpellsSuch (λ (field : FieldType). All (RefersTo config context.types) (values_of_storage field.element_type))
    (SpellsField config limit)) old drawn new
field_type_taken config context same must_share limit old drawn new orderly free made =
    takes_by (field_type_at config context false limit) (λ ty piece after h. field_read config context limit ty piece after
    (inner_readable config context (Array (record { 0 = ty })) same orderly h.holds) h.spelled)
    (subst (λ (share : Bool). field_type_at config context share limit old ≡ (drawn, new)) free made)

pub func_type_taken : (config : Config) (context : Context) (same : context.features.custom_descriptors ≡ config.custom_descriptors_enabled)
    (must_share : Bool) (limit : ℕ) (old : List ℕ) (drawn : FuncType) (new : List ℕ) → IsOrderly context.types → must_share ≡ false
    → func_type_at config context must_share limit old ≡ (drawn, new)
    → Takes (SpellsSuch (λ (function : FuncType). All (RefersTo config context.types) (values_of (Func function)))
    (SpellsFuncType config limit)) old drawn new
func_type_taken config context same must_share limit old drawn new orderly free made =
    takes_by (func_type_at config context false limit) (λ ty piece after h. func_type_read config context limit ty piece after
    (inner_readable config context (Func ty) same orderly h.holds) h.spelled)
    (subst (λ (share : Bool). func_type_at config context share limit old ≡ (drawn, new)) free made)

pub struct_type_taken : (config : Config) (context : Context) (same : context.features.custom_descriptors
    ≡ config.custom_descriptors_enabled) (must_share : Bool) (limit : ℕ) (old : List ℕ) (drawn : StructType) (new : List ℕ)
    → IsOrderly context.types → must_share ≡ false → struct_type_at config context must_share limit old ≡ (drawn, new)
    → Takes (SpellsSuch (λ (structure : StructType). All (RefersTo config context.types) (values_of (Struct structure)))
    (SpellsStructType config limit)) old drawn new
struct_type_taken config context same must_share limit old drawn new orderly free made =
    takes_by (struct_type_at config context false limit) (λ ty piece after h. struct_type_read config context limit ty piece after
    (inner_readable config context (Struct ty) same orderly h.holds) h.spelled)
    (subst (λ (share : Bool). struct_type_at config context share limit old ≡ (drawn, new)) free made)

pub composite_type_taken : (config : Config) (context : Context) (same : context.features.custom_descriptors
    ≡ config.custom_descriptors_enabled) (limit : ℕ) (old : List ℕ) (drawn : CompositeType) (new : List ℕ) → IsOrderly context.types
    → composite_type_at config context limit old ≡ (drawn, new)
    → Takes (SpellsSuch (λ (composite : CompositeType). All (RefersTo config context.types) (values_of composite.inner))
    (SpellsCompositeType config limit)) old drawn new
composite_type_taken config context same limit old drawn new orderly made =
    takes_by (composite_type_at config context limit) (λ composite piece after h. composite_type_read config context limit composite piece
    after (inner_readable config context composite.inner same orderly h.holds) h.spelled) made

pub sub_type_taken : (config : Config) (context : Context) (same : context.features.custom_descriptors ≡ config.custom_descriptors_enabled)
    (limit : ℕ) (old : List ℕ) (drawn : SubType) (new : List ℕ) → IsSanitized config → All IsRoot context.types
    → sub_type_at config context limit old ≡ (drawn, new)
    → Takes (SpellsSuch (λ (t : SubType). All (RefersTo config context.types) (values_of t.composite_type.inner))
    (SpellsSubType config context.types limit)) old drawn new
sub_type_taken config context same limit old drawn new sanitized roots made =
    let held = λ (t : SubType). inner_readable config context t.composite_type.inner same (roots_orderly context.types roots) in
    takes_by (sub_type_at config context limit) (λ t piece after h. sub_type_read config context limit t piece after sanitized roots
    (held t h.holds) h.spelled) made

pub rec_group_taken : (config : Config) (context : Context) (same : context.features.custom_descriptors ≡ config.custom_descriptors_enabled)
    (allow_empty : Bool) (space : GroupedTypes) (old : List ℕ) (drawn : GroupedTypes) (new : List ℕ) → IsSanitized config
    → allow_empty ≡ true → All IsRoot space.types
    → rec_group_at config context allow_empty space old ≡ (drawn, new) → Takes (SpellsAdded config space) old drawn new
rec_group_taken config context same allow_empty space old drawn new sanitized may roots made =
    takes_by (rec_group_at config context true space)
    (λ more piece after h. (group_read config context same space h.added piece after sanitized roots h.back h.spelled).made
    ∙ ap (λ (space : GroupedTypes). (space, after)) (sym h.is_after))
    (subst (λ (may : Bool). rec_group_at config context may space old ≡ (drawn, new)) may made)

pub types_taken : (config : Config) (context : Context) (same : context.features.custom_descriptors ≡ config.custom_descriptors_enabled)
    (space : GroupedTypes) (old : List ℕ) (drawn : GroupedTypes) (new : List ℕ) → IsSanitized config → config.min_types ≡ 0
    → space ≡ space_of []
    → types_at config context space old ≡ (drawn, new) → Takes (SpellsSpace config) old drawn new
types_taken config context same space old drawn new sanitized least empty made =
    takes_by (types_at config context (space_of []))
    (λ more piece after h. types_read config context same h.parts piece after sanitized least h.fit h.spelled
    ∙ ap (λ (space : GroupedTypes). (space, after)) (sym h.is_of))
    (subst (λ (from : GroupedTypes). types_at config context from old ≡ (drawn, new)) empty made)
