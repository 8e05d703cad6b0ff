-- Valid reference types are written in forms that are enabled.
use Rattle.smith_binary_program.proofs.Common.{[], All, All-cons, All-nil, All-same, All-weaker, BlockType, BodyContext, Bool, Code}
use Rattle.smith_binary_program.proofs.Common.{ElementSegment, false, Features, get_or, GlobalType, HasInstrType, inl, inr, Instr}
use Rattle.smith_binary_program.proofs.Common.{IsBlockType, IsBodyValid, IsElementSegmentValid, IsGlobalValid, IsTableValid, IsTrue}
use Rattle.smith_binary_program.proofs.Common.{IsValid, IsValTypeValid, length, List, module_features, ModuleParts, None, Ref, refl}
use Rattle.smith_binary_program.proofs.Common.{RefType, segment_context, slice_get-get_or, SubType, TableType, true, ValType, ℕ, ◌&&◌, ◌∷◌}
use Rattle.smith_binary_program.proofs.Common.{◌≡◌}
use Rattle.std.proofs.lemmas.Bool.{false≢true}
use Rattle.smith_types.specs.Syntax.value_type.HeapType.{HeapType}
use Rattle.smith_types.specs.Syntax.value_type.HeapType.TheVariants.{Abstract, Concrete, Exact}
use Rattle.smith_types.specs.Syntax.value_type.ValType.TheVariants.{F32, F64, I32, I64, V128}
use Rattle.smith_types.specs.ValidTypes.{IsHeapTypeValid, IsRefTypeValid, values_of}
use Rattle.smith_types.proofs.ValidityLemmas.{AreTypesValid-at}
use Rattle.smith_config.specs.declared.config.Config.{Config}
use Rattle.smith_config.specs.Features.{features_of}
use Rattle.smith_module_rules.specs.Module.{module_types, shown_config}
use Rattle.smith_binary_sections.specs.Types.{short_ref}
use Rattle.smith_instr.specs.declared.control.BlockType.TheVariants as block_type
use Rattle.smith_instr.specs.declared.instr.Instr.TheVariants as instr
use Rattle.smith_binary_program.specs.Forms.{AreValFormsEnabled, HasLongReferences, IsRefFormEnabled, IsValFormEnabled}
use Rattle.smith_binary_program.specs.Forms.{IsStatedEnabled, values_of_block}

-- what keeps a reference type from being an abstract heap type alone requires a feature
long_by : (features : Features) (end : ℕ) (nullable : Bool) (heap : HeapType) → IsHeapTypeValid features end heap
    → (nullable ≡ false → IsTrue features.function_references) → short_ref nullable heap ≡ None → HasLongReferences features
long_by features end false heap valid needs is = inr (inl (needs refl))
long_by features end true (Abstract false ty) valid needs is = absurd cc
long_by features end true (Abstract true ty) valid needs is = inr (inr (inr (valid.1 refl)))
long_by features end true (Concrete index) valid needs is = inl valid.0
long_by features end true (Exact index) valid needs is = inr (inr (inl valid.0))

ref_enabled : (features : Features) (end : ℕ) (reference : RefType) → IsRefTypeValid features end reference
    → IsRefFormEnabled features reference
ref_enabled features end reference valid = long_by features end reference.nullable reference.heap_type valid.heap_type valid.nullable

val_enabled : (features : Features) (end : ℕ) (value : ValType) → IsValTypeValid features end value → IsValFormEnabled features value
val_enabled features end I32 valid = tt
val_enabled features end I64 valid = tt
val_enabled features end F32 valid = tt
val_enabled features end F64 valid = tt
val_enabled features end V128 valid = tt
val_enabled features end (Ref reference) valid = ref_enabled features end reference valid.1

vals_enabled : (features : Features) (end : ℕ) (values : List ValType) → All (IsValTypeValid features end) values
    → AreValFormsEnabled features values
vals_enabled features end = All-weaker (IsValTypeValid features end) (IsValFormEnabled features) (val_enabled features end)

pub types_enabled : (m : ModuleParts) → IsValid m
    → All (λ (t : SubType). AreValFormsEnabled (module_features m) (values_of t.composite_type.inner)) m.types
types_enabled m valid k d within =
    let t = get_or m.types k d in
    let (end, is) = AreTypesValid-at (module_features m) (module_types m) valid.types k t (slice_get-get_or m.types k d within) in
    vals_enabled (module_features m) end (values_of t.composite_type.inner) is.values

pub tables_enabled : (m : ModuleParts) → IsValid m
    → All (λ (table : TableType). IsRefFormEnabled (module_features m) table.element_type) m.tables
tables_enabled m valid =
    All-weaker (IsTableValid (module_features m) m.types) (λ (table : TableType). IsRefFormEnabled (module_features m) table.element_type)
    (λ table h. ref_enabled (module_features m) (length m.types) table.element_type h.element) m.tables valid.entities.tables

pub globals_enabled : (m : ModuleParts) → IsValid m
    → All (λ (global : GlobalType). IsValFormEnabled (module_features m) global.val_type) m.globals
globals_enabled m valid =
    All-weaker (IsGlobalValid (module_features m) m.types) (λ (global : GlobalType). IsValFormEnabled (module_features m) global.val_type)
    (λ global h. val_enabled (module_features m) (length m.types) global.val_type h.value) m.globals valid.entities.globals

pub held_enabled : (m : ModuleParts) → IsValid m
    → All (λ (e : ElementSegment). IsRefFormEnabled (module_features m) e.ty) m.elems
held_enabled m valid =
    All-weaker (IsElementSegmentValid (segment_context m) m.tables) (λ (e : ElementSegment). IsRefFormEnabled (module_features m) e.ty)
    (λ e h. ref_enabled (module_features m) (length m.types) e.ty h.ty) m.elems valid.elems

pub locals_enabled : (m : ModuleParts) → IsValid m
    → All (λ (code : Code). AreValFormsEnabled (module_features m) code.locals) m.code
locals_enabled m valid =
    All-weaker (IsBodyValid (module_features m) (length m.types) m.config.allow_invalid_funcs)
    (λ (code : Code). AreValFormsEnabled (module_features m) code.locals)
    (λ code h. vals_enabled (module_features m) (length m.types) code.locals h.locals) m.code valid.bodies.bodies

-- a list of one value type
one_enabled : (features : Features) (end : ℕ) (value : ValType) → IsValTypeValid features end value
    → AreValFormsEnabled features (value ∷ [])
one_enabled features end value valid =
    All-cons (IsValFormEnabled features) value [] (val_enabled features end value valid) (All-nil (IsValFormEnabled features))

pub block_enabled : (context : BodyContext) (ty : BlockType) (params results : List ValType) → IsBlockType context ty params results
    → AreValFormsEnabled context.features (values_of_block ty)
block_enabled context block_type.Empty params results h = All-nil (IsValFormEnabled context.features)
block_enabled context (block_type.Func index) params results h = All-nil (IsValFormEnabled context.features)
block_enabled context (block_type.Value value) params results h = one_enabled context.features (length context.types) value h.0

pub instr_enabled : (context : BodyContext) (set : List ℕ) (x : Instr) (operands results : List ValType)
    → HasInstrType context set x operands results → IsStatedEnabled context.features x
instr_enabled context set (instr.SelectTyped values) operands results h =
    All-same (IsValFormEnabled context.features) values (h.0 ∷ []) h.1 (one_enabled context.features (length context.types) h.0 h.2)
instr_enabled context set (instr.Block ty) operands results h = absurd h
instr_enabled context set (instr.Loop ty) operands results h = absurd h
instr_enabled context set (instr.If ty) operands results h = absurd h
instr_enabled context set (instr.TryTable ty clauses) operands results h = absurd h
instr_enabled context set _ operands results h = All-nil (IsValFormEnabled context.features)

-- a conjunction whose first part is off is off
pub and_first : (a b : Bool) → IsTrue (a && b) → IsTrue a
and_first true b is = refl
and_first false b is = absurd (false≢true is)

-- each of these features is off in a configuration without garbage collection
pub long_references : (config : Config) → HasLongReferences (features_of (shown_config config))
    → IsTrue (features_of (shown_config config)).gc
long_references config (inl gc) = gc
long_references config (inr (inl functions)) = functions
long_references config (inr (inr (inl exact))) =
    and_first (config.reference_types_enabled && config.gc_enabled) config.custom_descriptors_enabled exact
long_references config (inr (inr (inr shared))) =
    let gc = config.reference_types_enabled && config.gc_enabled in
    and_first gc config.threads_enabled (and_first (gc && config.threads_enabled) config.shared_everything_threads_enabled shared)
