-- A type that no instructions produce without a budget is a reference to a barren heap type.
use Rattle.std.proofs.Common.{◌≡◌, ℕ, suc, ◌-◌, ◌<◌, ◌≤◌, Bool, true, false, List, [], ◌∷◌, length, Some, refl, arith}
use Rattle.std.specs.Prelude.{◌&&◌, ◌||◌, not, ◌^◌, IsTrue, pos, slice_get}
use Rattle.std.proofs.lemmas.Bool.{false≢true}
use Rattle.std.proofs.lemmas.Option.{slice_get_within}
use Rattle.smith_config.specs.declared.config.Config.{Config}
use Rattle.smith_types.specs.Expressions.{reference_to}
use Rattle.smith_types.specs.Syntax.Features.{Features}
use Rattle.smith_types.specs.Syntax.Instructions.{every_kind}
use Rattle.smith_types.specs.Subtyping.{IsBelow, IsValBelow, by_step, itself}
use Rattle.smith_types.specs.Syntax.composite_type.SubType.{SubType}
use Rattle.smith_types.specs.Syntax.value_type.AbstractHeapType.TheVariants as abstract
use Rattle.smith_types.specs.Syntax.value_type.HeapType.{HeapType}
use Rattle.smith_types.specs.Syntax.value_type.HeapType.TheVariants.{Abstract}
use Rattle.smith_types.specs.Syntax.value_type.RefType.{RefType}
use Rattle.smith_types.specs.Syntax.value_type.ValType.{ValType}
use Rattle.smith_types.specs.Syntax.value_type.ValType.TheVariants.{I32, I64, F32, F64, V128, Ref}
use Rattle.smith_instr.specs.Contexts.{BodyContext, IsValid, created_reference, nullable_to, reference_to_function}
use Rattle.smith_instr.specs.AggregateTypes.{external, internal}
use Rattle.smith_instr.specs.Enabled.{has_features, is_enabled, is_kind_enabled}
use Rattle.smith_instr.specs.InstrTypes.{sets, HasInstrType}
use Rattle.smith_instr.specs.declared.aggregate.AggregateInstr.TheVariants as aggregate
use Rattle.smith_instr.specs.declared.instr.Instr.{Instr}
use Rattle.smith_instr.specs.declared.instr.Instr.TheVariants as instr
use Rattle.smith_instr.specs.declared.reference.ReferenceInstr.TheVariants as reference
use Rattle.smith_body_nodes.specs.Scopes.{is_permitted, kinds_of_bodies}
use Rattle.smith_body_nodes.specs.Traps.{may_trap}
use Rattle.smith_body_leaves.specs.Laws.{HasNoOther, HasNoSingle, HasNoValue, IsNumber}
use Rattle.smith_body_law.specs.Barren.{IsSharingOn, IsBarren, IsBarrenReference}

or_true : (a : Bool) → (a || true) ≡ true
or_true true = refl
or_true false = refl

-- where bodies may have all kinds of instructions, one that has its features and doesn't trap is permitted
permitted : (features : Features) (config : Config) (instruction : Instr) → kinds_of_bodies config ≡ every_kind
    → has_features features instruction ≡ true → is_kind_enabled every_kind instruction ≡ true → may_trap instruction ≡ false
    → is_permitted features config instruction ≡ true
unfolding is_permitted is_enabled
permitted features config instruction every has kind calm = rw (every, has, kind, calm) (or_true (not config.disallow_traps))

-- a number of this type has a value of one instruction
numbered : (config : Config) (context : BodyContext) (set : List ℕ) (value : ValType) (instruction : Instr) → kinds_of_bodies config
    ≡ every_kind → has_features context.features instruction ≡ true → is_kind_enabled every_kind instruction ≡ true
    → may_trap instruction ≡ false
    → IsNumber instruction → HasInstrType context set instruction [] (value ∷ []) → IsValBelow context.types value value
    → sets instruction ≡ [] → ¬ HasNoSingle config context set value
numbered config context set value instruction every has kind calm number typed below sets_none none =
    none.no_number instruction number (
      permitted context.features config instruction every has kind calm,
      record { value = value; typed = typed; below = below; sets_none = sets_none },
    )

number_32 : (config : Config) (context : BodyContext) (set : List ℕ) → kinds_of_bodies config ≡ every_kind
    → ¬ HasNoSingle config context set I32
number_32 config context set every none = numbered config context set I32 (instr.I32Const (pos 0)) every refl refl refl tt (refl, refl) tt
    refl none

both_true : (a b : Bool) → a ≡ true → b ≡ true → (a && b) ≡ true
both_true true b p q = q
both_true false b p q = p

-- a non-nullable reference is below a reference type if its heap type is
non_null_below : (types : List SubType) (heap_type : HeapType) (to : RefType) → IsBelow types heap_type to.heap_type
    → IsValBelow types (reference_to heap_type) (Ref to)
non_null_below types heap_type to below = record { heap = below; nullable = λ is. absurd (false≢true is) }

-- what is below the non-nullable type is below the type
raised : (types : List SubType) (value : ValType) (to : RefType) → IsValBelow types value (reference_to to.heap_type)
    → IsValBelow types value (Ref to)
raised types (Ref value) to below = record { heap = below.heap; nullable = λ is. absurd (false≢true (below.nullable is)) }
raised types I32 to below = below
raised types I64 to below = below
raised types F32 to below = below
raised types F64 to below = below
raised types V128 to below = below

i31_below_any : (types : List SubType) (shared : Bool) → IsValBelow types (reference_to (Abstract shared abstract.I31))
    (internal shared false)
i31_below_any types shared = record {
  heap = by_step {b = Abstract shared abstract.Eq} (refl, refl) (by_step (refl, refl) itself);
  nullable = λ is. is;
}

-- an item of a list has an index
has_index : (types : List SubType) (index : ℕ) (t : SubType) → slice_get types index ≡ Some t → length types ≤ 2 ^ 32 - 1
    → index < 2 ^ 32 - 1
has_index types index t at few = let inside : index < length types = slice_get_within types index t at in omega (arith, inside, few)

-- an i31 has a value of two instructions
no_i31 : (config : Config) (context : BodyContext) (set : List ℕ) (more : ℕ) (tried : Bool) (wanted : ValType) (shared : Bool)
    → kinds_of_bodies config ≡ every_kind → IsTrue context.features.gc → IsSharingOn context shared
    → IsValBelow context.types (reference_to (Abstract shared abstract.I31)) wanted → ¬ HasNoValue config context set (suc more) tried
    wanted
no_i31 config context set more tried wanted false every gc on below none =
    number_32 config context set every
    (none.1.no_i31 (instr.Aggregate aggregate.RefI31) tt (
      permitted context.features config (instr.Aggregate aggregate.RefI31) every gc refl
          refl,
      record { value = reference_to (Abstract false abstract.I31); typed = (refl, refl); below = below; sets_none = refl },
    ))
no_i31 config context set more tried wanted true every gc on below none =
    number_32 config context set every
    (none.1.no_i31 (instr.Aggregate aggregate.RefI31Shared) tt (
      permitted context.features config (instr.Aggregate aggregate.RefI31Shared) every
          (both_true context.features.gc context.features.shared_everything_threads gc (on refl)) refl refl,
      record { value = reference_to (Abstract true abstract.I31); typed = (refl, refl); below = below; sets_none = refl },
    ))

-- an external reference has a value of three instructions: a converted i31
no_external : (config : Config) (context : BodyContext) (set : List ℕ) (tried : Bool) (wanted : ValType) (shared : Bool)
    → kinds_of_bodies config ≡ every_kind → IsTrue context.features.gc → IsSharingOn context shared
    → IsValBelow context.types (reference_to (Abstract shared abstract.Extern)) wanted → ¬ HasNoValue config context set 2 tried wanted
no_external config context set tried wanted shared every gc on below none =
    no_i31 config context set 0 tried (internal shared false) shared every gc on (i31_below_any context.types shared)
    (none.1.no_conversion (internal shared false) (instr.Aggregate aggregate.ExternConvertAny) tt (
      permitted context.features config (instr.Aggregate aggregate.ExternConvertAny) every gc refl refl,
      record { value = external shared false; typed = (shared, (false, (refl, refl))); below = below; sets_none = refl },
    ))

-- a reference type with no value isn't nullable, and its heap type is barren
no_null : (config : Config) (context : BodyContext) (set : List ℕ) (nullable : Bool) (heap_type : HeapType) → kinds_of_bodies config
    ≡ every_kind → IsValid context (Ref (record { nullable = nullable; heap_type = heap_type }))
    → HasNoSingle config context set (Ref (record { nullable = nullable; heap_type = heap_type })) → nullable ≡ false
no_null config context set false heap_type every valid none = refl
no_null config context set true heap_type every valid none =
    absurd (none.no_null heap_type (
      permitted context.features config (instr.Reference (reference.Null heap_type)) every valid.0 refl refl,
      record {
        value = nullable_to heap_type;
        typed = (valid.1.heap_type, (refl, refl));
        below = record { heap = itself; nullable = λ is. is };
        sets_none = refl;
      },
    ))

is_barren : (config : Config) (context : BodyContext) (set : List ℕ) (to : RefType) → length context.types ≤ 2 ^ 32 - 1
    → IsValid context (Ref to) → IsTrue context.features.gc → kinds_of_bodies config ≡ every_kind → HasNoValue config context set 2 true
    (Ref to)
    → IsBarren context to.heap_type
is_barren config context set to few valid gc every none = record {
  no_struct = λ (index, by).
      none.0.no_struct index (has_index context.types index _ by.struct.1 few) (
        permitted context.features config (instr.Aggregate (aggregate.StructNewDefault index)) every gc refl refl,
        record {
          value = created_reference context index;
          typed = (by.fields, by.struct, by.defaults, (refl, refl));
          below = non_null_below context.types _ to by.below;
          sets_none = refl;
        },
      );
  no_array = λ index element there below.
      none.0.no_array index (has_index context.types index _ there.1 few) (
        permitted context.features config (instr.Aggregate (aggregate.ArrayNewFixed index 0)) every gc refl refl,
        record {
          value = created_reference context index;
          typed = (element, there, (refl, refl));
          below = raised context.types (created_reference context index) to below;
          sets_none = refl;
        },
      );
  no_function = λ function index named there below.
      none.0.no_function function (
        permitted context.features config (instr.Reference (reference.Func function)) every valid.0 refl refl,
        record {
          value = reference_to_function context function index;
          typed = (index, there, named, (refl, refl));
          below = raised context.types (reference_to_function context function index) to below;
          sets_none = refl;
        },
      );
  no_i31 = λ shared on below. no_i31 config context set 1 true (Ref to) shared every gc on
      (non_null_below context.types (Abstract shared abstract.I31) to below) none;
  no_external = λ shared on below. no_external config context set true (Ref to) shared every gc on
      (non_null_below context.types (Abstract shared abstract.Extern) to below) none;
}

pub barren : (config : Config) (context : BodyContext) (set : List ℕ) (wanted : ValType) → length context.types ≤ 2 ^ 32 - 1
    → IsValid context wanted → IsTrue context.features.gc → kinds_of_bodies config ≡ every_kind → HasNoOther config context set wanted
    → IsBarrenReference context wanted
barren config context set I32 few valid gc every none = absurd (number_32 config context set every none.none.0)
barren config context set I64 few valid gc every none =
    absurd (numbered config context set I64 (instr.I64Const (pos 0)) every refl refl refl tt (refl, refl) tt refl none.none.0)
barren config context set F32 few valid gc every none =
    absurd (numbered config context set F32 (instr.F32Const 0) every refl refl refl tt (refl, refl) tt refl none.none.0)
barren config context set F64 few valid gc every none =
    absurd (numbered config context set F64 (instr.F64Const 0) every refl refl refl tt (refl, refl) tt refl none.none.0)
barren config context set V128 few valid gc every none =
    absurd (numbered config context set V128 (instr.V128Const (pos 0)) every valid refl refl tt (refl, refl) tt refl none.none.0)
barren config context set (Ref to) few valid gc every none = (
  no_null config context set to.nullable to.heap_type every valid none.none.0,
  is_barren config context set to few valid gc every
      none.none,
)
