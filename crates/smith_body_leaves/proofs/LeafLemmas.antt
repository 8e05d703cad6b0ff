-- Instructions that produce a value, and take no budget.
use Rattle.smith_body_leaves.proofs.Common.{[], BodyContext, Bool, both, Config, created_reference, external, false, I32, internal}
use Rattle.smith_body_leaves.proofs.Common.{is_created_below, is_created_struct, is_global_below, is_permitted, is_readable, is_val_below}
use Rattle.smith_body_leaves.proofs.Common.{IsOrderly, IsValid, itself, List, Ref, refl, slice_get, struct_in, tested, true, ValType, ℕ}
use Rattle.smith_body_leaves.proofs.Common.{◌∷◌, ◌≡◌}
use Rattle.std.specs.Prelude.{not, ◌||◌}
use Rattle.smith_types.specs.Syntax.value_type.RefType.{RefType}
use Rattle.smith_types.proofs.GrowthLemmas.{IsValBelow-refl}
use Rattle.smith_instr.specs.Enabled.{is_enabled}
use Rattle.smith_instr.specs.declared.aggregate.AggregateInstr.TheVariants as aggregate
use Rattle.smith_instr.specs.declared.instr.Instr.TheVariants as instr
use Rattle.smith_instr.specs.declared.reference.ReferenceInstr.TheVariants as reference
use Rattle.smith_body_leaves.specs.Leaves.{IsConstant, IsLeaf, IsTaking, i31_of, i31_type}
use Rattle.smith_body_nodes.specs.IndexedTypes.{is_creatable_in}
use Rattle.smith_body_leaves.specs.FirstCreated.{is_created_empty}
use Rattle.smith_body_nodes.proofs.IndexedTypeLemmas.{default_there}
use Rattle.smith_body_leaves.proofs.FirstLemmas.{array_created}
use Rattle.smith_body_nodes.specs.Scopes.{IsAllowedIn, kinds_of_bodies}
use Rattle.smith_body_nodes.specs.Traps.{may_trap}
use Rattle.smith_body_nodes.specs.Offered.{IsReferenceTo}
use Rattle.smith_body_nodes.specs.declared.scope.Scope.{Scope}
use Rattle.smith_body_nodes.proofs.OfferLemmas.{global_below, readable}
use Rattle.smith_body_nodes.proofs.NodeLemmas.{one_valid}

pub null_constant : (to : RefType) → to.nullable ≡ true → IsConstant (Ref to) (instr.Reference (reference.Null to.heap_type))
null_constant to nullable context set valid = record {
  value = Ref (record { nullable = true; heap_type = to.heap_type });
  typed = (valid.1.heap_type, (refl, refl));
  below = record { heap = itself; nullable = λ h. nullable };
  sets_none = refl;
}

pub no_constant : (wanted : ValType) → IsConstant wanted instr.Unreachable
no_constant wanted context set valid = record {
  value = wanted;
  typed = ([], refl, one_valid context wanted valid);
  below = IsValBelow-refl context.types wanted;
  sets_none = refl;
}

pub stop_allowed : (scope : Scope) → IsAllowedIn scope instr.Unreachable
unfolding is_enabled
stop_allowed scope = record { enabled = refl; trapless = λ disallowed traps. refl }

pub local_leaf : (context : BodyContext) (set : List ℕ) (wanted : ValType) (index : ℕ) → IsOrderly context.types
    → is_readable context set wanted index ≡ true → IsLeaf context set wanted (instr.LocalGet index)
local_leaf context set wanted index orderly is =
    let (value, there, below) = readable context set wanted index orderly is in
    record { value = value; typed = (value, there, (refl, refl)); below = below; sets_none = refl }

pub global_leaf : (context : BodyContext) (set : List ℕ) (wanted : ValType) (index : ℕ) → IsOrderly context.types
    → is_global_below context wanted index ≡ true → IsLeaf context set wanted (instr.GlobalGet index)
global_leaf context set wanted index orderly is =
    let (global, there, below) = global_below context wanted index orderly is in
    record { value = global.val_type; typed = (global, there, (refl, refl)); below = below; sets_none = refl }

pub reference_leaf : (context : BodyContext) (set : List ℕ) (wanted : ValType) (function : ℕ) → IsReferenceTo context wanted function
    → IsLeaf context set wanted (instr.Reference (reference.Func function))
reference_leaf context set wanted function (index, there, named, below) =
    record { value = _; typed = (index, there, named, (refl, refl)); below = below; sets_none = refl }

pub struct_leaf : (context : BodyContext) (set : List ℕ) (wanted : ValType) (ty : ℕ) → IsOrderly context.types
    → is_created_struct context wanted true ty ≡ true → IsLeaf context set wanted (instr.Aggregate (aggregate.StructNewDefault ty))
struct_leaf context set wanted ty orderly is =
    let (below, can) = both (is_created_below context wanted ty) (is_creatable_in true (struct_in (slice_get context.types ty))) is in
    let (fields, there, defaults) = default_there context.types ty can in
    record {
      value = created_reference context ty;
      typed = (fields, there, defaults, (refl, refl));
      below = tested context.types orderly
          (created_reference context ty) wanted below;
      sets_none = refl;
    }

pub array_leaf : (context : BodyContext) (set : List ℕ) (wanted : ValType) (ty : ℕ) → IsOrderly context.types
    → is_created_empty context wanted ty ≡ true → IsLeaf context set wanted (instr.Aggregate (aggregate.ArrayNewFixed ty 0))
array_leaf context set wanted ty orderly is =
    let (below, (element, there)) = array_created context wanted ty is in
    record {
      value = created_reference context ty;
      typed = (element, there, (refl, refl));
      below = tested context.types orderly
          (created_reference context ty) wanted below;
      sets_none = refl;
    }

-- an i31
pub i31_over : (context : BodyContext) (set : List ℕ) (wanted : ValType) (shared : Bool) → IsOrderly context.types
    → is_val_below context.types (i31_type shared) wanted ≡ true → IsTaking context set (I32 ∷ []) wanted (i31_of shared)
i31_over context set wanted true orderly below = record {
  value = i31_type true;
  typed = (refl, refl);
  below = tested context.types orderly
      (i31_type true) wanted below;
  sets_none = refl;
}
i31_over context set wanted false orderly below =
    record {
      value = i31_type false;
      typed = (refl, refl);
      below = tested context.types orderly (i31_type false) wanted below;
      sets_none = refl;
    }

-- a conversion
pub inside_over : (context : BodyContext) (set : List ℕ) (shared nullable : Bool) → IsTaking context set (external shared nullable ∷ [])
    (internal shared nullable) (instr.Aggregate aggregate.AnyConvertExtern)
inside_over context set shared nullable =
    record {
      value = internal shared nullable;
      typed = (shared, (nullable, (refl, refl)));
      below = IsValBelow-refl context.types
          (internal shared nullable);
      sets_none = refl;
    }

pub outside_over : (context : BodyContext) (set : List ℕ) (shared nullable : Bool) → IsTaking context set (internal shared nullable ∷ [])
    (external shared nullable) (instr.Aggregate aggregate.ExternConvertAny)
outside_over context set shared nullable =
    record {
      value = external shared nullable;
      typed = (shared, (nullable, (refl, refl)));
      below = IsValBelow-refl context.types
          (external shared nullable);
      sets_none = refl;
    }

-- the operand of a permitted conversion is valid
pub internal_valid : (context : BodyContext) (config : Config) (shared nullable : Bool) → is_permitted context.features config
    (instr.Aggregate aggregate.ExternConvertAny) ≡ true → IsValid context (external shared nullable)
    → IsValid context (internal shared nullable)
unfolding is_permitted is_enabled
internal_valid context config shared nullable permitted valid =
    let (enabled, _) = both (is_enabled context.features (kinds_of_bodies config) (instr.Aggregate aggregate.ExternConvertAny))
    (not config.disallow_traps || not (may_trap (instr.Aggregate aggregate.ExternConvertAny))) permitted in
    let (gc, _) = both context.features.gc _ enabled in
    (valid.0, record { heap_type = (gc, valid.1.heap_type.1); nullable = valid.1.nullable })
