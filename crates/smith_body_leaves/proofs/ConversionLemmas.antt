-- Conversions of references, each with an operand of a valid type.
use Rattle.smith_body_leaves.proofs.Common.{[], Abstract, AbstractHeapType, BodyContext, Bool, Concrete, Config, Exact, external, F32, F64}
use Rattle.smith_body_leaves.proofs.Common.{false, HeapType, I32, I64, IfSome, if◌then◌else◌, internal, is_permitted, IsValid, List, None}
use Rattle.smith_body_leaves.proofs.Common.{Option, Ref, refl, Some, subst, sym, true, V128, ValType, ℕ, ◌∷◌, ◌≡◌}
use Rattle.smith_types.specs.Syntax.value_type.AbstractHeapType.TheVariants as abstract
use Rattle.smith_instr.specs.declared.aggregate.AggregateInstr.TheVariants as aggregate
use Rattle.smith_instr.specs.declared.instr.Instr.TheVariants as instr
use Rattle.smith_body_leaves.specs.Leaves.{IsTaking, conversion_over, conversion_to, conversion_to_type, unary_permitted}
use Rattle.smith_body_leaves.specs.declared.unary.Unary.{Unary}
use Rattle.smith_body_leaves.proofs.LawLemmas.{IsFound}
use Rattle.smith_body_leaves.proofs.LeafLemmas.{inside_over, internal_valid, outside_over}

-- an instruction that takes a value that is found
pub record IsUnaryOf (config : Config) (context : BodyContext) (set : List ℕ) (wanted : ValType) (unary : Unary) : Type 0 where
  pub valid : IsValid context unary.operand
  pub taking : IsTaking context set (unary.operand ∷ []) wanted unary.instruction
  pub found : IsFound config context unary.instruction

-- conversions between internal and external references
external_valid : (context : BodyContext) (shared nullable : Bool) → IsValid context (internal shared nullable)
    → IsValid context (external shared nullable)
external_valid context shared nullable valid = (valid.0, record { heap_type = (tt, valid.1.heap_type.1); nullable = valid.1.nullable })

inside_by : (config : Config) (context : BodyContext) (set : List ℕ) (shared nullable permitted : Bool)
    → IsValid context (internal shared nullable) → is_permitted context.features config (instr.Aggregate aggregate.AnyConvertExtern)
    ≡ permitted
    → IfSome (if permitted then Some
    (record { instruction = instr.Aggregate aggregate.AnyConvertExtern; operand = external shared nullable }) else None)
    (IsUnaryOf config context set (internal shared nullable))
inside_by config context set shared nullable true valid is = record {
  valid = external_valid context shared nullable valid;
  taking = inside_over context set shared nullable;
  found = is;
}
inside_by config context set shared nullable false valid is = tt

outside_by : (config : Config) (context : BodyContext) (set : List ℕ) (shared nullable permitted : Bool)
    → IsValid context (external shared nullable) → is_permitted context.features config (instr.Aggregate aggregate.ExternConvertAny)
    ≡ permitted
    → IfSome (if permitted then Some
    (record { instruction = instr.Aggregate aggregate.ExternConvertAny; operand = internal shared nullable }) else None)
    (IsUnaryOf config context set (external shared nullable))
outside_by config context set shared nullable true valid is = record {
  valid = internal_valid context config shared nullable is valid;
  taking = outside_over context set shared nullable;
  found = is;
}
outside_by config context set shared nullable false valid is = tt

conversion_by : (config : Config) (context : BodyContext) (set : List ℕ) (nullable shared : Bool) (ty : AbstractHeapType)
    → IsValid context (Ref (record { nullable = nullable; heap_type = Abstract shared ty }))
    → IfSome (unary_permitted config context (conversion_over nullable (Abstract shared ty)))
    (IsUnaryOf config context set (Ref (record { nullable = nullable; heap_type = Abstract shared ty })))
conversion_by config context set nullable shared abstract.Any valid = inside_by config context set shared nullable _ valid refl
conversion_by config context set nullable shared abstract.Extern valid = outside_by config context set shared nullable _ valid refl
conversion_by config context set nullable shared ty valid = tt

conversion_for : (config : Config) (context : BodyContext) (set : List ℕ) (nullable : Bool) (heap_type : HeapType)
    → IsValid context (Ref (record { nullable = nullable; heap_type = heap_type }))
    → IfSome (unary_permitted config context (conversion_over nullable heap_type))
    (IsUnaryOf config context set (Ref (record { nullable = nullable; heap_type = heap_type })))
conversion_for config context set nullable (Abstract shared ty) valid = conversion_by config context set nullable shared ty valid
conversion_for config context set nullable (Concrete index) valid = tt
conversion_for config context set nullable (Exact index) valid = tt

pub conversion_is : (config : Config) (context : BodyContext) (set : List ℕ) (wanted : ValType) → IsValid context wanted
    → IfSome (conversion_to config context wanted) (IsUnaryOf config context set wanted)
conversion_is config context set (Ref to) valid = conversion_for config context set to.nullable to.heap_type valid
conversion_is config context set I32 valid = tt
conversion_is config context set I64 valid = tt
conversion_is config context set F32 valid = tt
conversion_is config context set F64 valid = tt
conversion_is config context set V128 valid = tt

pub conversion_valid : (config : Config) (context : BodyContext) (wanted : ValType) (unary : Unary) → IsValid context wanted
    → Some unary ≡ conversion_to_type wanted → is_permitted context.features config unary.instruction ≡ true → IsValid context unary.operand
conversion_valid config context wanted unary valid is permitted =
    let P = IsUnaryOf config context [] wanted in
    let of : IfSome (if is_permitted context.features config unary.instruction then Some unary else None) P =
    subst (λ (o : Option Unary). IfSome (unary_permitted config context o) P) (sym is) (conversion_is config context [] wanted valid) in
    let of' : IfSome (Some unary) P = subst (λ (b : Bool). IfSome (if b then Some unary else None) P) permitted of in
    of'.valid
