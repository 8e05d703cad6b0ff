-- Casts, tests and conversions of references, and instructions on an i31.
use Rattle.std.proofs.Common.{◌≡◌, ℕ, ◌<◌, Bool, true, false, List, [], ◌∷◌, Option, Some, None, refl, sym, subst, ap, ◌∙◌, arith}
use Rattle.std.specs.Prelude.{◌&&◌, not, IsTrue}
use Rattle.smith_types.specs.Expressions.{reference_to}
use Rattle.smith_types.specs.Syntax.Features.{Features}
use Rattle.smith_types.specs.Subtyping.{IsRefBelow, itself}
use Rattle.smith_types.specs.Types.{IsOrderly}
use Rattle.smith_types.specs.Syntax.composite_type.SubType.{SubType}
use Rattle.smith_types.specs.Syntax.value_type.AbstractHeapType.TheVariants as abstract
use Rattle.smith_types.specs.Syntax.value_type.HeapType.{HeapType}
use Rattle.smith_types.specs.Syntax.value_type.HeapType.TheVariants.{Abstract}
use Rattle.smith_types.specs.Syntax.value_type.RefType.{RefType}
use Rattle.smith_types.specs.Syntax.value_type.ValType.{ValType}
use Rattle.smith_types.specs.Syntax.value_type.ValType.TheVariants.{I32, Ref}
use Rattle.smith_types.proofs.GrowthLemmas.{IsValBelow-refl}
use Rattle.smith_draw_types.specs.Choices.{chosen_at}
use Rattle.smith_instr.specs.AggregateTypes.{external, internal}
use Rattle.smith_instr.specs.Contexts.{BodyContext, IsValid, nullable_to}
use Rattle.smith_instr.specs.declared.aggregate.AggregateInstr.TheVariants as aggregate
use Rattle.smith_instr.specs.declared.instr.Instr.TheVariants as instr
use Rattle.smith_instr.specs.declared.reference.ReferenceInstr.TheVariants as reference
use Rattle.smith_body_nodes.specs.IndexedTypes.{names_types}
use Rattle.smith_body_nodes.specs.Above.{above_at}
use Rattle.smith_body_casts.specs.CastChoices.{cast_at, cast_choice_at, cast_for, conversion_at, conversion_of, conversions, i31_node}
use Rattle.smith_body_casts.specs.CastChoices.{is_i31_below, non_null_test_at, reference_local_at, scalar_at, scalar_of, scalars}
use Rattle.smith_body_casts.specs.CastChoices.{tested_for, type_test_at, without_null}
use Rattle.smith_body_nodes.specs.Nodes.{IsNode, aggregate_of, node_of}
use Rattle.smith_body_nodes.specs.Items.{continued}
use Rattle.smith_body_casts.specs.declared.casts.Conversion.{Conversion}
use Rattle.smith_body_casts.specs.declared.casts.Conversion.TheVariants as conversion
use Rattle.smith_body_casts.specs.declared.casts.Scalar.{Scalar}
use Rattle.smith_body_casts.specs.declared.casts.Scalar.TheVariants as scalar
use Rattle.smith_body_nodes.proofs.ChosenLemmas.{chosen_by}
use Rattle.smith_body_nodes.proofs.NodeLemmas.{one_valid}
use Rattle.smith_body_nodes.proofs.OfferLemmas.{both, tested}
use Rattle.smith_body_nodes.proofs.PlainLemmas.{gives_one}
use Rattle.smith_body_nodes.proofs.ReferenceChoiceLemmas.{nullable_valid}

-- the non-nullable form matches a reference type
pub strict_below : (types : List SubType) (features : Features) (to : RefType) → IsRefBelow types (without_null features to) to
strict_below types features to = record { heap = itself; nullable = λ h. (both to.nullable (not features.function_references) h).0 }

strict_null : (nullable on : Bool) → (nullable ≡ false → IsTrue on) → (nullable && not on) ≡ false → IsTrue on
strict_null true true valid h = refl
strict_null true false valid h = cc
strict_null false on valid h = valid refl

pub strict_valid : (context : BodyContext) (to : RefType) → IsValid context (Ref to)
    → IsValid context (Ref (without_null context.features to))
strict_valid context to valid = (
  valid.0,
  record {
    heap_type = valid.1.heap_type;
    nullable = λ h. strict_null to.nullable context.features.function_references
        valid.1.nullable h;
  },
)

-- a cast, and a test
pub cast_gives : (context : BodyContext) (set : List ℕ) (to from : RefType) → IsValid context (Ref to) → IsValid context (Ref from)
    → IsRefBelow context.types to from
    → IsNode context set (Ref to ∷ []) (node_of (Ref from ∷ []) (instr.Reference (reference.Cast to)) 0)
cast_gives context set to from valid valid' below =
    gives_one context set (Ref to) (Ref to) (Ref from ∷ []) (instr.Reference (reference.Cast to))
    (λ more. (from, valid.1, valid'.1, below, (refl, refl))) (IsValBelow-refl context.types (Ref to)) valid refl (omega arith)
    (one_valid context (Ref from) valid')

pub strict_cast_gives : (context : BodyContext) (set : List ℕ) (to strict from : RefType) → IsValid context (Ref to)
    → IsValid context (Ref strict) → IsRefBelow context.types strict to → IsValid context (Ref from) → IsRefBelow context.types strict from
    → IsNode context set (Ref to ∷ []) (node_of (Ref from ∷ []) (instr.Reference (reference.Cast strict)) 0)
strict_cast_gives context set to strict from valid valid' below' valid'' below =
    gives_one context set (Ref to) (Ref strict) (Ref from ∷ []) (instr.Reference (reference.Cast strict))
    (λ more. (from, valid'.1, valid''.1, below, (refl, refl))) below' valid refl (omega arith)
    (one_valid context (Ref from) valid'')

pub test_gives : (context : BodyContext) (set : List ℕ) (to from : RefType) → IsValid context (Ref to) → IsValid context (Ref from)
    → IsRefBelow context.types to from
    → IsNode context set (I32 ∷ []) (node_of (Ref from ∷ []) (instr.Reference (reference.Test to)) 0)
test_gives context set to from valid valid' below =
    gives_one context set I32 I32 (Ref from ∷ []) (instr.Reference (reference.Test to))
    (λ more. (from, valid.1, valid'.1, below, (refl, refl))) tt tt refl (omega arith)
    (one_valid context (Ref from) valid')

-- a number from an array or an i31
array_ref_valid : (context : BodyContext) → names_types context ≡ true → IsValid context (nullable_to (Abstract false abstract.Array))
array_ref_valid context named =
    let (on, gc) = both context.features.reference_types context.features.gc named in
    nullable_valid context (Abstract false abstract.Array) on (gc, λ h. cc)

i31_ref_valid : (context : BodyContext) → names_types context ≡ true → IsValid context (nullable_to (Abstract false abstract.I31))
i31_ref_valid context named =
    let (on, gc) = both context.features.reference_types context.features.gc named in
    nullable_valid context (Abstract false abstract.I31) on (gc, λ h. cc)

pub length_gives : (context : BodyContext) (set : List ℕ) → names_types context ≡ true
    → IsNode context set (I32 ∷ []) (aggregate_of (nullable_to (Abstract false abstract.Array) ∷ []) aggregate.ArrayLen)
length_gives context set named =
    gives_one context set I32 I32 (nullable_to (Abstract false abstract.Array) ∷ []) (instr.Aggregate aggregate.ArrayLen)
    (λ more. (false, (refl, refl))) tt tt refl (omega arith)
    (one_valid context (nullable_to (Abstract false abstract.Array)) (array_ref_valid context named))

pub signed_gives : (context : BodyContext) (set : List ℕ) → names_types context ≡ true
    → IsNode context set (I32 ∷ []) (aggregate_of (nullable_to (Abstract false abstract.I31) ∷ []) aggregate.I31GetS)
signed_gives context set named =
    gives_one context set I32 I32 (nullable_to (Abstract false abstract.I31) ∷ []) (instr.Aggregate aggregate.I31GetS)
    (λ more. (false, (refl, refl))) tt tt refl (omega arith)
    (one_valid context (nullable_to (Abstract false abstract.I31)) (i31_ref_valid context named))

pub unsigned_gives : (context : BodyContext) (set : List ℕ) → names_types context ≡ true
    → IsNode context set (I32 ∷ []) (aggregate_of (nullable_to (Abstract false abstract.I31) ∷ []) aggregate.I31GetU)
unsigned_gives context set named =
    gives_one context set I32 I32 (nullable_to (Abstract false abstract.I31) ∷ []) (instr.Aggregate aggregate.I31GetU)
    (λ more. (false, (refl, refl))) tt tt refl (omega arith)
    (one_valid context (nullable_to (Abstract false abstract.I31)) (i31_ref_valid context named))

-- an i31
pub i31_gives : (context : BodyContext) (set : List ℕ) (to : RefType) → IsOrderly context.types → IsValid context (Ref to)
    → is_i31_below context to false ≡ true → IsNode context set (Ref to ∷ []) (aggregate_of (I32 ∷ []) aggregate.RefI31)
i31_gives context set to orderly valid below =
    gives_one context set (Ref to) (reference_to (Abstract false abstract.I31)) (I32 ∷ []) (instr.Aggregate aggregate.RefI31)
    (λ more. (refl, refl))
    (tested context.types orderly (reference_to (Abstract false abstract.I31)) (Ref to) below) valid refl (omega arith)
    (one_valid context I32 tt)

pub i31_shared_gives : (context : BodyContext) (set : List ℕ) (to : RefType) → IsOrderly context.types → IsValid context (Ref to)
    → is_i31_below context to true ≡ true → IsNode context set (Ref to ∷ []) (aggregate_of (I32 ∷ []) aggregate.RefI31Shared)
i31_shared_gives context set to orderly valid below =
    gives_one context set (Ref to) (reference_to (Abstract true abstract.I31)) (I32 ∷ []) (instr.Aggregate aggregate.RefI31Shared)
    (λ more. (refl, refl))
    (tested context.types orderly (reference_to (Abstract true abstract.I31)) (Ref to) below) valid refl (omega arith)
    (one_valid context I32 tt)

pub i31_first : (context : BodyContext) (to : RefType) → is_i31_below context to false ≡ true
    → Some (aggregate_of (I32 ∷ []) aggregate.RefI31) ≡ i31_node context to
i31_first context to below = rw below refl

pub i31_second : (context : BodyContext) (to : RefType) → is_i31_below context to false ≡ false → is_i31_below context to true ≡ true
    → Some (aggregate_of (I32 ∷ []) aggregate.RefI31Shared) ≡ i31_node context to
i31_second context to other below = rw (other, below) refl

pub i31_none : (context : BodyContext) (to : RefType) → is_i31_below context to false ≡ false → is_i31_below context to true ≡ false
    → None ≡ i31_node context to
i31_none context to other another = rw (other, another) refl

-- conversions between internal and external references
pub inside_gives : (context : BodyContext) (set : List ℕ) (nullable shared : Bool) → IsValid context (internal shared nullable)
    → IsNode context set (internal shared nullable ∷ []) (aggregate_of (external shared nullable ∷ []) aggregate.AnyConvertExtern)
inside_gives context set nullable shared valid =
    let valid' : IsValid context (external shared nullable) =
    (valid.0, record { heap_type = (tt, valid.1.heap_type.1); nullable = valid.1.nullable }) in
    gives_one context set (internal shared nullable) (internal shared nullable) (external shared nullable ∷ [])
    (instr.Aggregate aggregate.AnyConvertExtern) (λ more. (shared, (nullable, (refl, refl))))
    (IsValBelow-refl context.types (internal shared nullable)) valid refl (omega arith)
    (one_valid context (external shared nullable) valid')

pub outside_gives : (context : BodyContext) (set : List ℕ) (nullable shared : Bool) → names_types context ≡ true
    → IsValid context (external shared nullable)
    → IsNode context set (external shared nullable ∷ []) (aggregate_of (internal shared nullable ∷ []) aggregate.ExternConvertAny)
outside_gives context set nullable shared named valid =
    let (on, gc) = both context.features.reference_types context.features.gc named in
    let valid' : IsValid context (internal shared nullable) =
    (valid.0, record { heap_type = (gc, valid.1.heap_type.1); nullable = valid.1.nullable }) in
    gives_one context set (external shared nullable) (external shared nullable) (internal shared nullable ∷ [])
    (instr.Aggregate aggregate.ExternConvertAny) (λ more. (shared, (nullable, (refl, refl))))
    (IsValBelow-refl context.types (external shared nullable)) valid refl (omega arith)
    (one_valid context (internal shared nullable) valid')

pub inside_for : (context : BodyContext) (set : List ℕ) (to : RefType) (shared : Bool) → to.heap_type ≡ Abstract shared abstract.Any
    → IsValid context (Ref to)
    → IsNode context set (Ref to ∷ []) (aggregate_of (external shared to.nullable ∷ []) aggregate.AnyConvertExtern)
inside_for context set to shared is valid =
    subst
    (λ (h : HeapType). IsValid context (Ref (record { nullable = to.nullable; heap_type = h }))
    → IsNode context set (Ref (record { nullable = to.nullable; heap_type = h }) ∷ [])
    (aggregate_of (external shared to.nullable ∷ []) aggregate.AnyConvertExtern))
    (sym is) (inside_gives context set to.nullable shared) valid

pub outside_for : (context : BodyContext) (set : List ℕ) (to : RefType) (shared : Bool) → names_types context ≡ true
    → to.heap_type ≡ Abstract shared abstract.Extern → IsValid context (Ref to)
    → IsNode context set (Ref to ∷ []) (aggregate_of (internal shared to.nullable ∷ []) aggregate.ExternConvertAny)
outside_for context set to shared named is valid =
    subst
    (λ (h : HeapType). IsValid context (Ref (record { nullable = to.nullable; heap_type = h }))
    → IsNode context set (Ref (record { nullable = to.nullable; heap_type = h }) ∷ [])
    (aggregate_of (internal shared to.nullable ∷ []) aggregate.ExternConvertAny))
    (sym is) (outside_gives context set to.nullable shared named) valid

-- the chosen cast, test or conversion
pub scalar_by : (context : BodyContext) (bytes left : List ℕ) (rows : List Scalar) (drawn kind : Scalar) → rows ≡ scalars
    → chosen_at scalar.Length rows bytes ≡ (drawn, left) → drawn ≡ kind → scalar_at context bytes ≡ scalar_of context kind left
unfolding scalar_at
scalar_by context bytes left rows drawn kind are chosen is = chosen_by (scalar_of context) scalar.Length scalars rows bytes left drawn kind
    are chosen is

pub conversion_by : (context : BodyContext) (to : RefType) (bytes left : List ℕ) (rows : List Conversion) (drawn kind : Conversion)
    → rows ≡ conversions → chosen_at conversion.Cast rows bytes ≡ (drawn, left) → drawn ≡ kind
    → conversion_at context to bytes ≡ conversion_of context to kind left
unfolding conversion_at
conversion_by context to bytes left rows drawn kind are chosen is = chosen_by (conversion_of context to) conversion.Cast conversions rows
    bytes left drawn kind are chosen is

pub cast_off : (context : BodyContext) (wanted : ValType) (bytes : List ℕ) → names_types context ≡ false
    → cast_choice_at context wanted bytes ≡ (None, bytes)
unfolding cast_choice_at
cast_off context wanted bytes off = rw off refl

pub cast_on : (context : BodyContext) (wanted : ValType) (bytes : List ℕ) → names_types context ≡ true → cast_choice_at context wanted bytes
    ≡ cast_for context wanted bytes
unfolding cast_choice_at
cast_on context wanted bytes on = rw on refl

pub cast_by : (context : BodyContext) (to from : RefType) (bytes left : List ℕ) → above_at context to bytes ≡ (from, left)
    → cast_at context to bytes ≡ (Some (node_of (Ref from ∷ []) (instr.Reference (reference.Cast to)) 0), left)
unfolding cast_at
cast_by context to from bytes left drawn =
    ap (λ (d : RefType × List ℕ). (Some (node_of (Ref d.0 ∷ []) (instr.Reference (reference.Cast to)) 0), d.1)) drawn

pub type_test_none : (context : BodyContext) (bytes left : List ℕ) → reference_local_at context bytes ≡ (None, left)
    → type_test_at context bytes ≡ (None, left)
unfolding type_test_at
type_test_none context bytes left drawn = ap (λ (d : Option RefType × List ℕ). continued (tested_for context) d.0 d.1) drawn

pub type_test_some : (context : BodyContext) (bytes left : List ℕ) (to : RefType) → reference_local_at context bytes ≡ (Some to, left)
    → type_test_at context bytes ≡ tested_for context to left
unfolding type_test_at
type_test_some context bytes left to drawn = ap (λ (d : Option RefType × List ℕ). continued (tested_for context) d.0 d.1) drawn

pub non_null_test_none : (context : BodyContext) (bytes left : List ℕ) → reference_local_at context bytes ≡ (None, left)
    → non_null_test_at context bytes ≡ (None, left)
unfolding non_null_test_at
non_null_test_none context bytes left drawn =
    ap (λ (d : Option RefType × List ℕ). continued (λ (to : RefType) (bytes : List ℕ). tested_for context (without_null context.features to)
    bytes) d.0 d.1) drawn

pub non_null_test_some : (context : BodyContext) (bytes left : List ℕ) (to : RefType) → reference_local_at context bytes ≡ (Some to, left)
    → non_null_test_at context bytes ≡ tested_for context (without_null context.features to) left
unfolding non_null_test_at
non_null_test_some context bytes left to drawn =
    ap (λ (d : Option RefType × List ℕ). continued (λ (to : RefType) (bytes : List ℕ). tested_for context (without_null context.features to)
    bytes) d.0 d.1) drawn
