use Rattle.std.proofs.Common.{◌≡◌, ℕ, zero, suc, true, false, [], ◌∷◌, refl, sym, subst, arith}
use Rattle.std.specs.Prelude.{pos, Any}
use Rattle.smith_types.specs.Expressions.{IsStructAt, unpacked}
use Rattle.smith_types.specs.Types.{IsOrderly}
use Rattle.smith_types.specs.Syntax.composite_type.FieldType.{FieldType}
use Rattle.smith_types.specs.Syntax.value_type.ValType.{ValType}
use Rattle.smith_types.specs.ExampleTypes.{constant, final_type, struct}
use Rattle.smith_types.specs.Syntax.composite_type.StorageType.TheVariants.{Val}
use Rattle.smith_types.specs.Syntax.instruction_kind.InstructionKind.TheVariants as kind
use Rattle.smith_types.specs.Syntax.value_type.AbstractHeapType.TheVariants as heap
use Rattle.smith_types.specs.Syntax.value_type.ValType.TheVariants.{I32}
use Rattle.smith_bytes.specs.Draws.{choose_at, digit_count, range_at}
use Rattle.smith_draw_types.specs.Below.{is_heap_below}
use Rattle.smith_draw_types.specs.Choices.{chosen_at}
use Rattle.smith_draw_types.specs.Offered.{ancestors}
use Rattle.smith_instr.specs.AggregateTypes.{internal}
use Rattle.smith_instr.specs.Contexts.{BodyContext, created_reference, reference_to_function}
use Rattle.smith_instr.specs.Enabled.{is_enabled}
use Rattle.smith_instr.specs.declared.aggregate.AggregateInstr.TheVariants as aggregate
use Rattle.smith_instr.specs.declared.instr.Instr.TheVariants as instr
use Rattle.smith_instr_examples.specs.ExampleBodies.{kinds_of, some_func}
use Rattle.smith_body_leaves.specs.Laws.{HasNoSingle}
use Rattle.smith_body_leaves.specs.DrawnLeaves.{leaf_at, preferred_at, value_for, variable_at}
use Rattle.smith_body_leaves.specs.Leaves.{IsTaking, any_leaf_at, constant_instr_at, created_type, first_leaf, first_single, i31_leaf}
use Rattle.smith_body_leaves.specs.Leaves.{leaf_choice_at, leaf_within, named_at, spare_leaf}
use Rattle.smith_body_nodes.specs.IndexedTypes.{is_created_below}
use Rattle.smith_body_nodes.specs.Offered.{chunk_at, offered}
use Rattle.smith_body_nodes.specs.Scopes.{is_permitted}
use Rattle.smith_body_nodes.proofs.OfferLemmas.{tested}
use Rattle.smith_body_leaves.proofs.NoOtherLemmas.{no_other}
use Rattle.smith_body_leaves.proofs.LeafLemmas.{i31_over, outside_over, reference_leaf, struct_leaf}
use Rattle.smith_body_examples.specs.ExampleAggregates.{nested, paired, some, some_of, unnamed, untyped, wrapped}
use Rattle.smith_body_examples.specs.ExampleBytes.{trapless}
use Rattle.smith_body_examples.proofs.spare_leaves.others.Goals as goal

pub returns-clause-exception : goal.returns-clause-exception
unfolding any_leaf_at constant_instr_at created_type first_leaf first_single i31_leaf leaf_at preferred_at value_for variable_at
    leaf_choice_at leaf_within named_at spare_leaf is_permitted is_enabled is_heap_below chosen_at ancestors chunk_at offered choose_at
    digit_count range_at
returns-clause-exception c = no_other trapless unnamed [] (some_of heap.Exn) (4 ∷ []) c.orderly.ensures.some refl refl

pub returns-clause-struct_of_default_values : goal.returns-clause-struct_of_default_values
unfolding is_permitted is_enabled is_heap_below ancestors
returns-clause-struct_of_default_values c = λ none. none.none.0.no_struct 0 (omega arith)
    (refl, struct_leaf unnamed [] (some 0) 0 c.orderly.ensures.some refl)

pub returns-clause-i31 : goal.returns-clause-i31
unfolding is_permitted is_enabled is_heap_below ancestors
returns-clause-i31 c = λ none.
    (none.none.1.no_i31 (instr.Aggregate aggregate.RefI31) tt (
      refl,
      i31_over unnamed [] (some_of heap.I31) false c.orderly.ensures.some
          refl,
    )).no_number
    (instr.I32Const (pos 0)) tt (refl, record { value = I32; typed = (refl, refl); below = tt; sets_none = refl })

pub returns-clause-i31_of_no_allowed_constant : goal.returns-clause-i31_of_no_allowed_constant
unfolding any_leaf_at constant_instr_at created_type first_leaf first_single i31_leaf leaf_at preferred_at value_for variable_at
    leaf_choice_at leaf_within named_at spare_leaf is_permitted is_enabled is_heap_below chosen_at ancestors chunk_at offered choose_at
    digit_count range_at
returns-clause-i31_of_no_allowed_constant c = no_other (record trapless { allowed_instructions = kinds_of kind.Aggregate }) untyped []
    (some_of heap.I31) (4 ∷ []) c.orderly.ensures.none refl refl

-- the creation of a struct of one field
one_over : (context : BodyContext) (wanted : ValType) (ty : ℕ) (field : FieldType) → IsOrderly context.types
    → IsStructAt context.types ty (field ∷ []) → is_created_below context wanted ty ≡ true
    → IsTaking context [] (unpacked field.element_type ∷ []) wanted (instr.Aggregate (aggregate.StructNew ty))
one_over context wanted ty field orderly there below = record {
  value = created_reference context ty;
  typed = (field ∷ [], there, (refl, refl));
  below = tested context.types orderly (created_reference context ty) wanted below;
  sets_none = refl;
}

pub returns-clause-two_levels : goal.returns-clause-two_levels
unfolding is_permitted is_enabled is_heap_below ancestors
returns-clause-two_levels c = λ none.
    let orderly = c.orderly.ensures.structs in
    let outer = constant (Val (some 1)) in
    let inner = constant (Val (some 0)) in
    let second = none.none.1.no_struct 3 (some 1) refl (
      refl,
      one_over nested (some 3) 3 outer orderly (
        final_type (struct (outer ∷ [])),
        refl,
        refl,
      ) refl,
    ) in
    let first = second.1.no_struct 1 (some 0) refl (
      refl,
      one_over nested (some 1) 1 inner orderly (
        final_type (struct (inner ∷ [])),
        refl,
        refl,
      ) refl,
    ) in
    first.no_struct 0 (omega arith) (refl, struct_leaf nested [] (some 0) 0 orderly refl)

pub returns-clause-pair_of_pairs : goal.returns-clause-pair_of_pairs
unfolding any_leaf_at constant_instr_at created_type first_leaf first_single i31_leaf leaf_at preferred_at value_for variable_at
    leaf_choice_at leaf_within named_at spare_leaf is_permitted is_enabled is_heap_below chosen_at ancestors chunk_at offered choose_at
    digit_count range_at
returns-clause-pair_of_pairs c = no_other trapless paired [] (some 2) (4 ∷ []) c.orderly.ensures.pairs refl refl

pub returns-clause-any_struct : goal.returns-clause-any_struct
unfolding is_permitted is_enabled is_heap_below ancestors
returns-clause-any_struct c = λ none.
    let field = constant (Val some_func) in
    let first = none.none.1.no_struct 0 some_func (refl, omega arith) (
      refl,
      one_over wrapped (some_of heap.Struct) 0 field c.orderly.ensures.functions (final_type (struct (field ∷ [])), refl, refl)
          refl,
    ) in
    first.0.no_function 0 (
      refl,
      reference_leaf wrapped [] some_func 0 (
        2,
        refl,
        (0, omega arith, refl),
        tested wrapped.types c.orderly.ensures.functions (reference_to_function wrapped 0 2) some_func refl,
      ),
    )

only_one : {A : Type 0} (P : A → Type 0) (x : A) → Any P (x ∷ []) → P x
only_one P x (zero, y, inside, at, p) = subst P (sym at) p
only_one P x (suc place, y, inside, at, p) = absurd (omega arith)

pub returns-clause-struct_of_a_struct : goal.returns-clause-struct_of_a_struct
unfolding is_permitted is_enabled is_heap_below ancestors
returns-clause-struct_of_a_struct c = λ none.
    let field = constant (Val (some 0)) in
    let created = none.none_created 1 (some 0 ∷ []) refl (
      refl,
      one_over nested (some 1) 1 field c.orderly.ensures.structs
          (final_type (struct (field ∷ [])), refl, refl) refl,
    ) in
    (only_one (HasNoSingle trapless nested []) (some 0) created).no_struct 0 (omega arith)
    (refl, struct_leaf nested [] (some 0) 0 c.orderly.ensures.structs refl)

pub returns-clause-external : goal.returns-clause-external
unfolding is_permitted is_enabled is_heap_below ancestors
returns-clause-external c = λ none.
    (none.none.1.no_conversion (internal false false) (instr.Aggregate aggregate.ExternConvertAny) tt
    (refl, outside_over unnamed [] false false)).0.no_struct 0 (omega arith)
    (refl, struct_leaf unnamed [] (some_of heap.Any) 0 c.orderly.ensures.some refl)

pub returns-clause-external_without_types : goal.returns-clause-external_without_types
unfolding is_permitted is_enabled is_heap_below ancestors
returns-clause-external_without_types c = λ none.
    let converted = none.none.1.no_conversion (internal false false) (instr.Aggregate aggregate.ExternConvertAny) tt
    (refl, outside_over untyped [] false false) in
    (converted.1.no_i31 (instr.Aggregate aggregate.RefI31) tt (
      refl,
      i31_over untyped [] (some_of heap.Any) false c.orderly.ensures.none
          refl,
    )).no_number
    (instr.I32Const (pos 0)) tt (refl, record { value = I32; typed = (refl, refl); below = tt; sets_none = refl })

pub returns-clause-external_of_no_allowed_constant : goal.returns-clause-external_of_no_allowed_constant
unfolding any_leaf_at constant_instr_at created_type first_leaf first_single i31_leaf leaf_at preferred_at value_for variable_at
    leaf_choice_at leaf_within named_at spare_leaf is_permitted is_enabled is_heap_below chosen_at ancestors chunk_at offered choose_at
    digit_count range_at
returns-clause-external_of_no_allowed_constant c = no_other (record trapless { allowed_instructions = kinds_of kind.Aggregate }) untyped []
    (some_of heap.Extern) (4 ∷ []) c.orderly.ensures.none refl refl
