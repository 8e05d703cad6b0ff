use Rattle.std.proofs.Common.{false, [], ◌∷◌, refl, arith}
use Rattle.std.specs.Prelude.{pos}
use Rattle.smith_types.specs.Syntax.value_type.AbstractHeapType.TheVariants as heap
use Rattle.smith_types.specs.Syntax.value_type.ValType.TheVariants.{I32}
use Rattle.smith_bytes.specs.Draws.{choose_at, digit_count, range_at}
use Rattle.smith_draw_types.specs.Below.{is_heap_below}
use Rattle.smith_draw_types.specs.Choices.{chosen_at}
use Rattle.smith_draw_types.specs.Offered.{ancestors}
use Rattle.smith_config.specs.Config.{default_config}
use Rattle.smith_instr.specs.Enabled.{is_enabled}
use Rattle.smith_instr.specs.declared.aggregate.AggregateInstr.TheVariants as aggregate
use Rattle.smith_instr.specs.declared.instr.Instr.TheVariants as instr
use Rattle.smith_body_leaves.specs.DrawnLeaves.{leaf_at, preferred_at, value_for, variable_at}
use Rattle.smith_body_leaves.specs.Leaves.{any_leaf_at, constant_instr_at, created_type, first_leaf, first_single, i31_leaf, leaf_choice_at}
use Rattle.smith_body_leaves.specs.Leaves.{leaf_within, named_at, spare_leaf}
use Rattle.smith_body_nodes.specs.Offered.{chunk_at, offered}
use Rattle.smith_body_nodes.specs.Scopes.{is_permitted}
use Rattle.smith_body_leaves.proofs.NoOtherLemmas.{no_other}
use Rattle.smith_body_leaves.proofs.LeafLemmas.{i31_over, struct_leaf}
use Rattle.smith_body_examples.specs.ExampleAggregates.{some, some_of, unnamed}
use Rattle.smith_body_examples.specs.ExampleBytes.{trapless}
use Rattle.smith_body_examples.proofs.StopExamples.{in_place, nothing_needed, result_needed, within}
use Rattle.smith_body_examples.proofs.stops.stops.Goals as goal

pub returns-clause-exception : goal.returns-clause-exception
unfolding any_leaf_at constant_instr_at created_type first_leaf first_single i31_leaf leaf_at preferred_at value_for variable_at
    leaf_choice_at leaf_within named_at spare_leaf is_permitted is_enabled is_heap_below chosen_at ancestors chunk_at offered choose_at
    digit_count range_at
returns-clause-exception c = in_place trapless unnamed (some_of heap.Exn) (search)
    (λ disallowed. no_other trapless (within unnamed (some_of heap.Exn)) [] (some_of heap.Exn) (4 ∷ []) c.orderly.ensures refl refl)

pub returns-clause-struct_of_default_values : goal.returns-clause-struct_of_default_values
unfolding is_permitted is_enabled is_heap_below ancestors
returns-clause-struct_of_default_values c = λ body.
    let none = result_needed trapless unnamed (some 0) refl body in
    none.none.0.no_struct 0 (omega arith) (refl, struct_leaf (within unnamed (some 0)) [] (some 0) 0 c.orderly.ensures refl)

pub returns-clause-i31 : goal.returns-clause-i31
unfolding is_permitted is_enabled is_heap_below ancestors
returns-clause-i31 c = λ body.
    let none = result_needed trapless unnamed (some_of heap.I31) refl body in
    (none.none.1.no_i31 (instr.Aggregate aggregate.RefI31) tt (
      refl,
      i31_over (within unnamed (some_of heap.I31)) [] (some_of heap.I31)
          false c.orderly.ensures refl,
    )).no_number
    (instr.I32Const (pos 0)) tt (refl, record { value = I32; typed = (refl, refl); below = tt; sets_none = refl })

pub returns-clause-struct_where_traps_are_allowed : goal.returns-clause-struct_where_traps_are_allowed
returns-clause-struct_where_traps_are_allowed c = in_place default_config unnamed (some 0) (search (arith)) (λ disallowed. cc)

pub returns-clause-no_value : goal.returns-clause-no_value
returns-clause-no_value c = nothing_needed trapless unnamed refl refl
