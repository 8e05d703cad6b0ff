use Rattle.smith_module_rules_examples.proofs.Common.{rules, arith, common_steps, ℕ, List, [], ◌∷◌, refl, All-from_recursion, funcref}
use Rattle.smith_module_rules_examples.proofs.Common.{IsTagValid, IsConstExpr, IsElementSegmentValid, IsDataValid, IsEntityAt, EntityType}
use Rattle.smith_module_rules_examples.proofs.Common.{ExportKind, Ref, distinct_alone, module_spaces, segment_context, no_function}
use Rattle.smith_module_rules_examples.proofs.Common.{shared_memory, two_elements, one_data_segment, one_tag}
use Rattle.smith_types.specs.Syntax.entity_type.EntityType.TheVariants as entity
use Rattle.smith_module_rules_examples.proofs.PartExamples.{no_function_given, function_types, functions_valid, function_at}
use Rattle.smith_module_rules_examples.proofs.modules.segments.Goals as goal

pub returns : goal.returns
returns c = record {
  elements =
      let null = no_function_given (segment_context two_elements) refl in
      search (
        rules,
        All-from_recursion (IsElementSegmentValid (segment_context two_elements) []) two_elements.elems (
          record {
            ty = search rules;
            ty_enabled = λ _. refl;
            items = (
              refl,
              All-from_recursion (IsConstExpr (segment_context two_elements) (Ref funcref)) (no_function ∷ no_function ∷ [])
                  (null, (null, tt)),
            );
            kind = refl;
          },
          tt,
        ),
      );
  copied_bytes = search (
    rules,
    All-from_recursion (IsDataValid (segment_context one_data_segment) one_data_segment.memories)
        one_data_segment.datas ((shared_memory 1, refl, refl), tt),
  );
  bytes = first_of (search rules, grind (arith, common_steps));
  beside_a_tag_and_an_export =
      let tags = All-from_recursion (IsTagValid one_tag.types) (0 ∷ []) ((record { params = []; results = [] }, function_at, refl), tt) in
      let stand = All-from_recursion (λ (one : List ℕ × ExportKind × ℕ). (ty : EntityType) × IsEntityAt (module_spaces one_tag) one.1 one.2
      ty) one_tag.exports ((entity.Func 0, (0, refl, refl)), tt) in
      search (rules, function_types, tags, functions_valid, stand, distinct_alone);
}
