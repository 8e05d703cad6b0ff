use Rattle.smith_module_rules_examples.proofs.Common.{rules, [], refl, All-replicate, All-from_recursion, funcref, IsConstExpr}
use Rattle.smith_module_rules_examples.proofs.Common.{IsElementSegmentValid, Ref, IsValid, segment_context, no_function, sixty_elements}
use Rattle.smith_module_rules_examples.proofs.PartExamples.{no_function_given}
use Rattle.smith_module_rules_examples.proofs.given_modules.elements.Goals as goal

sixty_valid : IsValid sixty_elements
sixty_valid =
    let context = segment_context sixty_elements in
    search (
      rules,
      All-from_recursion (IsElementSegmentValid context []) sixty_elements.elems (
        record {
          ty = search rules;
          ty_enabled = λ _. refl;
          items = (refl, All-replicate (IsConstExpr context (Ref funcref)) 60 no_function (no_function_given context refl));
          kind = refl;
        },
        tt,
      ),
    )

pub returns : goal.returns
returns c = record { sixty = sixty_valid }
