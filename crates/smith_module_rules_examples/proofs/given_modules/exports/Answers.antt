use Rattle.smith_module_rules_examples.proofs.Common.{rules, ℕ, List, [], ◌∷◌, refl, codes, All-from_recursion, IsFuncTypeIndex, IsEntityAt}
use Rattle.smith_module_rules_examples.proofs.Common.{AreDistinct, EntityType, ExportKind, module_spaces, two_exports}
use Rattle.smith_types.specs.Syntax.entity_type.EntityType.TheVariants as entity
use Rattle.smith_module_rules_examples.proofs.PartExamples.{function_types, function_at}
use Rattle.smith_module_rules_examples.proofs.given_modules.exports.Goals as goal

two_names : AreDistinct {A = List ℕ} ([] ∷ codes "1" ∷ [])
two_names = search rules

pub returns : goal.returns
returns c =
    let function : IsFuncTypeIndex two_exports.types 0 = (record { params = []; results = [] }, function_at) in
    let functions = All-from_recursion (IsFuncTypeIndex two_exports.types) (0 ∷ 0 ∷ []) (function, (function, tt)) in
    let stand = All-from_recursion (λ (one : List ℕ × ExportKind × ℕ). (ty : EntityType) × IsEntityAt (module_spaces two_exports) one.1
    one.2 ty) two_exports.exports
    ((entity.Func 0, (0, refl, refl)), ((entity.Func 0, (0, refl, refl)), tt)) in
    record { two_functions = search (rules, function_types, functions, stand, two_names) }
