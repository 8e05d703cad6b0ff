use Rattle.smith_module_rules_examples.proofs.Common.{rules, ℕ, List, [], ◌∷◌, refl, codes, All-from_recursion, All-head, IsEntityAt}
use Rattle.smith_module_rules_examples.proofs.Common.{AreDistinct, EntityType, ExportKind, module_spaces, exported_twice, one_number}
use Rattle.smith_types.specs.Syntax.entity_type.EntityType.TheVariants as entity
use Rattle.smith_types.specs.Syntax.entity_type.ExportKind.TheVariants as kind
use Rattle.smith_module_rules_examples.proofs.RefusedExamples.{name_refused}
use Rattle.smith_module_rules_examples.proofs.refused_modules.exports.Goals as goal

two : AreDistinct {A = List ℕ} (codes "a" ∷ codes "b" ∷ [])
two = search rules

pub returns-clause-two_names : goal.returns-clause-two_names
returns-clause-two_names c = record {
  stand = All-from_recursion (λ (one : List ℕ × ExportKind × ℕ). (ty : EntityType) × IsEntityAt (module_spaces (exported_twice [] [])) one.1
      one.2 ty) (exported_twice (codes "a") (codes "b")).exports
      ((entity.Func 0, (0, refl, refl)), ((entity.Func 0, (0, refl, refl)), tt));
  distinct = two;
}

pub returns-clause-a_name_twice : goal.returns-clause-a_name_twice
returns-clause-a_name_twice c = name_refused

pub returns-clause-what_is_not_there : goal.returns-clause-what_is_not_there
returns-clause-what_is_not_there c = λ valid.
    let (ty, entity) = All-head (λ (one : List ℕ × ExportKind × ℕ). (ty : EntityType) × IsEntityAt (module_spaces one_number) one.1 one.2
    ty) ([], kind.Func, 0) [] valid.stand in
    let (func, at, is) = entity in
    cc at
