use Rattle.smith_module_rules_examples.proofs.Common.{Some, false, refl, codes, F32, foo_type, memory, global, exporting, exported}
use Rattle.smith_module_rules_examples.proofs.Common.{equal_types, of_equal_types}
use Rattle.smith_types.specs.Syntax.entity_type.EntityType.TheVariants as entity
use Rattle.smith_types.specs.Syntax.entity_type.ExportKind.TheVariants as kind
use Rattle.smith_module_rules_examples.proofs.ShapeExamples.{export_kept, same_function, five_kept}
use Rattle.smith_module_rules_examples.proofs.shapes.exports.Goals as goal

pub returns-clause-kept : goal.returns-clause-kept
returns-clause-kept c =
    let kept = export_kept exporting (exported exporting.exports) in (
      kept (codes "bar") kind.Global 0 0 (entity.Global (global F32 false)) (entity.Global (global F32 false)) (
        global F32 false,
        refl,
        refl,
      ) (global F32 false, refl, refl) refl,
      (
        kept (codes "baz") kind.Memory 0 0 (entity.Memory (memory 1 (Some 10))) (entity.Memory (memory 1 (Some 10)))
            (memory 1 (Some 10), refl, refl) (memory 1 (Some 10), refl, refl) refl,
        tt,
      ),
    )

pub returns-clause-one_of_each_kind : goal.returns-clause-one_of_each_kind
returns-clause-one_of_each_kind c = five_kept

pub returns-clause-a_function_of_an_equal_type : goal.returns-clause-a_function_of_an_equal_type
returns-clause-a_function_of_an_equal_type c =
    let same = same_function (of_equal_types 1).types _ 1 0 foo_type.composite_type.inner refl refl in (
      export_kept equal_types (of_equal_types 1) (codes "f") kind.Func 0 0 (entity.Func 1) (entity.Func 0) (1, refl, refl) (0, refl, refl)
          same,
      tt,
    )
