-- Lemmas for the examples of shapes.
use Rattle.smith_module_rules_examples.proofs.Common.{rules, ◌≡◌, ℕ, List, [], ◌∷◌, Some, None, true, false, refl, codes, slice_get}
use Rattle.smith_module_rules_examples.proofs.Common.{IsEntityAt, nullable, plain, F32, CompositeInnerType, SubType, EntityType, ExportKind}
use Rattle.smith_module_rules_examples.proofs.Common.{Shape, default_config, FixesExports, FixesImports, shape_types, shape_spaces, a_type}
use Rattle.smith_module_rules_examples.proofs.Common.{foo_type, quux_type, ModuleParts, module_spaces, IsSameExport, IsSameType}
use Rattle.smith_module_rules_examples.proofs.Common.{IsSameFuncType, KeepsAvailableImports, KeepsExports, is_fitting, memory, table}
use Rattle.smith_module_rules_examples.proofs.Common.{global, one_of_each, environment, with_environment, five_exports}
use Rattle.smith_types.specs.Syntax.value_type.AbstractHeapType.TheVariants as heap
use Rattle.smith_types.specs.Syntax.entity_type.EntityType.TheVariants as entity
use Rattle.smith_types.specs.Syntax.entity_type.ExportKind.TheVariants as kind

-- without shapes neither exports nor imports are fixed
pub no_exports_fixed : FixesExports default_config → ⊥
no_exports_fixed = search rules

pub no_imports_fixed : FixesImports default_config → ⊥
no_imports_fixed = search rules

-- an export of a shape is kept if the exported item has the same type
pub export_kept : (shape : Shape) (m : ModuleParts) (name : List ℕ) (of_kind : ExportKind) (index other : ℕ) (mine yours : EntityType)
    → IsEntityAt (module_spaces m) of_kind index mine → IsEntityAt (shape_spaces shape) of_kind other yours
    → IsSameType m.types (shape_types shape) mine yours
    → IsSameExport (IsSameType m.types (shape_types shape)) (module_spaces m) (shape_spaces shape) (name, of_kind, index)
    (name, of_kind, other)
export_kept shape m name of_kind index other mine yours mine_is yours_is same =
    record { name = refl; kind = refl; mine = mine; yours = yours; mine_is = mine_is; yours_is = yours_is; same = same }

-- a final function type is the same as itself in another list
pub same_function : (ours theirs : List SubType) (index other : ℕ) (inner : CompositeInnerType)
    → slice_get ours index ≡ Some (a_type inner true None) → slice_get theirs other ≡ Some (a_type inner true None)
    → IsSameFuncType ours theirs index other
same_function ours theirs index other inner stands stood = record {
  mine = a_type inner true None;
  yours = a_type inner true None;
  stands = stands;
  stood = stood;
  final = refl;
  root = refl;
  same = refl;
}

-- an export of each kind
pub five_kept : KeepsExports five_exports one_of_each
five_kept =
    let many = table (nullable (plain heap.Extern)) 5 (Some 10) in
    let kept = export_kept five_exports one_of_each in (
      kept (codes "foo") kind.Func 0 0 (entity.Func 0) (entity.Func 0) (0, refl, refl) (0, refl, refl)
          (same_function one_of_each.types _ 0 0 foo_type.composite_type.inner refl refl),
      (
        kept (codes "bar") kind.Global 0 0 (entity.Global (global F32 false)) (entity.Global (global F32 false)) (
          global F32 false,
          refl,
          refl,
        ) (global F32 false, refl, refl) refl,
        (
          kept (codes "baz") kind.Memory 0 0 (entity.Memory (memory 1 (Some 10))) (entity.Memory (memory 1 (Some 10)))
              (memory 1 (Some 10), refl, refl) (memory 1 (Some 10), refl, refl) refl,
          (
            kept (codes "qux") kind.Table 0 0 (entity.Table many) (entity.Table many) (many, refl, refl) (many, refl, refl) refl,
            (
              kept (codes "quux") kind.Tag 0 0 (entity.Tag 1) (entity.Tag 1) (1, refl, refl) (1, refl, refl)
                  (same_function one_of_each.types _ 1 1 quux_type.composite_type.inner refl refl),
              tt,
            ),
          ),
        ),
      ),
    )

-- both available imports
pub both_kept : KeepsAvailableImports (1 ∷ 1 ∷ []) environment with_environment
unfolding is_fitting
both_kept = record {
  types = record { types = record { more = []; parts = refl }; groups = record { more = []; parts = refl } };
  imports = refl;
}
