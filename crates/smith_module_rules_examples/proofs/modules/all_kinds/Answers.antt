use Rattle.smith_module_rules_examples.proofs.Common.{rules, ℕ, List, [], ◌∷◌, Some, false, refl, codes, All-from_recursion, plain}
use Rattle.smith_module_rules_examples.proofs.Common.{nullable, IsTypeValid, IsGroupValid, AreTypesValid, IsFuncTypeIndex, IsTagValid}
use Rattle.smith_module_rules_examples.proofs.Common.{IsEntityAt, AreDistinct, I32, I64, F32, Ref, EntityType, ExportKind, F32Const}
use Rattle.smith_module_rules_examples.proofs.Common.{RefNull, IsRefBelow-refl, foo_type, quux_type, each_place, IsTableDefined}
use Rattle.smith_module_rules_examples.proofs.Common.{module_features, module_types, module_spaces, table_context, global_context, memory}
use Rattle.smith_module_rules_examples.proofs.Common.{table, global, one_of_each, group_of}
use Rattle.smith_types.specs.Syntax.value_type.AbstractHeapType.TheVariants as heap
use Rattle.smith_types.specs.Syntax.entity_type.EntityType.TheVariants as entity
use Rattle.smith_module_rules_examples.proofs.PartExamples.{alone, globals_defined, group_valid}
use Rattle.smith_module_rules_examples.proofs.modules.all_kinds.Goals as goal

foo_valid : (end : ℕ) → IsTypeValid (module_features one_of_each) one_of_each.types end foo_type
foo_valid end = record { enabled = search rules; values = search rules; declared = λ s up. cc; shareable = λ never. cc }

quux_valid : (end : ℕ) → IsTypeValid (module_features one_of_each) one_of_each.types end quux_type
quux_valid end = record { enabled = search rules; values = search rules; declared = λ s up. cc; shareable = λ never. cc }

types_valid : AreTypesValid (module_features one_of_each) (module_types one_of_each)
types_valid =
    let features = module_features one_of_each in
    let types = one_of_each.types in
    record {
      covered = search rules;
      orderly = search rules;
      groups = All-from_recursion (IsGroupValid features types) (group_of 0 1 ∷ group_of 1 2 ∷ []) (
        group_valid features types (group_of 0 1) ((λ from below. foo_valid 1), ((λ from below. quux_valid 1), tt)) (λ never. cc),
        (group_valid features types (group_of 1 2) ((λ from below. foo_valid 2), ((λ from below. quux_valid 2), tt)) (λ never. cc), tt),
      );
    }

five_names : AreDistinct {A = List ℕ} (codes "foo" ∷ codes "bar" ∷ codes "baz" ∷ codes "qux" ∷ codes "quux" ∷ [])
five_names = search rules

pub returns : goal.returns
returns c =
    let extern = nullable (plain heap.Extern) in
    let null = alone (table_context one_of_each) (RefNull (plain heap.Extern)) (Ref extern) (Ref extern) ((tt, λ never. cc), refl, refl)
    (IsRefBelow-refl one_of_each.types extern) refl in
    let tags = All-from_recursion (IsTagValid one_of_each.types) (1 ∷ [])
    ((record { params = F32 ∷ []; results = [] }, (quux_type, refl, refl), refl), tt) in
    let functions = All-from_recursion (IsFuncTypeIndex one_of_each.types) (0 ∷ [])
    ((record { params = I32 ∷ []; results = I64 ∷ [] }, (foo_type, refl, refl)), tt) in
    let tables = each_place (IsTableDefined one_of_each) one_of_each.defined_tables ((table extern 5 (Some 10), refl, (refl, null)), tt) in
    let globals = globals_defined one_of_each (
      record {
        in_order = refl;
        global = global F32 false;
        stands = refl;
        initialised = alone (global_context one_of_each 0) (F32Const 0)
            F32 F32 (refl, refl) tt tt;
      },
      tt,
    ) in
    let stand = All-from_recursion (λ (one : List ℕ × ExportKind × ℕ). (ty : EntityType) × IsEntityAt (module_spaces one_of_each) one.1
    one.2 ty) one_of_each.exports (
      (entity.Func 0, (0, refl, refl)),
      (
        (entity.Global (global F32 false), (global F32 false, refl, refl)),
        (
          (entity.Memory (memory 1 (Some 10)), (memory 1 (Some 10), refl, refl)),
          ((entity.Table (table extern 5 (Some 10)), (table extern 5 (Some 10), refl, refl)), ((entity.Tag 1, (1, refl, refl)), tt)),
        ),
      ),
    ) in
    record { valid = search (rules, types_valid, tags, functions, tables, globals, stand, five_names) }
