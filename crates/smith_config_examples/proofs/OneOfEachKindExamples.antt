-- A shape that exports one item of each kind is valid.
use Rattle.smith_config_examples.proofs.Common.{rules, ℕ, List, [], ◌∷◌, Some, refl, arith, codes, All-cons, All-nil, All-from_recursion}
use Rattle.smith_config_examples.proofs.Common.{Features, IsOrderly, AreTypesValid, IsTagValid, IsFuncTypeIndex, AreEntitiesValid}
use Rattle.smith_config_examples.proofs.Common.{IsEntityAt, AreExportsStanding, AreDistinct, Func, SubType, EntityType, ExportKind, I32}
use Rattle.smith_config_examples.proofs.Common.{I64, F32, final_type, taking, func, plain, nullable, range, memory, table, constant_global}
use Rattle.smith_config_examples.proofs.Common.{AreTypesValid-single, no_types, default_config, features_of, IsConsistent, shape_spaces}
use Rattle.smith_config_examples.proofs.Common.{one_of_each_kind}
use Rattle.smith_types.specs.Syntax.entity_type.EntityType.TheVariants as entity
use Rattle.smith_types.specs.Syntax.value_type.AbstractHeapType.TheVariants as heap
use Rattle.smith_config_examples.proofs.ChainExamples.{shallow_if_few}

abbrev features : Features
features = features_of (record default_config { max_memories = 2 })

-- the types of the function and of the tag of the shape
abbrev first : SubType
first = final_type (Func (func I32 I64))

abbrev second : SubType
second = final_type (taking (F32 ∷ []))

abbrev types : List SubType
types = first ∷ second ∷ []

orderly : IsOrderly types
orderly = search rules

types_valid : AreTypesValid features (record { types = types; groups = range 0 1 ∷ range 1 2 ∷ [] })
types_valid =
    let of_first : AreTypesValid features (record { types = first ∷ []; groups = range 0 1 ∷ [] }) =
    AreTypesValid-single features [] [] first (search rules) (no_types features) (search rules) in
    AreTypesValid-single features (first ∷ []) (range 0 1 ∷ []) second orderly of_first (search rules)

entities_valid : AreEntitiesValid features types (shape_spaces one_of_each_kind)
entities_valid = record {
  tags = All-cons (IsTagValid types) 1 [] (record { params = F32 ∷ []; results = [] }, (second, refl, refl), refl)
      (All-nil (IsTagValid types));
  funcs = All-cons (IsFuncTypeIndex types) 0 [] (func I32 I64, (first, refl, refl)) (All-nil (IsFuncTypeIndex types));
  tables = search rules;
  memories = search rules;
  globals = search rules;
}

stand : AreExportsStanding (shape_spaces one_of_each_kind) one_of_each_kind.exports
stand =
    All-from_recursion (λ (one : List ℕ × ExportKind × ℕ). (ty : EntityType) × IsEntityAt (shape_spaces one_of_each_kind) one.1 one.2 ty)
    one_of_each_kind.exports (
      (entity.Func 0, (0, refl, refl)),
      (
        (entity.Global (constant_global F32), (constant_global F32, refl, refl)),
        (
          (entity.Memory (memory 1 (Some 10)), (memory 1 (Some 10), refl, refl)),
          (
            (
              entity.Table (table (nullable (plain heap.Extern)) 5 (Some 10)),
              (
                table (nullable (plain heap.Extern)) 5 (Some 10),
                refl,
                refl,
              ),
            ),
            ((entity.Tag 1, (1, refl, refl)), tt),
          ),
        ),
      ),
    )

distinct : AreDistinct (codes "foo" ∷ codes "bar" ∷ codes "baz" ∷ codes "qux" ∷ codes "quux" ∷ [])
distinct = search rules

pub consistent : IsConsistent features one_of_each_kind
consistent = record {
  types = types_valid;
  shallow = shallow_if_few types orderly (omega arith);
  entities = entities_valid;
  exports = record { stand = stand; distinct = distinct };
}
