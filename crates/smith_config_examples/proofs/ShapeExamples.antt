-- Lemmas for the examples of shapes.
use Rattle.smith_config_examples.proofs.Common.{rules, ℕ, List, [], ◌∷◌, refl, arith, codes, All-cons, All-nil, Features, IsOrderly}
use Rattle.smith_config_examples.proofs.Common.{IsTypeValid, AreTypesValid, EntitySpaces, IsFuncTypeIndex, AreEntitiesValid, IsEntityAt}
use Rattle.smith_config_examples.proofs.Common.{AreExportsStanding, AreExportsValid, SubType, EntityType, ExportKind, final_type}
use Rattle.smith_config_examples.proofs.Common.{plain_func, range, AreTypesValid-single, no_types, IsShallow}
use Rattle.smith_types.specs.Syntax.entity_type.EntityType.TheVariants as entity
use Rattle.smith_types.specs.Syntax.entity_type.ExportKind.TheVariants as kind
use Rattle.smith_config_examples.proofs.ChainExamples.{shallow_if_few}

-- the type of the imported function that is exported
abbrev one_type : List SubType
one_type = final_type plain_func ∷ []

-- index spaces of one function
abbrev one_func : EntitySpaces
one_func = record { tags = []; funcs = 0 ∷ []; tables = []; memories = []; globals = [] }

orderly : IsOrderly one_type
orderly = search rules

pub shallow : IsShallow one_type
shallow = shallow_if_few one_type orderly (omega arith)

module _ (features : Features) where
  type_valid : IsTypeValid features one_type 1 (final_type plain_func)
  type_valid = search rules

  pub types_valid : AreTypesValid features (record { types = one_type; groups = range 0 1 ∷ [] })
  types_valid = AreTypesValid-single features [] [] (final_type plain_func) orderly (no_types features) type_valid

  pub entities_valid : AreEntitiesValid features one_type one_func
  entities_valid = record {
    tags = search rules;
    funcs = All-cons (IsFuncTypeIndex one_type) 0 [] (record { params = []; results = [] }, (final_type plain_func, refl, refl))
        (All-nil (IsFuncTypeIndex one_type));
    tables = search rules;
    memories = search rules;
    globals = search rules;
  }

-- a single export of an existing entity is valid
pub stand_alone : (spaces : EntitySpaces) (one : List ℕ × ExportKind × ℕ) (ty : EntityType) → IsEntityAt spaces one.1 one.2 ty
    → AreExportsStanding spaces (one ∷ [])
stand_alone spaces one ty h =
    let P : List ℕ × ExportKind × ℕ → Type 0 = λ one. (ty : EntityType) × IsEntityAt spaces one.1 one.2 ty in
    All-cons P one [] (ty, h) (All-nil P)

pub exports_valid : AreExportsValid one_func ((codes "a", kind.Func, 0) ∷ [])
exports_valid = record { stand = stand_alone one_func (codes "a", kind.Func, 0) (entity.Func 0) (0, refl, refl); distinct = search rules }
