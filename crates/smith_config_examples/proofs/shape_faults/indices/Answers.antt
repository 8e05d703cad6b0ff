use Rattle.smith_config_examples.proofs.Common.{rules, List, [], ◌∷◌, arith, refl, codes, All-cons, All-nil, IsTagValid, SubType, I32}
use Rattle.smith_config_examples.proofs.Common.{final_type, taking, every_feature}
use Rattle.smith_types.specs.Syntax.entity_type.ExportKind.TheVariants as kind
use Rattle.smith_config_examples.proofs.ShapeExamples.{entities_valid, exports_valid}
use Rattle.smith_config_examples.proofs.shape_faults.indices.Goals as goal

pub returns-clause-right : goal.returns-clause-right
returns-clause-right c = λ wrong. wrong (record {
  funcs = (entities_valid every_feature).funcs;
  tags = (entities_valid every_feature).tags;
  exports = exports_valid.stand;
})

-- the type of a tag
abbrev types : List SubType
types = final_type (taking (I32 ∷ [])) ∷ []

pub returns-clause-tag : goal.returns-clause-tag
returns-clause-tag c = λ wrong. wrong (record {
  funcs = search rules;
  tags = All-cons (IsTagValid types) 0 [] (record { params = I32 ∷ []; results = [] }, (final_type (taking (I32 ∷ [])), refl, refl), refl)
      (All-nil (IsTagValid types));
  exports = search rules;
})

pub returns-clause-export_of_nothing : goal.returns-clause-export_of_nothing
returns-clause-export_of_nothing c = λ right. let (ty, (func, at, same)) = right.exports 0 (codes "a", kind.Func, 1) (omega arith) in cc at

pub returns-clause-export_of_another_kind : goal.returns-clause-export_of_another_kind
returns-clause-export_of_another_kind c = λ right. let (ty, (table, at, same)) = right.exports 0 (codes "a", kind.Table, 0) (omega arith) in
    cc at
