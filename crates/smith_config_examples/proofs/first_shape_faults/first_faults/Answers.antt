use Rattle.smith_config_examples.proofs.Common.{◌≡◌, List, [], ◌∷◌, ◌++◌, Some, subst, rules, arith, ModuleShape, ShapeFault, BadType}
use Rattle.smith_config_examples.proofs.Common.{Index, every_feature, open_type, empty_struct, Shape, default_config, IsShort}
use Rattle.smith_config_examples.proofs.Common.{HasShapeFault, AreTypesRight, shape_faults, empty_shape, of_types, first_too_long}
use Rattle.smith_config_examples.proofs.Common.{first_bad_type, All}
use Rattle.smith_config_examples.proofs.ShapeFaultExamples as wrong
use Rattle.smith_config_examples.proofs.first_shape_faults.first_faults.Goals as goal

-- a type declared as its own subtype, and a function without a type
abbrev twice_wrong : Shape
twice_wrong = record (of_types (open_type (Some 0) empty_struct ∷ [])) { funcs = 5 ∷ [] }

short : IsShort twice_wrong
short = search rules

wrong_type : AreTypesRight twice_wrong → ⊥
wrong_type right = wrong.below_itself every_feature right.types

-- BadType comes before Index
type_earlier : (before after : List ShapeFault) → shape_faults ≡ before ++ Index ∷ after
    → All (λ other. ¬ HasShapeFault ModuleShape default_config twice_wrong other) before
    → ¬ HasShapeFault ModuleShape default_config twice_wrong BadType
type_earlier [] after order earlier = cc
type_earlier (first ∷ []) after order earlier = cc
type_earlier (first ∷ second ∷ before) after order earlier =
    let is : second ≡ BadType = cc in
    let none : ¬ HasShapeFault ModuleShape default_config twice_wrong second = earlier 1 second (omega arith) in
    subst (λ fault. ¬ HasShapeFault ModuleShape default_config twice_wrong fault) is none

pub returns : goal.returns
returns c = record {
  type_before_index = first_bad_type ModuleShape default_config twice_wrong short wrong_type;
  index_after_type = λ first. type_earlier first.before first.after first.order first.earlier wrong_type;
  length_before_all = λ tags long.
      first_too_long ModuleShape default_config (record empty_shape { tags = tags }) (λ short. let few = short.tags in
      absurd (omega (arith, few, long)));
}
