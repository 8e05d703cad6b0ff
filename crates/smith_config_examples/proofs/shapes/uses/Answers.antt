use Rattle.smith_config_examples.proofs.Common.{rules, arith, common_steps, ◌≡◌, false, List, [], ◌∷◌, None, refl, All-cons, All-nil}
use Rattle.smith_config_examples.proofs.Common.{Features, funcref, IsOrderly, IsTableValid, IsTagValid, SubType, TableType, I32, memory}
use Rattle.smith_config_examples.proofs.Common.{table, codes, final_type, empty_struct, taking, default_config, features_of, IsShort}
use Rattle.smith_config_examples.proofs.Common.{IsInnerShort, HasNothingLeftOut, IsValTypeIncluded, IsConsistent, IsPlain, shape_spaces}
use Rattle.smith_config_examples.proofs.Common.{passed_on, memory_passed_on, exported_table, AreTypesValid-single, no_types}
use Rattle.smith_types.specs.Syntax.entity_type.EntityType.TheVariants as entity
use Rattle.smith_types.specs.Syntax.entity_type.ExportKind.TheVariants as kind
use Rattle.smith_types.specs.Syntax.value_type.AbstractHeapType.TheVariants as heap
use Rattle.smith_config_examples.proofs.ChainExamples.{shallow_if_few, chain_all, chain_valid, chain_shallow}
use Rattle.smith_config_examples.proofs.OneOfEachKindExamples.{consistent as one_of_each_kind_consistent}
use Rattle.smith_config_examples.proofs.ShapeExamples.{stand_alone, types_valid, shallow, entities_valid, exports_valid}
use Rattle.smith_config_examples.proofs.shapes.uses.Goals as goal

short : IsShort passed_on
short = search rules

nothing_left_out : HasNothingLeftOut passed_on
nothing_left_out = search rules

consistent : IsConsistent (features_of default_config) passed_on
consistent = record {
  types = types_valid (features_of default_config);
  shallow = shallow;
  entities = entities_valid
      (features_of default_config);
  exports = exports_valid;
}

plain : IsPlain passed_on
plain = search rules

-- the type of a tag with a number as its parameter
abbrev tag_types : List SubType
tag_types = final_type (taking (I32 ∷ [])) ∷ []

pub returns : goal.returns
returns c = record {
  as_available_imports = record {
    short = short;
    nothing_left_out = nothing_left_out;
    consistent = consistent;
    counts = tt;
    plain = λ other. cc;
  };
  as_exports = record {
    short = short;
    nothing_left_out = nothing_left_out;
    consistent = consistent;
    counts = search rules;
    plain = λ _. plain;
  };
  one_of_each_kind = record {
    short = search rules;
    nothing_left_out = search rules;
    consistent = one_of_each_kind_consistent;
    counts = search rules;
    plain = λ _. search rules;
  };
  memory_passed_on = record {
    short = search rules;
    nothing_left_out = search rules;
    consistent = record {
      types = no_types (features_of default_config);
      shallow = shallow_if_few [] (search rules) (omega arith);
      entities = search rules;
      exports = record {
        stand = stand_alone (shape_spaces memory_passed_on) (codes "m", kind.Memory, 0) (entity.Memory (memory 1 None))
            (memory 1 None, refl, refl);
        distinct = search rules;
      };
    };
    counts = search rules;
    plain = λ other. cc;
  };
  table_without_references =
      let features : Features = features_of (record default_config { reference_types_enabled = false; gc_enabled = false }) in
      let functions : TableType = table funcref 0 None in
      let valid : IsTableValid features [] functions = record {
        limits = search rules;
        element = search rules;
        element_enabled = λ other. absurd (other refl);
        table64 = λ never. cc;
        shared = λ never. cc;
      } in
      record {
        short = search rules;
        nothing_left_out = search rules;
        consistent = record {
          types = no_types features;
          shallow = shallow_if_few [] (search rules) (omega arith);
          entities = record {
            tags = search rules;
            funcs = search rules;
            tables = All-cons (IsTableValid features []) functions [] valid (All-nil (IsTableValid features []));
            memories = search rules;
            globals = search rules;
          };
          exports = record {
            stand = stand_alone (shape_spaces exported_table) (codes "t", kind.Table, 0) (entity.Table functions)
                (functions, refl, refl);
            distinct = search rules;
          };
        };
        counts = search rules;
        plain = λ _. search rules;
      };
  available_tag_without_exceptions =
      let features : Features = features_of (record default_config { exceptions_enabled = false }) in
      let orderly : IsOrderly tag_types = search rules in
      record {
        short = search rules;
        nothing_left_out = search rules;
        consistent = record {
          types = AreTypesValid-single features [] [] (final_type (taking (I32 ∷ []))) orderly (no_types features) (search rules);
          shallow = shallow_if_few tag_types orderly (omega arith);
          entities = record {
            tags = All-cons (IsTagValid tag_types) 0 [] (
              record { params = I32 ∷ []; results = [] },
              (final_type (taking (I32 ∷ [])), refl, refl),
              refl,
            ) (All-nil (IsTagValid tag_types));
            funcs = search rules;
            tables = search rules;
            memories = search rules;
            globals = search rules;
          };
          exports = search rules;
        };
        counts = tt;
        plain = λ other. cc;
      };
  depth_of_63 = record {
    short = record {
      groups = search rules;
      types = search rules;
      inner = chain_all (λ t. IsInnerShort t.composite_type.inner) (λ supertype. omega arith) 63;
      import_groups = search rules;
      imports = search rules;
      funcs = search rules;
      tags = search rules;
      tables = search rules;
      memories = search rules;
      globals = search rules;
      exports = search rules;
    };
    nothing_left_out = record {
      types = chain_all (λ t. t.composite_type.shared ≡ false) (λ supertype. refl) 63;
      values = All-nil IsValTypeIncluded;
      tables = search rules;
      globals = search rules;
    };
    consistent = record {
      types = chain_valid (features_of default_config) refl 63;
      shallow = chain_shallow 63 (omega arith);
      entities = search rules;
      exports = search rules;
    };
    counts = search rules;
    plain = λ other. cc;
  };
  as_a_module_shape = record {
    short = short;
    nothing_left_out = nothing_left_out;
    consistent = consistent;
    counts = search rules;
    plain = λ other. cc;
  };
  too_long = first_of (search rules, grind (arith, common_steps));
  something_left_out = first_of (search rules, grind (arith, common_steps));
  tag_without_exceptions = first_of (search rules, grind (arith, common_steps));
  exported_struct_type = λ valid. let never : heap.Struct ≡ heap.Func =
      ((valid.plain refl).types 0 (final_type empty_struct) (omega arith)).function in cc never;
  a_name_twice = λ valid. let same : 0 ≡ 1 = valid.consistent.exports.distinct.once 0 1 (codes "a") refl refl in omega (arith, same);
}
