use Rattle.smith_config_examples.proofs.Common.{rules, false, default_config, features_of, Config}
use Rattle.smith_config_examples.proofs.ShapeExamples.{types_valid, shallow, entities_valid, exports_valid}
use Rattle.smith_config_examples.proofs.shapes.compact_imports.Goals as goal

abbrev config : Config
config = record default_config { compact_imports_enabled = false }

pub returns-clause-without_their_feature : goal.returns-clause-without_their_feature
returns-clause-without_their_feature c = record {
  short = search rules;
  nothing_left_out = search rules;
  consistent = record {
    types = types_valid (features_of config);
    shallow = shallow;
    entities = entities_valid (features_of config);
    exports = exports_valid;
  };
  counts = search rules;
  plain = λ other. cc;
}
