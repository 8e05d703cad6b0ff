use Rattle.smith_draw_shape_imports.proofs.Common.{features_of}
use Rattle.smith_types.specs.Groups.{space_of}
use Rattle.smith_types.proofs.GroupsAddedLemmas.{valid_following}
use Rattle.smith_draw_shape_imports.proofs.available.take_available_imports.Goals as goal

pub types_of_shape-requires-clause-following : goal.types_of_shape-requires-clause-following
types_of_shape-requires-clause-following c = valid_following (features_of c.args.config.now) (space_of c.args.shape.now.groups)
    c.requires.valid.consistent.types
