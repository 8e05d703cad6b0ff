use Rattle.smith_check_module.proofs.Common.{canonical_index, map, tag_index}
use Rattle.smith_check_module.proofs.SpaceLemmas.{two_mapped}
use Rattle.smith_check_module.proofs.spaces.tags_of.Goals as goal

pub returns-clause-ok : goal.returns-clause-ok
returns-clause-ok c =
    two_mapped (canonical_index c.args.indices.now) c.args.imported.now (map tag_index c.args.tags.now) _ _ _ c.new-made.ensures
    c.in_ok-push_indices.ensures.ok c.in_ok-push_tags.ensures.ok
