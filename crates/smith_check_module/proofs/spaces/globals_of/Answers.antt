use Rattle.smith_check_module.proofs.Common.{canonical_index, map}
use Rattle.smith_check_module.specs.CanonicalModules.{renamed_global}
use Rattle.smith_check_module.specs.Judges.{global_type}
use Rattle.smith_check_module.proofs.SpaceLemmas.{two_mapped}
use Rattle.smith_check_module.proofs.spaces.globals_of.Goals as goal

pub returns-clause-ok : goal.returns-clause-ok
returns-clause-ok c =
    two_mapped (renamed_global (canonical_index c.args.indices.now)) c.args.imported.now (map global_type c.args.globals.now) _ _ _
    c.new-made.ensures c.in_ok-push_globals.ensures.ok c.in_ok-push_global_definitions.ensures.ok
