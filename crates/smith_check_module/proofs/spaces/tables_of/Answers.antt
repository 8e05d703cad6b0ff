use Rattle.smith_check_module.proofs.Common.{canonical_index, map}
use Rattle.smith_check_module.specs.CanonicalModules.{renamed_table}
use Rattle.smith_check_module.specs.Judges.{table_type}
use Rattle.smith_check_module.proofs.SpaceLemmas.{two_mapped}
use Rattle.smith_check_module.proofs.spaces.tables_of.Goals as goal

pub returns-clause-ok : goal.returns-clause-ok
returns-clause-ok c =
    two_mapped (renamed_table (canonical_index c.args.indices.now)) c.args.imported.now (map table_type c.args.tables.now) _ _ _
    c.new-made.ensures c.in_ok-push_tables.ensures.ok c.in_ok-push_table_definitions.ensures.ok
