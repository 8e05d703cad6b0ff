use Rattle.smith_check_module.proofs.Common.{features_in, IsTableValid}
use Rattle.smith_check_module.proofs.RightLemmas.{one_decided}
use Rattle.smith_check_module.proofs.entities.is_table_valid.Goals as goal

pub returns : goal.returns
returns c =
    one_decided (IsTableValid (features_in c.args.features) c.args.types.now) c.args.table c.are_tables_valid.result
    c.are_tables_valid.ensures
