use Rattle.smith_check_module.proofs.Common.{features_in, IsGlobalValid}
use Rattle.smith_check_module.proofs.RightLemmas.{one_decided}
use Rattle.smith_check_module.proofs.entities.is_global.Goals as goal

pub returns : goal.returns
returns c =
    one_decided (IsGlobalValid (features_in c.args.features) c.args.types.now) c.args.global c.are_globals_valid.result
    c.are_globals_valid.ensures
