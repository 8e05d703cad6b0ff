use Rattle.smith_check_module.proofs.RightLemmas.{func_decided}
use Rattle.smith_check_module.proofs.entities.is_func.Goals as goal

pub returns : goal.returns
returns c = func_decided c.args.types.now c.args.index c.are_funcs_valid.result c.are_funcs_valid.ensures
