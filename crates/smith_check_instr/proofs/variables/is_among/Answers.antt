use Rattle.smith_check_instr.proofs.Common.{sym, ◌∙◌}
use Rattle.smith_instr.proofs.AmongLemmas.{among, among_is}
use Rattle.smith_check_instr.proofs.variables.is_among.Goals as goal

pub returns : goal.returns
returns c = (
  λ h. among c.args.index c.args.log.now.items (sym c.contains.ensures ∙ h),
  λ h. c.contains.ensures ∙ among_is c.args.index c.args.log.now.items h,
)
