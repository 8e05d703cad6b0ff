use Rattle.smith_check_references.proofs.Common.{sym, ◌∙◌}
use Rattle.smith_instr.proofs.AmongLemmas.{among, among_is}
use Rattle.smith_check_references.proofs.FunctionLemmas.{any_among}
use Rattle.smith_check_references.proofs.references.is_declared.Goals as goal

pub returns : goal.returns
returns c = (
  λ h. among c.args.function c.args.references.now (sym (c.contains.ensures.value ∙ any_among c.args.function c.args.references.now) ∙ h),
  λ h. c.contains.ensures.value ∙ any_among c.args.function c.args.references.now ∙ among_is c.args.function c.args.references.now h,
)
