use Rattle.smith_check_operands.proofs.Common.{ap, arith, Some, sym, ◌∙◌}
use Rattle.smith_check_operands.specs.declared.frame.Frame.{Frame}
use Rattle.smith_check_operands.specs.Closes.{label_of}
use Rattle.smith_check_operands.proofs.LabelLemmas.{label_at}
use Rattle.smith_check_operands.proofs.lookups.label.Goals as goal

pub returns : goal.returns
returns c =
    label_at (label_of c.args.shape.now) c.args.outers.now c.args.index c.index-outers-outers.result (omega arith) (omega arith)
    c.index-outers-outers.is
    ∙ ap (λ (f : Frame). Some (label_of f.shape)) c.index-outers-outers.is ∙ ap (λ ts. Some ts) (sym c.label_types-2.ensures)
