use Rattle.smith_body_leaves.proofs.Common.{◌∙◌}
use Rattle.smith_body_leaves.proofs.PreferredLemmas.{created_abstract}
use Rattle.smith_body_leaves.proofs.created_values.may_be_created.Goals as goal

pub returns-in-Abstract : goal.returns-in-Abstract
returns-in-Abstract c = c.is_above_created.ensures c.in-Abstract.shared ∙ created_abstract c.args.wanted c.in-Ref.to c.in-Abstract.shared
    c.in-Abstract.ty c.in-Ref.is c.in-Abstract.is
