use Rattle.std.proofs.Common.{string_bytes}
use Rattle.std.proofs.lemmas.Result.{IfOk-weaker}
use Rattle.smith_bytes.proofs.KebabShapeLemmas.{kebab_new}
use Rattle.smith_bytes.proofs.names.unique_kebab_string.Goals as goal

pub returns-clause-shape : goal.returns-clause-shape
returns-clause-shape c = IfOk-weaker c.unique.result _ _ (λ name. kebab_new c.args.names.now c.args.max_size c.args.u.now _ _
    (string_bytes name) c.in_ok-draw_kebab_string.ensures.exact) c.unique.ensures.made
