use Rattle.smith_types.proofs.Common.{sym, ◌∙◌}
use Rattle.smith_types.proofs.FuncGroundLemmas.{none_grounded}
use Rattle.smith_types.proofs.func_grounds.FuncGrounds.none.Goals as goal

pub returns-clause-none : goal.returns-clause-none
returns-clause-none c =
    let made = c.in_ok-from_elem.ensures in
    none_grounded (record { marks = c.in_ok-from_elem.field-0; kinds = c.no_kinds.result }) c.args.types
    (made.items_if_clones_equal (λ y same. same)) c.no_kinds.ensures (sym c.in_ok-from_elem.field-0.ok.0 ∙ made.len)
