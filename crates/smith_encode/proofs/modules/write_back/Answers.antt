use Rattle.smith_encode.proofs.Common.{[], AreCustoms, fault_weaker, None, syntax_of, ◌∷◌}
use Rattle.smith_encode.specs.Tails.{FromDatas}
use Rattle.smith_encode.proofs.PlaceLemmas.{before_on}
use Rattle.smith_encode.proofs.ModuleLemmas.{back_on, from_earlier, handed_on}
use Rattle.smith_encode.proofs.modules.write_back.Goals as goal

pub returns-clause-writes : goal.returns-clause-writes
returns-clause-writes c =
    let m = c.args.module.now in
    let counted = c.in_ok-place-2.ensures.writes in
    back_on {ids = 9 ∷ 12 ∷ 10 ∷ []} {Tail = FromDatas (syntax_of m)} (11 ∷ []) AreCustoms _ m counted.0
    (λ next. (next.after, next.customs.now)) c.write_datas.result counted.1
    (before_on (c.in_ok-place.ensures.writes counted.0) (before_on counted.2 c.in_ok-place-3.ensures.writes))
    c.write_datas.ensures.writes

pub returns-in_err-place-2-clause-fault : goal.returns-in_err-place-2-clause-fault
returns-in_err-place-2-clause-fault c =
    handed_on c.from_residual-in_err-place-2.result c.in_err-place-2.field-0.0 c.from_residual-in_err-place-2.ensures.1
    (from_earlier (c.in_ok-place.ensures.writes None)) c.in_err-place-2.ensures.fault

pub returns-in_err-place-3-clause-fault : goal.returns-in_err-place-3-clause-fault
returns-in_err-place-3-clause-fault c =
    let counted = c.in_ok-place-2.ensures.writes in
    handed_on c.from_residual-in_err-place-3.result c.in_err-place-3.field-0.0 c.from_residual-in_err-place-3.ensures.1
    (from_earlier (before_on (c.in_ok-place.ensures.writes counted.0) counted.2)) c.in_err-place-3.ensures.fault

pub returns-clause-fault : goal.returns-clause-fault
returns-clause-fault c =
    let counted = c.in_ok-place-2.ensures.writes in
    fault_weaker c.write_datas.result
    (from_earlier (before_on (c.in_ok-place.ensures.writes counted.0) (before_on counted.2 c.in_ok-place-3.ensures.writes)))
    c.write_datas.ensures.fault
