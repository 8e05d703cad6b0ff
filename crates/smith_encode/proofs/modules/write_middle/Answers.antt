use Rattle.smith_encode.proofs.Common.{[], fault_weaker, None, syntax_of, ◌∷◌}
use Rattle.smith_encode.specs.Tails.{FromMemories, FromExports, FromStart}
use Rattle.smith_encode.proofs.PlaceLemmas.{before_on}
use Rattle.smith_encode.proofs.ModuleLemmas.{sections_on, from_earlier, handed_on}
use Rattle.smith_encode.proofs.modules.write_middle.Goals as goal

pub returns-clause-writes : goal.returns-clause-writes
returns-clause-writes c =
    let m = syntax_of c.args.module.now in
    sections_on {ids = 5 ∷ 13 ∷ 6 ∷ []} {Whole = FromMemories m} {Tail = FromExports m}
    (7 ∷ []) (FromStart m) _ (λ next. (next.after, next.customs.now)) c.write_exports.result (λ count.
    before_on (c.in_ok-place.ensures.writes count)
    (before_on (c.in_ok-place-2.ensures.writes count) (c.in_ok-place-3.ensures.writes count))) c.write_exports.ensures.writes

pub returns-in_err-place-2-clause-fault : goal.returns-in_err-place-2-clause-fault
returns-in_err-place-2-clause-fault c =
    handed_on c.from_residual-in_err-place-2.result c.in_err-place-2.field-0.0 c.from_residual-in_err-place-2.ensures.1
    (from_earlier (c.in_ok-place.ensures.writes None)) c.in_err-place-2.ensures.fault

pub returns-in_err-place-3-clause-fault : goal.returns-in_err-place-3-clause-fault
returns-in_err-place-3-clause-fault c =
    handed_on c.from_residual-in_err-place-3.result c.in_err-place-3.field-0.0 c.from_residual-in_err-place-3.ensures.1
    (from_earlier (before_on (c.in_ok-place.ensures.writes None) (c.in_ok-place-2.ensures.writes None))) c.in_err-place-3.ensures.fault

pub returns-clause-fault : goal.returns-clause-fault
returns-clause-fault c =
    fault_weaker c.write_exports.result
    (from_earlier (before_on (c.in_ok-place.ensures.writes None)
    (before_on (c.in_ok-place-2.ensures.writes None) (c.in_ok-place-3.ensures.writes None))))
    c.write_exports.ensures.fault
