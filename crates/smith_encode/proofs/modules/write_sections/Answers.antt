use Rattle.smith_encode.proofs.Common.{AreCustoms, fault_weaker, None, syntax_of, ◌++◌}
use Rattle.smith_encode.specs.Tails.{FromElements, FromTypes, front_ids, middle_ids, start_ids, back_ids}
use Rattle.smith_encode.proofs.PlaceLemmas.{before_on}
use Rattle.smith_encode.proofs.ModuleLemmas.{counted_on, from_earlier, from_start, handed_on}
use Rattle.smith_encode.proofs.modules.write_sections.Goals as goal

pub returns-clause-writes : goal.returns-clause-writes
returns-clause-writes c =
    let m = c.args.module.now in
    rw (← c.as_slice.ensures)
    (counted_on {ids = front_ids ++ (middle_ids ++ start_ids m.start)} {Whole = FromTypes (syntax_of m)}
    {Tail = FromElements (syntax_of m)} back_ids AreCustoms _ m (λ next. (next.after, next.customs.now)) c.write_back.result
    (λ count. before_on (c.in_ok-place.ensures.writes count)
    (before_on (c.in_ok-place-2.ensures.writes count) (c.in_ok-place-3.ensures.writes count))) c.write_back.ensures.writes)

pub returns-in_err-place-clause-fault : goal.returns-in_err-place-clause-fault
returns-in_err-place-clause-fault c =
    handed_on c.from_residual.result c.in_err-place.field-0.0 c.from_residual.ensures.1
    (from_start c.as_slice.ensures) c.in_err-place.ensures.fault

pub returns-in_err-place-2-clause-fault : goal.returns-in_err-place-2-clause-fault
returns-in_err-place-2-clause-fault c =
    handed_on c.from_residual-in_err-place-2.result c.in_err-place-2.field-0.0 c.from_residual-in_err-place-2.ensures.1
    (λ long. from_start c.as_slice.ensures (from_earlier (c.in_ok-place.ensures.writes None) long)) c.in_err-place-2.ensures.fault

pub returns-in_err-place-3-clause-fault : goal.returns-in_err-place-3-clause-fault
returns-in_err-place-3-clause-fault c =
    handed_on c.from_residual-in_err-place-3.result c.in_err-place-3.field-0.0 c.from_residual-in_err-place-3.ensures.1
    (λ long. from_start c.as_slice.ensures
    (from_earlier (before_on (c.in_ok-place.ensures.writes None) (c.in_ok-place-2.ensures.writes None)) long))
    c.in_err-place-3.ensures.fault

pub returns-clause-fault : goal.returns-clause-fault
returns-clause-fault c =
    fault_weaker c.write_back.result
    (λ long. from_start c.as_slice.ensures (from_earlier (before_on (c.in_ok-place.ensures.writes None)
    (before_on (c.in_ok-place-2.ensures.writes None) (c.in_ok-place-3.ensures.writes None))) long)) c.write_back.ensures.fault
