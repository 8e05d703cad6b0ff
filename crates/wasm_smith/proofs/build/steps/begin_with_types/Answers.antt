use Rattle.wasm_smith.proofs.Common.{passed_on}
use Rattle.wasm_smith.specs.DrawnSteps.{drawn_next}
use Rattle.wasm_smith.proofs.FirstPartsStandLemmas.{first_parts_stand}
use Rattle.wasm_smith.proofs.FirstPartsTypedLemmas.{types_after, drawn_after}
use Rattle.wasm_smith.proofs.LackingLemmas.{first_parts_refused}
use Rattle.wasm_smith.proofs.build.steps.begin_with_types.Goals as goal

pub returns-in_err-begin-clause-refusal : goal.returns-in_err-begin-clause-refusal
returns-in_err-begin-clause-refusal c = passed_on _ c.from_residual.result c.in_err-begin.field-0.0 c.from_residual.ensures.1
    (first_parts_refused c.args.config.now c.in_err-begin.field-0.0 c.in_err-begin.ensures.refusal)

pub add_more_types-requires-clause-valid : goal.add_more_types-requires-clause-valid
add_more_types-requires-clause-valid c =
    (first_parts_stand c.args.config.now c.args.u.now c.begin.new.drawn c.in_ok-begin.ensures.parts).stands.types

pub returns-clause-drawn : goal.returns-clause-drawn
returns-clause-drawn c =
    let more = c.add_more_types.ensures in
    drawn_after c.args.config.now c.args.u.now c.begin.new.drawn c.add_more_types.new.types c.add_more_types.result c.requires.valid
    c.in_ok-begin.ensures.parts
    (types_after c.args.config.now (drawn_next c.args.config.now c.begin.new.drawn) c.begin.new.drawn.types c.add_more_types.new.types
    c.add_more_types.result more.valid more.types more.most more.full more.least more.floats more.few_values
    (rw c.as_slice-funcs.ensures at more.grounded) (rw c.as_slice-funcs.ensures at more.granted))
