use Rattle.wasm_smith.proofs.Common.{IfErr-weaker}
use Rattle.wasm_smith.specs.DrawnSteps.{drawn_next}
use Rattle.wasm_smith.proofs.EntitiesDrawnLemmas.{may_define_drawn, entities_drawn, defined_refuse}
use Rattle.wasm_smith.proofs.build.steps.add_definitions.Goals as goal

pub define-requires-clause-may : goal.define-requires-clause-may
define-requires-clause-may c = may_define_drawn _ _ c.requires.passes c.requires.sanitized c.requires.valid c.requires.imports

pub returns-clause-drawn : goal.returns-clause-drawn
returns-clause-drawn c = entities_drawn _ _ c.args.drawn.now _ _ c.requires.imports c.define.ensures.defined c.define.ensures.floats

pub returns-clause-refusal : goal.returns-clause-refusal
returns-clause-refusal c = IfErr-weaker _ _ _ (λ e. defined_refuse c.args.config.now (drawn_next c.args.config.now c.args.drawn.now) e
    (λ none. (c.requires.imports.may.grounded none).fields)) c.define.ensures.refusal
