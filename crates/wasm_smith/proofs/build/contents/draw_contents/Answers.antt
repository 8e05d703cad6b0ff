use Rattle.wasm_smith.proofs.Common.{spaces_in}
use Rattle.wasm_smith.proofs.ContentsLemmas.{imports_told}
use Rattle.wasm_smith.proofs.MadeExportsLemmas.{may_hold_contents}
use Rattle.wasm_smith.specs.DrawnSteps.{drawn_next}
use Rattle.wasm_smith.proofs.RefusalLemmas.{contents_refuse, lacks_so}
use Rattle.wasm_smith.proofs.build.contents.draw_contents.Goals as goal

pub draw_after_exports-requires-clause-may : goal.draw_after_exports-requires-clause-may
draw_after_exports-requires-clause-may c = may_hold_contents c.args.config.now c.args.drawn.now c.requires.passes c.requires.sanitized
    c.requires.valid c.requires.drawn

pub draw_after_exports-requires-clause-told : goal.draw_after_exports-requires-clause-told
draw_after_exports-requires-clause-told c = imports_told c.requires.drawn

pub returns-clause-refusal : goal.returns-clause-refusal
returns-clause-refusal c =
    let drawn = c.args.drawn.now in
    contents_refuse c.args.config.now (drawn_next c.args.config.now drawn) drawn.imported.spaces.tables c.draw_after_exports.result
    (lacks_so c.args.config.now (drawn_next c.args.config.now drawn) (spaces_in drawn.imported.spaces) c.requires.drawn.grounded)
    c.draw_after_exports.ensures.refusal
