use Rattle.wasm_smith.proofs.DrawnModuleLemmas.{drawn_valid}
use Rattle.wasm_smith.proofs.DrawnBoundLemmas.{drawn_bounds, drawn_minimums}
use Rattle.wasm_smith.proofs.DrawnPromiseLemmas.{drawn_promises, drawn_interesting}
use Rattle.wasm_smith.proofs.build.parts_so_far.draw.Goals as goal

pub returns-in-Ok-clause-valid : goal.returns-in-Ok-clause-valid
returns-in-Ok-clause-valid c = drawn_valid c.args.distinct c.args.config.now _ c.in-Ok.ensures.drawn

pub returns-in-Ok-clause-bounds : goal.returns-in-Ok-clause-bounds
returns-in-Ok-clause-bounds c = drawn_bounds c.args.distinct c.args.config.now _ c.in-Ok.ensures.drawn

pub returns-in-Ok-clause-minimums : goal.returns-in-Ok-clause-minimums
returns-in-Ok-clause-minimums c = drawn_minimums c.args.distinct c.args.config.now _ c.in-Ok.ensures.drawn

pub returns-in-Ok-clause-promises : goal.returns-in-Ok-clause-promises
returns-in-Ok-clause-promises c = drawn_promises c.args.distinct c.args.config.now _ c.in-Ok.ensures.drawn

pub returns-in-Ok-clause-interesting : goal.returns-in-Ok-clause-interesting
returns-in-Ok-clause-interesting c = drawn_interesting c.args.distinct c.args.config.now _ c.in-Ok.ensures.drawn
