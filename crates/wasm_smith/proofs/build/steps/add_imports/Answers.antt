use Rattle.wasm_smith.proofs.Common.{Context, IfErr-weaker, subst, sym}
use Rattle.std.proofs.lemmas.Result.{on_ok_weaker}
use Rattle.smith_draw_types.specs.KeptGrounds.{AreKeptGrounds}
use Rattle.wasm_smith.proofs.AddedImportLemmas.{imports_beyond, imports_drawn, imports_read, in_scope, may_import, none_there}
use Rattle.wasm_smith.proofs.RefusalLemmas.{imports_refuse}
use Rattle.wasm_smith.proofs.build.steps.add_imports.Goals as goal

pub arbitrary_imports-requires-clause-may : goal.arbitrary_imports-requires-clause-may
arbitrary_imports-requires-clause-may c =
    let config = c.args.config.now in
    may_import config c.args.drawn.now c.requires.passes c.requires.sanitized c.requires.types
    (none_there config.available_imports c.if-is_some.ensures) (none_there config.module_shape c.if-is_some-2.ensures)

pub arbitrary_imports-requires-clause-kept : goal.arbitrary_imports-requires-clause-kept
arbitrary_imports-requires-clause-kept c =
    let config = c.args.config.now in
    subst (λ (context : Context). AreKeptGrounds context c.args.grounds.now)
    (sym (in_scope config c.args.drawn.now c.requires.passes c.requires.sanitized c.requires.types
    (none_there config.available_imports c.if-is_some.ensures) (none_there config.module_shape c.if-is_some-2.ensures)
    c.args.drawn.now.imported)) c.requires.grounds

pub returns-clause-exact : goal.returns-clause-exact
returns-clause-exact c =
    let config = c.args.config.now in
    let draw = c.arbitrary_imports.ensures in
    imports_read c.args.distinct config c.args.drawn.now c.arbitrary_imports.new.imported c.args.u.now c.arbitrary_imports.new.u
    c.arbitrary_imports.result (none_there config.available_imports c.if-is_some.ensures)
    (none_there config.module_shape c.if-is_some-2.ensures) draw.exact draw.refusal draw.so_far

pub returns-clause-grounds : goal.returns-clause-grounds
returns-clause-grounds c =
    let config = c.args.config.now in
    on_ok_weaker c.arbitrary_imports.result
    (subst (λ (context : Context). AreKeptGrounds context c.arbitrary_imports.new.grounds)
    (in_scope config c.args.drawn.now c.requires.passes c.requires.sanitized c.requires.types
    (none_there config.available_imports c.if-is_some.ensures) (none_there config.module_shape c.if-is_some-2.ensures)
    c.arbitrary_imports.new.imported)) c.arbitrary_imports.ensures.kept

pub returns-clause-drawn : goal.returns-clause-drawn
returns-clause-drawn c =
    let config = c.args.config.now in
    on_ok_weaker c.arbitrary_imports.result
    (imports_drawn config c.args.drawn.now c.requires.passes c.requires.sanitized c.requires.types
    (none_there config.available_imports c.if-is_some.ensures) (none_there config.module_shape c.if-is_some-2.ensures) c.args.distinct
    c.arbitrary_imports.new.imported)
    c.arbitrary_imports.ensures.so_far

pub returns-clause-beyond : goal.returns-clause-beyond
returns-clause-beyond c =
    let config = c.args.config.now in
    on_ok_weaker c.arbitrary_imports.result
    (imports_beyond config c.args.drawn.now c.requires.passes c.requires.sanitized c.requires.types
    (none_there config.available_imports c.if-is_some.ensures) (none_there config.module_shape c.if-is_some-2.ensures) c.args.distinct
    c.arbitrary_imports.new.imported)
    c.arbitrary_imports.ensures.so_far

pub returns-clause-refusal : goal.returns-clause-refusal
returns-clause-refusal c =
    let config = c.args.config.now in
    let may = may_import config c.args.drawn.now c.requires.passes c.requires.sanitized c.requires.types
    (none_there config.available_imports c.if-is_some.ensures) (none_there config.module_shape c.if-is_some-2.ensures) in
    IfErr-weaker c.arbitrary_imports.result _ _ (λ e. imports_refuse config e may.free) c.arbitrary_imports.ensures.refusal
