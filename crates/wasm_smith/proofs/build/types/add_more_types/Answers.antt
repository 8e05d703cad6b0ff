use Rattle.wasm_smith.proofs.Common.{ap, GroupedTypes, List, ℕ, ◌≡◌}
use Rattle.smith_bytes.specs.declared.error.Count.TheVariants.{Types}
use Rattle.std.proofs.lemmas.Result.{on_ok_weaker}
use Rattle.wasm_smith.specs.Build.{functions_over}
use Rattle.wasm_smith.proofs.TypesGrownLemmas.{types_after, types_full}
use Rattle.wasm_smith.proofs.build.types.add_more_types.Goals as goal

pub returns-clause-types : goal.returns-clause-types
returns-clause-types c =
    on_ok_weaker c.arbitrary_types.result
    (λ drawn. rw drawn at (types_after c.args.config.now (functions_over c.args.config.now c.args.funcs.now c.args.imported_funcs)
    c.args.types.now c.args.u.now).types) c.arbitrary_types.ensures.draws.exact

pub returns-clause-groups : goal.returns-clause-groups
returns-clause-groups c =
    on_ok_weaker c.arbitrary_types.result
    (λ drawn. rw drawn at (types_after c.args.config.now (functions_over c.args.config.now c.args.funcs.now c.args.imported_funcs)
    c.args.types.now c.args.u.now).groups) c.arbitrary_types.ensures.draws.exact

pub returns-clause-full : goal.returns-clause-full
returns-clause-full c = λ full.
    on_ok_weaker c.arbitrary_types.result (λ drawn. let none = types_full c.args.config.now
    (functions_over c.args.config.now c.args.funcs.now c.args.imported_funcs) c.args.types.now c.args.u.now
    (c.requires.passes.ordered Types tt) full in let both : (c.arbitrary_types.new.types, c.arbitrary_types.new.u)
    ≡ (c.args.types.now, c.args.u.now) = cc in ap (λ (r : GroupedTypes × List ℕ). r.0) both)
    c.arbitrary_types.ensures.draws.exact
