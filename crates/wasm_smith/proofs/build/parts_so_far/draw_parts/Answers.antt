use Rattle.wasm_smith.proofs.Common.{arith, defined_end, Exports}
use Rattle.wasm_smith.specs.FirstParts.{module_so_far}
use Rattle.wasm_smith.specs.declared.build.contents.Contents.{Contents}
use Rattle.wasm_smith.specs.declared.build.parts_so_far.PartsSoFar.{PartsSoFar}
use Rattle.wasm_smith.proofs.ContentsLemmas.{pages_small}
use Rattle.wasm_smith.proofs.KeptShapeLemmas.{kept_beyond, shapes_kept}
use Rattle.wasm_smith.proofs.MadeExportsLemmas.{may_hold_contents}
use Rattle.wasm_smith.proofs.PartsLemmas.{drawn_for, exports_refused, module_read, module_refused, same_imports}
use Rattle.wasm_smith.proofs.build.parts_so_far.draw_parts.Goals as goal

pub func_grounds-requires : goal.func_grounds-requires
func_grounds-requires c = omega (arith, defined_end c.in_ok-begin_with_types.ensures.drawn.may.so_far.stands.funcs)

pub returns-in_err-add_definitions-clause-left : goal.returns-in_err-add_definitions-clause-left
returns-in_err-add_definitions-clause-left c = λ whole h.
    c.add_definitions.ensures.left whole (c.draw_section_flag-encodes_imports.ensures.draws.left whole
    (c.add_imports.ensures.left whole (c.begin_with_types.ensures.left whole h)))

pub returns-in_err-made-clause-exact : goal.returns-in_err-made-clause-exact
returns-in_err-made-clause-exact c =
    exports_refused _ (λ (made : Exports). (
      record (module_so_far c.make_exports.new.drawn) { exports = made.exports },
      c.make_exports.new.u,
    )) c.from_residual-in_err-made.result c.in_err-made.field-0.0 c.args.distinct c.args.config.now c.args.u.now _ _
    _ _ _ _ _ _ c.in_ok-begin_with_types.ensures.exact c.in_ok-add_imports.ensures.exact
    (rw c.len.ensures at c.draw_section_flag-encodes_imports.ensures.draws.exact)
    c.in_ok-add_definitions.ensures.exact c.in_err-made.ensures.exact c.from_residual-in_err-made.ensures.1

pub returns-in_err-made-clause-left : goal.returns-in_err-made-clause-left
returns-in_err-made-clause-left c = λ whole h.
    c.make_exports.ensures.left whole (c.add_definitions.ensures.left whole (c.draw_section_flag-encodes_imports.ensures.draws.left whole
    (c.add_imports.ensures.left whole (c.begin_with_types.ensures.left whole h))))

pub returns-in_err-drawn-clause-exact : goal.returns-in_err-drawn-clause-exact
returns-in_err-drawn-clause-exact c =
    let made = c.in_ok-made.ensures in
    module_refused _ (λ (contents : Contents). (contents, c.draw_contents.new.u)) c.from_residual-in_err-drawn.result
    c.in_err-drawn.field-0.0 c.args.distinct c.args.config.now c.args.u.now _ _ _ _ _ _ _ _ _ _ _ c.in_ok-begin_with_types.ensures.exact
    c.in_ok-add_imports.ensures.exact (rw c.len.ensures at c.draw_section_flag-encodes_imports.ensures.draws.exact)
    c.in_ok-add_definitions.ensures.exact made.exact made.size c.in_err-drawn.ensures.exact c.from_residual-in_err-drawn.ensures.1

pub returns-in_err-drawn-clause-left : goal.returns-in_err-drawn-clause-left
returns-in_err-drawn-clause-left c = λ whole h.
    c.draw_contents.ensures.left whole
    (c.make_exports.ensures.left whole
    (c.add_definitions.ensures.left whole (c.draw_section_flag-encodes_imports.ensures.draws.left whole
    (c.add_imports.ensures.left whole (c.begin_with_types.ensures.left whole h)))))

pub collect_interesting_values-requires : goal.collect_interesting_values-requires
collect_interesting_values-requires c =
    record {
      pages = rw c.as_slice-2.ensures
          (pages_small (may_hold_contents c.args.config.now c.make_exports.new.drawn c.requires.passes c.requires.sanitized c.requires.valid
          c.in_ok-made.ensures.drawn));
    }

pub returns-in_err-narrow-clause-left : goal.returns-in_err-narrow-clause-left
returns-in_err-narrow-clause-left c = λ whole h.
    c.draw_contents.ensures.left whole
    (c.make_exports.ensures.left whole
    (c.add_definitions.ensures.left whole (c.draw_section_flag-encodes_imports.ensures.draws.left whole
    (c.add_imports.ensures.left whole (c.begin_with_types.ensures.left whole h)))))

pub returns-clause-exact : goal.returns-clause-exact
returns-clause-exact c =
    let made = c.in_ok-made.ensures in
    module_read c.args.distinct c.args.config.now c.args.u.now _ _ _ _ _ _ _ _ _ _ _ _ _ _ c.in_ok-begin_with_types.ensures.exact
    c.in_ok-add_imports.ensures.exact (rw c.len.ensures at c.draw_section_flag-encodes_imports.ensures.draws.exact)
    c.in_ok-add_definitions.ensures.exact
    made.exact made.size c.in_ok-drawn.ensures.exact made.drawn.whole.count

pub returns-clause-drawn : goal.returns-clause-drawn
returns-clause-drawn c =
    let made = c.in_ok-made.ensures in
    let contents = c.in_ok-drawn.ensures in
    drawn_for _ _ _ _ made.drawn c.in_ok-add_imports.ensures.free (same_imports c.in_ok-add_definitions.ensures.imports made.imports)
    (rw c.len.ensures at c.draw_section_flag-encodes_imports.ensures.written) contents.kept
    (λ off none. contents.floats off (made.drawn.floats off none).types) contents.granted
    (rw (c.as_slice.ensures, c.as_slice-2.ensures) at c.in_ok-narrow.ensures.narrow)
    (rw (c.as_slice.ensures, c.as_slice-2.ensures) at c.in_ok-narrow.ensures.wide)

pub returns-clause-kept : goal.returns-clause-kept
returns-clause-kept c =
    let made = c.in_ok-made.ensures in
    let contents = c.in_ok-drawn.ensures in
    let kept = kept_beyond made.beyond (kept_beyond c.in_ok-add_definitions.ensures.beyond
    (kept_beyond c.in_ok-add_imports.ensures.beyond c.in_ok-begin_with_types.ensures.kept)) in
    let drawn : PartsSoFar = record c.make_exports.new.drawn {
      contents = c.in_ok-drawn.field-0;
      encodes_imports = c.draw_section_flag-encodes_imports.result;
      interesting_values32 = c.in_ok-narrow.narrow;
      interesting_values64 = c.in_ok-narrow.wide;
    } in
    shapes_kept c.args.config.now c.args.u.now drawn c.in_ok-made.made.exports contents.exports kept made.kept

pub returns-clause-left : goal.returns-clause-left
returns-clause-left c = λ whole h.
    c.draw_contents.ensures.left whole
    (c.make_exports.ensures.left whole
    (c.add_definitions.ensures.left whole (c.draw_section_flag-encodes_imports.ensures.draws.left whole
    (c.add_imports.ensures.left whole (c.begin_with_types.ensures.left whole h)))))
