use Rattle.wasm_smith.proofs.Common.{arith, defined_end, flattened, IfErr-weaker, imported_spaces, None, passed_on, spaces_in, ◌≡◌}
use Rattle.wasm_smith.specs.FirstParts.{ModuleSoFar}
use Rattle.wasm_smith.proofs.ContentsLemmas.{may_draw_exports}
use Rattle.wasm_smith.proofs.RefusalLemmas.{exports_refuse}
use Rattle.wasm_smith.proofs.MadeExportsLemmas.{exports_used, exports_free, exports_read, none_given, stands_already, may_hold_contents}
use Rattle.wasm_smith.proofs.MadeExportsLemmas.{required_size, may_require, types_room, required_refuses, required_drawn, required_beyond}
use Rattle.wasm_smith.proofs.MadeExportsLemmas.{drawn_beyond, nothing_beyond}
use Rattle.wasm_smith.proofs.build.exports.make_exports.Goals as goal

pub returns-then-is_some-clause-beyond : goal.returns-then-is_some-clause-beyond
returns-then-is_some-clause-beyond c = nothing_beyond c.args.config.now c.args.drawn.now c.replace-exports.result
    c.replace-exports.ensures.value

pub make_required_exports-requires-clause-valid : goal.make_required_exports-requires-clause-valid
make_required_exports-requires-clause-valid c =
    let none : c.args.config.now.module_shape ≡ None = none_given c.args.config.now.module_shape cc in
    exports_used c.args.config.now c.in-Some.shape none c.in-Some.is c.requires.valid

pub make_required_exports-requires-clause-may : goal.make_required_exports-requires-clause-may
make_required_exports-requires-clause-may c =
    let none : c.args.config.now.module_shape ≡ None = none_given c.args.config.now.module_shape cc in
    may_require c.args.config.now c.in-Some.shape c.args.drawn.now c.requires.passes c.requires.valid
    (exports_used c.args.config.now c.in-Some.shape none c.in-Some.is c.requires.valid) c.requires.entities.may.so_far
    c.requires.sanitized

pub make_required_exports-requires-clause-room : goal.make_required_exports-requires-clause-room
make_required_exports-requires-clause-room c =
    let none : c.args.config.now.module_shape ≡ None = none_given c.args.config.now.module_shape cc in
    types_room c.args.config.now c.in-Some.shape c.args.drawn.now c.requires.passes c.requires.valid
    (exports_used c.args.config.now c.in-Some.shape none c.in-Some.is c.requires.valid) c.requires.entities.may.so_far

pub returns-in_err-exports-clause-refusal : goal.returns-in_err-exports-clause-refusal
returns-in_err-exports-clause-refusal c =
    let none : c.args.config.now.module_shape ≡ None = none_given c.args.config.now.module_shape cc in
    passed_on _ c.from_residual.result c.in_err-exports.field-0.0 c.from_residual.ensures.1
    (required_refuses c.args.config.now c.in-Some.shape c.args.drawn.now none c.in-Some.is c.requires.entities.may
    c.in_err-exports.field-0.0 c.in_err-exports.ensures.refusal)

pub func_grounds-requires : goal.func_grounds-requires
func_grounds-requires c =
    omega (
      arith,
      defined_end (c.in_ok-exports.ensures.stands (imported_spaces (flattened c.args.drawn.now.imported.groups))
          c.requires.entities.may.so_far.stands).funcs,
    )

pub returns-in-Some-clause-drawn : goal.returns-in-Some-clause-drawn
returns-in-Some-clause-drawn c =
    let none : c.args.config.now.module_shape ≡ None = none_given c.args.config.now.module_shape cc in
    let made = c.in_ok-exports.ensures in
    required_drawn c.args.config.now c.in-Some.shape c.args.drawn.now c.make_required_exports.new.types c.make_required_exports.new.spaces
    c.make_required_exports.new.definitions none c.in-Some.is c.requires.entities made.types made.types_most made.lacking
    made.few_values
    made.counted made.spaces made.types_of made.limits (made.stands (imported_spaces (flattened c.args.drawn.now.imported.groups))
    c.requires.entities.may.so_far.stands)

pub returns-in-Some-clause-size : goal.returns-in-Some-clause-size
returns-in-Some-clause-size c =
    let none : c.args.config.now.module_shape ≡ None = none_given c.args.config.now.module_shape cc in
    let standing : ModuleSoFar = record {
      types = c.make_required_exports.new.types;
      groups = c.args.drawn.now.imported.groups;
      spaces = spaces_in c.make_required_exports.new.spaces;
      defined = c.make_required_exports.new.definitions;
      exports = c.in_ok-exports.exports;
    } in
    required_size c.args.config.now c.in-Some.shape standing c.args.drawn.now.imported.type_size none c.in-Some.is
    (returns-in-Some-clause-drawn c).whole.type_size

pub returns-in-Some-clause-beyond : goal.returns-in-Some-clause-beyond
returns-in-Some-clause-beyond c =
    let none : c.args.config.now.module_shape ≡ None = none_given c.args.config.now.module_shape cc in
    let made = c.in_ok-exports.ensures in
    required_beyond c.args.config.now c.in-Some.shape c.args.drawn.now c.make_required_exports.new.types c.make_required_exports.new.spaces
    c.make_required_exports.new.definitions none c.in-Some.is c.in_ok-exports.exports made.types made.groups made.spaces

pub arbitrary_exports-requires : goal.arbitrary_exports-requires
arbitrary_exports-requires c =
    let none : c.args.config.now.module_shape ≡ None = none_given c.args.config.now.module_shape cc in
    record {
      may = may_draw_exports
          (may_hold_contents c.args.config.now c.args.drawn.now c.requires.passes c.requires.sanitized c.requires.valid
          (stands_already c.args.config.now c.args.drawn.now c.requires.entities))
          (exports_free c.args.config.now none c.in_default.is);
    }

pub returns-clause-exact : goal.returns-clause-exact
returns-clause-exact c =
    let draw = c.arbitrary_exports.ensures in
    exports_read c.args.config.now c.args.drawn.now c.args.u.now c.arbitrary_exports.new.u c.arbitrary_exports.result
    (none_given c.args.config.now.module_shape cc) c.in_default.is c.requires.entities.may.so_far draw.exact draw.refusal

pub returns-clause-beyond : goal.returns-clause-beyond
returns-clause-beyond c = drawn_beyond c.args.config.now c.args.drawn.now c.arbitrary_exports.result
    (none_given c.args.config.now.module_shape cc)

pub returns-clause-refusal : goal.returns-clause-refusal
returns-clause-refusal c =
    let none : c.args.config.now.module_shape ≡ None = none_given c.args.config.now.module_shape cc in
    IfErr-weaker c.arbitrary_exports.result _ _
    (λ e. exports_refuse c.args.config.now e (exports_free c.args.config.now none c.in_default.is)) c.arbitrary_exports.ensures.refusal
