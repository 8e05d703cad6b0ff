use Rattle.wasm_smith.proofs.Common.{ap, count_in, Definitions, EntitySpaces, Export, features_of, GroupedTypes, imported_spaces}
use Rattle.wasm_smith.proofs.Common.{items_of_exports, List, nothing_defined, passed_on, shape_imports, space_of, spaces_in, then_with, ◌+◌}
use Rattle.wasm_smith.proofs.Common.{◌∙◌, ◌≡◌}
use Rattle.smith_types.proofs.GroupsAddedLemmas.{valid_following}
use Rattle.smith_module_rules.specs.ShapeImports.{kept_groups}
use Rattle.wasm_smith.specs.FirstParts.{ModuleSoFar, first_parts_by_module_at}
use Rattle.smith_draw_definitions.specs.RequiredExports.{Required, standing_with}
use Rattle.wasm_smith.proofs.FirstPartsLemmas.{stands_alone, may_begin, items_of_one_shape, tables_of_shape, memories_of_shape}
use Rattle.wasm_smith.proofs.FirstPartsLemmas.{globals_of_shape, refused_with}
use Rattle.wasm_smith.proofs.build.first_parts.begin_with_module.Goals as goal

pub types_of_shape-requires-clause-following : goal.types_of_shape-requires-clause-following
types_of_shape-requires-clause-following c = valid_following (features_of c.args.config.now) (space_of c.args.shape.now.groups)
    c.requires.valid.consistent.types

pub make_shape_exports-requires-clause-may : goal.make_shape_exports-requires-clause-may
make_shape_exports-requires-clause-may c =
    let kept = c.in_ok-drawn-2.ensures.kept in
    let nothing : c.args.drawn.now.definitions ≡ nothing_defined =
    ap (λ (so_far : ModuleSoFar). so_far.defined) c.requires.nothing.so_far in
    rw (c.in_ok-drawn.ensures.types, kept.spaces, nothing) (may_begin c.args.config.now c.args.shape.now c.requires.sanitized
    c.requires.valid kept.entities)

pub returns-in_err-drawn-3-clause-exact : goal.returns-in_err-drawn-3-clause-exact
unfolding first_parts_by_module_at
returns-in_err-drawn-3-clause-exact c =
    let kept = c.in_ok-drawn-2.ensures.kept in
    let nothing : c.args.drawn.now.definitions ≡ nothing_defined =
    ap (λ (so_far : ModuleSoFar). so_far.defined) c.requires.nothing.so_far in
    let given = rw (c.in_ok-drawn.ensures.types, kept.spaces, nothing) at c.in_err-drawn-3.ensures.exact in
    refused_with
    (λ (made : Required). record {
      types = made.types;
      groups = kept_groups c.args.config.now c.args.shape.now;
      spaces = made.spaces;
      defined = made.defined;
      exports = made.exports;
    })
    (λ (exports : List Export). (
      standing_with c.make_shape_exports.new.types (spaces_in c.make_shape_exports.new.spaces)
          c.make_shape_exports.new.definitions exports,
      c.make_shape_exports.new.u,
    ))
    _ c.in_err-drawn-3.field-0.0 _ c.from_residual-in_err-drawn-3.result given c.from_residual-in_err-drawn-3.ensures.1

pub returns-in_err-drawn-3-clause-refusal : goal.returns-in_err-drawn-3-clause-refusal
returns-in_err-drawn-3-clause-refusal c =
    let kept = c.in_ok-drawn-2.ensures.kept in
    let nothing : c.args.drawn.now.definitions ≡ nothing_defined =
    ap (λ (so_far : ModuleSoFar). so_far.defined) c.requires.nothing.so_far in
    let types = ap (λ (space : GroupedTypes). space.types) c.in_ok-drawn.ensures.types in
    let funcs = ap (λ (spaces : EntitySpaces). spaces.funcs) kept.spaces in
    let defined = ap (λ (made : Definitions). made.num_funcs) nothing in
    passed_on _ c.from_residual-in_err-drawn-3.result c.in_err-drawn-3.field-0.0 c.from_residual-in_err-drawn-3.ensures.1
    (rw (types, funcs, defined) at c.in_err-drawn-3.ensures.refusal)

pub returns-clause-exact : goal.returns-clause-exact
unfolding first_parts_by_module_at
returns-clause-exact c =
    let kept = c.in_ok-drawn-2.ensures.kept in
    let nothing : c.args.drawn.now.definitions ≡ nothing_defined =
    ap (λ (so_far : ModuleSoFar). so_far.defined) c.requires.nothing.so_far in
    let made = rw (c.in_ok-drawn.ensures.types, kept.spaces, nothing) at c.in_ok-drawn-3.ensures.exact in
    rw kept.groups
    (ap (then_with (λ (made : Required). record {
      types = made.types;
      groups = kept_groups c.args.config.now c.args.shape.now;
      spaces = made.spaces;
      defined = made.defined;
      exports = made.exports;
    })) made)

pub returns-clause-parts : goal.returns-clause-parts
returns-clause-parts c =
    let shape = c.args.shape.now in
    let kept = c.in_ok-drawn-2.ensures.kept in
    let made = c.in_ok-drawn-3.ensures in
    let nothing : c.args.drawn.now.definitions ≡ nothing_defined =
    ap (λ (so_far : ModuleSoFar). so_far.defined) c.requires.nothing.so_far in
    let imported = imported_spaces (shape_imports shape) in
    record {
      types = made.types ∙ c.in_ok-drawn.ensures.types;
      groups = kept.groups;
      flat = kept.flat;
      count = kept.count;
      type_size = kept.type_size;
      valid = kept.valid;
      stands = made.stands imported (rw (c.in_ok-drawn.ensures.types, kept.spaces, nothing)
          (stands_alone c.args.config.now (space_of shape.groups) imported c.requires.valid.consistent.types kept.entities kept.counts));
      counted = λ count types imports. made.counted count types
          ∙ (ap (λ (spaces : EntitySpaces). count_in spaces count + items_of_exports count shape) kept.spaces ∙ items_of_one_shape count
          shape types imports);
      tables = tables_of_shape shape (spaces_in c.make_shape_exports.new.spaces) (rw kept.spaces at made.limits);
      memories = memories_of_shape shape (spaces_in c.make_shape_exports.new.spaces) (rw kept.spaces at made.limits);
      globals = globals_of_shape shape (spaces_in c.make_shape_exports.new.spaces) (rw kept.spaces at made.limits);
      exports = made.kept;
      exports_valid = made.valid;
    }
