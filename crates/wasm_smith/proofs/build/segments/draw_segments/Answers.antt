use Rattle.wasm_smith.proofs.Common.{All, arith, Context, drawn_beside, passed_on, subst, true}
use Rattle.smith_types.specs.Segments.{IsElementSegmentValid, IsDataValid}
use Rattle.wasm_smith.specs.DrawnContents.{imported_in}
use Rattle.wasm_smith.proofs.ContentsLemmas.{may_draw_elements, spaces_valid, memories_few}
use Rattle.smith_draw_consts.specs.ConstScopes.{seen_by}
use Rattle.smith_draw_imports.specs.Imported.{spaces_of}
use Rattle.wasm_smith.proofs.RefusalLemmas.{elements_refuse, none_lacks}
use Rattle.wasm_smith.proofs.SegmentScopeLemmas.{data_refused, elements_refused, seen_over}
use Rattle.wasm_smith.proofs.build.segments.draw_segments.Goals as goal

pub arbitrary_elements-requires-clause-may : goal.arbitrary_elements-requires-clause-may
arbitrary_elements-requires-clause-may c = may_draw_elements c.requires.may c.segment_spaces-spaces.ensures (omega (arith, c.len-2.ensures))

pub arbitrary_elements-requires-clause-kept : goal.arbitrary_elements-requires-clause-kept
arbitrary_elements-requires-clause-kept c = let over = c.segment_spaces-spaces.ensures in
    rw (over.types, over.funcs, over.imported_funcs, c.len.ensures) c.requires.grounds

pub arbitrary_data-requires-clause-standing : goal.arbitrary_data-requires-clause-standing
arbitrary_data-requires-clause-standing c = spaces_valid c.requires.may c.segment_spaces-spaces.ensures (omega (arith, c.len-2.ensures))

pub arbitrary_data-requires-clause-few : goal.arbitrary_data-requires-clause-few
arbitrary_data-requires-clause-few c = memories_few c.requires.may c.segment_spaces-spaces.ensures

pub returns-clause-fit : goal.returns-clause-fit
returns-clause-fit c =
    let spaces = c.segment_spaces-spaces.result in
    let over = c.segment_spaces-spaces.ensures in
    let elems = c.in_ok-elems.ensures in
    let data_segments = c.in_ok-data_segments.ensures in
    let scope = seen_over (imported_in c.args.imported.now) c.args.config.now over (omega (arith, c.requires.told.funcs, c.len.ensures))
    (omega (arith, c.requires.told.globals, c.len-2.ensures, c.len-3.ensures)) in
    record {
      elems = rw over.tables at
          (subst (λ (context : Context). All (IsElementSegmentValid context spaces.entities.tables.now) c.in_ok-elems.elems) scope
          elems.valid);
      most_elems = elems.most.0;
      least_elems = elems.least;
      most_items = elems.most.1;
      enough_items = rw (over.types, over.funcs) at elems.enough;
      elems_inside = λ on. rw over.tables at (elems.inside on);
      data_segments = rw over.memories at
          (subst (λ (context : Context). All (IsDataValid context spaces.entities.memories.now) c.in_ok-data_segments.data_segments) scope
          data_segments.valid);
      most_data = data_segments.most;
      least_data = data_segments.least;
      data_inside = λ on. rw over.memories at (data_segments.inside on);
    }

pub returns-in_err-elems-clause-refusal : goal.returns-in_err-elems-clause-refusal
returns-in_err-elems-clause-refusal c =
    let over = c.segment_spaces-spaces.ensures in
    passed_on _ c.from_residual.result c.in_err-elems.field-0.0 c.from_residual.ensures.1
    (elements_refuse c.args.config.now (drawn_beside c.args.config.now c.args.types.now.types (spaces_of c.args.imported.now)
    c.args.definitions.now) (spaces_of c.args.imported.now).tables c.in_err-elems.field-0.0
    (rw (over.types, over.funcs, over.imported_funcs, over.tables, c.len.ensures) at c.in_err-elems.ensures.refusal))

pub returns-clause-grounded : goal.returns-clause-grounded
returns-clause-grounded c = λ each.
    let over = c.segment_spaces-spaces.ensures in
    let context = drawn_beside c.args.config.now c.args.types.now.types (spaces_of c.args.imported.now) c.args.definitions.now in
    let grounded = rw (over.types, over.funcs, over.imported_funcs, over.tables, c.len.ensures) at c.in_ok-elems.ensures.grounded in
    grounded (none_lacks c.args.config.now context (spaces_of c.args.imported.now).tables each)

pub returns-in_err-elems-clause-exact : goal.returns-in_err-elems-clause-exact
returns-in_err-elems-clause-exact c =
    let config = c.args.config.now in
    let imported = c.args.imported.now in
    let spaces = c.segment_spaces-spaces.result in
    let over = c.segment_spaces-spaces.ensures in
    let scope = seen_over (imported_in imported) config over (omega (arith, c.requires.told.funcs, c.len.ensures))
    (omega (arith, c.requires.told.globals, c.len-2.ensures, c.len-3.ensures)) in
    elements_refused _ config c.args.types.now.types (imported_in imported) (spaces_of imported) (seen_by config spaces true)
    spaces.entities.tables.now c.args.u.now c.arbitrary_elements.new.u c.from_residual.result c.in_err-elems.field-0.0 scope over.tables
    c.in_err-elems.ensures.exact c.from_residual.ensures.1

pub returns-in_err-data_segments-clause-exact : goal.returns-in_err-data_segments-clause-exact
returns-in_err-data_segments-clause-exact c =
    let config = c.args.config.now in
    let imported = c.args.imported.now in
    let spaces = c.segment_spaces-spaces.result in
    let over = c.segment_spaces-spaces.ensures in
    let elems = c.in_ok-elems.ensures in
    let data_segments = c.in_err-data_segments.ensures in
    let scope = seen_over (imported_in imported) config over (omega (arith, c.requires.told.funcs, c.len.ensures))
    (omega (arith, c.requires.told.globals, c.len-2.ensures, c.len-3.ensures)) in
    data_refused _ config c.args.types.now.types (imported_in imported) (spaces_of imported) (seen_by config spaces true)
    spaces.entities.tables.now spaces.entities.memories.now c.args.u.now c.arbitrary_elements.new.u c.arbitrary_data.new.u
    c.in_ok-elems.elems
    c.from_residual-in_err-data_segments.result c.in_err-data_segments.field-0.0 scope over.tables over.memories elems.exact
    data_segments.exact data_segments.refusal c.from_residual-in_err-data_segments.ensures.1
