use Rattle.smith_draw_shape_imports.proofs.Common.{flattened, shape_imports, shape_types, ◌∙◌, ◌≡◌}
use Rattle.smith_draw_shape_imports.proofs.AvailableImportLemmas.{drawn_is_taken, taken_fit, offered_sized, counts_grouped}
use Rattle.smith_draw_shape_imports.proofs.available.take_into.Goals as goal

pub take_imports-requires-clause-sized : goal.take_imports-requires-clause-sized
take_imports-requires-clause-sized c = rw (c.as_slice-2.ensures, c.in_ok-offered.ensures.ok, c.as_slice.ensures, c.requires.types)
    (offered_sized c.args.config.now c.args.shape.now c.requires.valid)

pub returns-clause-kept : goal.returns-clause-kept
returns-clause-kept c =
    let drawn = rw (c.as_slice-2.ensures, c.in_ok-offered.ensures.ok, c.as_slice.ensures, c.requires.types) at
    c.in_ok-taken.ensures.draws.exact in
    c.in_ok-imported.ensures.groups.all ∙ c.as_slice-3.ensures ∙ drawn_is_taken c.args.config.now (shape_types c.args.shape.now)
    c.args.u.now c.take_imports.new.u (shape_imports c.args.shape.now) c.in_ok-taken.taken drawn

pub returns-clause-taken : goal.returns-clause-taken
returns-clause-taken c =
    let same : flattened c.in_ok-imported.field-0 ≡ c.in_ok-taken.taken = c.in_ok-imported.ensures.groups.all ∙ c.as_slice-3.ensures in
    record {
      counts = rw c.requires.types at (counts_grouped c.in_ok-imported.field-0 c.in_ok-taken.ensures.counts same);
      fit = rw (returns-clause-kept c) (taken_fit c.args.config.now c.args.shape.now c.args.u.now c.requires.valid);
      groups = c.in_ok-imported.ensures.groups.valid;
    }
