use Rattle.smith_draw_shape_imports.proofs.Common.{false, is_fitting, refl, sym, true, ◌∙◌, ◌≡◌}
use Rattle.smith_draw_shape_imports.proofs.AvailableImportLemmas.{fits_is}
use Rattle.smith_draw_shape_imports.proofs.taken_imports.take.Goals as goal

pub returns-then-not-fits-clause-taken : goal.returns-then-not-fits-clause-taken
returns-then-not-fits-clause-taken c =
    let not : is_fitting c.args.config.now c.args.types.now.types c.args.taken.now c.args.one.now ≡ false =
    sym (fits_is c.args.config.now c.args.types.now.types c.args.imported.now c.args.taken.now c.args.one.now c.requires.counts)
    ∙ sym c.fits.ensures.exact ∙ c.if-not-fits.true in
    rw not refl

pub returns-clause-taken : goal.returns-clause-taken
returns-clause-taken c =
    let fit : is_fitting c.args.config.now c.args.types.now.types c.args.taken.now c.args.one.now ≡ true =
    sym (fits_is c.args.config.now c.args.types.now.types c.args.imported.now c.args.taken.now c.args.one.now c.requires.counts)
    ∙ sym c.fits.ensures.exact ∙ c.if-not-fits.false in
    rw (fit, c.in_ok-push-2.ensures.ok, c.in_ok-clone.ensures.ok) refl
