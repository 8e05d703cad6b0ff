use Rattle.smith_draw_imports.proofs.Common.{arith}
use Rattle.std.proofs.lemmas.Bool.{leb-true}
use Rattle.smith_draw_imports.proofs.import_entities.fits.Goals as goal

pub returns-clause-sum : goal.returns-clause-sum
returns-clause-sum c = λ on.
    let le = leb-true _ _ on in
    let size = c.size_of.ensures in
    omega (arith, le, size)
