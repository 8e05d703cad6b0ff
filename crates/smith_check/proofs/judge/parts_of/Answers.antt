use Rattle.smith_check.proofs.Common.{ap, length, syntax_of, ◌∙◌, ◌≡◌}
use Rattle.smith_types.specs.EntitySpaces.{spaces_in}
use Rattle.smith_types.specs.Imports.{EntitySpaces, imported_spaces}
use Rattle.smith_check.proofs.ReferenceLemmas.{element_types_same}
use Rattle.smith_check.proofs.judge.parts_of.Goals as goal

pub returns-clause-ok : goal.returns-clause-ok
returns-clause-ok c =
    let same : spaces_in c.in_ok-imported.imported ≡ imported_spaces (syntax_of c.args.module.now).imports =
    rw c.as_slice.ensures at c.in_ok-imported.ensures.ok in
    record {
      spaces = rw c.as_slice-indices.ensures at c.in_ok-spaces.ensures.ok;
      imported = c.len.ensures ∙ ap (λ (s : EntitySpaces). length s.funcs) same;
      elems = (rw c.as_slice-indices.ensures at (rw c.as_slice-2.ensures at c.in_ok-elems.ensures.types))
          ∙ element_types_same c.args.types.now.indices c.args.module.now;
      references = c.in_ok-references.ensures.references;
    }
