use Rattle.smith_program.proofs.Common.{append_assoc}
use Rattle.smith_program.proofs.references.references_of.Goals as goal

pub returns-clause-references : goal.returns-clause-references
returns-clause-references c =
    rw (
      c.in_ok-push_of_tables.ensures.named,
      c.in_ok-push_of_globals.ensures.named,
      c.in_ok-push_of_segments.ensures.named,
      c.in_ok-push_exported.ensures.named,
      c.new-named.ensures,
      c.exports.ensures,
      c.elems.ensures,
      c.defined_globals.ensures,
      c.defined_tables.ensures,
    ) (simp append_assoc)
