use Rattle.smith_check.proofs.ReferenceLemmas.{all_named}
use Rattle.smith_check.proofs.references.references_of.Goals as goal

pub returns-clause-references : goal.returns-clause-references
returns-clause-references c =
    all_named c.args.module.now c.new-named.result c.push_exported.new.named c.push_of_tables.new.named c.push_of_globals.new.named
    c.push_of_elements.new.named c.push_of_datas.new.named c.new-named.ensures
    (rw c.as_slice.ensures at c.in_ok-push_exported.ensures.named)
    (rw c.as_slice-2.ensures at c.in_ok-push_of_tables.ensures.named) (rw c.as_slice-3.ensures at c.in_ok-push_of_globals.ensures.named)
    (rw c.as_slice-4.ensures at c.in_ok-push_of_elements.ensures.named) (rw c.as_slice-5.ensures at c.in_ok-push_of_datas.ensures.named)
