use Rattle.smith_check_module.proofs.Common.{EntitySpaces, spaces_in}
use Rattle.smith_check_module.proofs.SpaceLemmas.{spaces_same}
use Rattle.smith_check_module.proofs.spaces.canonical_spaces.Goals as goal

pub returns-clause-ok : goal.returns-clause-ok
returns-clause-ok c =
    let made : EntitySpaces = record {
      tags = c.in_ok-tags.tags;
      funcs = c.in_ok-funcs.funcs;
      tables = c.in_ok-tables.tables;
      memories = c.in_ok-memories.memories;
      globals = c.in_ok-globals.globals;
    } in
    spaces_same c.args.indices.now c.args.module.now (spaces_in c.args.imported.now) made c.requires
    (rw c.as_slice.ensures at (rw c.as_slice-2.ensures at c.in_ok-tags.ensures.ok))
    (rw c.as_slice-3.ensures at (rw c.as_slice-4.ensures at c.in_ok-funcs.ensures.ok))
    (rw c.as_slice-5.ensures at (rw c.as_slice-6.ensures at c.in_ok-tables.ensures.ok))
    (rw c.as_slice-7.ensures at (rw c.as_slice-8.ensures at c.in_ok-memories.ensures.ok))
    (rw c.as_slice-9.ensures at (rw c.as_slice-10.ensures at c.in_ok-globals.ensures.ok))
