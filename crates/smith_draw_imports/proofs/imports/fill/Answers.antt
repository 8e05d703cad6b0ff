use Rattle.smith_draw_imports.proofs.Common.{[], ap, AreKeptGrounds, arith, EntitySpaces, flattened, Import, import_of, imports_of, List}
use Rattle.smith_draw_imports.proofs.Common.{refl, subst, sym, ◌++◌, ◌+◌, ◌∙◌, ◌∷◌, ◌≡◌}
use Rattle.std.proofs.Common.{append_assoc}
use Rattle.smith_bytes.specs.declared.error.Count.TheVariants as counts
use Rattle.smith_draw_imports.specs.ImportedEntities.{import_scope}
use Rattle.smith_draw_imports.specs.Importing.{module_name, with_import}
use Rattle.smith_draw_imports.specs.Imported.{IsNext, spaces_of}
use Rattle.smith_draw_imports.proofs.ImportsGrownLemmas.{fit_more, counts_more, import_added, ready_more}
use Rattle.smith_draw_imports.proofs.FilledGroupLoop.{fill_stop, fill_full, fill_end, fill_more}
use Rattle.smith_draw_imports.proofs.imports.fill.Goals as goal

pub returns-then-not-arbitrary-clause-exact : goal.returns-then-not-arbitrary-clause-exact
returns-then-not-arbitrary-clause-exact c = fill_stop c.loop-imported.invariant.so_far c.loop-imported-test.true c.arbitrary.ensures.exact
    c.if-not-arbitrary.true

pub returns-clause-exact : goal.returns-clause-exact
returns-clause-exact c = fill_full c.loop-imported.invariant.so_far c.loop-imported-test.false

pub returns-in_default-clause-exact : goal.returns-in_default-clause-exact
returns-in_default-clause-exact c =
    let i = c.loop-imported.invariant in
    fill_end i.so_far c.loop-imported-test.true c.arbitrary.ensures.exact c.if-not-arbitrary.false i.counts.spaces i.counts.type_size
    c.in_ok-added.ensures.draws.exact c.in_default.is

pub count_entity-requires : goal.count_entity-requires
count_entity-requires c =
    let next : IsNext c.args.config.now c.args.types.now.types (spaces_of c.loop-imported.imported) c.loop-imported.imported.type_size
    c.in-Some.added = rw c.in-Some.is at c.in_ok-added.ensures.next in
    record { typed = next.fit.entity.typed; count = omega (arith, c.requires.may.passes.few counts.Imports); fits = next.sum }

pub loop-imported-preserved : goal.loop-imported-preserved
loop-imported-preserved c =
    let i = c.loop-imported.invariant in
    let before = flattened c.args.imported.now.groups in
    let group = c.loop-imported.group in
    let imports = before ++ imports_of group in
    let one = import_of (module_name group) c.in_ok-name.name c.in-Some.added in
    let next : IsNext c.args.config.now c.args.types.now.types (spaces_of c.loop-imported.imported) c.loop-imported.imported.type_size
    c.in-Some.added = rw c.in-Some.is at c.in_ok-added.ensures.next in
    let of_group = rw c.in-Some.is at c.in_ok-added.ensures.of_group in
    let named = rw c.module_name.ensures at (c.in_ok-name.ensures.exact imports i.counts.pairs) in
    let fresh = rw c.module_name.ensures at (c.in_ok-name.ensures.fresh imports i.counts.pairs) in
    let pairs = c.in_ok-name.ensures.pairs imports one i.counts.pairs (sym c.module_name.ensures) refl in
    let grown : before ++ imports_of (with_import group c.in_ok-name.name c.in-Some.added) ≡ imports ++ one ∷ [] =
    ap (λ (xs : List Import). before ++ xs) (import_added group c.in_ok-name.name c.in-Some.added i.ready.compact of_group)
    ∙ sym (append_assoc before (imports_of group) (one ∷ [])) in
    let counted = c.in_ok-count_entity.ensures.counted in
    let count : c.count_entity.new.self.count ≡ c.loop-imported.imported.count + 1 = counted.count in
    let noted = c.note_import.ensures c.args.config.now (spaces_of c.loop-imported.imported) in
    record {
      kept = subst (λ (spaces : EntitySpaces). AreKeptGrounds (import_scope c.args.config.now c.args.types.now.types spaces)
          c.note_import.new.grounds) (sym counted.spaces) (noted i.kept);
      ready = rw (c.in_ok-push_import.ensures.ok, counted.spaces) (ready_more c.args.config.now c.args.types.now.types
          (spaces_of c.loop-imported.imported) group c.in_ok-name.name c.in-Some.added i.ready);
      counts = rw (c.in_ok-push_import.ensures.ok, grown) (counts_more one i.counts pairs counted);
      fit = rw (c.in_ok-push_import.ensures.ok, grown) (fit_more c.args.config.now c.args.types.now.types c.args.distinct imports one i.fit
          (rw (i.counts.spaces, i.counts.type_size) at next) (rw i.counts.count at c.loop-imported-test.true) fresh);
      groups = counted.groups ∙ i.groups;
      so_far = rw (c.in_ok-push_import.ensures.ok, count) (fill_more i.so_far c.loop-imported-test.true c.arbitrary.ensures.exact
          c.if-not-arbitrary.false i.counts.spaces i.counts.type_size c.in_ok-added.ensures.draws.exact c.in-Some.is named);
      more = omega (arith, count, i.more);
      left = λ whole h. c.in_ok-name.ensures.left whole
          (c.in_ok-added.ensures.draws.left whole (c.arbitrary.ensures.left whole (i.left whole h)));
    }
