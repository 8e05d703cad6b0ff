use Rattle.smith_draw_imports.proofs.Common.{AreKeptGrounds, arith, EntitySpaces, flattened, import_of, piece_short, refl, subst, sym, ◌+◌}
use Rattle.smith_draw_imports.proofs.Common.{◌≡◌}
use Rattle.smith_bytes.specs.declared.error.Count.TheVariants as counts
use Rattle.smith_draw_imports.specs.ImportedEntities.{import_scope}
use Rattle.smith_draw_imports.specs.Imported.{IsNext, spaces_of}
use Rattle.smith_draw_imports.proofs.ImportsGrownLemmas.{ends_counted, single_added}
use Rattle.smith_draw_imports.proofs.imports.add_single.Goals as goal

pub returns-in_default-clause-ended : goal.returns-in_default-clause-ended
returns-in_default-clause-ended c = λ off. ends_counted c.requires.so_far.counts c.requires.so_far.fit
    (c.in_ok-entity_type.ensures.ended c.in_default.is)

pub count_entity-requires-clause-count : goal.count_entity-requires-clause-count
count_entity-requires-clause-count c = omega (arith, c.requires.may.passes.few counts.Imports)

pub returns-clause-so_far : goal.returns-clause-so_far
returns-clause-so_far c =
    let old = c.requires.so_far in
    let imports = flattened c.args.imported.now.groups in
    let one = import_of c.args.«module» c.in_ok-name.name c.in-Some.entity_type in
    let next : IsNext c.args.config.now c.args.types.now.types (spaces_of c.args.imported.now) c.args.imported.now.type_size
    c.in-Some.entity_type = rw c.in-Some.is at c.in_ok-entity_type.ensures.next in
    single_added one old (c.in_ok-name.ensures.pairs imports one old.counts.pairs refl refl) c.in_ok-count_entity.ensures.counted
    c.in_ok-push.ensures.ok next c.requires.room (c.in_ok-name.ensures.fresh imports old.counts.pairs)

pub returns-clause-advances : goal.returns-clause-advances
returns-clause-advances c = λ on.
    let count : c.count_entity.new.self.count ≡ c.args.imported.now.count + 1 = c.in_ok-count_entity.ensures.counted.count in
    let first = piece_short c.in_ok-entity_type.ensures.draws.left in
    let second = piece_short c.in_ok-name.ensures.left in
    omega (arith, count, first, second)

pub returns-clause-kept : goal.returns-clause-kept
returns-clause-kept c =
    let counted = c.in_ok-count_entity.ensures.counted in
    let noted = c.note_import.ensures c.args.config.now (spaces_of c.args.imported.now) in
    subst (λ (spaces : EntitySpaces). AreKeptGrounds (import_scope c.args.config.now c.args.types.now.types spaces)
    c.note_import.new.grounds) (sym counted.spaces) (noted c.requires.kept)
