use Rattle.smith_body_memory.proofs.Common.{arith, length, refl, ◌<◌}
use Rattle.std.proofs.lemmas.Option.{slice_get-get_or}
use Rattle.smith_types.specs.Syntax.FeatureBits.{features_in}
use Rattle.smith_body_memory.proofs.MemoryChoiceLemmas.{access_none, access_there}
use Rattle.smith_body_memory.proofs.MemoryLemmas.{address_fits, pages_fit}
use Rattle.smith_body_memory.proofs.memories.draw_access.Goals as goal

pub draw_offset-offset-requires : goal.draw_offset-offset-requires
draw_offset-offset-requires c =
    let inside : c.int_in_range-index.result < length c.args.scope.now.memories.now =
    omega (arith, c.int_in_range-index.ensures.within, c.new.ensures.end, c.indexed_count-count.ensures, c.if-count-eq0.false) in
    pages_fit (features_in c.args.scope.now.features) c.args.scope.now.memories.now c.int_in_range-index.result _ c.requires.scope.memories
    inside

pub returns-then-count-eq0-clause-exact : goal.returns-then-count-eq0-clause-exact
returns-then-count-eq0-clause-exact c = access_none c.args.scope.now.config.now c.args.scope.now.memories.now c.args.log2_bytes c.args.u.now
    (omega (arith, c.if-count-eq0.true, c.indexed_count-count.ensures))

pub returns-clause-exact : goal.returns-clause-exact
returns-clause-exact c =
    let inside : c.int_in_range-index.result < length c.args.scope.now.memories.now =
    omega (arith, c.int_in_range-index.ensures.within, c.new.ensures.end, c.indexed_count-count.ensures, c.if-count-eq0.false) in
    let drawn = rw (c.new.ensures.start, c.new.ensures.end, c.indexed_count-count.ensures) at c.int_in_range-index.ensures.exact in
    let drawn' = rw (c.new-2.ensures.start, c.new-2.ensures.end) at c.int_in_range-align.ensures.exact in
    access_there c.args.scope.now.config.now c.args.scope.now.memories.now c.args.log2_bytes c.args.u.now _ _ _ c.int_in_range-index.result
    c.int_in_range-align.result c.draw_offset-offset.result _ drawn drawn' inside c.draw_offset-offset.ensures.exact

pub returns-clause-access : goal.returns-clause-access
returns-clause-access c =
    let inside : c.int_in_range-index.result < length c.args.scope.now.memories.now =
    omega (arith, c.int_in_range-index.ensures.within, c.new.ensures.end, c.indexed_count-count.ensures, c.if-count-eq0.false) in
    record {
      memory = _;
      there = slice_get-get_or c.args.scope.now.memories.now c.int_in_range-index.result _ inside;
      addressed = refl;
      offset = address_fits _ c.draw_offset-offset.result c.draw_offset-offset.ensures.offset;
    }
