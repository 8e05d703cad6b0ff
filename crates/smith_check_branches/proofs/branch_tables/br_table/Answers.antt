use Rattle.smith_check_branches.proofs.Common.{All, all_at, all_in_range, AreValid, arith, bare, held, I32, IsTaken, label_of, labels_of}
use Rattle.smith_check_branches.proofs.Common.{length, one_in_range, reverse, subst, take_all, with_labels, ◌<◌, ◌∷◌}
use Rattle.std.proofs.lemmas.List.Elements.{All-more}
use Rattle.std.proofs.lemmas.Option.{slice_get-get_or}
use Rattle.smith_check_branches.proofs.BranchTableLemmas.{table_taken, table_unindexed, table_without_last, table_apart_at_last}
use Rattle.smith_check_branches.proofs.BranchTableLemmas.{table_without, table_uneven, table_apart, taken_too}
use Rattle.smith_check_branches.specs.Tops.{top_of}
use Rattle.smith_check_branches.proofs.branch_tables.br_table.Goals as goal
use Rattle.smith_check_branches.proofs.branch_tables.br_table.Goals.{then-taken-given-via-then-taken-given}
use Rattle.smith_check_branches.proofs.branch_tables.br_table.Goals.{then-taken-given-via-else-taken-given+then-not-is_on_top-2}

pub pop_all-requires-clause-expected : goal.pop_all-requires-clause-expected
pop_all-requires-clause-expected c = one_in_range c.args.scope.now.types.now.types I32 tt

pub is_on_top-requires-clause-expected : goal.is_on_top-requires-clause-expected
is_on_top-requires-clause-expected c = all_in_range (bare c.args.scope.now) c.in-Some.given.now
    (all_at (AreValid (bare c.args.scope.now)) (label_of c.args.shape.now ∷ labels_of (reverse c.args.outers.now)) c.args.other
    c.in-Some.given.now c.requires.labels c.in-Some.ensures)

pub returns-then-not-pop_all : goal.returns-then-not-pop_all
returns-then-not-pop_all c = λ set.
    table_unindexed (bare c.args.scope.now) (label_of c.args.shape.now ∷ labels_of (reverse c.args.outers.now)) set c.args.labels.now
    c.args.other (held c.args.operands.now) c.if-not-pop_all.ensures

pub returns-in_default : goal.returns-in_default
returns-in_default c = λ set.
    table_without_last (bare c.args.scope.now) (label_of c.args.shape.now ∷ labels_of (reverse c.args.outers.now)) set c.args.labels.now
    c.args.other (held c.args.operands.now) (held c.pop_all.new.self) c.if-not-pop_all.ensures c.in_default.ensures

pub returns-then-not-is_on_top : goal.returns-then-not-is_on_top
returns-then-not-is_on_top c = λ set.
    table_apart_at_last (bare c.args.scope.now) (label_of c.args.shape.now ∷ labels_of (reverse c.args.outers.now)) set c.args.labels.now
    c.args.other c.in-Some.given.now (held c.args.operands.now) (held c.pop_all.new.self) c.if-not-pop_all.ensures c.in-Some.ensures
    c.if-not-is_on_top.ensures

pub returns-in_default-label : goal.returns-in_default-label
returns-in_default-label c = λ set.
    let place = c.loop-index.index-index in
    let within : place < length c.args.labels.now = omega arith in
    table_without (bare c.args.scope.now) (label_of c.args.shape.now ∷ labels_of (reverse c.args.outers.now)) set c.args.labels.now
    c.args.other place _ (held c.args.operands.now) (held c.pop_all.new.self) c.if-not-pop_all.ensures
    (slice_get-get_or c.args.labels.now place _ within) c.in_default-label.ensures

pub is_on_top-requires-else-taken-given-clause-expected : goal.is_on_top-requires-else-taken-given-clause-expected
is_on_top-requires-else-taken-given-clause-expected c = all_in_range (bare c.args.scope.now) c.in-Some-label.taken.now
    (all_at (AreValid (bare c.args.scope.now)) (label_of c.args.shape.now ∷ labels_of (reverse c.args.outers.now)) _
    c.in-Some-label.taken.now c.requires.labels c.in-Some-label.ensures)

pub returns-then-taken-given : goal.returns-then-taken-given
returns-then-taken-given c =
    let place = c.loop-index.index-index in
    let within : place < length c.args.labels.now = omega arith in
    elim c.then-taken-given.branch [
      | then-taken-given-via-then-taken-given w ↦ λ set.
          table_uneven (bare c.args.scope.now) (label_of c.args.shape.now ∷ labels_of (reverse c.args.outers.now)) set c.args.labels.now
          c.args.other place _ c.in-Some-label.taken.now c.in-Some.given.now (held c.args.operands.now) (held c.pop_all.new.self)
          c.if-not-pop_all.ensures (slice_get-get_or c.args.labels.now place _ within) c.in-Some-label.ensures c.in-Some.ensures
          w.if-taken-given.true
      | then-taken-given-via-else-taken-given+then-not-is_on_top-2 w ↦ λ set.
          table_apart (bare c.args.scope.now) (label_of c.args.shape.now ∷ labels_of (reverse c.args.outers.now)) set c.args.labels.now
          c.args.other place _ c.in-Some-label.taken.now (held c.args.operands.now) (held c.pop_all.new.self) c.if-not-pop_all.ensures
          (slice_get-get_or c.args.labels.now place _ within) c.in-Some-label.ensures w.if-not-is_on_top-2.ensures
    ]

pub loop-index-preserved : goal.loop-index-preserved
loop-index-preserved c =
    let context = bare c.args.scope.now in
    let labels = label_of c.args.shape.now ∷ labels_of (reverse c.args.outers.now) in
    let place = c.loop-index.index-index in
    let within : place < length c.args.labels.now = omega arith in
    All-more (IsTaken (with_labels context labels) (top_of c.pop_all.new.self.known.items (length c.in-Some.given.now))) c.args.labels.now
    place _ within c.loop-index.invariant
    (taken_too context labels _ c.in-Some-label.taken.now c.in-Some.given.now (held c.pop_all.new.self) c.in-Some-label.ensures
    c.if-taken-given.false c.if-not-is_on_top-2.ensures)

pub returns : goal.returns
returns c = λ set.
    let context = bare c.args.scope.now in
    let labels = label_of c.args.shape.now ∷ labels_of (reverse c.args.outers.now) in
    let all = take_all c.loop-index.index-index c.args.labels.now (omega arith) in
    table_taken context labels set c.args.labels.now c.args.other c.in-Some.given.now (held c.args.operands.now) (held c.pop_all.new.self)
    (held c.leave.new.self) c.if-not-pop_all.ensures c.if-not-is_on_top.ensures c.in-Some.ensures
    (subst (λ is. All (IsTaken (with_labels context labels) (top_of c.pop_all.new.self.known.items (length c.in-Some.given.now))) is) all
    c.loop-index.invariant) c.leave.ensures.known c.leave.ensures.dead
