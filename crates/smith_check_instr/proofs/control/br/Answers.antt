use Rattle.smith_check_instr.proofs.Common.{all_at, all_in_range, AreValid, bare, held, some_same, subst, sym, tried_leaving, values}
use Rattle.smith_check_instr.proofs.Common.{with_labels, ◌∙◌, ◌∷◌}
use Rattle.std.proofs.Common.{reverse}
use Rattle.smith_instr.specs.declared.instr.Instr.TheVariants as instr
use Rattle.smith_check_rules.specs.StackTypes.{Leaves}
use Rattle.smith_check_operands.specs.Closes.{label_of, labels_of}
use Rattle.smith_check_instr.proofs.control.br.Goals as goal

pub returns-in-Some : goal.returns-in-Some
returns-in-Some c = λ set.
    let labels = label_of c.args.shape.now ∷ labels_of (reverse c.args.outers.now) in
    let context = with_labels (bare c.args.scope.now) labels in
    let taken = c.in-Some.taken.now in
    tried_leaving (bare c.args.scope.now) labels (instr.Br c.args.index) set (values taken) c.leave_with.result (held c.args.operands.now)
    (held c.leave_with.new.self)
    (record {
      typed = λ os rs t. (taken, c.in-Some.ensures, t);
      only = λ os rs t. let (other, at, leaves) = t in
          subst (λ ts. Leaves context os rs (values ts)) (some_same other taken (sym at ∙ c.in-Some.ensures)) leaves;
    })
    c.leave_with.ensures

pub leave_with-requires-clause-expected : goal.leave_with-requires-clause-expected
leave_with-requires-clause-expected c = all_in_range (bare c.args.scope.now) c.in-Some.taken.now
    (all_at (AreValid (bare c.args.scope.now)) (label_of c.args.shape.now ∷ labels_of (reverse c.args.outers.now)) c.args.index
    c.in-Some.taken.now c.requires.labels c.in-Some.ensures)
