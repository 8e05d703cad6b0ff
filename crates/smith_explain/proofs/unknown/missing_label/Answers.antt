use Rattle.std.proofs.Common.{ℕ, ◌<◌, List, length, sym, subst, arith}
use Rattle.std.specs.Prelude.{All}
use Rattle.std.proofs.lemmas.List.{take_all}
use Rattle.std.proofs.lemmas.List.Elements.{All-contains, All-more}
use Rattle.smith_check_operands.specs.Scopes.{bare}
use Rattle.smith_explain.specs.Causes.{count_in}
use Rattle.smith_explain.specs.declared.explanation.Space.{Space}
use Rattle.smith_explain.proofs.unknown.missing_label.Goals as goal

pub loop-i-preserved : goal.loop-i-preserved
loop-i-preserved c =
    let within : c.loop-i.i < length c.args.targets.now = omega arith in
    All-more (λ (label : ℕ). label < c.args.labels) c.args.targets.now c.loop-i.i _ within c.loop-i.invariant c.in-None.ensures

pub returns : goal.returns
returns c = λ one named.
    let whole = subst (λ (xs : List ℕ). All (λ (label : ℕ). label < c.args.labels) xs)
    (take_all c.loop-i.i c.args.targets.now (omega arith)) c.loop-i.invariant in
    subst (λ (of : Space). one.index < count_in (bare c.args.scope.now) c.args.labels of) (sym named.0)
    (All-contains (λ (label : ℕ). label < c.args.labels) c.args.targets.now one.index whole named.1)
