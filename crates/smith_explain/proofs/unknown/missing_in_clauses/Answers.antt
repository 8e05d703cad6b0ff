use Rattle.std.proofs.Common.{◌<◌, List, length, subst, arith}
use Rattle.std.specs.Prelude.{All}
use Rattle.std.proofs.lemmas.List.{take_all}
use Rattle.std.proofs.lemmas.List.Elements.{All-contains, All-more}
use Rattle.smith_instr.specs.declared.control.Catch.{Catch}
use Rattle.smith_check_operands.specs.Scopes.{bare}
use Rattle.smith_explain.specs.Causes.{AreThere}
use Rattle.smith_explain.specs.Names.{IsAmong, clause_names}
use Rattle.smith_explain.specs.declared.names.Names.{Names}
use Rattle.smith_explain.proofs.unknown.missing_in_clauses.Goals as goal

pub loop-i-preserved : goal.loop-i-preserved
loop-i-preserved c =
    let within : c.loop-i.i < length c.args.clauses.now = omega arith in
    All-more (λ (clause : Catch). AreThere (bare c.args.scope.now) c.args.labels (IsAmong (clause_names clause))) c.args.clauses.now
    c.loop-i.i _ within c.loop-i.invariant
    (subst (λ (some : Names). AreThere (bare c.args.scope.now) c.args.labels (IsAmong some)) c.clause_names.ensures c.in-None.ensures)

pub returns : goal.returns
returns c = λ one named.
    let whole = subst (λ (xs : List Catch).
    All (λ (clause : Catch). AreThere (bare c.args.scope.now) c.args.labels (IsAmong (clause_names clause))) xs)
    (take_all c.loop-i.i c.args.clauses.now (omega arith)) c.loop-i.invariant in
    All-contains (λ (clause : Catch). AreThere (bare c.args.scope.now) c.args.labels (IsAmong (clause_names clause))) c.args.clauses.now
    named.0 whole named.1 one named.2
