use Rattle.smith_check_body.proofs.Common.{AreValid, arith, bare, EndsHere, held, MatchBool, subst, sym}
use Rattle.smith_check_body.proofs.BodyLemmas.{finished_tried, unfinished_open}
use Rattle.smith_check_body.proofs.checker.Checker.is_finished.Goals as goal

pub ends-requires-clause-valid : goal.ends-requires-clause-valid
ends-requires-clause-valid c = subst (λ rs. AreValid (bare c.args.scope.now) rs) (sym c.deref.ensures) c.requires.shape.results

pub returns-then-len-eq0 : goal.returns-then-len-eq0
returns-then-len-eq0 c =
    finished_tried (bare c.args.scope.now) c.args.self.now c.ends.result (omega (arith, c.args.self.now.outers.ok))
    (subst (λ rs. MatchBool c.ends.result (EndsHere (bare c.args.scope.now) rs (held c.args.self.now.operands))
    (EndsHere (bare c.args.scope.now) rs (held c.args.self.now.operands) → ⊥))
    c.deref.ensures c.ends.ensures)

pub returns : goal.returns
returns c = unfinished_open (bare c.args.scope.now) c.args.self.now (omega (arith, c.args.self.now.outers.ok))
