use Rattle.smith_check_operands.proofs.Common.{arith, drop, subst, values, ◌-◌, ◌≡◌}
use Rattle.smith_types.specs.Syntax.value_type.ValType.TheVariants.{I32}
use Rattle.smith_check_operands.specs.Scopes.{bare}
use Rattle.smith_check_operands.specs.Covers.{held, Pops}
use Rattle.smith_check_operands.proofs.PopLemmas.{none_popped, one_more_popped, one_more_refused}
use Rattle.smith_check_operands.proofs.frame.Operands.pop_all.Goals as goal

pub loop-i-init : goal.loop-i-init
loop-i-init c =
    none_popped (bare c.args.scope.now) c.args.expected.now _ c.args.self.now.known.items c.args.self.now.dead (omega arith)
    c.requires.known

pub pop_one-requires-clause-known : goal.pop_one-requires-clause-known
pop_one-requires-clause-known c = c.loop-i.invariant.valid

pub pop_one-requires-clause-expected : goal.pop_one-requires-clause-expected
pop_one-requires-clause-expected c = c.requires.expected (c.loop-i.i - 1) I32 (omega arith)

pub loop-i-preserved : goal.loop-i-preserved
loop-i-preserved c =
    one_more_popped (bare c.args.scope.now) c.args.expected.now (c.loop-i.i - 1) c.loop-i.i I32 (held c.args.self.now)
    (held c.loop-i.self) (held c.pop_one.new.self) (omega arith) (omega arith) c.loop-i.invariant c.if-not-pop_one.ensures

pub returns-then-not-pop_one : goal.returns-then-not-pop_one
returns-then-not-pop_one c =
    one_more_refused (bare c.args.scope.now) c.args.expected.now (c.loop-i.i - 1) c.loop-i.i I32 (held c.args.self.now)
    (held c.loop-i.self) (omega arith) (omega arith) c.loop-i.invariant c.if-not-pop_one.ensures

pub returns : goal.returns
returns c =
    let done : c.loop-i.i ≡ 0 = omega arith in
    subst (λ i. Pops (bare c.args.scope.now) (values (drop i c.args.expected.now)) (held c.args.self.now) (held c.loop-i.self)) done
    c.loop-i.invariant
