use Rattle.smith_check_module.proofs.Common.{[], IsItem, IsTrue, subst, sym, ℕ, ◌↔◌, ◌∷◌, ◌≡◌}
use Rattle.std.proofs.Common.{rules}
use Rattle.std.proofs.lemmas.Result.{IfOk-weaker}
use Rattle.smith_instr.specs.declared.instr.Instr.TheVariants.{Reference}
use Rattle.smith_instr.specs.declared.reference.ReferenceInstr.TheVariants.{Func}
use Rattle.smith_check_module.specs.ConstScopes.{context_of}
use Rattle.smith_check_module.proofs.ItemLemmas.{function_decided, item_decided, only_item}
use Rattle.smith_check_module.proofs.segments.is_expression_valid.Goals as goal

pub returns-then-contains-clause-decided : goal.returns-then-contains-clause-decided
returns-then-contains-clause-decided c =
    let both = item_decided (context_of c.args.scope.now) c.args.scope.now.indices.now c.args.ty c.args.item.now cc in
    IfOk-weaker c.is_constant.result _ _ (λ b answer. (λ yes. both.0 (answer.0 yes), λ valid. answer.1 (both.1 valid)))
    c.is_constant.ensures.decided

pub returns-in-Reference-clause-decided : goal.returns-in-Reference-clause-decided
returns-in-Reference-clause-decided c =
    let is : c.args.item.now ≡ Reference (Func c.in-Reference.function) ∷ [] =
    only_item c.args.item.now (Reference (Func c.in-Reference.function)) c.in-Reference.len_at_least c.in-Reference.len_below
    (first_of (search rules, cc)) in
    let answer : IsTrue c.is_item.result ↔ IsItem (context_of c.args.scope.now) c.args.ty c.in-Reference.function =
    subst (λ (f : ℕ). IsTrue c.is_item.result ↔ IsItem (context_of c.args.scope.now) c.args.ty f) c.in-Reference.function-is
    c.is_item.ensures in
    function_decided (context_of c.args.scope.now) c.args.scope.now.indices.now c.args.ty c.args.item.now c.in-Reference.function is
    (sym c.if-contains.ensures) c.is_item.result answer
