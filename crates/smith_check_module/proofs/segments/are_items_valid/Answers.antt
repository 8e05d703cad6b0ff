use Rattle.smith_check_module.proofs.Common.{All, Instr, IsItem, List, subst, sym, ℕ}
use Rattle.std.proofs.lemmas.Result.{IfOk-weaker}
use Rattle.smith_decode.specs.ElementReadings.{items_view}
use Rattle.smith_decode.specs.declared.elements.ElementItems.{ElementItems}
use Rattle.smith_check_module.specs.ConstScopes.{context_of}
use Rattle.smith_check_module.specs.Items.{IsItemValid}
use Rattle.smith_check_module.specs.ValidModules.{AreItemsValid}
use Rattle.smith_check_module.proofs.ItemLemmas.{expressions_valid, functions_valid}
use Rattle.smith_check_module.proofs.segments.are_items_valid.Goals as goal

pub returns-in-Functions-clause-decided : goal.returns-in-Functions-clause-decided
returns-in-Functions-clause-decided c =
    let both = functions_valid (context_of c.args.scope.now) c.args.scope.now.indices.now c.args.ty c.in-Functions.functions in
    let answer = c.are_functions_valid.ensures in
    let same = c.as_slice.ensures in
    let P = λ (fs : List ℕ). All (IsItem (context_of c.args.scope.now) c.args.ty) fs in
    let Q = λ (items : ElementItems). AreItemsValid (context_of c.args.scope.now) c.args.scope.now.indices.now c.args.ty
    (items_view items) in (
      λ yes. subst Q (sym c.in-Functions.is) (both.0 (subst P same (answer.0 yes))),
      λ valid. answer.1 (subst P (sym same) (both.1 (subst Q c.in-Functions.is valid))),
    )

pub returns-in-Expressions-clause-decided : goal.returns-in-Expressions-clause-decided
returns-in-Expressions-clause-decided c =
    let both = expressions_valid (context_of c.args.scope.now) c.args.scope.now.indices.now c.args.ty c.in-Expressions.items in
    let same = c.as_slice-in-Expressions.ensures in
    let P = λ (es : List (List Instr)). All (IsItemValid (context_of c.args.scope.now) c.args.scope.now.indices.now c.args.ty) es in
    let Q = λ (items : ElementItems). AreItemsValid (context_of c.args.scope.now) c.args.scope.now.indices.now c.args.ty
    (items_view items) in
    IfOk-weaker c.are_expressions_valid.result _ _ (λ b answer. (
      λ yes. subst Q (sym c.in-Expressions.is) (both.0 (subst P same (answer.0 yes))),
      λ valid. answer.1 (subst P (sym same) (both.1 (subst Q c.in-Expressions.is valid))),
    )) c.are_expressions_valid.ensures.decided
