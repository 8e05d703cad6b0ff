use Rattle.smith_body.proofs.Common.{append-nil, None, on_ok_weaker, refl, Some, sym, ◌∙◌}
use Rattle.smith_instr.specs.declared.instr.Instr.TheVariants as instr
use Rattle.smith_body.specs.declared.settled.Settling.TheVariants as settlings
use Rattle.smith_body.proofs.SettledLemmas.{dropped_value, ok_four, settled_state, stored_drawn, tested_drawn}
use Rattle.smith_body.proofs.settled.settle_value.Goals as goal

pub returns-in-Local-clause-exact : goal.returns-in-Local-clause-exact
returns-in-Local-clause-exact c =
    on_ok_weaker c.write_plain.result
    (λ done. settled_state c.args.scope.now c.args.value (settlings.Local c.in-Local.index) _ c.args.draft.now c.write_plain.new.draft
    c.args.u.now _
    c.in-Local.ensures.exact refl done.out done.set_more done.same done.budget) c.write_plain.ensures.written

pub returns-in-Global-clause-exact : goal.returns-in-Global-clause-exact
returns-in-Global-clause-exact c =
    on_ok_weaker c.write_plain-in-Global.result
    (λ done. settled_state c.args.scope.now c.args.value (settlings.Global c.in-Global.index) _ c.args.draft.now
    c.write_plain-in-Global.new.draft c.args.u.now _
    c.in-Global.ensures.exact refl done.out done.set_more done.same done.budget) c.write_plain-in-Global.ensures.written

pub returns-in-Dropped-clause-exact : goal.returns-in-Dropped-clause-exact
returns-in-Dropped-clause-exact c =
    on_ok_weaker c.write_plain-in-Dropped.result
    (λ done. settled_state c.args.scope.now c.args.value settlings.Dropped _ c.args.draft.now c.write_plain-in-Dropped.new.draft
    c.args.u.now _
    c.in-Dropped.ensures.exact refl done.out done.set_more done.same done.budget) c.write_plain-in-Dropped.ensures.written

pub returns-in-Tested-clause-exact : goal.returns-in-Tested-clause-exact
returns-in-Tested-clause-exact c =
    ok_four c.write_test.result
    (λ out set labels budget. settled_state c.args.scope.now c.args.value (settlings.Tested c.in-Tested.test c.in-Tested.label) _
    c.args.draft.now c.write_test.new.draft c.args.u.now _ c.in-Tested.ensures.exact refl out
    (set ∙ sym (append-nil c.args.draft.now.set.items)) labels budget)
    c.write_test.ensures.out c.write_test.ensures.set c.write_test.ensures.labels c.write_test.ensures.budget

pub returns-in-Local-clause-drawn : goal.returns-in-Local-clause-drawn
returns-in-Local-clause-drawn c =
    on_ok_weaker c.write_plain.result
    (λ done. stored_drawn c.args.value (instr.LocalSet c.in-Local.index) (Some c.in-Local.index) c.in-Local.ensures.settles refl done)
    c.write_plain.ensures.written

pub returns-in-Global-clause-drawn : goal.returns-in-Global-clause-drawn
returns-in-Global-clause-drawn c =
    on_ok_weaker c.write_plain-in-Global.result
    (λ done. stored_drawn c.args.value (instr.GlobalSet c.in-Global.index) None c.in-Global.ensures.settles refl done)
    c.write_plain-in-Global.ensures.written

pub returns-in-Tested-clause-drawn : goal.returns-in-Tested-clause-drawn
returns-in-Tested-clause-drawn c =
    let (tester, none, branch) = c.in-Tested.ensures.settles in
    ok_four c.write_test.result
    (λ out set labels budget. tested_drawn c.args.value c.in-Tested.test c.in-Tested.label tester none branch out set labels budget)
    c.write_test.ensures.out c.write_test.ensures.set c.write_test.ensures.labels c.write_test.ensures.budget

pub returns-in-Dropped-clause-drawn : goal.returns-in-Dropped-clause-drawn
returns-in-Dropped-clause-drawn c =
    on_ok_weaker c.write_plain-in-Dropped.result (λ done. dropped_value c.args.value c.requires.drop done)
    c.write_plain-in-Dropped.ensures.written
