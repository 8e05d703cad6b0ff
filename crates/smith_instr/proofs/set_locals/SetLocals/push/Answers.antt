use Rattle.std.proofs.Common.{◌++◌, ◌∷◌, [], sym, ◌∙◌}
use Rattle.smith_instr.specs.SetLocals.{AreFirst}
use Rattle.smith_instr.proofs.SetLocalLemmas.{noted_new, noted_again, noted_less}
use Rattle.smith_instr.proofs.set_locals.SetLocals.push.Goals.{then-not-contains+in_ok-note_first, else-not-contains}
use Rattle.smith_instr.proofs.set_locals.SetLocals.push.Goals as goal

pub invariant_of-self-2 : goal.invariant_of-self-2
invariant_of-self-2 c =
    let known = rw (← c.self.view_is) at c.contains.ensures in
    let ready : AreFirst (c.if-not-contains.self-inside.log.items ++ c.args.local ∷ []) c.if-not-contains.self-inside.first.items =
    elim c.if-not-contains.branch [
      | then-not-contains+in_ok-note_first w ↦
          let written = rw (w.len.ensures ∙ c.self.inside.log.ok.0) at w.in_ok-note_first.ensures.ok in
          rw w.self-inside-is (noted_new c.args.local c.self.invariant (sym known ∙ w.if-not-contains.true) written)
      | else-not-contains w ↦ rw w.self-inside-is (noted_again c.args.local c.self.invariant (sym known ∙ w.if-not-contains.false))
    ] in
    rw c.in_ok-push.ensures.items ready

pub invariant_of-self-in_err-push : goal.invariant_of-self-in_err-push
invariant_of-self-in_err-push c =
    let known = rw (← c.self.view_is) at c.contains.ensures in
    let ready : AreFirst (c.if-not-contains.self-inside.log.items ++ c.args.local ∷ []) c.if-not-contains.self-inside.first.items =
    elim c.if-not-contains.branch [
      | then-not-contains+in_ok-note_first w ↦
          let written = rw (w.len.ensures ∙ c.self.inside.log.ok.0) at w.in_ok-note_first.ensures.ok in
          rw w.self-inside-is (noted_new c.args.local c.self.invariant (sym known ∙ w.if-not-contains.true) written)
      | else-not-contains w ↦ rw w.self-inside-is (noted_again c.args.local c.self.invariant (sym known ∙ w.if-not-contains.false))
    ] in
    rw c.in_err-push.ensures.items (noted_less c.args.local ready)
