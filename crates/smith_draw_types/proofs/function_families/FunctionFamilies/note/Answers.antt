use Rattle.smith_draw_types.proofs.Common.{false, OnOk, sym, true, ◌∙◌}
use Rattle.std.specs.Prelude.{Err, Ok, Result}
use Rattle.smith_draw_types.specs.FunctionFamilies.{is_noted_below}
use Rattle.smith_draw_types.proofs.FunctionListLemmas.{families_passed, below_is, functions_more}
use Rattle.smith_draw_types.proofs.function_families.FunctionFamilies.note.Goals as goal

pub returns-then-not-grounded-clause-listed : goal.returns-then-not-grounded-clause-listed
returns-then-not-grounded-clause-listed c = λ types grounds at is h.
    families_passed types grounds c.args.index c.args.self.now (sym is ∙ c.if-not-grounded.true) h

on_ok : {T E P Q : Type 0} → (result : Result T E) → OnOk result P → (P → Q) → OnOk result Q
on_ok (Ok value) holds implies = implies holds
on_ok (Err fault) holds implies = holds

pub returns-clause-listed : goal.returns-clause-listed
returns-clause-listed c = λ types grounds at is h.
    let index = c.args.index in
    let t = c.args.ty.now in
    let on = sym is ∙ c.if-not-grounded.false in
    let direct = c.in_ok-list_below.ensures.listed (is_noted_below types grounds) (below_is types grounds index t at on) h.direct in
    let plain =
    functions_more types grounds index t at on false c.is_function.result c.args.self.now.plain.items c.push_if.new.indices.items
    c.is_function.ensures c.in_ok-push_if.ensures.items h.plain in
    on_ok c.push_if-2.result c.push_if-2.ensures.items
    (λ pushed. record {
      direct = direct;
      plain = plain;
      shared =
          functions_more types grounds index t at on true c.is_function-2.result c.args.self.now.shared.items c.push_if-2.new.indices.items
          c.is_function-2.ensures pushed h.shared;
    })
