use Rattle.smith_draw_imports.proofs.Common.{arith, piece_short}
use Rattle.std.proofs.lemmas.Result.{IfOk-weaker}
use Rattle.smith_draw_imports.proofs.imports.add_group.Goals as goal

pub returns-in-Single-clause-advances : goal.returns-in-Single-clause-advances
returns-in-Single-clause-advances c =
    let kind = piece_short c.draw_group_kind-kind.ensures.draws.left in
    let text = piece_short c.in_ok-limited_string.ensures.left in
    IfOk-weaker c.add_single.result _ _ (λ goes_on h on. let more = h on in omega (arith, kind, text, more)) c.add_single.ensures.advances

pub returns-in-OfOneModule-clause-advances : goal.returns-in-OfOneModule-clause-advances
returns-in-OfOneModule-clause-advances c =
    let kind = c.in-OfOneModule.ensures.shorter (λ same. cc same) in
    let text = piece_short c.in_ok-limited_string.ensures.left in
    let rest = piece_short c.add_filled.ensures.left in
    IfOk-weaker c.add_filled.result _ _ (λ goes_on more on. omega (arith, kind, text, rest, more)) c.add_filled.ensures.more

pub returns-in-OfOneType-clause-advances : goal.returns-in-OfOneType-clause-advances
returns-in-OfOneType-clause-advances c =
    let kind = c.in-OfOneType.ensures.shorter (λ same. cc same) in
    let text = piece_short c.in_ok-limited_string.ensures.left in
    let rest = piece_short c.add_of_one_type.ensures.left in
    IfOk-weaker c.add_of_one_type.result _ _ (λ goes_on more on. omega (arith, kind, text, rest, more)) c.add_of_one_type.ensures.more
