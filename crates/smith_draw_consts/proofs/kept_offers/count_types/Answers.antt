use Rattle.smith_draw_consts.proofs.Common.{All, IfSome, Option, subst, sym}
use Rattle.smith_draw_consts.specs.ConstScopes.{context_of}
use Rattle.smith_draw_consts.specs.KeptOffers.{IsKeptWays}
use Rattle.smith_draw_consts.specs.declared.kept_ways.KeptTypes.{KeptTypes}
use Rattle.smith_draw_consts.proofs.kept_offers.count_types.Goals as goal
use Rattle.smith_draw_consts.proofs.kept_offers.count_types.Goals.{then-is_none, else-is_none, In-Some}

-- the entries are correct, whether they were there or are begun
right : (c : In-Some) → IfSome c.if-is_none.types (λ kept. All (IsKeptWays (context_of c.args.scope.now)) kept.entries.items)
right c =
    let context = context_of c.args.scope.now in
    let Right : Option KeptTypes → Type 0 = λ types. IfSome types (λ kept. All (IsKeptWays context) kept.entries.items) in
    elim c.if-is_none.branch [
      | then-is_none w ↦ subst Right (sym w.types-is) (subst Right (sym w.replace.ensures.after) (w.new.ensures context))
      | else-is_none w ↦ subst Right (sym w.types-is) c.requires.kept
    ]

pub look-requires-clause-kept : goal.look-requires-clause-kept
look-requires-clause-kept c = rw c.in-Some.is at (right (goal.at.look-requires-clause-kept c).In-Some)
