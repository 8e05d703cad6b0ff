use Rattle.smith_draw_consts.proofs.Common.{IfSome, Option, subst, sym}
use Rattle.smith_draw_consts.specs.ConstScopes.{context_of}
use Rattle.smith_draw_consts.specs.KeptOffers.{AreManyKept}
use Rattle.smith_draw_consts.specs.declared.kept_offers.KeptOffers.{KeptOffers}
use Rattle.smith_draw_consts.specs.declared.kept_offers.ManyItems.{ManyItems}
use Rattle.smith_draw_consts.proofs.kept_offers.KeptOffers.look.Goals as goal
use Rattle.smith_draw_consts.proofs.kept_offers.KeptOffers.look.Goals.{then-is_none+else-scope-entities-le-MOST, else-is_none, In-Some}

-- the classes and counts are correct, whether they were there or are begun
right : (c : In-Some) → IfSome c.if-is_none.self.many (AreManyKept (context_of c.args.scope.now))
right c =
    let context = context_of c.args.scope.now in
    let Right : KeptOffers → Type 0 = λ kept. IfSome kept.many (AreManyKept context) in
    elim c.if-is_none.branch [
      | then-is_none+else-scope-entities-le-MOST w ↦ subst Right (sym w.self-is)
          (subst (λ (many : Option ManyItems). IfSome many (AreManyKept context)) (sym w.replace.ensures.after) (w.new.ensures context))
      | else-is_none w ↦ subst Right (sym w.self-is) c.requires.kept.many
    ]

pub look-requires-clause-kept : goal.look-requires-clause-kept
look-requires-clause-kept c = rw c.in-Some.is at (right (goal.at.look-requires-clause-kept c).In-Some)
