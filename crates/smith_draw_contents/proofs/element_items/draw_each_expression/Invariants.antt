use Rattle.smith_draw_contents.proofs.Common.{All, GivesNoFloat, IsConstExpr, Ref, seen_by, true}
use Rattle.smith_draw_consts.proofs.TriedLoop.{IsTrying}
use Rattle.smith_types.specs.Floats.{HasNoFloat}
use Rattle.smith_draw_consts.specs.KeptOffers.{AreKeptOffers}
use Rattle.smith_draw_contents.specs.ElementSegments.{expression_item_at, drawn_expressions_at}
use Rattle.smith_draw_contents.proofs.element_items.draw_each_expression.Given as goal

abbrev pub invariant-loop-made : goal.invariant-loop-made
invariant-loop-made l =
    let context = seen_by l.config l.spaces true in
    record {
      growing : IsTrying (λ _. expression_item_at l.config context l.ty) l.config.min_elements l.most l.made l.items l.fn.u l.u
          (drawn_expressions_at l.config context l.ty l.most l.fn.u);
      typed : All (IsConstExpr context (Ref l.ty)) l.items;
      floats : All HasNoFloat l.spaces.types.now.types → All (All GivesNoFloat) l.items;
      kept : AreKeptOffers context l.kept;
    }
