use Rattle.smith_draw_types.proofs.Common.{IsGrowing}
use Rattle.smith_draw_types.specs.ValueTypes.{val_type_at}
use Rattle.smith_draw_types.specs.CompositeTypes.{val_types_at}
use Rattle.smith_draw_types.proofs.composite_type.draw_val_types.Given as goal

abbrev pub invariant-loop-made : goal.invariant-loop-made
invariant-loop-made l = IsGrowing (λ _. val_type_at l.config l.standing l.must_share l.limit) 0 l.most l.made l.drawn l.fn.u l.u
    (val_types_at l.config l.standing l.must_share l.limit l.most l.fn.u)
