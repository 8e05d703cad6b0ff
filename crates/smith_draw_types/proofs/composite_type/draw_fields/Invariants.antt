use Rattle.smith_draw_types.proofs.Common.{IsGrowing}
use Rattle.smith_draw_types.specs.FieldTypes.{field_type_at, fields_until_at}
use Rattle.smith_draw_types.proofs.composite_type.draw_fields.Given as goal

abbrev pub invariant-loop-made : goal.invariant-loop-made
invariant-loop-made l = IsGrowing (λ _. field_type_at l.config l.standing l.must_share l.limit) l.end l.end l.made l.fields l.fn.u l.u
    (fields_until_at l.config l.standing l.must_share l.limit l.end l.fn.fields l.fn.u)
