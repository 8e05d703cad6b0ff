use Rattle.smith_draw_types.proofs.Common.{refl}
use Rattle.smith_draw_types.proofs.global_type.arbitrary_global_type.Goals as goal

pub returns : goal.returns
returns c =
    let drawn = rw (c.scope-standing.ensures, c.without_record-call.ensures) at c.draw_global_type-drawn.ensures in
    record {
      ok = refl;
      draws = record { exact = drawn.draws.exact; memory = tt; left = drawn.draws.left };
      valid = λ valid. drawn.valid c.args.spaces.now.types.now refl valid;
      floats = drawn.floats;
      nullable = drawn.nullable;
      grounded = drawn.grounded;
      reach = drawn.reach;
    }
