use Rattle.smith_draw_types.proofs.Common.{IsGranted, refl, ValType}
use Rattle.smith_draw_types.specs.Grounding.{standing_in}
use Rattle.smith_draw_types.proofs.FilledLemmas.{val_type_filled}
use Rattle.smith_draw_types.proofs.ValueTypeLemmas.{drawn_is, IsValTypeDrawn, val_type_drawn}
use Rattle.smith_draw_types.proofs.TakenLemmas.{val_type_taken}
use Rattle.smith_draw_types.proofs.value_type.arbitrary_valtype.Goals as goal

pub returns : goal.returns
returns c =
    let exact = rw (c.scope-standing.ensures, c.without_record-call.ensures) at c.draw_val_type-drawn.ensures.exact in
    let drawn = drawn_is (λ (ty : ValType). IsValTypeDrawn c.args.config.now c.args.spaces.now.types.now.types c.args.must_share
    c.args.limit ty) _ (val_type_drawn _ _ _ _ _ c.requires.sanitized c.requires.may_share) exact in
    record {
      ok = refl;
      draws = record { exact = exact; memory = tt; left = c.draw_val_type-drawn.ensures.left };
      granted = drawn_is (IsGranted c.args.config.now (standing_in c.args.config.now c.args.spaces.now)) _
          (val_type_filled _ _ c.orderly.ensures _ _ _) exact;
      valid = drawn.valid;
      stands = drawn.stands;
      shared = drawn.shared;
      reach =
          λ no. val_type_taken c.args.config.now (standing_in c.args.config.now c.args.spaces.now) refl _ _ _ _ _ c.orderly.ensures no
          exact;
    }
