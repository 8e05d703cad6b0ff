use Rattle.smith_draw_types.proofs.Common.{features_of, IsNoFloat, IsNonNullable, IsUngrounded, subst, sym, ◌≡◌}
use Rattle.smith_types.specs.Entities.{IsGlobalValid}
use Rattle.smith_types.specs.Syntax.entity_type.GlobalType.{GlobalType}
use Rattle.smith_draw_types.specs.GlobalTypes.{global_type_at}
use Rattle.smith_draw_types.specs.Grounding.{over}
use Rattle.smith_draw_types.proofs.FilledLemmas.{global_type_filled}
use Rattle.smith_draw_types.proofs.NullableLemmas.{global_type_nullable}
use Rattle.smith_draw_types.proofs.ValueTypeLemmas.{drawn_is}
use Rattle.smith_draw_types.proofs.GlobalTypeLemmas.{global_type_valid, global_type_no_float, global_type_taken}
use Rattle.smith_draw_types.proofs.global_type.draw_global_type.Goals as goal

pub returns : goal.returns
returns c =
    let config = c.args.config.now in
    let context = c.args.standing.now in
    let exact = c.draw_global.ensures.exact in
    record {
      draws = c.draw_global.ensures;
      valid = λ space same valid.
          let over_types = subst (λ types. global_type_at config (over context types) c.args.u.now
          ≡ (c.draw_global.result, c.draw_global.new.u)) (sym same) exact in
          drawn_is (IsGlobalValid (features_of config) space.types) _ (global_type_valid config context space _ c.requires valid)
          over_types;
      floats = λ off. drawn_is (λ (global : GlobalType). IsNoFloat global.val_type) _ (global_type_no_float _ _ _ off) exact;
      nullable = λ off. drawn_is (λ (global : GlobalType). ¬ IsNonNullable global.val_type) _ (global_type_nullable _ off _ _) exact;
      grounded = drawn_is (λ (global : GlobalType). ¬ IsUngrounded config context global.val_type) _
          (global_type_filled _ _ c.orderly.ensures _) exact;
      reach = global_type_taken _ _ _ _ _ exact;
    }
