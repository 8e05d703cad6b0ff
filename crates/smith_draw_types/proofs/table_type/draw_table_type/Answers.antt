use Rattle.smith_draw_types.proofs.Common.{false, features_of, IsUngrounded, length, Ref, RefType, true, ◌≡◌}
use Rattle.smith_types.specs.Flags.{IsElementTypeEnabled}
use Rattle.smith_draw_types.proofs.FilledLemmas.{ref_type_filled}
use Rattle.smith_draw_types.proofs.MemoryLemmas.{limits_fit}
use Rattle.smith_draw_types.proofs.NullableLemmas.{ref_type_nullable}
use Rattle.smith_draw_types.proofs.SharedHeapTypeLemmas.{sharing}
use Rattle.smith_draw_types.proofs.TableTypeLemmas.{element_enabled, table_within}
use Rattle.smith_draw_types.proofs.ValueTypeLemmas.{drawn_is, IsRefTypeDrawn, ref_type_drawn}
use Rattle.smith_draw_types.proofs.table_type.draw_table_type.Goals as goal

pub returns-clause-valid : goal.returns-clause-valid
returns-clause-valid c = λ space same valid.
    let limits = c.arbitrary_limits64-minimum.ensures in
    let context = c.args.standing.now in
    let exact = rw (c.types-types.ensures.value, c.types.ensures) at c.draw_ref_type-element_type.ensures.exact in
    let drawn = drawn_is (λ (ty : RefType). IsRefTypeDrawn c.args.config.now context.types false (length context.types) ty) _
    (ref_type_drawn c.args.config.now context false (length context.types) _ c.requires (λ no. cc)) exact in
    let element = rw (← same) at drawn.valid in
    record {
      limits = limits_fit _ _ _ _ c.drawn_elements-most.ensures.fits limits.minimum.1 limits.maximum;
      element = element;
      element_enabled = drawn_is (IsElementTypeEnabled (features_of c.args.config.now)) _ (element_enabled _ _ _ _ _) exact;
      table64 = c.draw_memory64-table64.ensures.enabled;
      shared = λ on. sharing c.args.config.now space _ _ valid element.heap_type
          (rw (c.is_reference_shared-shared.ensures, c.types-types.ensures.value, c.types.ensures, ← same) at on);
    }

pub returns-clause-within : goal.returns-clause-within
returns-clause-within c =
    let limits = rw c.drawn_elements-most.ensures.exact at c.arbitrary_limits64-minimum.ensures in
    table_within _ _ limits.minimum.1 limits.maximum limits.required

pub returns-clause-nullable : goal.returns-clause-nullable
returns-clause-nullable c = λ off. drawn_is (λ (ty : RefType). ty.nullable ≡ true) _ (ref_type_nullable _ off _ _ _ _)
    c.draw_ref_type-element_type.ensures.exact

pub returns-clause-grounded : goal.returns-clause-grounded
returns-clause-grounded c =
    let orderly = rw c.types.ensures at c.types-types.ensures.sound.orderly in
    drawn_is (λ (ty : RefType). ¬ IsUngrounded c.args.config.now c.args.standing.now (Ref ty)) _ (ref_type_filled _ _ orderly _ _ _)
    c.draw_ref_type-element_type.ensures.exact
