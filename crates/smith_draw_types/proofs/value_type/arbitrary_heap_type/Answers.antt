use Rattle.smith_draw_types.proofs.Common.{HeapType, refl}
use Rattle.smith_draw_types.proofs.ValueTypeLemmas.{drawn_is, IsHeapTypeDrawn, heap_type_drawn}
use Rattle.smith_draw_types.proofs.TakenLemmas.{heap_type_taken}
use Rattle.smith_draw_types.proofs.value_type.arbitrary_heap_type.Goals as goal

pub returns : goal.returns
returns c =
    let exact = rw c.types.ensures.value at c.draw_heap_type.ensures.exact in
    let drawn = drawn_is (λ (ty : HeapType). IsHeapTypeDrawn c.args.config.now c.args.spaces.now.types.now.types c.args.must_share
    c.args.limit ty) _ (heap_type_drawn _ _ _ _ _ c.requires.may_share) exact in
    record {
      ok = refl;
      draws = record { exact = exact; memory = tt; left = c.draw_heap_type.ensures.left };
      valid = drawn.valid;
      stands = drawn.stands;
      shared = drawn.shared;
      reach = λ no. heap_type_taken _ _ _ _ _ _ _ no exact;
    }
