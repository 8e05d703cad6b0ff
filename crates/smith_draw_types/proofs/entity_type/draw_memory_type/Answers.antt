use Rattle.smith_draw_types.proofs.Common.{◌∙◌}
use Rattle.smith_draw_types.proofs.MemoryLemmas.{drawn_pages_fit, drawn_pages_kept, limits_fit, limits_kept, either_left, either_right}
use Rattle.smith_draw_types.proofs.entity_type.draw_memory_type.Goals as goal

pub returns-clause-valid : goal.returns-clause-valid
returns-clause-valid c = λ passes.
    let limits = c.arbitrary_limits64-minimum.ensures in
    record {
      limits = limits_fit _ _ _ _
          (rw c.drawn_pages-most.ensures.exact (drawn_pages_fit _ _ _ c.draw_page_size-page_size_log2.ensures.small passes))
          limits.minimum.1 limits.maximum;
      page_size = c.draw_page_size-page_size_log2.ensures.sizes;
      memory64 = c.draw_memory64-memory64.ensures.enabled;
      shared = λ on. (
        c.is_memory_shared-shared.ensures.enabled on,
        limits.required (c.needs_maximum-required.ensures ∙ either_right _ _ on),
      );
    }

pub returns-clause-within : goal.returns-clause-within
returns-clause-within c =
    let limits = c.arbitrary_limits64-minimum.ensures in
    limits_kept _ _ _ limits.minimum.1 limits.maximum (rw c.drawn_pages-most.ensures.exact (drawn_pages_kept _ _ _))
    (λ on. limits.required (c.needs_maximum-required.ensures ∙ either_left _ _ on))
