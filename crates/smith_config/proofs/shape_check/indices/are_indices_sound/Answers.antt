use Rattle.smith_config.proofs.shape_check.indices.are_indices_sound.Goals as goal

pub returns : goal.returns
returns c = (
  λ yes. let h = c.are_indices_found.ensures.0 yes in
      record { funcs = h.of_funcs.each; tags = h.of_tags.each; exports = h.of_exports.each },
  λ h. c.are_indices_found.ensures.1 (record {
    of_funcs = record { each = h.funcs };
    of_tags = record { each = h.tags };
    of_exports = record { each = h.exports };
  }),
)
