use Rattle.smith_validity.proofs.valid_entities.are_entities_valid.Goals as goal

pub returns : goal.returns
returns c = (
  λ yes. let h = c.are_lists_valid.ensures.0 yes in record {
    tags = h.of_tags.each;
    funcs = h.of_funcs.each;
    tables = h.of_tables;
    memories = h.of_memories;
    globals = h.of_globals;
  },
  λ h. c.are_lists_valid.ensures.1 (record {
    of_tags = record { each = h.tags };
    of_funcs = record { each = h.funcs };
    of_tables = h.tables;
    of_memories = h.memories;
    of_globals = h.globals;
  }),
)
