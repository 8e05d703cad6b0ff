use Rattle.wasm_smith.proofs.build.contents.draw_after_exports.Goals as goal

pub arbitrary_start-start-requires : goal.arbitrary_start-start-requires
arbitrary_start-start-requires c = rw c.as_slice.ensures c.requires.may.few.funcs

pub arbitrary_bodies-requires-clause-kept : goal.arbitrary_bodies-requires-clause-kept
arbitrary_bodies-requires-clause-kept c = let over = c.segment_spaces-spaces.ensures in
    rw (over.types, over.funcs, over.imported_funcs, c.len.ensures) c.requires.grounds

pub returns-in_err-code-clause-left : goal.returns-in_err-code-clause-left
returns-in_err-code-clause-left c = λ whole h.
    c.arbitrary_bodies.ensures.draws.left whole
    (c.draw_segments.ensures.left whole (c.arbitrary_start-start.ensures.draws.left whole
    (c.draw_section_flag-encodes_types.ensures.draws.left whole h)))

pub returns-clause-left : goal.returns-clause-left
returns-clause-left c = λ whole h.
    c.arbitrary_bodies.ensures.draws.left whole
    (c.draw_segments.ensures.left whole (c.arbitrary_start-start.ensures.draws.left whole
    (c.draw_section_flag-encodes_types.ensures.draws.left whole h)))

pub returns-clause-granted : goal.returns-clause-granted
returns-clause-granted c =
    let over = c.segment_spaces-spaces.ensures in
    record {
      items = c.in_ok-segments.ensures.grounded;
      locals = rw (over.types, over.funcs, over.imported_funcs, c.len.ensures) at
          c.in_ok-code.ensures.granted;
    }
