use Rattle.smith_draw_definitions.proofs.Common.{on_ok_weaker}
use Rattle.smith_bytes.specs.declared.error.Count.TheVariants.{Memories}
use Rattle.smith_bytes.proofs.SpelledLemmas.{takes_by}
use Rattle.smith_draw_types.proofs.DrawingLemmas.{of_state}
use Rattle.smith_draw_definitions.specs.Defined.{IsFilled}
use Rattle.smith_draw_definitions.specs.Definitions.{memories_at}
use Rattle.smith_draw_definitions.proofs.DefinedMemoryLemmas.{memories_filled, memories_several, no_memory_read}
use Rattle.smith_draw_definitions.proofs.memories.define_memories.Goals as goal

pub returns-clause-filled : goal.returns-clause-filled
returns-clause-filled c =
    of_state (IsFilled c.args.config.now.min_memories c.args.config.now.max_memories c.args.memories.now) c.push_memories.ensures.draws
    (memories_filled _ _ _ (c.requires.passes.ordered Memories tt))

pub returns-clause-several : goal.returns-clause-several
returns-clause-several c = λ stood.
    on_ok_weaker c.push_memories.result (memories_several c.args.config.now c.args.memories.now c.push_memories.new.memories stood)
    (of_state (IsFilled c.args.config.now.min_memories c.args.config.now.max_memories c.args.memories.now) c.push_memories.ensures.draws
    (memories_filled _ _ _ (c.requires.passes.ordered Memories tt)))

pub returns-clause-none : goal.returns-clause-none
returns-clause-none c = λ none empty.
    on_ok_weaker c.push_memories.result (takes_by (memories_at c.args.config.now c.args.memories.now)
    (λ memories piece after h. no_memory_read _ _ memories piece after none empty h)) c.push_memories.ensures.draws.exact
