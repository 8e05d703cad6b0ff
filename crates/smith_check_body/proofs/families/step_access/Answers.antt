use Rattle.smith_check_body.proofs.families.step_access.Goals as goal

pub returns-in-Load-clause-ok : goal.returns-in-Load-clause-ok
returns-in-Load-clause-ok c = λ labels set. rw c.in-Load.is (c.load.ensures.ok labels set)

pub returns-in-Store-clause-ok : goal.returns-in-Store-clause-ok
returns-in-Store-clause-ok c = λ labels set. rw c.in-Store.is (c.store.ensures.ok labels set)

pub returns-in-Memory-clause-ok : goal.returns-in-Memory-clause-ok
returns-in-Memory-clause-ok c = λ labels set. rw c.in-Memory.is (c.memory.ensures.ok labels set)

pub returns-in-VectorLoad-clause-ok : goal.returns-in-VectorLoad-clause-ok
returns-in-VectorLoad-clause-ok c = λ labels set. rw c.in-VectorLoad.is (c.vector_load.ensures.ok labels set)

pub returns-in-VectorStore-clause-ok : goal.returns-in-VectorStore-clause-ok
returns-in-VectorStore-clause-ok c = λ labels set. rw c.in-VectorStore.is (c.vector_store.ensures.ok labels set)

pub returns-in-VectorLoadLane-clause-ok : goal.returns-in-VectorLoadLane-clause-ok
returns-in-VectorLoadLane-clause-ok c = λ labels set. rw c.in-VectorLoadLane.is (c.vector_load_lane.ensures.ok labels set)

pub returns-in-VectorStoreLane-clause-ok : goal.returns-in-VectorStoreLane-clause-ok
returns-in-VectorStoreLane-clause-ok c = λ labels set. rw c.in-VectorStoreLane.is (c.vector_store_lane.ensures.ok labels set)

pub returns-in-Atomic-clause-ok : goal.returns-in-Atomic-clause-ok
returns-in-Atomic-clause-ok c = λ labels set. rw c.in-Atomic.is (c.atomic.ensures.ok labels set)

pub returns-in-AtomicFence-clause-ok : goal.returns-in-AtomicFence-clause-ok
returns-in-AtomicFence-clause-ok c = λ labels set. rw c.in-AtomicFence.is (c.atomic_fence.ensures.ok labels set)
