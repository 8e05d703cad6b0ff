use Rattle.smith_types.proofs.Common.{rules}
use Rattle.smith_types.proofs.WalkLemmas.{decides_at, bottom_read, under_read, reaches_read}
use Rattle.smith_types.proofs.subtyping.heap_type_is_below.Goals as goal

pub returns-then-shared-wanted : goal.returns-then-shared-wanted
returns-then-shared-wanted c = decides_at _ c.types-types.ensures.sound.orderly _ _ _ _ c.in-Abstract.is c.in-Abstract-b.is c.requires.lower
    c.requires.upper _ (λ _ _. search rules)

pub returns-else-shared-wanted : goal.returns-else-shared-wanted
returns-else-shared-wanted c = decides_at _ c.types-types.ensures.sound.orderly _ _ _ _ c.in-Abstract.is c.in-Abstract-b.is c.requires.lower
    c.requires.upper _ (λ _ _. search rules)

pub returns-in-Concrete-b : goal.returns-in-Concrete-b
returns-in-Concrete-b c = decides_at _ c.types-types.ensures.sound.orderly _ _ _ _ c.in-Abstract.is c.in-Concrete-b.is c.requires.lower
    c.requires.upper _ (λ _ inside. bottom_read _ _ _ _ _ _ inside (rw c.types-types.ensures.value at c.index-types-j.is)
    c.is_bottom_of.ensures)

pub returns-in-Exact-b : goal.returns-in-Exact-b
returns-in-Exact-b c = decides_at _ c.types-types.ensures.sound.orderly _ _ _ _ c.in-Abstract.is c.in-Exact-b.is c.requires.lower
    c.requires.upper _ (λ _ inside. bottom_read _ _ _ _ _ _ inside (rw c.types-types.ensures.value at c.index-types-j-in-Exact-b.is)
    c.is_bottom_of-in-Exact-b.ensures)

pub returns-in-Abstract-b-2 : goal.returns-in-Abstract-b-2
returns-in-Abstract-b-2 c = decides_at _ c.types-types.ensures.sound.orderly _ _ _ _ c.in-Concrete.is c.in-Abstract-b-2.is c.requires.lower
    c.requires.upper _ (λ inside _. under_read _ _ _ _ _ _ inside (rw c.types-types.ensures.value at c.index-types-i.is) c.is_under.ensures)

pub returns-in-Exact-b-2 : goal.returns-in-Exact-b-2
returns-in-Exact-b-2 c = decides_at _ c.types-types.ensures.sound.orderly _ _ _ _ c.in-Concrete.is c.in-Exact-b-2.is c.requires.lower
    c.requires.upper _ (λ _ _. search rules)

pub returns-in-Abstract-b-3 : goal.returns-in-Abstract-b-3
returns-in-Abstract-b-3 c = decides_at _ c.types-types.ensures.sound.orderly _ _ _ _ c.in-Exact.is c.in-Abstract-b-3.is c.requires.lower
    c.requires.upper _ (λ inside _. under_read _ _ _ _ _ _ inside (rw c.types-types.ensures.value at c.index-types-own.is)
    c.is_under-in-Abstract-b-3.ensures)

pub returns-in-Concrete-b-3 : goal.returns-in-Concrete-b-3
returns-in-Concrete-b-3 c = decides_at _ c.types-types.ensures.sound.orderly _ _ _ _ c.in-Exact.is c.in-Concrete-b-3.is c.requires.lower
    c.requires.upper _ (λ _ _. reaches_read _ c.types-types.ensures.sound.orderly _ _ _ c.reaches-in-Concrete-b-3.ensures)

pub returns-in-Exact-b-3 : goal.returns-in-Exact-b-3
returns-in-Exact-b-3 c = decides_at _ c.types-types.ensures.sound.orderly _ _ _ _ c.in-Exact.is c.in-Exact-b-3.is c.requires.lower
    c.requires.upper _ (λ _ _. search rules)
