use Rattle.smith_types.proofs.Common.{arith, false, true}
use Rattle.smith_syntax.specs.declared.value_type.AbstractHeapType.TheVariants as heap
use Rattle.smith_types.specs.declared.kind_counts.TypeSet.TheVariants.{OfKind, WithoutResults}
use Rattle.smith_types.proofs.kind_counts.KindCounts.with.Goals as goal

pub overflow_add-result : goal.overflow_add-result
overflow_add-result c = omega (arith, c.requires.room (OfKind true heap.Array))

pub overflow_add-result-in-Array-false : goal.overflow_add-result-in-Array-false
overflow_add-result-in-Array-false c = omega (arith, c.requires.room (OfKind false heap.Array))

pub overflow_add-result-in-Func-true : goal.overflow_add-result-in-Func-true
overflow_add-result-in-Func-true c = omega (arith, c.requires.room (OfKind true heap.Func))

pub overflow_add-result-in-Func-false : goal.overflow_add-result-in-Func-false
overflow_add-result-in-Func-false c = omega (arith, c.requires.room (OfKind false heap.Func))

pub overflow_add-result-in-Struct-true : goal.overflow_add-result-in-Struct-true
overflow_add-result-in-Struct-true c = omega (arith, c.requires.room (OfKind true heap.Struct))

pub overflow_add-result-in-Struct-false : goal.overflow_add-result-in-Struct-false
overflow_add-result-in-Struct-false c = omega (arith, c.requires.room (OfKind false heap.Struct))

pub without_results_with-requires : goal.without_results_with-requires
without_results_with-requires c = record { room = c.requires.room WithoutResults }

pub without_results_with-requires-in-Func-false : goal.without_results_with-requires-in-Func-false
without_results_with-requires-in-Func-false c = record { room = c.requires.room WithoutResults }
