use Rattle.smith_check_references.proofs.Common.{[], Abstract, bare, held, I32, reference_to, refl, ◌∷◌}
use Rattle.std.specs.Prelude.{false, true}
use Rattle.smith_types.specs.Syntax.value_type.AbstractHeapType.TheVariants as abstract
use Rattle.smith_instr.specs.declared.instr.Instr.TheVariants as instr
use Rattle.smith_instr.specs.declared.aggregate.AggregateInstr.TheVariants as aggregate
use Rattle.smith_check_references.specs.Choices.{ReadsEither}
use Rattle.smith_check_references.proofs.RowLemmas.{tried_one, tried_row}
use Rattle.smith_check_references.proofs.ChoiceLemmas.{either_row}
use Rattle.smith_check_references.proofs.arrays.aggregate.Goals as goal

pub returns-in-StructNew-clause-ok : goal.returns-in-StructNew-clause-ok
returns-in-StructNew-clause-ok c = λ labels set. rw c.in-StructNew.is (c.struct_new.ensures.ok labels set)

pub returns-in-StructNewDefault-clause-ok : goal.returns-in-StructNewDefault-clause-ok
returns-in-StructNewDefault-clause-ok c = λ labels set. rw c.in-StructNewDefault.is (c.struct_new_default.ensures.ok labels set)

pub returns-in-StructGet-clause-ok : goal.returns-in-StructGet-clause-ok
returns-in-StructGet-clause-ok c = λ labels set. rw c.in-StructGet.is (c.struct_get.ensures.ok labels set)

pub returns-in-StructSet-clause-ok : goal.returns-in-StructSet-clause-ok
returns-in-StructSet-clause-ok c = λ labels set. rw c.in-StructSet.is (c.struct_set.ensures.ok labels set)

pub returns-in-ArrayNew-clause-ok : goal.returns-in-ArrayNew-clause-ok
returns-in-ArrayNew-clause-ok c = λ labels set. rw c.in-ArrayNew.is (c.array_new.ensures.ok labels set)

pub returns-in-ArrayNewDefault-clause-ok : goal.returns-in-ArrayNewDefault-clause-ok
returns-in-ArrayNewDefault-clause-ok c = λ labels set. rw c.in-ArrayNewDefault.is (c.array_new_default.ensures.ok labels set)

pub returns-in-ArrayNewFixed-clause-ok : goal.returns-in-ArrayNewFixed-clause-ok
returns-in-ArrayNewFixed-clause-ok c = λ labels set. rw c.in-ArrayNewFixed.is (c.array_new_fixed.ensures.ok labels set)

pub returns-in-ArrayNewData-clause-ok : goal.returns-in-ArrayNewData-clause-ok
returns-in-ArrayNewData-clause-ok c = λ labels set. rw c.in-ArrayNewData.is (c.array_new_data.ensures.ok labels set)

pub returns-in-ArrayNewElem-clause-ok : goal.returns-in-ArrayNewElem-clause-ok
returns-in-ArrayNewElem-clause-ok c = λ labels set. rw c.in-ArrayNewElem.is (c.array_new_elem.ensures.ok labels set)

pub returns-in-ArrayGet-clause-ok : goal.returns-in-ArrayGet-clause-ok
returns-in-ArrayGet-clause-ok c = λ labels set. rw c.in-ArrayGet.is (c.array_get.ensures.ok labels set)

pub returns-in-ArraySet-clause-ok : goal.returns-in-ArraySet-clause-ok
returns-in-ArraySet-clause-ok c = λ labels set. rw c.in-ArraySet.is (c.array_set.ensures.ok labels set)

pub returns-in-ArrayLen-clause-ok : goal.returns-in-ArrayLen-clause-ok
returns-in-ArrayLen-clause-ok c = λ labels set.
    rw c.in-ArrayLen.is (tried_one (bare c.args.scope.now) labels (instr.Aggregate aggregate.ArrayLen) set (ReadsEither abstract.Array)
    (held c.args.operands.now) _ c.read_either.result
    (either_row abstract.Array (bare c.args.scope.now) labels (instr.Aggregate aggregate.ArrayLen) set (λ os rs t. t) (λ os rs t. t)
    (λ os rs t. t) (λ os rs t. t))
    c.read_either.ensures.ok)

pub returns-in-ArrayFill-clause-ok : goal.returns-in-ArrayFill-clause-ok
returns-in-ArrayFill-clause-ok c = λ labels set. rw c.in-ArrayFill.is (c.array_fill.ensures.ok labels set)

pub returns-in-ArrayCopy-clause-ok : goal.returns-in-ArrayCopy-clause-ok
returns-in-ArrayCopy-clause-ok c = λ labels set. rw c.in-ArrayCopy.is (c.array_copy.ensures.ok labels set)

pub returns-in-ArrayInitData-clause-ok : goal.returns-in-ArrayInitData-clause-ok
returns-in-ArrayInitData-clause-ok c = λ labels set. rw c.in-ArrayInitData.is (c.array_init_data.ensures.ok labels set)

pub returns-in-ArrayInitElem-clause-ok : goal.returns-in-ArrayInitElem-clause-ok
returns-in-ArrayInitElem-clause-ok c = λ labels set. rw c.in-ArrayInitElem.is (c.array_init_elem.ensures.ok labels set)

pub returns-in-RefI31-clause-ok : goal.returns-in-RefI31-clause-ok
returns-in-RefI31-clause-ok c = λ labels set.
    rw c.in-RefI31.is (tried_row (bare c.args.scope.now) labels (instr.Aggregate aggregate.RefI31) set (I32 ∷ [])
    (reference_to (Abstract false abstract.I31) ∷ []) (I32 ∷ []) (held c.args.operands.now) _ c.make_i31.result
    (λ os rs t. t) (λ os rs t. t) (refl, refl) (λ os rs t. t) refl c.make_i31.ensures.ok)

pub returns-in-RefI31Shared-clause-ok : goal.returns-in-RefI31Shared-clause-ok
returns-in-RefI31Shared-clause-ok c = λ labels set.
    rw c.in-RefI31Shared.is (tried_row (bare c.args.scope.now) labels (instr.Aggregate aggregate.RefI31Shared) set (I32 ∷ [])
    (reference_to (Abstract true abstract.I31) ∷ []) (I32 ∷ []) (held c.args.operands.now) _ c.make_i31-in-RefI31Shared.result
    (λ os rs t. t) (λ os rs t. t) (refl, refl) (λ os rs t. t) refl c.make_i31-in-RefI31Shared.ensures.ok)

pub returns-in-I31GetS-clause-ok : goal.returns-in-I31GetS-clause-ok
returns-in-I31GetS-clause-ok c = λ labels set.
    rw c.in-I31GetS.is (tried_one (bare c.args.scope.now) labels (instr.Aggregate aggregate.I31GetS) set (ReadsEither abstract.I31)
    (held c.args.operands.now) _ c.read_either-in-I31GetS.result
    (either_row abstract.I31 (bare c.args.scope.now) labels (instr.Aggregate aggregate.I31GetS) set (λ os rs t. t) (λ os rs t. t)
    (λ os rs t. t) (λ os rs t. t))
    c.read_either-in-I31GetS.ensures.ok)

pub returns-in-I31GetU-clause-ok : goal.returns-in-I31GetU-clause-ok
returns-in-I31GetU-clause-ok c = λ labels set.
    rw c.in-I31GetU.is (tried_one (bare c.args.scope.now) labels (instr.Aggregate aggregate.I31GetU) set (ReadsEither abstract.I31)
    (held c.args.operands.now) _ c.read_either-in-I31GetU.result
    (either_row abstract.I31 (bare c.args.scope.now) labels (instr.Aggregate aggregate.I31GetU) set (λ os rs t. t) (λ os rs t. t)
    (λ os rs t. t) (λ os rs t. t))
    c.read_either-in-I31GetU.ensures.ok)

pub returns-in-AnyConvertExtern-clause-ok : goal.returns-in-AnyConvertExtern-clause-ok
returns-in-AnyConvertExtern-clause-ok c = λ labels set. rw c.in-AnyConvertExtern.is (c.any_convert_extern.ensures.ok labels set)

pub returns-in-ExternConvertAny-clause-ok : goal.returns-in-ExternConvertAny-clause-ok
returns-in-ExternConvertAny-clause-ok c = λ labels set. rw c.in-ExternConvertAny.is (c.extern_convert_any.ensures.ok labels set)
