-- Aggregate instructions, and those on references and casts, that are read: the readings are sound and complete.
use Rattle.smith_binary_read_instr.proofs.Common.{ap, arith, Bool, branch, eqb, false, Front, front_as, heap_decodes, Instr, IsInstr}
use Rattle.smith_binary_read_instr.proofs.Common.{IsPrefixed, IsUnsigned, item_holds, Joined, List, ltb-false, ltb-true, ne_eqb, None, Ok}
use Rattle.smith_binary_read_instr.proofs.Common.{prefix_alone, refl, step, subst, test_passed, true, unsigned_at, unsigned_decodes, ℕ}
use Rattle.smith_binary_read_instr.proofs.Common.{◌++◌, ◌<◌, ◌∷◌, ◌≡◌, ◌≤◌}
use Rattle.smith_binary_read.specs.Numbers.{two_at}
use Rattle.smith_binary_read.specs.Choices.{item_of}
use Rattle.smith_binary_read.specs.TypeReadings.{heap_type_at}
use Rattle.smith_binary_read.proofs.ChoiceLemmas.{or_branch}
use Rattle.smith_types.specs.Syntax.value_type.HeapType.{HeapType}
use Rattle.smith_instr.specs.declared.aggregate.AggregateInstr.{AggregateInstr}
use Rattle.smith_instr.specs.declared.aggregate.AggregateInstr.TheVariants as aggregate
use Rattle.smith_instr.specs.declared.aggregate.Extension.{Extension}
use Rattle.smith_instr.specs.declared.aggregate.Extension.TheVariants as extension
use Rattle.smith_instr.specs.declared.control.BranchCast.{BranchCast}
use Rattle.smith_instr.specs.declared.instr.Instr.TheVariants as instr
use Rattle.smith_instr.specs.declared.reference.ReferenceInstr.{ReferenceInstr}
use Rattle.smith_instr.specs.declared.reference.ReferenceInstr.TheVariants as reference
use Rattle.smith_binary_instr.specs.Aggregate.{IsAggregate, IsOn, IsOnTwo, get_number}
use Rattle.smith_binary_instr.specs.Control.{IsBranchCast}
use Rattle.smith_binary_instr.specs.References.{IsReference, cast_number}
use Rattle.smith_binary_read_instr.specs.AggregateReadings.{struct_at, new_array_at, array_at, elements_at, cast_instr_at, conversion_rows}
use Rattle.smith_binary_read_instr.specs.AggregateReadings.{indexed_at, aggregate_at}
use Rattle.smith_binary_read_instr.specs.AtomicReadings.{access_of, atomic_of, atomic_at}
use Rattle.smith_binary_read_instr.specs.InstrReadings.{high_instr_at, prefixed_at, instr_at}
use Rattle.smith_binary_read_instr.specs.ReferenceReadings.{reference_at}
use Rattle.smith_binary_read_instr.proofs.ImmediateLemmas.{two_decode, branch_cast_decodes}
use Rattle.smith_binary_read_instr.proofs.RowLemmas.{above, exactly, After, number_front, after_mapped, mapped_front}
use Rattle.smith_binary_read_instr.proofs.RowLemmas.{tagged_complete, number_complete, numbered_complete}

-- what is read after a number is spelled
struct_sound : (number : ℕ) (bytes : List ℕ) (x : AggregateInstr) (rest : List ℕ) → number < 6 → struct_at number bytes ≡ Ok (x, rest)
    → Front (After 0xFB number (IsAggregate x)) bytes rest
unfolding struct_at
struct_sound number bytes x rest high e =
    branch _ _ _ _ e (λ is e. after_mapped IsAggregate aggregate.StructNew 0xFB 0 number (unsigned_decodes 32)
    (λ y piece h. h) is bytes x rest e) (λ no_0 e.
    branch _ _ _ _ e (λ is e. after_mapped IsAggregate aggregate.StructNewDefault 0xFB 1 number (unsigned_decodes 32)
    (λ y piece h. h) is bytes x rest e) (λ no_1 e.
    branch _ _ _ _ e (λ is e. after_mapped IsAggregate (λ parts. aggregate.StructGet parts.0 parts.1 extension.Unpacked) 0xFB 2 number
    two_decode (λ y piece h. h) is bytes x rest e) (λ no_2 e.
    branch _ _ _ _ e (λ is e. after_mapped IsAggregate (λ parts. aggregate.StructGet parts.0 parts.1 extension.Signed) 0xFB 3 number
    two_decode (λ y piece h. h) is bytes x rest e) (λ no_3 e.
    branch _ _ _ _ e (λ is e. after_mapped IsAggregate (λ parts. aggregate.StructGet parts.0 parts.1 extension.Unsigned) 0xFB 4 number
    two_decode (λ y piece h. h) is bytes x rest e) (λ no_4 e.
    let after_1 = above number 1 (above number 0 (omega arith) no_0) no_1 in
    after_mapped IsAggregate (λ parts. aggregate.StructSet parts.0 parts.1) 0xFB 5 number two_decode (λ y piece h. h)
    (exactly number 5 (above number 4 (above number 3 (above number 2 after_1 no_2) no_3) no_4) high) bytes x rest e)))))

new_array_sound : (number : ℕ) (bytes : List ℕ) (x : AggregateInstr) (rest : List ℕ) → 6 ≤ number → number < 11
    → new_array_at number bytes ≡ Ok (x, rest) → Front (After 0xFB number (IsAggregate x)) bytes rest
unfolding new_array_at
new_array_sound number bytes x rest low high e =
    branch _ _ _ _ e (λ is e. after_mapped IsAggregate aggregate.ArrayNew 0xFB 6 number (unsigned_decodes 32)
    (λ y piece h. h) is bytes x rest e) (λ no_6 e.
    branch _ _ _ _ e (λ is e. after_mapped IsAggregate aggregate.ArrayNewDefault 0xFB 7 number (unsigned_decodes 32)
    (λ y piece h. h) is bytes x rest e) (λ no_7 e.
    branch _ _ _ _ e (λ is e. after_mapped IsAggregate (λ parts. aggregate.ArrayNewFixed parts.0 parts.1) 0xFB 8 number two_decode
    (λ y piece h. h) is bytes x rest e) (λ no_8 e.
    branch _ _ _ _ e (λ is e. after_mapped IsAggregate (λ parts. aggregate.ArrayNewData parts.0 parts.1) 0xFB 9 number two_decode
    (λ y piece h. h) is bytes x rest e) (λ no_9 e.
    after_mapped IsAggregate (λ parts. aggregate.ArrayNewElem parts.0 parts.1) 0xFB 10 number two_decode (λ y piece h. h)
    (exactly number 10 (above number 9 (above number 8 (above number 7 (above number 6 low no_6) no_7) no_8) no_9) high) bytes x rest e))))

array_sound : (number : ℕ) (bytes : List ℕ) (x : AggregateInstr) (rest : List ℕ) → 11 ≤ number → number < 15
    → array_at number bytes ≡ Ok (x, rest) → Front (After 0xFB number (IsAggregate x)) bytes rest
unfolding array_at
array_sound number bytes x rest low high e =
    branch _ _ _ _ e (λ is e. after_mapped IsAggregate (λ index. aggregate.ArrayGet index extension.Unpacked) 0xFB 11 number
    (unsigned_decodes 32) (λ y piece h. h) is bytes x rest e) (λ no_11 e.
    branch _ _ _ _ e (λ is e. after_mapped IsAggregate (λ index. aggregate.ArrayGet index extension.Signed) 0xFB 12 number
    (unsigned_decodes 32) (λ y piece h. h) is bytes x rest e) (λ no_12 e.
    branch _ _ _ _ e (λ is e. after_mapped IsAggregate (λ index. aggregate.ArrayGet index extension.Unsigned) 0xFB 13 number
    (unsigned_decodes 32) (λ y piece h. h) is bytes x rest e) (λ no_13 e.
    after_mapped IsAggregate aggregate.ArraySet 0xFB 14 number (unsigned_decodes 32) (λ y piece h. h)
    (exactly number 14 (above number 13 (above number 12 (above number 11 low no_11) no_12) no_13) high) bytes x rest e)))

elements_sound : (number : ℕ) (bytes : List ℕ) (x : AggregateInstr) (rest : List ℕ) → 16 ≤ number → number < 20
    → elements_at number bytes ≡ Ok (x, rest) → Front (After 0xFB number (IsAggregate x)) bytes rest
unfolding elements_at
elements_sound number bytes x rest low high e =
    branch _ _ _ _ e (λ is e. after_mapped IsAggregate aggregate.ArrayFill 0xFB 16 number (unsigned_decodes 32)
    (λ y piece h. h) is bytes x rest e) (λ no_16 e.
    branch _ _ _ _ e (λ is e. after_mapped IsAggregate (λ parts. aggregate.ArrayCopy parts.0 parts.1) 0xFB 17 number two_decode
    (λ y piece h. h) is bytes x rest e) (λ no_17 e.
    branch _ _ _ _ e (λ is e. after_mapped IsAggregate (λ parts. aggregate.ArrayInitData parts.0 parts.1) 0xFB 18 number two_decode
    (λ y piece h. h) is bytes x rest e) (λ no_18 e.
    after_mapped IsAggregate (λ parts. aggregate.ArrayInitElem parts.0 parts.1) 0xFB 19 number two_decode (λ y piece h. h)
    (exactly number 19 (above number 18 (above number 17 (above number 16 low no_16) no_17) no_18) high) bytes x rest e)))

indexed_sound : (number : ℕ) (bytes : List ℕ) (x : AggregateInstr) (rest : List ℕ) → eqb number 15 ≡ false → number < 20
    → indexed_at number bytes ≡ Ok (x, rest) → Front (After 0xFB number (IsAggregate x)) bytes rest
unfolding indexed_at
indexed_sound number bytes x rest no_15 high e =
    branch _ _ _ _ e (λ is e. struct_sound number bytes x rest (ltb-true number 6 is) e) (λ no_struct e.
    branch _ _ _ _ e (λ is e. new_array_sound number bytes x rest (ltb-false number 6 no_struct) (ltb-true number 11 is) e) (λ no_new e.
    branch _ _ _ _ e (λ is e. array_sound number bytes x rest (ltb-false number 11 no_new) (ltb-true number 15 is) e) (λ no_array e.
    elements_sound number bytes x rest (above number 15 (ltb-false number 15 no_array) no_15) high e)))

cast_sound : (number : ℕ) (bytes : List ℕ) (x : ReferenceInstr) (rest : List ℕ) → 20 ≤ number → number < 24
    → cast_instr_at number bytes ≡ Ok (x, rest) → Front (After 0xFB number (IsReference x)) bytes rest
unfolding cast_instr_at
cast_sound number bytes x rest low high e =
    branch _ _ _ _ e (λ is e. after_mapped IsReference (λ heap. reference.Test (record { nullable = false; heap_type = heap })) 0xFB 20
    number heap_decodes (λ y piece h. h) is bytes x rest e) (λ no_20 e.
    branch _ _ _ _ e (λ is e. after_mapped IsReference (λ heap. reference.Test (record { nullable = true; heap_type = heap })) 0xFB 21
    number heap_decodes (λ y piece h. h) is bytes x rest e) (λ no_21 e.
    branch _ _ _ _ e (λ is e. after_mapped IsReference (λ heap. reference.Cast (record { nullable = false; heap_type = heap })) 0xFB 22
    number heap_decodes (λ y piece h. h) is bytes x rest e) (λ no_22 e.
    after_mapped IsReference (λ heap. reference.Cast (record { nullable = true; heap_type = heap })) 0xFB 23 number heap_decodes
    (λ y piece h. h) (exactly number 23 (above number 22 (above number 21 (above number 20 low no_20) no_21) no_22) high) bytes x rest e)))

no_length : (number : ℕ) → item_of conversion_rows number ≡ None → eqb number 15 ≡ false
no_length number none = ne_eqb number 15 (λ same. absurd
    (let never : item_of conversion_rows 15 ≡ None = subst (λ (n : ℕ). item_of conversion_rows n ≡ None) same none in cc))

pub aggregate_sound : (bytes : List ℕ) (x : Instr) (rest : List ℕ) → aggregate_at bytes ≡ Ok (x, rest)
    → Front (λ piece. IsInstr x (0xFB ∷ piece)) bytes rest
unfolding aggregate_at
aggregate_sound bytes x rest e = step _ _ _ e (λ number first e.
    let front = (unsigned_decodes 32).sound bytes number.0 number.1 first in
    or_branch _ _ _ _ _ e
    (λ is after.
    let form : (piece : List ℕ) → IsUnsigned 32 number.0 piece → IsInstr x (0xFB ∷ piece) =
    item_holds (λ n x. (piece : List ℕ) → IsUnsigned 32 n piece → IsInstr x (0xFB ∷ piece)) conversion_rows (
      prefix_alone 0xFB 15,
      (
        prefix_alone 0xFB 26,
        (
          prefix_alone 0xFB 27,
          (
            prefix_alone 0xFB 28,
            (
              prefix_alone 0xFB 29,
              (prefix_alone 0xFB 30, tt),
            ),
          ),
        ),
      ),
    ) number.0 x is in
    subst (Front (λ piece. IsInstr x (0xFB ∷ piece)) bytes) after (front_as form front))
    (λ none e.
    branch _ _ _ _ e (λ is e. number_front (IsInstr x) 0xFB number.0 front
    (mapped_front (λ y. After 0xFB number.0 (IsAggregate y)) (λ y. After 0xFB number.0 (IsInstr y)) instr.Aggregate (indexed_at number.0)
    number.1 (λ y more read. indexed_sound number.0 number.1 y more (no_length number.0 none) (ltb-true number.0 20 is) read)
    (λ y piece h. h) x rest e)) (λ no_index e.
    branch _ _ _ _ e (λ is e. number_front (IsInstr x) 0xFB number.0 front
    (mapped_front (λ y. After 0xFB number.0 (IsReference y)) (λ y. After 0xFB number.0 (IsInstr y)) instr.Reference
    (cast_instr_at number.0) number.1
    (λ y more read. cast_sound number.0 number.1 y more (ltb-false number.0 20 no_index) (ltb-true number.0 24 is) read)
    (λ y piece h. h) x rest e)) (λ no_cast e.
    branch _ _ _ _ e (λ is e. number_front (IsInstr x) 0xFB number.0 front
    (after_mapped IsInstr instr.BrOnCast 0xFB 24 number.0 branch_cast_decodes (λ y piece h. h) is number.1 x rest e)) (λ no_24 e.
    test_passed _ _ _ _ e (λ is e. number_front (IsInstr x) 0xFB number.0 front
    (after_mapped IsInstr instr.BrOnCastFail 0xFB 25 number.0 branch_cast_decodes (λ y piece h. h) is number.1 x rest e)))))))

-- what is spelled is read: gets, tests and casts
struct_get_again : (extended : Extension) (bytes more after : List ℕ) (parts : ℕ × ℕ)
    → unsigned_at 32 bytes ≡ Ok (get_number 2 extended, more) → two_at more ≡ Ok (parts, after)
    → instr_at (0xFB ∷ bytes) ≡ Ok (instr.Aggregate (aggregate.StructGet parts.0 parts.1 extended), after)
unfolding instr_at prefixed_at aggregate_at indexed_at struct_at
struct_get_again extension.Unpacked bytes more after parts number part = rw (number, part) refl
struct_get_again extended bytes more after parts number part = rw (number, part) refl

array_get_again : (extended : Extension) (bytes more after : List ℕ) (index : ℕ)
    → unsigned_at 32 bytes ≡ Ok (get_number 11 extended, more) → unsigned_at 32 more ≡ Ok (index, after)
    → instr_at (0xFB ∷ bytes) ≡ Ok (instr.Aggregate (aggregate.ArrayGet index extended), after)
unfolding instr_at prefixed_at aggregate_at indexed_at array_at
array_get_again extension.Unpacked bytes more after index number part = rw (number, part) refl
array_get_again extended bytes more after index number part = rw (number, part) refl

test_again : (nullable : Bool) (bytes more after : List ℕ) (heap : HeapType)
    → unsigned_at 32 bytes ≡ Ok (cast_number 20 nullable, more) → heap_type_at more ≡ Ok (heap, after)
    → instr_at (0xFB ∷ bytes) ≡ Ok (instr.Reference (reference.Test (record { nullable = nullable; heap_type = heap })), after)
unfolding instr_at prefixed_at aggregate_at cast_instr_at
test_again false bytes more after heap number part = rw (number, part) refl
test_again true bytes more after heap number part = rw (number, part) refl

cast_again : (nullable : Bool) (bytes more after : List ℕ) (heap : HeapType)
    → unsigned_at 32 bytes ≡ Ok (cast_number 22 nullable, more) → heap_type_at more ≡ Ok (heap, after)
    → instr_at (0xFB ∷ bytes) ≡ Ok (instr.Reference (reference.Cast (record { nullable = nullable; heap_type = heap })), after)
unfolding instr_at prefixed_at aggregate_at cast_instr_at
cast_again false bytes more after heap number part = rw (number, part) refl
cast_again true bytes more after heap number part = rw (number, part) refl

pub reference_complete : (op : ReferenceInstr) (piece rest : List ℕ) → IsReference op piece
    → instr_at (piece ++ rest) ≡ Ok (instr.Reference op, rest)
unfolding instr_at high_instr_at reference_at
reference_complete (reference.Null heap) piece rest h =
    tagged_complete 0xD0 (λ heap. instr.Reference (reference.Null heap)) heap_decodes (λ bytes. refl) heap piece rest h
reference_complete reference.IsNull piece rest h = ap (λ (bytes : List ℕ). instr_at (bytes ++ rest)) h
reference_complete (reference.Func function) piece rest h =
    tagged_complete 0xD2 (λ index. instr.Reference (reference.Func index)) (unsigned_decodes 32) (λ bytes. refl) function piece rest h
reference_complete reference.Eq piece rest h = ap (λ (bytes : List ℕ). instr_at (bytes ++ rest)) h
reference_complete reference.AsNonNull piece rest h = ap (λ (bytes : List ℕ). instr_at (bytes ++ rest)) h
reference_complete (reference.Test ty) piece rest h =
    numbered_complete 0xFB (cast_number 20 ty.nullable)
    (λ heap. instr.Reference (reference.Test (record { nullable = ty.nullable; heap_type = heap }))) heap_decodes (test_again ty.nullable)
    ty.heap_type piece rest h
reference_complete (reference.Cast ty) piece rest h =
    numbered_complete 0xFB (cast_number 22 ty.nullable)
    (λ heap. instr.Reference (reference.Cast (record { nullable = ty.nullable; heap_type = heap }))) heap_decodes (cast_again ty.nullable)
    ty.heap_type piece rest h

pub branch_cast_complete : (cast : BranchCast) (piece rest : List ℕ) → Joined (IsPrefixed 0xFB 24) (IsBranchCast cast) piece
    → instr_at (piece ++ rest) ≡ Ok (instr.BrOnCast cast, rest)
unfolding instr_at prefixed_at aggregate_at
branch_cast_complete cast piece rest h =
    numbered_complete 0xFB 24 instr.BrOnCast branch_cast_decodes
    (λ bytes more after y number part. rw (number, part) refl) cast piece rest h

pub branch_cast_fail_complete : (cast : BranchCast) (piece rest : List ℕ) → Joined (IsPrefixed 0xFB 25) (IsBranchCast cast) piece
    → instr_at (piece ++ rest) ≡ Ok (instr.BrOnCastFail cast, rest)
unfolding instr_at prefixed_at aggregate_at
branch_cast_fail_complete cast piece rest h =
    numbered_complete 0xFB 25 instr.BrOnCastFail branch_cast_decodes (λ bytes more after y number part. rw (number, part) refl)
    cast piece rest h

-- an instruction with an index, with two, and with none
on_one : (number : ℕ) (make : ℕ → AggregateInstr)
    → ((bytes more after : List ℕ) (index : ℕ) → unsigned_at 32 bytes ≡ Ok (number, more) → unsigned_at 32 more ≡ Ok (index, after)
    → instr_at (0xFB ∷ bytes) ≡ Ok (instr.Aggregate (make index), after))
    → (index : ℕ) (piece rest : List ℕ) → IsOn number index piece → instr_at (piece ++ rest) ≡ Ok (instr.Aggregate (make index), rest)
on_one number make at index piece rest h =
    numbered_complete 0xFB number (λ index. instr.Aggregate (make index)) (unsigned_decodes 32) at index piece rest h

on_two : (number : ℕ) (make : ℕ → ℕ → AggregateInstr)
    → ((bytes more after : List ℕ) (parts : ℕ × ℕ) → unsigned_at 32 bytes ≡ Ok (number, more) → two_at more ≡ Ok (parts, after)
    → instr_at (0xFB ∷ bytes) ≡ Ok (instr.Aggregate (make parts.0 parts.1), after))
    → (one two : ℕ) (piece rest : List ℕ) → IsOnTwo number one two piece
    → instr_at (piece ++ rest) ≡ Ok (instr.Aggregate (make one two), rest)
on_two number make at one two piece rest h =
    numbered_complete 0xFB number (λ parts. instr.Aggregate (make parts.0 parts.1)) two_decode at (one, two) piece rest h

on_none : (number : ℕ) (op : AggregateInstr)
    → ((bytes more : List ℕ) → unsigned_at 32 bytes ≡ Ok (number, more) → instr_at (0xFB ∷ bytes) ≡ Ok (instr.Aggregate op, more))
    → (piece rest : List ℕ) → IsPrefixed 0xFB number piece → instr_at (piece ++ rest) ≡ Ok (instr.Aggregate op, rest)
on_none number op at piece rest h = number_complete 0xFB number (instr.Aggregate op) at piece rest h

pub aggregate_complete : (op : AggregateInstr) (piece rest : List ℕ) → IsAggregate op piece
    → instr_at (piece ++ rest) ≡ Ok (instr.Aggregate op, rest)
unfolding instr_at prefixed_at aggregate_at indexed_at struct_at new_array_at array_at elements_at atomic_at atomic_of access_of
aggregate_complete (aggregate.StructNew ty) piece rest h =
    on_one 0 aggregate.StructNew (λ bytes more after y number part. rw (number, part) refl) ty piece rest h
aggregate_complete (aggregate.StructNewDefault ty) piece rest h =
    on_one 1 aggregate.StructNewDefault (λ bytes more after y number part. rw (number, part) refl) ty piece rest h
aggregate_complete (aggregate.ArrayNew ty) piece rest h =
    on_one 6 aggregate.ArrayNew (λ bytes more after y number part. rw (number, part) refl) ty piece rest h
aggregate_complete (aggregate.ArrayNewDefault ty) piece rest h =
    on_one 7 aggregate.ArrayNewDefault (λ bytes more after y number part. rw (number, part) refl) ty piece rest h
aggregate_complete (aggregate.ArraySet ty) piece rest h =
    on_one 14 aggregate.ArraySet (λ bytes more after y number part. rw (number, part) refl) ty piece rest h
aggregate_complete (aggregate.ArrayFill ty) piece rest h =
    on_one 16 aggregate.ArrayFill (λ bytes more after y number part. rw (number, part) refl) ty piece rest h
aggregate_complete (aggregate.StructSet one two) piece rest h =
    on_two 5 aggregate.StructSet (λ bytes more after y number part. rw (number, part) refl) one two piece rest h
aggregate_complete (aggregate.ArrayNewFixed one two) piece rest h =
    on_two 8 aggregate.ArrayNewFixed (λ bytes more after y number part. rw (number, part) refl) one two piece rest h
aggregate_complete (aggregate.ArrayNewData one two) piece rest h =
    on_two 9 aggregate.ArrayNewData (λ bytes more after y number part. rw (number, part) refl) one two piece rest h
aggregate_complete (aggregate.ArrayNewElem one two) piece rest h =
    on_two 10 aggregate.ArrayNewElem (λ bytes more after y number part. rw (number, part) refl) one two piece rest h
aggregate_complete (aggregate.ArrayCopy one two) piece rest h =
    on_two 17 aggregate.ArrayCopy (λ bytes more after y number part. rw (number, part) refl) one two piece rest h
aggregate_complete (aggregate.ArrayInitData one two) piece rest h =
    on_two 18 aggregate.ArrayInitData (λ bytes more after y number part. rw (number, part) refl) one two piece rest h
aggregate_complete (aggregate.ArrayInitElem one two) piece rest h =
    on_two 19 aggregate.ArrayInitElem (λ bytes more after y number part. rw (number, part) refl) one two piece rest h
aggregate_complete (aggregate.StructGet ty field extended) piece rest h =
    on_two (get_number 2 extended) (λ ty field. aggregate.StructGet ty field extended) (struct_get_again extended) ty field piece rest h
aggregate_complete (aggregate.ArrayGet ty extended) piece rest h =
    on_one (get_number 11 extended) (λ ty. aggregate.ArrayGet ty extended) (array_get_again extended) ty piece rest h
aggregate_complete aggregate.ArrayLen piece rest h =
    on_none 15 aggregate.ArrayLen (λ bytes more number. rw number refl) piece rest h
aggregate_complete aggregate.AnyConvertExtern piece rest h =
    on_none 26 aggregate.AnyConvertExtern (λ bytes more number. rw number refl) piece rest h
aggregate_complete aggregate.ExternConvertAny piece rest h =
    on_none 27 aggregate.ExternConvertAny (λ bytes more number. rw number refl) piece rest h
aggregate_complete aggregate.RefI31 piece rest h =
    on_none 28 aggregate.RefI31 (λ bytes more number. rw number refl) piece rest h
aggregate_complete aggregate.I31GetS piece rest h =
    on_none 29 aggregate.I31GetS (λ bytes more number. rw number refl) piece rest h
aggregate_complete aggregate.I31GetU piece rest h =
    on_none 30 aggregate.I31GetU (λ bytes more number. rw number refl) piece rest h
aggregate_complete aggregate.RefI31Shared piece rest h =
    number_complete 0xFE 114 (instr.Aggregate aggregate.RefI31Shared) (λ bytes more number. rw number refl) piece rest h
