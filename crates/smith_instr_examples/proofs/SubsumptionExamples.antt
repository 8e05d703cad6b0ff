-- Values where an instruction takes values of another type, and types that are not valid.
use Rattle.smith_types.specs.Syntax.Kinds.{bottom}
use Rattle.smith_types.specs.Subtyping.{IsBelow, by_step}
use Rattle.smith_types.specs.ValidTypes.{IsHeapTypeValid}
use Rattle.smith_types.specs.Syntax.value_type.HeapType.{HeapType}
use Rattle.smith_types.specs.Syntax.value_type.HeapType.TheVariants.{Exact}
use Rattle.smith_types.specs.Syntax.value_type.AbstractHeapType.TheVariants as heap
use Rattle.smith_instr.proofs.CompositionLemmas.{from_below}
use Rattle.smith_instr.specs.declared.aggregate.AggregateInstr.TheVariants as aggregate
use Rattle.smith_instr.specs.declared.aggregate.Extension.TheVariants as extension
use Rattle.smith_instr.specs.declared.instr.Instr.TheVariants as instr
use Rattle.smith_instr.specs.declared.numeric.NumericInstr.TheVariants as numeric
use Rattle.smith_instr.specs.declared.reference.ReferenceInstr.TheVariants as reference
use Rattle.smith_instr.specs.declared.table.TableInstr.TheVariants as table
use Rattle.smith_instr_examples.proofs.Common.{◌≡◌, ℕ, ◌<◌, Bool, true, false, List, [], ◌∷◌, None, refl, sym, subst, ap, ◌∙◌, arith}
use Rattle.smith_instr_examples.proofs.Common.{slice_get, same_Some, All-from_recursion, All-head, AllZip, itself, IsRefBelow, IsValBelow}
use Rattle.smith_instr_examples.proofs.Common.{below_kind, by_cases_from_below, reference_to, plain, Abstract, Concrete, SubType, ValType}
use Rattle.smith_instr_examples.proofs.Common.{F32, F64, I32, I64, V128, Ref, funcref, final_type, taking, nullable_to, BodyContext}
use Rattle.smith_instr_examples.proofs.Common.{labelled, IsValid, AreValid, stacked, CountsAs, AreTyped, IsBodyTyped, step, one, finished}
use Rattle.smith_instr_examples.proofs.Common.{function_of, functions, number, some_func, wide_number, managed, managed_types, anything}
use Rattle.smith_instr_examples.proofs.Common.{any_struct}
use Rattle.smith_instr_examples.proofs.ManagedExamples.{first_struct, orderly}
use Rattle.smith_instr_examples.proofs.PassedLemmas.{one_above, passed}
use Rattle.smith_instr_examples.proofs.SequenceExamples.{is_plain, step_of, end_of, funcref_valid, valid_none, valid_one}

-- the context of the bodies, and the reference that they create
abbrev here : BodyContext
here = labelled (function_of [] []) []

abbrev created : ValType
created = reference_to (Concrete 1)

created_below : IsRefBelow here.types (record { nullable = false; heap_type = Concrete 1 }) funcref
created_below = record { heap = below_kind here.types 1 (final_type (taking (I32 ∷ []))) refl; nullable = λ on. refl }

created_valid : IsValid here created
created_valid = (refl, record { heap_type = (refl, omega arith); nullable = λ never. refl })

pub tested : IsBodyTyped (function_of [] []) (instr.Reference (reference.Func 1) ∷ instr.Reference reference.IsNull ∷ instr.Drop ∷ [])
tested =
    let none = valid_none here in
    let counts : CountsAs here (created ∷ []) (Ref funcref ∷ []) =
    record { below = (created_below, tt); valid = funcref_valid here refl } in
    record {
      set = [];
      typed = step (one here (instr.Reference (reference.Func 1)) [] (created ∷ []) [] [] [] (1, refl, (0, omega arith, refl), (refl, refl))
          (valid_one here created created_valid) refl)
          (from_below (created ∷ []) counts
          (step (one here (instr.Reference reference.IsNull) (Ref funcref ∷ []) (I32 ∷ []) [] [] [] (
            plain heap.Func,
            (tt, λ never. cc),
            (refl, refl),
          ) (valid_one here I32 tt) refl)
          (step (one here instr.Drop (I32 ∷ []) [] [] [] [] (I32, (refl, refl)) none refl) (finished here [] [] none))));
    }

pub written : IsBodyTyped (function_of [] []) (number 0 ∷ instr.Reference (reference.Func 1) ∷ instr.Table (table.Set 0) ∷ [])
written =
    let none = valid_none here in
    let both = All-from_recursion (IsValid here) (I32 ∷ Ref funcref ∷ [])
    (tt, ((refl, record { heap_type = (tt, λ never. cc); nullable = λ is. cc }), tt)) in
    let counts : CountsAs here (I32 ∷ created ∷ []) (I32 ∷ Ref funcref ∷ []) = record { below = (tt, (created_below, tt)); valid = both } in
    record {
      set = [];
      typed = step (one here (number 0) [] (I32 ∷ []) [] [] [] (refl, refl) (valid_one here I32 tt) refl)
          (step (one here (instr.Reference (reference.Func 1)) [] (created ∷ []) (I32 ∷ []) [] [] (
            1,
            refl,
            (0, omega arith, refl),
            (refl, refl),
          ) (valid_one here created created_valid) refl)
          (from_below (I32 ∷ created ∷ []) counts
          (step (one here (instr.Table (table.Set 0)) (I32 ∷ Ref funcref ∷ []) [] [] [] [] (functions, refl, (refl, refl)) none refl)
          (finished here [] [] none))));
    }

pub too_wide : IsBodyTyped (function_of [] []) (wide_number 0 ∷ instr.Numeric numeric.I32Eqz ∷ instr.Drop ∷ []) → ⊥
unfolding is_plain
too_wide body =
    let (a, first, more) = step_of refl body.typed in
    let (b, second, rest) = step_of refl more in
    passed first.framed second.framed I64 I32 [] first.typed.1 second.typed.0

pub null_set : IsBodyTyped (function_of (some_func ∷ []) []) (instr.Reference (reference.Null (plain heap.Func)) ∷ instr.LocalSet 0 ∷ [])
    → ⊥
unfolding is_plain
null_set body =
    let (a, first, more) = step_of refl body.typed in
    let (b, second, rest) = step_of refl more in
    let (value, at, is) = second.typed in
    let same : value ≡ some_func = sym (same_Some some_func value at) in
    let below = passed first.framed second.framed (Ref funcref) value [] first.typed.1.1 is.0 in
    let under : IsValBelow here.types (Ref funcref) some_func = subst (IsValBelow here.types (Ref funcref)) same below in
    let never : ◌≡◌ {A = Bool} false true = under.nullable refl in
    cc

pub any_read : IsBodyTyped (managed [] []) (instr.Reference (reference.Null (plain heap.Any)) ∷ instr.Aggregate
    (aggregate.StructGet 0 1 extension.Unpacked) ∷ instr.Drop ∷ []) → ⊥
unfolding is_plain
any_read body =
    let (a, first, more) = step_of refl body.typed in
    let (b, second, rest) = step_of refl more in
    let (field, there, reads, is) = second.typed in
    let below : IsRefBelow managed_types anything any_struct = passed first.framed second.framed (Ref anything) (Ref any_struct) []
    first.typed.1.1 is.0 in
    let (t, at, shares, bottoms) = by_cases_from_below managed_types orderly (plain heap.Any) (Concrete 0) below.heap in
    let same : t ≡ first_struct = sym (same_Some first_struct t at) in
    let never : heap.Any ≡ heap.None = bottoms ∙ ap bottom same in
    cc

pub no_end : AreTyped (function_of [] []) [] (stacked (nullable_to (Concrete 5) ∷ []) []) (stacked (nullable_to (Concrete 5) ∷ []) []) → ⊥
no_end typed =
    let valid = All-head (IsValid (function_of [] [])) (nullable_to (Concrete 5)) [] (end_of typed).valid in
    let past : 5 < 5 = valid.1.heap_type.1 in
    omega (arith, past)

-- a type that is past the last is below itself alone
alone : (types : List SubType) (i : ℕ) (c : HeapType) → slice_get types i ≡ None → IsBelow types (Concrete i) c → c ≡ Concrete i
alone types i c past itself = refl
alone types i c past (by_step {b = Abstract shared ty} (t, at, shares, kinds) more) = cc
alone types i c past (by_step {b = Concrete j} (t, at, above) more) = cc
alone types i c past (by_step {b = Exact j} never more) = absurd never

none_above : (value : ValType) → IsValBelow here.types (nullable_to (Concrete 5)) value → IsValid here value → ⊥
none_above I32 below valid = below
none_above I64 below valid = below
none_above F32 below valid = below
none_above F64 below valid = below
none_above V128 below valid = below
none_above (Ref r) below (on, valid) =
    let same = alone here.types 5 r.heap_type refl below.heap in
    let past = subst (IsHeapTypeValid here.features 5) same valid.heap_type in
    let never : 5 < 5 = past.1 in
    omega (arith, never)

pub none_read : IsBodyTyped (function_of (nullable_to (Concrete 5) ∷ []) []) (instr.LocalGet 0 ∷ instr.Drop ∷ []) → ⊥
unfolding is_plain
none_read body =
    let (a, first, more) = step_of refl body.typed in
    let (value, (at, set), is) = first.typed in
    let same : value ≡ nullable_to (Concrete 5) = sym (same_Some (nullable_to (Concrete 5)) value at) in
    let results : first.results ≡ nullable_to (Concrete 5) ∷ [] = is.1 ∙ ap (λ (v : ValType). v ∷ []) same in
    let f = first.framed in
    let (left, leaves, up) = one_above here.types (nullable_to (Concrete 5)) f.given
    (subst (λ (xs : List ValType). AllZip (IsValBelow here.types) xs f.given) results f.offered.below) in
    none_above left up (All-head (IsValid here) left [] (subst (AreValid here) leaves f.offered.valid))
