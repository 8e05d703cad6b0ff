-- Types that have their own canonical indices, and instructions that name them.
use Rattle.std.proofs.Common.{[], ap, arith, get_or, inl, inr, length, List, map, refl, subst, ℕ, ◌+◌, ◌<◌, ◌∙◌, ◌∷◌, ◌≡◌, ◌≤◌}
use Rattle.std.specs.Prelude.{unwrap_or}
use Rattle.std.proofs.lemmas.Bool.{cases_lt}
use Rattle.std.proofs.lemmas.Option.{slice_get-get_or, slice_get_past}
use Rattle.smith_types.specs.Syntax.value_type.HeapType.{HeapType}
use Rattle.smith_types.specs.Syntax.value_type.HeapType.TheVariants.{Abstract, Concrete, Exact}
use Rattle.smith_types.specs.Syntax.value_type.RefType.{RefType}
use Rattle.smith_types.specs.Syntax.value_type.ValType.{ValType}
use Rattle.smith_types.specs.Syntax.value_type.ValType.TheVariants.{Ref}
use Rattle.smith_instr.specs.declared.aggregate.AggregateInstr.{AggregateInstr}
use Rattle.smith_instr.specs.declared.aggregate.AggregateInstr.TheVariants as aggregate
use Rattle.smith_instr.specs.declared.control.BlockType.{BlockType}
use Rattle.smith_instr.specs.declared.control.BlockType.TheVariants as block
use Rattle.smith_instr.specs.declared.control.BranchCast.{BranchCast}
use Rattle.smith_instr.specs.declared.instr.Instr.{Instr}
use Rattle.smith_instr.specs.declared.instr.Instr.TheVariants as instr
use Rattle.smith_instr.specs.declared.reference.ReferenceInstr.{ReferenceInstr}
use Rattle.smith_instr.specs.declared.reference.ReferenceInstr.TheVariants as reference
use Rattle.smith_check_types.specs.Renamed.{renamed_heap, renamed_ref, renamed_val}
use Rattle.smith_check_types.specs.TypeSections.{canonical_index}
use Rattle.smith_check_renamed.specs.RenamedInstructions.{renamed_aggregate, renamed_block, renamed_body, renamed_cast, renamed_instr}
use Rattle.smith_check_renamed.specs.RenamedInstructions.{renamed_reference}

-- the types before `n` have their own indices
abbrev pub AreOwn : List ℕ → ℕ → Type 0
AreOwn indices n = (i : ℕ) → i < n → get_or indices i 0 ≡ i

pub one_more_own : (indices : List ℕ) (n : ℕ) → AreOwn indices n → get_or indices n 0 ≡ n → AreOwn indices (n + 1)
one_more_own indices n before here i within =
    elim (cases_lt i n) [
      | inl lower ↦ before i lower
      | inr upper ↦
          let last : n ≡ i = omega (arith, within, upper) in
          subst (λ k. get_or indices k 0 ≡ k) last here
    ]

pub all_own : (indices : List ℕ) (n : ℕ) → length indices ≤ n → AreOwn indices n → (index : ℕ) → canonical_index indices index ≡ index
all_own indices n whole own index =
    elim (cases_lt index (length indices)) [
      | inl within ↦
          ap (λ o. unwrap_or o index) (slice_get-get_or indices index 0 within) ∙ own index (omega (arith, within, whole))
      | inr past ↦ ap (λ o. unwrap_or o index) (slice_get_past indices index past)
    ]

-- a name that changes no index
abbrev Keeps : (ℕ → ℕ) → Type 0
Keeps name = (index : ℕ) → name index ≡ index

heap_own : (name : ℕ → ℕ) → Keeps name → (heap_type : HeapType) → renamed_heap name heap_type ≡ heap_type
heap_own name keeps (Abstract shared ty) = refl
heap_own name keeps (Concrete index) = ap (λ i. Concrete i) (keeps index)
heap_own name keeps (Exact index) = ap (λ i. Exact i) (keeps index)

ref_own : (name : ℕ → ℕ) → Keeps name → (reference : RefType) → renamed_ref name reference ≡ reference
ref_own name keeps reference = ap (λ h. record reference { heap_type = h }) (heap_own name keeps reference.heap_type)

val_own : (name : ℕ → ℕ) → Keeps name → (value : ValType) → renamed_val name value ≡ value
val_own name keeps (Ref reference) = ap (λ r. Ref r) (ref_own name keeps reference)
val_own name keeps value = refl

each_own : {A : Type 0} (f : A → A) → ((x : A) → f x ≡ x) → (xs : List A) → map f xs ≡ xs
each_own f same [] = refl
each_own f same (x ∷ xs) = ap (λ y. y ∷ map f xs) (same x) ∙ ap (λ ys. x ∷ ys) (each_own f same xs)

block_own : (name : ℕ → ℕ) → Keeps name → (ty : BlockType) → renamed_block name ty ≡ ty
block_own name keeps block.Empty = refl
block_own name keeps (block.Value value) = ap (λ v. block.Value v) (val_own name keeps value)
block_own name keeps (block.Func index) = ap (λ i. block.Func i) (keeps index)

cast_own : (name : ℕ → ℕ) → Keeps name → (cast : BranchCast) → renamed_cast name cast ≡ cast
cast_own name keeps cast =
    ap (λ r. record cast { from = r; to = renamed_ref name cast.to }) (ref_own name keeps cast.from)
    ∙ ap (λ r. record cast { to = r }) (ref_own name keeps cast.to)

reference_own : (name : ℕ → ℕ) → Keeps name → (op : ReferenceInstr) → renamed_reference name op ≡ op
reference_own name keeps (reference.Null heap_type) = ap (λ h. reference.Null h) (heap_own name keeps heap_type)
reference_own name keeps (reference.Test to) = ap (λ r. reference.Test r) (ref_own name keeps to)
reference_own name keeps (reference.Cast to) = ap (λ r. reference.Cast r) (ref_own name keeps to)
reference_own name keeps op = refl

aggregate_own : (name : ℕ → ℕ) → Keeps name → (op : AggregateInstr) → renamed_aggregate name op ≡ op
aggregate_own name keeps (aggregate.StructNew ty) = ap (λ t. aggregate.StructNew t) (keeps ty)
aggregate_own name keeps (aggregate.StructNewDefault ty) = ap (λ t. aggregate.StructNewDefault t) (keeps ty)
aggregate_own name keeps (aggregate.StructGet ty field extension) = ap (λ t. aggregate.StructGet t field extension) (keeps ty)
aggregate_own name keeps (aggregate.StructSet ty field) = ap (λ t. aggregate.StructSet t field) (keeps ty)
aggregate_own name keeps (aggregate.ArrayNew ty) = ap (λ t. aggregate.ArrayNew t) (keeps ty)
aggregate_own name keeps (aggregate.ArrayNewDefault ty) = ap (λ t. aggregate.ArrayNewDefault t) (keeps ty)
aggregate_own name keeps (aggregate.ArrayNewFixed ty size) = ap (λ t. aggregate.ArrayNewFixed t size) (keeps ty)
aggregate_own name keeps (aggregate.ArrayNewData ty segment) = ap (λ t. aggregate.ArrayNewData t segment) (keeps ty)
aggregate_own name keeps (aggregate.ArrayNewElem ty segment) = ap (λ t. aggregate.ArrayNewElem t segment) (keeps ty)
aggregate_own name keeps (aggregate.ArrayGet ty extension) = ap (λ t. aggregate.ArrayGet t extension) (keeps ty)
aggregate_own name keeps (aggregate.ArraySet ty) = ap (λ t. aggregate.ArraySet t) (keeps ty)
aggregate_own name keeps (aggregate.ArrayFill ty) = ap (λ t. aggregate.ArrayFill t) (keeps ty)
aggregate_own name keeps (aggregate.ArrayCopy to from) =
    ap (λ t. aggregate.ArrayCopy t (name from)) (keeps to) ∙ ap (λ t. aggregate.ArrayCopy to t) (keeps from)
aggregate_own name keeps (aggregate.ArrayInitData ty segment) = ap (λ t. aggregate.ArrayInitData t segment) (keeps ty)
aggregate_own name keeps (aggregate.ArrayInitElem ty segment) = ap (λ t. aggregate.ArrayInitElem t segment) (keeps ty)
aggregate_own name keeps op = refl

instr_own : (name : ℕ → ℕ) → Keeps name → (instruction : Instr) → renamed_instr name instruction ≡ instruction
instr_own name keeps (instr.Block ty) = ap (λ t. instr.Block t) (block_own name keeps ty)
instr_own name keeps (instr.Loop ty) = ap (λ t. instr.Loop t) (block_own name keeps ty)
instr_own name keeps (instr.If ty) = ap (λ t. instr.If t) (block_own name keeps ty)
instr_own name keeps (instr.TryTable ty clauses) = ap (λ t. instr.TryTable t clauses) (block_own name keeps ty)
instr_own name keeps (instr.BrOnCast cast) = ap (λ x. instr.BrOnCast x) (cast_own name keeps cast)
instr_own name keeps (instr.BrOnCastFail cast) = ap (λ x. instr.BrOnCastFail x) (cast_own name keeps cast)
instr_own name keeps (instr.CallIndirect table ty) = ap (λ t. instr.CallIndirect table t) (keeps ty)
instr_own name keeps (instr.CallRef ty) = ap (λ t. instr.CallRef t) (keeps ty)
instr_own name keeps (instr.ReturnCallIndirect table ty) = ap (λ t. instr.ReturnCallIndirect table t) (keeps ty)
instr_own name keeps (instr.ReturnCallRef ty) = ap (λ t. instr.ReturnCallRef t) (keeps ty)
instr_own name keeps (instr.SelectTyped values) = ap (λ vs. instr.SelectTyped vs) (each_own (renamed_val name) (val_own name keeps) values)
instr_own name keeps (instr.Reference op) = ap (λ o. instr.Reference o) (reference_own name keeps op)
instr_own name keeps (instr.Aggregate op) = ap (λ o. instr.Aggregate o) (aggregate_own name keeps op)
instr_own name keeps instruction = refl

-- a body whose types all have their own indices
pub body_own : (name : ℕ → ℕ) → Keeps name → (body : List Instr) → renamed_body name body ≡ body
body_own name keeps body = each_own (renamed_instr name) (instr_own name keeps) body
