-- The values that are found have their types.
use Rattle.smith_body.proofs.Common.{[], append-nil, AreValid, arith, BodyContext, Bool, both, choose_at, Config, F32, F64, false, get_or}
use Rattle.smith_body.proofs.Common.{I32, I64, if◌then◌else◌, Instr, is_permitted, IsOrderly, IsValid, length, List, None, one_valid}
use Rattle.smith_body.proofs.Common.{Option, option_to_list, Ref, refl, slice_get, Some, stacked, subst, SubType, suc, sym, true, V128}
use Rattle.smith_body.proofs.Common.{ValType, zero, ℕ, ◌++◌, ◌<◌, ◌∷◌, ◌≡◌, ◌≤◌}
use Rattle.std.specs.Prelude.{IfSome, option_and_then, option_map, pos}
use Rattle.std.proofs.lemmas.Option.{get_or_from_slice_get}
use Rattle.smith_types.specs.Expressions.{IsStructAt, field_values, unpacked}
use Rattle.smith_types.specs.Syntax.composite_type.FieldType.{FieldType}
use Rattle.smith_types.specs.Syntax.composite_type.StructType.{StructType}
use Rattle.smith_types.specs.Syntax.value_type.HeapType.{HeapType}
use Rattle.smith_draw_types.specs.Below.{is_val_below}
use Rattle.smith_instr.specs.Contexts.{created_reference}
use Rattle.smith_instr.specs.declared.aggregate.AggregateInstr.TheVariants as aggregate
use Rattle.smith_instr.specs.declared.instr.Instr.TheVariants as instr
use Rattle.smith_instr.specs.declared.reference.ReferenceInstr.TheVariants as reference
use Rattle.smith_body_leaves.specs.Leaves.{IsLeaf, IsTaking, constant_instr_at, conversion_to, created_over, creation_of, creation_over}
use Rattle.smith_body_leaves.specs.Leaves.{fields_at, fields_in, first_single, i31_by, i31_creation, i31_leaf, i31_number, i31_of, i31_type}
use Rattle.smith_body_leaves.specs.Leaves.{i31_with, if_permitted, instructions_of, leaf_within, may_create, named_at, named_type, only}
use Rattle.smith_body_leaves.specs.Leaves.{searches_on, value_over, with_last}
use Rattle.smith_body.specs.Stops.{HaveNeededStops}
use Rattle.smith_body_leaves.specs.declared.leaf.Leaf.{Leaf}
use Rattle.smith_body_leaves.specs.declared.unary.Unary.{Unary}
use Rattle.smith_body_leaves.specs.FirstCreated.{first_created_array, first_created_struct, is_created_empty}
use Rattle.smith_body_nodes.specs.IndexedTypes.{is_created_below, is_created_struct, struct_in}
use Rattle.smith_body_nodes.proofs.IndexedTypeLemmas.{struct_there}
use Rattle.smith_body_nodes.specs.Offered.{IsReferenceTo, is_global_below, is_readable, is_reference, offered}
use Rattle.smith_body_nodes.specs.Scopes.{indexed}
use Rattle.smith_body_nodes.specs.declared.offer.Reach.TheVariants as reach
use Rattle.smith_body_nodes.proofs.OfferLemmas.{tested}
use Rattle.smith_body.proofs.DrawnLemmas.{alone}
use Rattle.smith_body_leaves.proofs.ConversionLemmas.{IsUnaryOf, conversion_is}
use Rattle.smith_body_leaves.proofs.LawLemmas.{IsFound, first_item, found, mapped_some, single_found}
use Rattle.smith_body_leaves.proofs.LeafLemmas.{array_leaf, global_leaf, i31_over, local_leaf, no_constant, null_constant, reference_leaf}
use Rattle.smith_body_leaves.proofs.LeafLemmas.{struct_leaf}
use Rattle.smith_body_leaves.proofs.OtherLemmas.{first_passes}
use Rattle.smith_body_leaves.proofs.ReferenceLemmas.{reference_there}
use Rattle.smith_body_leaves.proofs.SearchLemmas.{or_some, tried_each}
use Rattle.smith_body_nodes.proofs.StopLemmas.{permitted_goes_on}
use Rattle.smith_body.proofs.StopLemmas.{in_turn}

-- the first of the offered items
offered_first : (test : ℕ → Bool) (size : ℕ) (P : ℕ → Type 0) (o : Option ℕ) → slice_get (offered test size) 0 ≡ o
    → ((index : ℕ) → test index ≡ true → P index) → IfSome o P
offered_first test size P None at all = tt
offered_first test size P (Some index) at all = all index (first_passes test size index at)

drawn_first : (test : ℕ → Bool) (size : ℕ) (P : ℕ → Type 0) → ((index : ℕ) → test index ≡ true → P index)
    → IfSome (choose_at (offered test size) []).0 P
drawn_first test size P all = subst (λ (o : Option ℕ). IfSome o P) (sym (first_item (offered test size)))
    (offered_first test size P (slice_get (offered test size) 0) refl all)

if_true : {A : Type 0} (P : A → Type 0) (x : A) (on : Bool) → P x → IfSome (if on then Some x else None) P
if_true P x true is = is
if_true P x false is = tt

if_on : (config : Config) (context : BodyContext) (P : Instr → Type 0) (o : Option Instr) → IfSome o P
    → IfSome (if_permitted config context o) P
if_on config context P None is = tt
if_on config context P (Some instruction) is = if_true P instruction (is_permitted context.features config instruction) is

-- a reference to a function
named_leaf : (context : BodyContext) (set : List ℕ) (wanted : ValType) (place : ℕ) (o : Option ℕ) → IsOrderly context.types
    → slice_get context.references place ≡ o → is_reference context wanted place ≡ true
    → IfSome o (λ function. IsLeaf context set wanted (instr.Reference (reference.Func function)))
named_leaf context set wanted place None orderly at is = tt
named_leaf context set wanted place (Some function) orderly at is =
    let same : get_or context.references place 0 ≡ function = get_or_from_slice_get context.references place function 0 at in
    reference_leaf context set wanted function (subst (IsReferenceTo context wanted) same (reference_there context wanted place orderly is))

placed_leaf : (context : BodyContext) (set : List ℕ) (wanted : ValType) (o : Option ℕ) → IsOrderly context.types
    → IfSome o (λ place. is_reference context wanted place ≡ true)
    → IfSome (option_and_then (slice_get context.references) o)
    (λ function. IsLeaf context set wanted (instr.Reference (reference.Func function)))
placed_leaf context set wanted None orderly is = tt
placed_leaf context set wanted (Some place) orderly is = named_leaf context set wanted place (slice_get context.references place) orderly
    refl is

function_leaf : (context : BodyContext) (set : List ℕ) (wanted : ValType) → IsOrderly context.types
    → IfSome (named_at context reach.Whole wanted []).0 (λ function. IsLeaf context set wanted (instr.Reference (reference.Func function)))
unfolding named_at
function_leaf context set wanted orderly =
    placed_leaf context set wanted (choose_at (offered (is_reference context wanted) (length context.references)) []).0 orderly
    (drawn_first (is_reference context wanted) (length context.references) (λ place. is_reference context wanted place ≡ true)
    (λ place is. is))

-- a constant
null_leaf : (context : BodyContext) (set : List ℕ) (nullable : Bool) (heap_type : HeapType)
    → IsValid context (Ref (record { nullable = nullable; heap_type = heap_type }))
    → IsLeaf context set (Ref (record { nullable = nullable; heap_type = heap_type }))
    (if nullable then instr.Reference (reference.Null heap_type) else instr.Unreachable)
null_leaf context set true heap_type valid = null_constant (record { nullable = true; heap_type = heap_type }) refl context set valid
null_leaf context set false heap_type valid = no_constant (Ref (record { nullable = false; heap_type = heap_type })) context set valid

constant_leaf : (context : BodyContext) (set : List ℕ) (wanted : ValType) → IsValid context wanted
    → IsLeaf context set wanted (constant_instr_at wanted []).0
unfolding constant_instr_at
constant_leaf context set I32 valid = record { value = I32; typed = (refl, refl); below = tt; sets_none = refl }
constant_leaf context set I64 valid = record { value = I64; typed = (refl, refl); below = tt; sets_none = refl }
constant_leaf context set F32 valid = record { value = F32; typed = (refl, refl); below = tt; sets_none = refl }
constant_leaf context set F64 valid = record { value = F64; typed = (refl, refl); below = tt; sets_none = refl }
constant_leaf context set V128 valid = record { value = V128; typed = (refl, refl); below = tt; sets_none = refl }
constant_leaf context set (Ref to) valid = null_leaf context set to.nullable to.heap_type valid

-- a value of one instruction
pub single_leaf : (config : Config) (context : BodyContext) (set : List ℕ) (wanted : ValType) → IsOrderly context.types
    → IsValid context wanted → IfSome (first_single config context set wanted) (IsLeaf context set wanted)
unfolding first_single
single_leaf config context set wanted orderly valid =
    let P = IsLeaf context set wanted in
    let locals = choose_at (offered (is_readable context set wanted) (indexed (length context.locals))) [] in
    let globals = choose_at (offered (is_global_below context wanted) (indexed (length context.globals))) [] in
    let local = if_on config context P (option_map instr.LocalGet locals.0)
    (mapped_some P instr.LocalGet locals.0 (drawn_first (is_readable context set wanted) (indexed (length context.locals))
    (λ index. P (instr.LocalGet index)) (λ index is. local_leaf context set wanted index orderly is))) in
    let global = if_on config context P (option_map instr.GlobalGet globals.0)
    (mapped_some P instr.GlobalGet globals.0 (drawn_first (is_global_below context wanted) (indexed (length context.globals))
    (λ index. P (instr.GlobalGet index)) (λ index is. global_leaf context set wanted index orderly is))) in
    let function = if_on config context P (option_map (λ function. instr.Reference (reference.Func function))
    (named_at context reach.Whole wanted []).0)
    (mapped_some P (λ function. instr.Reference (reference.Func function)) (named_at context reach.Whole wanted []).0
    (function_leaf context set wanted orderly)) in
    let constant = if_on config context P (Some (constant_instr_at wanted []).0) (constant_leaf context set wanted valid) in
    let struct = if_on config context P (option_map (λ ty. instr.Aggregate (aggregate.StructNewDefault ty))
    (first_created_struct context wanted))
    (mapped_some P (λ ty. instr.Aggregate (aggregate.StructNewDefault ty)) (first_created_struct context wanted)
    (offered_first (is_created_struct context wanted true) (indexed (length context.types))
    (λ ty. P (instr.Aggregate (aggregate.StructNewDefault ty))) (first_created_struct context wanted) refl
    (λ ty is. struct_leaf context set wanted ty orderly is))) in
    let array = if_on config context P (option_map (λ ty. instr.Aggregate (aggregate.ArrayNewFixed ty 0))
    (first_created_array context wanted))
    (mapped_some P (λ ty. instr.Aggregate (aggregate.ArrayNewFixed ty 0)) (first_created_array context wanted)
    (offered_first (is_created_empty context wanted) (indexed (length context.types))
    (λ ty. P (instr.Aggregate (aggregate.ArrayNewFixed ty 0))) (first_created_array context wanted) refl
    (λ ty is. array_leaf context set wanted ty orderly is))) in
    or_some P _ _ local (or_some P _ _ global (or_some P _ _ function (or_some P _ _ constant (or_some P _ _ struct array))))

-- instructions that leave a value of this type on any stack
pub record Makes (config : Config) (context : BodyContext) (set : List ℕ) (wanted : ValType) (instructions : List Instr) : Type 0 where
  pub typed : (base : List ValType) → AreValid context base → HaveNeededStops config context instructions (stacked base set)
      (stacked (base ++ wanted ∷ []) set)

pub single_makes : (config : Config) (context : BodyContext) (set : List ℕ) (wanted : ValType) (instruction : Instr)
    → IsValid context wanted → IsLeaf context set wanted instruction → IsFound config context instruction
    → Makes config context set wanted (instruction ∷ [])
single_makes config context set wanted instruction valid of found = record {
  typed = λ base under.
      rw append-nil at
      (alone {config = config} context instruction [] (of.value ∷ []) (wanted ∷ []) base set set of.typed (of.below, tt)
      (one_valid context wanted valid) under (rw (of.sets_none, append-nil) refl)
      (λ disallowed is. absurd (permitted_goes_on context.features config instruction found disallowed is)));
}

pub taking_makes : (config : Config) (context : BodyContext) (set : List ℕ) (operand wanted : ValType) (first : List Instr)
    (instruction : Instr) → IsValid context wanted → Makes config context set operand first
    → IsTaking context set (operand ∷ []) wanted instruction → IsFound config context instruction
    → Makes config context set wanted (first ++ instruction ∷ [])
taking_makes config context set operand wanted first instruction valid before of found = record {
  typed = λ base under.
      in_turn (before.typed base under)
      (alone {config = config} context instruction (operand ∷ []) (of.value ∷ []) (wanted ∷ []) base set set of.typed (of.below, tt)
      (one_valid context wanted valid) under (rw (of.sets_none, append-nil) refl)
      (λ disallowed is. absurd (permitted_goes_on context.features config instruction found disallowed is)));
}

-- the number of instructions after the first
abbrev Fits : ℕ → Leaf → Type 0
Fits zero leaf = (leaf.next ≡ None) × (leaf.last ≡ None)
Fits (suc zero) leaf = leaf.next ≡ None
Fits (suc (suc more)) leaf = Unit {0}

fits_only : (more : ℕ) (instruction : Instr) → Fits more (only instruction)
fits_only zero instruction = (refl, refl)
fits_only (suc zero) instruction = refl
fits_only (suc (suc more)) instruction = tt

fits_last : (more : ℕ) (instruction : Instr) (leaf : Leaf) → more < 2 → Fits more leaf → Fits (suc more) (with_last instruction leaf)
fits_last zero instruction leaf few fits = fits.1
fits_last (suc zero) instruction leaf few fits = tt
fits_last (suc (suc more)) instruction leaf few fits = absurd (omega arith)

fits_free : (more : ℕ) (leaf : Leaf) → more < 2 → Fits more leaf → leaf.next ≡ None
fits_free zero leaf few fits = fits.0
fits_free (suc zero) leaf few fits = fits
fits_free (suc (suc more)) leaf few fits = absurd (omega arith)

record IsOf (config : Config) (context : BodyContext) (set : List ℕ) (more : ℕ) (wanted : ValType) (leaf : Leaf) : Type 0 where
  fits : Fits more leaf
  makes : Makes config context set wanted (instructions_of leaf)

only_of : (config : Config) (context : BodyContext) (set : List ℕ) (more : ℕ) (wanted : ValType) (o : Option Instr) → IsValid context wanted
    → IfSome o (IsLeaf context set wanted) → IfSome o (IsFound config context)
    → IfSome (option_map only o) (IsOf config context set more wanted)
only_of config context set more wanted None valid of found = tt
only_of config context set more wanted (Some instruction) valid of found =
    record { fits = fits_only more instruction; makes = single_makes config context set wanted instruction valid of found }

last_of : (config : Config) (context : BodyContext) (set : List ℕ) (more : ℕ) (operand wanted : ValType) (instruction : Instr) (leaf : Leaf)
    → more < 2 → IsValid context wanted → IsOf config context set more operand leaf → IsTaking context set (operand ∷ []) wanted instruction
    → IsFound config context instruction → IsOf config context set (suc more) wanted (with_last instruction leaf)
last_of config context set more operand wanted instruction leaf few valid of taking found =
    let free : leaf.next ≡ None = fits_free more leaf few of.fits in
    let before : Makes config context set operand (leaf.value ∷ option_to_list leaf.last) =
    subst (λ (o : Option Instr). Makes config context set operand (leaf.value ∷ (option_to_list o ++ option_to_list leaf.last))) free
    of.makes in
    record {
      fits = fits_last more instruction leaf few of.fits;
      makes = taking_makes config context set operand wanted
          (leaf.value ∷ option_to_list leaf.last) instruction valid before taking found;
    }

mapped_of : (config : Config) (context : BodyContext) (set : List ℕ) (more : ℕ) (wanted : ValType) (unary : Unary) (o : Option Leaf)
    → more < 2 → IsValid context wanted → IsUnaryOf config context set wanted unary → IfSome o (IsOf config context set more unary.operand)
    → IfSome (option_map (with_last unary.instruction) o) (IsOf config context set (suc more) wanted)
mapped_of config context set more wanted unary None few valid is of = tt
mapped_of config context set more wanted unary (Some leaf) few valid is of = last_of config context set more unary.operand wanted
    unary.instruction leaf few valid of is.taking is.found

abbrev AreOf : Config → BodyContext → List ℕ → ℕ → (ValType → Option Leaf) → Type 0
AreOf config context set more operand = (wanted : ValType) → IsValid context wanted
    → IfSome (operand wanted) (IsOf config context set more wanted)

over_of : (config : Config) (context : BodyContext) (set : List ℕ) (more : ℕ) (wanted : ValType) (operand : ValType → Option Leaf)
    (o : Option Unary) → more < 2 → IsValid context wanted → IfSome o (IsUnaryOf config context set wanted)
    → AreOf config context set more operand
    → IfSome (value_over operand o) (IsOf config context set (suc more) wanted)
over_of config context set more wanted operand None few valid is below = tt
over_of config context set more wanted operand (Some unary) few valid is below = mapped_of config context set more wanted unary
    (operand unary.operand) few valid is (below unary.operand is.valid)

-- an i31
by_taking : (config : Config) (context : BodyContext) (set : List ℕ) (wanted : ValType) (shared below permitted : Bool)
    → IsOrderly context.types → is_val_below context.types (i31_type shared) wanted ≡ below → is_permitted context.features config
    (i31_of shared) ≡ permitted
    → IfSome (if below then (if permitted then Some (i31_of shared) else None) else None)
    (λ creation. IsTaking context set (I32 ∷ []) wanted creation × IsFound config context creation)
by_taking config context set wanted shared true true orderly is permitted = (i31_over context set wanted shared orderly is, permitted)
by_taking config context set wanted shared true false orderly is permitted = tt
by_taking config context set wanted shared false permitted orderly is may = tt

with_of : (config : Config) (context : BodyContext) (set : List ℕ) (wanted : ValType) (creation number : Option Instr)
    → IsValid context wanted → IfSome creation (λ creation. IsTaking context set (I32 ∷ []) wanted creation
    × IsFound config context creation)
    → IfSome number (IsLeaf context set I32) → IfSome number (IsFound config context) → IfSome (option_and_then (i31_with number) creation)
    (IsOf config context set 1 wanted)
with_of config context set wanted None number valid is of found = tt
with_of config context set wanted (Some creation) None valid is of found = tt
with_of config context set wanted (Some creation) (Some number) valid (taking, permitted) of found = record {
  fits = refl;
  makes = taking_makes config context set I32 wanted (number ∷ []) creation valid (single_makes config context set I32 number tt of found)
      taking permitted;
}

i31_made : (config : Config) (context : BodyContext) (set : List ℕ) (wanted : ValType) → IsOrderly context.types → IsValid context wanted
    → IfSome (i31_leaf config context set wanted) (IsOf config context set 1 wanted)
unfolding i31_leaf
i31_made config context set wanted orderly valid =
    let P = λ (creation : Instr). IsTaking context set (I32 ∷ []) wanted creation × IsFound config context creation in
    let zero_leaf : IsLeaf context set I32 (instr.I32Const (pos 0)) =
    record { value = I32; typed = (refl, refl); below = tt; sets_none = refl } in
    let zero_number = if_permitted config context (Some (instr.I32Const (pos 0))) in
    with_of config context set wanted (i31_creation config context wanted) (i31_number config context set) valid
    (or_some P (i31_by config context wanted false) (i31_by config context wanted true)
    (by_taking config context set wanted false _ _ orderly refl refl) (by_taking config context set wanted true _ _ orderly refl refl))
    (or_some (IsLeaf context set I32) zero_number (first_single config context set I32)
    (if_on config context (IsLeaf context set I32) (Some (instr.I32Const (pos 0))) zero_leaf)
    (single_leaf config context set I32 orderly tt))
    (or_some (IsFound config context) zero_number (first_single config context set I32)
    (found config context (Some (instr.I32Const (pos 0)))) (single_found config context set I32))

wider_of : (config : Config) (context : BodyContext) (set : List ℕ) (more : ℕ) (wanted : ValType) (leaf : Leaf)
    → IsOf config context set 1 wanted leaf → IsOf config context set (suc more) wanted leaf
wider_of config context set zero wanted leaf of = of
wider_of config context set (suc more) wanted leaf of = record { fits = tt; makes = of.makes }

weaker : {A : Type 0} (P Q : A → Type 0) (o : Option A) → ((x : A) → P x → Q x) → IfSome o P → IfSome o Q
weaker P Q None more is = tt
weaker P Q (Some x) more is = more x is

-- the creation of a struct of one field
abbrev pub HasValidFields : BodyContext → Type 0
HasValidFields context = (ty : ℕ) (fields : List FieldType) → IsStructAt context.types ty fields → AreValid context (field_values fields)

struct_of_fields : (types : List SubType) (ty : ℕ) (field : FieldType) (more : List FieldType) (o : Option StructType)
    → struct_in (slice_get types ty) ≡ o → fields_in o ≡ field ∷ more → IsStructAt types ty (field ∷ more)
struct_of_fields types ty field more (Some structure) at is = subst (IsStructAt types ty) is (struct_there types ty structure at)
struct_of_fields types ty field more None at is = cc

field_by : (config : Config) (context : BodyContext) (set : List ℕ) (wanted : ValType) (ty : ℕ) (field : FieldType) (may : Bool)
    → IsOrderly context.types → HasValidFields context → IsStructAt context.types ty (field ∷ []) → may_create config context wanted ty
    ≡ may
    → IfSome (if may then Some (record { instruction = instr.Aggregate (aggregate.StructNew ty); operand = unpacked field.element_type })
    else None) (IsUnaryOf config context set wanted)
field_by config context set wanted ty field true orderly fields there is =
    let (below, permitted) = both (is_created_below context wanted ty)
    (is_permitted context.features config (instr.Aggregate (aggregate.StructNew ty))) is in
    record {
      valid = fields ty (field ∷ []) there 0 (unpacked field.element_type) (omega arith);
      taking = record {
        value = created_reference context ty;
        typed = (field ∷ [], there, (refl, refl));
        below = tested context.types orderly (created_reference context ty) wanted below;
        sets_none = refl;
      };
      found = permitted;
    }
field_by config context set wanted ty field false orderly fields there is = tt

creation_by : (config : Config) (context : BodyContext) (set : List ℕ) (wanted : ValType) (ty : ℕ) (fields : List FieldType)
    → IsOrderly context.types → HasValidFields context → fields_at context.types ty ≡ fields
    → IfSome (creation_over config context wanted ty fields) (IsUnaryOf config context set wanted)
creation_by config context set wanted ty [] orderly valid are = tt
creation_by config context set wanted ty (field ∷ []) orderly valid are =
    field_by config context set wanted ty field (may_create config context wanted ty) orderly valid
    (struct_of_fields context.types ty field [] (struct_in (slice_get context.types ty)) refl are) refl
creation_by config context set wanted ty (field ∷ other ∷ fields) orderly valid are = tt

creation_is : (config : Config) (context : BodyContext) (set : List ℕ) (wanted : ValType) (ty : ℕ) → IsOrderly context.types
    → HasValidFields context → IfSome (creation_of config context wanted ty) (IsUnaryOf config context set wanted)
creation_is config context set wanted ty orderly valid = creation_by config context set wanted ty (fields_at context.types ty) orderly valid
    refl

-- a value of few instructions
within_of : (config : Config) (context : BodyContext) (set : List ℕ) (more : ℕ) (search : Bool) → IsOrderly context.types
    → HasValidFields context → more ≤ 2 → AreOf config context set more (leaf_within config context set more search)
unfolding leaf_within
within_of config context set zero search orderly fields few wanted valid = only_of config context set zero wanted
    (first_single config context set wanted) valid (single_leaf config context set wanted orderly valid)
    (single_found config context set wanted)
within_of config context set (suc more) search orderly fields few wanted valid =
    let P = IsOf config context set (suc more) wanted in
    or_some P (option_map only (first_single config context set wanted)) _
    (only_of config context set (suc more) wanted (first_single config context set wanted) valid
    (single_leaf config context set wanted orderly valid) (single_found config context set wanted))
    (or_some P (i31_leaf config context set wanted) _ (weaker (IsOf config context set 1 wanted) P (i31_leaf config context set wanted)
    (λ leaf of. wider_of config context set more wanted leaf of) (i31_made config context set wanted orderly valid))
    (or_some P (value_over (leaf_within config context set more search) (conversion_to config context wanted)) _
    (over_of config context set more wanted (leaf_within config context set more search) (conversion_to config context wanted) (omega arith)
    valid (conversion_is config context set wanted valid) (within_of config context set more search orderly fields (omega arith)))
    (let on = searches_on search (named_type wanted) in
    tried_each P context search (named_type wanted) (created_over config context (leaf_within config context set more on) wanted)
    (λ ty. over_of config context set more wanted (leaf_within config context set more on) (creation_of config context wanted ty)
    (omega arith) valid (creation_is config context set wanted ty orderly fields) (within_of config context set more on orderly fields
    (omega arith))))))

pub within_makes : (config : Config) (context : BodyContext) (set : List ℕ) (wanted : ValType) → IsOrderly context.types
    → HasValidFields context → IsValid context wanted → IfSome (leaf_within config context set 2 true wanted)
    (λ leaf. Makes config context set wanted (instructions_of leaf))
within_makes config context set wanted orderly fields valid =
    weaker (IsOf config context set 2 wanted) (λ leaf. Makes config context set wanted (instructions_of leaf))
    (leaf_within config context set 2 true wanted) (λ leaf of. of.makes) (within_of config context set 2 true orderly fields
    (omega arith) wanted valid)
