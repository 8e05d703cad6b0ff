-- Values that are preferred to null.
use Rattle.smith_body_leaves.proofs.Common.{[], Abstract, AbstractHeapType, ap, BodyContext, Bool, both, Config, created_reference, F32}
use Rattle.smith_body_leaves.proofs.Common.{F64, false, FieldType, HeapType, I32, I64, IfSome, if◌then◌else◌, Instr, is_created_below}
use Rattle.smith_body_leaves.proofs.Common.{is_permitted, is_val_below, IsArrayAt, IsOrderly, IsValBelow, IsValid, itself, length, List}
use Rattle.smith_body_leaves.proofs.Common.{None, Option, option_map, pos, Ref, refl, slice_get, Some, subst, SubType, sym, tested, true}
use Rattle.smith_body_leaves.proofs.Common.{unpacked, V128, ValType, ℕ, ◌&&◌, ◌∙◌, ◌∷◌, ◌≡◌}
use Rattle.std.proofs.Common.{ℤ}
use Rattle.std.specs.Prelude.{IsTrue, not}
use Rattle.smith_types.specs.Expressions.{IsDefaultable}
use Rattle.smith_types.specs.Grounded.{is_defaultable}
use Rattle.smith_types.proofs.GrowthLemmas.{IsValBelow-refl, IsValBelow-trans}
use Rattle.smith_types.specs.Syntax.Features.{Features}
use Rattle.smith_types.specs.Syntax.value_type.RefType.{RefType}
use Rattle.smith_instr.specs.AggregateTypes.{value_of}
use Rattle.smith_instr.specs.declared.aggregate.AggregateInstr.TheVariants as aggregate
use Rattle.smith_instr.specs.declared.instr.Instr.TheVariants as instr
use Rattle.smith_body_leaves.specs.DrawnLeaves.{IsBrief, IsMadeBy, alone, array_at, created_of, created_value_at, has_default_element}
use Rattle.smith_body_leaves.specs.DrawnLeaves.{held_of, may_be_created, is_created_array, is_to_created, length_at, numbered, or_next}
use Rattle.smith_body_leaves.specs.DrawnLeaves.{over_number, preferred_at, preferred_by, preferred_to, is_null_or_stop, something_or}
use Rattle.smith_body_leaves.specs.DrawnLeaves.{strict_form, strict_value_for, struct_at, value_for, variable_at}
use Rattle.smith_body_leaves.specs.Constants.{integer32_at}
use Rattle.smith_body_leaves.specs.Leaves.{IsLeaf, IsTaking, i31_by, i31_creation, i31_of, i31_type, if_permitted, leaf_of, only, with_last}
use Rattle.smith_body_leaves.specs.declared.families.CreatedFamily.{CreatedFamily}
use Rattle.smith_body_leaves.specs.declared.families.CreatedFamily.TheVariants as created
use Rattle.smith_body_leaves.specs.declared.families.LeafFamily.{LeafFamily}
use Rattle.smith_body_leaves.specs.declared.families.LeafFamily.TheVariants as leaf
use Rattle.smith_body_leaves.specs.declared.leaf.Leaf.{Leaf}
use Rattle.smith_body_nodes.specs.IndexedTypes.{element_in}
use Rattle.smith_body_nodes.specs.declared.offer.Reach.TheVariants as reach
use Rattle.smith_body_nodes.proofs.IndexedTypeLemmas.{array_is}
use Rattle.smith_body_leaves.proofs.LawLemmas.{IsFound, IsLeafFound, found, only_found}
use Rattle.smith_body_leaves.proofs.LeafLemmas.{i31_over}
use Rattle.smith_body_leaves.proofs.SearchLemmas.{or_some}

-- the first of two choices, or the second
pub next_first : {A : Type 0} (drawn : Option A × List ℕ) (next : List ℕ → Option A × List ℕ) (x : A) (left : List ℕ)
    → drawn ≡ (Some x, left) → or_next drawn next ≡ (Some x, left)
next_first drawn next x left is = ap (λ d. or_next d next) is

pub next_second : {A : Type 0} (drawn d : Option A × List ℕ) (next : List ℕ → Option A × List ℕ) (middle : List ℕ) → drawn ≡ (None, middle)
    → next middle ≡ d → or_next drawn next ≡ d
next_second drawn d next middle none is = ap (λ e. or_next e next) none ∙ is

next_some : {A : Type 0} (P : A → Type 0) (o : Option A) (next : List ℕ → Option A × List ℕ) (bytes : List ℕ) → IfSome o P
    → ((bytes : List ℕ) → IfSome (next bytes).0 P) → IfSome (something_or o next bytes).0 P
next_some P (Some x) next bytes first second = first
next_some P None next bytes first second = second bytes

-- they are permitted
over_found : (config : Config) (context : BodyContext) (creation : Instr) (number : ℤ) (both_on : Bool)
    → (is_permitted context.features config (instr.I32Const number) && is_permitted context.features config creation) ≡ both_on
    → IfSome (if both_on then Some (with_last creation (only (instr.I32Const number))) else None) (IsLeafFound config context)
over_found config context creation number true is =
    let (first, last) = both (is_permitted context.features config (instr.I32Const number)) (is_permitted context.features config creation)
    is in
    record { value = first; next = tt; last = last }
over_found config context creation number false is = tt

numbered_found : (config : Config) (context : BodyContext) (draw : List ℕ → ℤ × List ℕ) (o : Option Instr) (bytes : List ℕ)
    → IfSome (numbered config context draw o bytes).0 (IsLeafFound config context)
numbered_found config context draw (Some creation) bytes = over_found config context creation (draw bytes).0 _ refl
numbered_found config context draw None bytes = tt

created_found : (config : Config) (context : BodyContext) (wanted : ValType) (family : CreatedFamily) (bytes : List ℕ)
    → IfSome (created_of config context wanted family bytes).0 (IsLeafFound config context)
created_found config context wanted created.Struct bytes =
    only_found config context (if_permitted config context (struct_at context wanted bytes).0)
    (found config context (struct_at context wanted bytes).0)
created_found config context wanted created.Array bytes = let drawn = array_at context wanted bytes in
    numbered_found config context length_at drawn.0 drawn.1
created_found config context wanted created.I31 bytes = numbered_found config context integer32_at (i31_creation config context wanted)
    bytes

first_created_found : (config : Config) (context : BodyContext) (wanted : ValType) (family : CreatedFamily) (bytes : List ℕ) (may : Bool)
    → IfSome (if may then or_next (created_of config context wanted family bytes)
    (λ bytes. or_next (created_of config context wanted created.Struct bytes)
    (λ bytes. or_next (created_of config context wanted created.Array bytes) (created_of config context wanted created.I31))) else
    (None, bytes)).0
    (IsLeafFound config context)
first_created_found config context wanted family bytes true =
    let P = IsLeafFound config context in
    next_some P _ _ _ (created_found config context wanted family bytes)
    (λ bytes. next_some P _ _ _ (created_found config context wanted created.Struct bytes)
    (λ bytes. next_some P _ _ _ (created_found config context wanted created.Array bytes)
    (λ bytes. created_found config context wanted created.I31 bytes)))
first_created_found config context wanted family bytes false = tt

created_value_found : (config : Config) (context : BodyContext) (wanted : ValType) (family : CreatedFamily) (bytes : List ℕ)
    → IfSome (created_value_at config context wanted family bytes).0 (IsLeafFound config context)
created_value_found config context wanted family bytes = first_created_found config context wanted family bytes (may_be_created wanted)

held_of_found : (config : Config) (context : BodyContext) (set : List ℕ) (wanted : ValType) (family : LeafFamily) (bytes : List ℕ)
    → IfSome (held_of config context set wanted family bytes).0 (IsFound config context)
held_of_found config context set wanted family bytes = found config context (leaf_of context set reach.Chunk wanted family bytes).0

variable_found : (config : Config) (context : BodyContext) (set : List ℕ) (wanted : ValType) (bytes : List ℕ)
    → IfSome (variable_at config context set wanted bytes).0 (IsFound config context)
unfolding variable_at
variable_found config context set wanted bytes =
    next_some (IsFound config context) _ _ _ (held_of_found config context set wanted leaf.Local bytes)
    (λ bytes. held_of_found config context set wanted leaf.Global bytes)

value_found : (config : Config) (context : BodyContext) (set : List ℕ) (wanted : ValType) (family : CreatedFamily) (bytes : List ℕ)
    → IfSome (value_for config context set wanted family bytes).0 (IsLeafFound config context)
unfolding value_for
value_found config context set wanted family bytes =
    let P = IsLeafFound config context in
    let strict = strict_form context.features wanted in
    next_some P _ _ _ (only_found config context (held_of config context set strict leaf.Local bytes).0
    (held_of_found config context set strict leaf.Local bytes))
    (λ bytes. next_some P _ _ _ (created_value_found config context strict family bytes)
    (λ bytes. next_some P _ _ _ (only_found config context (held_of config context set strict leaf.Reference bytes).0
    (held_of_found config context set strict leaf.Reference bytes))
    (λ bytes. only_found config context (variable_at config context set wanted bytes).0 (variable_found config context set wanted bytes))))

by_found : (config : Config) (context : BodyContext) (set : List ℕ) (wanted : ValType) (family : Option CreatedFamily) (bytes : List ℕ)
    → IfSome (preferred_by config context set wanted family bytes).0 (IsLeafFound config context)
by_found config context set wanted None bytes = tt
by_found config context set wanted (Some family) bytes = value_found config context set wanted family bytes

at_found : (config : Config) (context : BodyContext) (set : List ℕ) (wanted : ValType) (bytes : List ℕ)
    → IfSome (preferred_at config context set wanted bytes).0 (IsLeafFound config context)
unfolding preferred_at
at_found config context set wanted bytes = by_found config context set wanted _ _

to_found : (config : Config) (context : BodyContext) (set : List ℕ) (wanted : ValType) (null : Bool) (bytes : List ℕ)
    → IfSome (if null then preferred_at config context set wanted bytes else (None, bytes)).0 (IsLeafFound config context)
to_found config context set wanted true bytes = at_found config context set wanted bytes
to_found config context set wanted false bytes = tt

pub preferred_found : (config : Config) (context : BodyContext) (set : List ℕ) (wanted : ValType) (instruction : Instr) (bytes : List ℕ)
    → IfSome (preferred_to config context set wanted instruction bytes).0 (IsLeafFound config context)
preferred_found config context set wanted instruction bytes = to_found config context set wanted (is_null_or_stop instruction) bytes

pub preferred_is_found : (config : Config) (context : BodyContext) (set : List ℕ) (wanted : ValType) (instruction : Instr)
    (bytes left : List ℕ) (leaf : Leaf) → preferred_to config context set wanted instruction bytes ≡ (Some leaf, left)
    → IsLeafFound config context leaf
preferred_is_found config context set wanted instruction bytes left leaf is =
    subst (λ (d : Option Leaf × List ℕ). IfSome d.0 (IsLeafFound config context)) is
    (preferred_found config context set wanted instruction bytes)

-- they have their types
pub only_brief : (context : BodyContext) (set : List ℕ) (wanted : ValType) (instruction : Instr) → IsLeaf context set wanted instruction
    → IsBrief context set wanted (only instruction)
only_brief context set wanted instruction of = record { brief = refl; made = of }

over_on : (context : BodyContext) (set : List ℕ) (wanted : ValType) (creation : Instr) (number : ℤ) (on : Bool)
    → IsTaking context set (I32 ∷ []) wanted creation
    → IfSome (if on then Some (with_last creation (only (instr.I32Const number))) else None) (IsBrief context set wanted)
over_on context set wanted creation number true of =
    record { brief = refl; made = (record { value = I32; typed = (refl, refl); below = tt; sets_none = refl }, of) }
over_on context set wanted creation number false of = tt

pub over_brief : (config : Config) (context place : BodyContext) (set : List ℕ) (wanted : ValType) (creation : Instr) (number : ℤ)
    → IsTaking place set (I32 ∷ []) wanted creation → IfSome (over_number config context creation number) (IsBrief place set wanted)
over_brief config context place set wanted creation number of =
    over_on place set wanted creation number (is_permitted context.features config (instr.I32Const number) && is_permitted context.features
    config creation) of

leaf_wider : (context : BodyContext) (set : List ℕ) (value wanted : ValType) (instruction : Instr) → IsValBelow context.types value wanted
    → IsLeaf context set value instruction → IsLeaf context set wanted instruction
leaf_wider context set value wanted instruction below of =
    record {
      value = of.value;
      typed = of.typed;
      below = IsValBelow-trans context.types of.value value wanted of.below below;
      sets_none = of.sets_none;
    }

taking_wider : (context : BodyContext) (set : List ℕ) (operands : List ValType) (value wanted : ValType) (instruction : Instr)
    → IsValBelow context.types value wanted → IsTaking context set operands value instruction
    → IsTaking context set operands wanted instruction
taking_wider context set operands value wanted instruction below of =
    record {
      value = of.value;
      typed = of.typed;
      below = IsValBelow-trans context.types of.value value wanted of.below below;
      sets_none = of.sets_none;
    }

made_wider : (context : BodyContext) (set : List ℕ) (value wanted : ValType) (first : Instr) (last : Option Instr)
    → IsValBelow context.types value wanted → IsMadeBy context set value first last → IsMadeBy context set wanted first last
made_wider context set value wanted first None below of = leaf_wider context set value wanted first below of
made_wider context set value wanted first (Some last) below (number, of) =
    (number, taking_wider context set (I32 ∷ []) value wanted last below of)

pub brief_wider : (context : BodyContext) (set : List ℕ) (value wanted : ValType) (leaf : Leaf) → IsValBelow context.types value wanted
    → IsBrief context set value leaf → IsBrief context set wanted leaf
brief_wider context set value wanted leaf below of =
    record { brief = of.brief; made = made_wider context set value wanted leaf.value leaf.last below of.made }

-- the non-nullable form matches a type
strict_below : (types : List SubType) (features : Features) (wanted : ValType) → IsValBelow types (strict_form features wanted) wanted
strict_below types features (Ref to) = record { heap = itself; nullable = λ h. (both to.nullable (not features.function_references) h).0 }
strict_below types features I32 = tt
strict_below types features I64 = tt
strict_below types features F32 = tt
strict_below types features F64 = tt
strict_below types features V128 = tt

pub strict_is_below : (types : List SubType) (features : Features) (wanted value : ValType) → value ≡ strict_form features wanted
    → IsValBelow types value wanted
strict_is_below types features wanted value is = subst (λ (v : ValType). IsValBelow types v wanted) (sym is)
    (strict_below types features wanted)

strict_null : (nullable on : Bool) → (nullable ≡ false → IsTrue on) → (nullable && not on) ≡ false → IsTrue on
strict_null true true valid h = refl
strict_null true false valid h = cc
strict_null false on valid h = valid refl

pub strict_valid : (context : BodyContext) (to : RefType) → IsValid context (Ref to)
    → IsValid context (strict_form context.features (Ref to))
strict_valid context to valid = (
  valid.0,
  record {
    heap_type = valid.1.heap_type;
    nullable = λ h. strict_null to.nullable context.features.function_references
        valid.1.nullable h;
  },
)

-- an array of default values
default_of : (value : ValType) → is_defaultable value ≡ true → IsDefaultable value
default_of (Ref reference) e = e
default_of I32 e = tt
default_of I64 e = tt
default_of F32 e = tt
default_of F64 e = tt
default_of V128 e = tt

default_element : (types : List SubType) (ty : ℕ) (o : Option FieldType) → element_in (slice_get types ty) ≡ o
    → has_default_element o ≡ true → (element : FieldType) × IsArrayAt types ty element × IsDefaultable (value_of element)
default_element types ty (Some element) at is = (element, array_is types ty element at, default_of (unpacked element.element_type) is)
default_element types ty None at is = cc

pub array_over : (context : BodyContext) (set : List ℕ) (wanted : ValType) (ty : ℕ) → IsOrderly context.types
    → is_created_array context wanted ty ≡ true → IsTaking context set (I32 ∷ []) wanted (instr.Aggregate (aggregate.ArrayNewDefault ty))
array_over context set wanted ty orderly is =
    let (below, default) = both (is_created_below context wanted ty) (has_default_element (element_in (slice_get context.types ty))) is in
    let (element, there, has) = default_element context.types ty (element_in (slice_get context.types ty)) refl default in
    record {
      value = created_reference context ty;
      typed = (element, there, has, (refl, refl));
      below = tested context.types orderly
          (created_reference context ty) wanted below;
      sets_none = refl;
    }

-- an i31
i31_by_taking : (context : BodyContext) (set : List ℕ) (wanted : ValType) (shared below permitted : Bool) → IsOrderly context.types
    → is_val_below context.types (i31_type shared) wanted ≡ below
    → IfSome (if below then (if permitted then Some (i31_of shared) else None) else None) (IsTaking context set (I32 ∷ []) wanted)
i31_by_taking context set wanted shared true true orderly is = i31_over context set wanted shared orderly is
i31_by_taking context set wanted shared true false orderly is = tt
i31_by_taking context set wanted shared false permitted orderly is = tt

pub i31_taking : (config : Config) (context : BodyContext) (set : List ℕ) (wanted : ValType) → IsOrderly context.types
    → IfSome (i31_creation config context wanted) (IsTaking context set (I32 ∷ []) wanted)
i31_taking config context set wanted orderly =
    or_some (IsTaking context set (I32 ∷ []) wanted) (i31_by config context wanted false) (i31_by config context wanted true)
    (i31_by_taking context set wanted false _ _ orderly refl) (i31_by_taking context set wanted true _ _ orderly refl)

-- whether values of a type that is abstract may be created
pub created_abstract : (wanted : ValType) (to : RefType) (shared : Bool) (ty : AbstractHeapType) → wanted ≡ Ref to
    → to.heap_type ≡ Abstract shared ty → is_to_created (Abstract shared ty) ≡ may_be_created wanted
created_abstract wanted to shared ty is abstract =
    sym (ap (λ (v : ValType). may_be_created v) is ∙ ap (λ (h : HeapType). is_to_created h) abstract)

-- a created value, a function, or a local or a global, where nothing before it is chosen
pub value_created : (config : Config) (context : BodyContext) (set : List ℕ) (wanted strict : ValType) (family : CreatedFamily)
    (bytes middle left : List ℕ) (value : Leaf) → strict ≡ strict_form context.features wanted
    → held_of config context set strict leaf.Local bytes ≡ (None, middle) → created_value_at config context strict family middle
    ≡ (Some value, left) → value_for config context set wanted family bytes ≡ (Some value, left)
unfolding value_for
value_created config context set wanted strict family bytes middle left value same held created =
    let third = λ (bytes : List ℕ). or_next (alone (held_of config context set strict leaf.Reference bytes))
    (λ (bytes : List ℕ). alone (variable_at config context set wanted bytes)) in
    let second = λ (bytes : List ℕ). or_next (created_value_at config context strict family bytes) third in
    subst (λ (v : ValType). strict_value_for config context set v wanted family bytes ≡ (Some value, left)) same
    (next_second (alone (held_of config context set strict leaf.Local bytes)) (Some value, left) second middle
    (ap (λ (d : Option Instr × List ℕ). alone d) held)
    (next_first (created_value_at config context strict family middle) third value left created))

pub value_function : (config : Config) (context : BodyContext) (set : List ℕ) (wanted strict : ValType) (family : CreatedFamily)
    (bytes middle late left : List ℕ) (function : Instr) → strict ≡ strict_form context.features wanted
    → held_of config context set strict leaf.Local bytes ≡ (None, middle) → created_value_at config context strict family middle
    ≡ (None, late) → held_of config context set strict leaf.Reference late ≡ (Some function, left)
    → value_for config context set wanted family bytes ≡ (Some (only function), left)
unfolding value_for
value_function config context set wanted strict family bytes middle late left function same held created named =
    let fourth = λ (bytes : List ℕ). alone (variable_at config context set wanted bytes) in
    let third = λ (bytes : List ℕ). or_next (alone (held_of config context set strict leaf.Reference bytes)) fourth in
    let second = λ (bytes : List ℕ). or_next (created_value_at config context strict family bytes) third in
    subst (λ (v : ValType). strict_value_for config context set v wanted family bytes ≡ (Some (only function), left)) same
    (next_second (alone (held_of config context set strict leaf.Local bytes)) (Some (only function), left) second middle
    (ap (λ (d : Option Instr × List ℕ). alone d) held)
    (next_second (created_value_at config context strict family middle) (Some (only function), left) third late created
    (next_first (alone (held_of config context set strict leaf.Reference late)) fourth (only function) left
    (ap (λ (d : Option Instr × List ℕ). alone d) named))))

pub value_variable : (config : Config) (context : BodyContext) (set : List ℕ) (wanted strict : ValType) (family : CreatedFamily)
    (bytes middle late last left : List ℕ) (o : Option Instr) → strict ≡ strict_form context.features wanted
    → held_of config context set strict leaf.Local bytes ≡ (None, middle) → created_value_at config context strict family middle
    ≡ (None, late) → held_of config context set strict leaf.Reference late ≡ (None, last)
    → variable_at config context set wanted last ≡ (o, left) → value_for config context set wanted family bytes ≡ (option_map only o, left)
unfolding value_for
value_variable config context set wanted strict family bytes middle late last left o same held created named variable =
    let fourth = λ (bytes : List ℕ). alone (variable_at config context set wanted bytes) in
    let third = λ (bytes : List ℕ). or_next (alone (held_of config context set strict leaf.Reference bytes)) fourth in
    let second = λ (bytes : List ℕ). or_next (created_value_at config context strict family bytes) third in
    subst (λ (v : ValType). strict_value_for config context set v wanted family bytes ≡ (option_map only o, left)) same
    (next_second (alone (held_of config context set strict leaf.Local bytes)) (option_map only o, left) second middle
    (ap (λ (d : Option Instr × List ℕ). alone d) held)
    (next_second (created_value_at config context strict family middle) (option_map only o, left) third late created
    (next_second (alone (held_of config context set strict leaf.Reference late)) (option_map only o, left) fourth last
    (ap (λ (d : Option Instr × List ℕ). alone d) named) (ap (λ (d : Option Instr × List ℕ). alone d) variable))))

-- a value of the strict type is one of the wanted type
pub only_wider : (context : BodyContext) (set : List ℕ) (value wanted : ValType) (instruction : Instr)
    → IsValBelow context.types value wanted → IsLeaf context set value instruction → IsBrief context set wanted (only instruction)
only_wider context set value wanted instruction below of = only_brief context set wanted instruction
    (leaf_wider context set value wanted instruction below of)
