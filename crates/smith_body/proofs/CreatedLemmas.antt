-- Structs that are created from values of one instruction each.
use Rattle.smith_body.proofs.Common.{[], All, All-nil, ap, append-nil, append_assoc, AreValid, arith, bare, BodyContext, Bool, both, Config}
use Rattle.smith_body.proofs.Common.{context_of, Draft, false, false≢true, I32, if◌then◌else◌, Instr, is_permitted, IsAllowedIn, IsOrderly}
use Rattle.smith_body.proofs.Common.{IsValid, length, length-append, List, longest_leaf, None, one_valid, Option, option_to_list, refl}
use Rattle.smith_body.proofs.Common.{Scope, slice_get, Some, stacked, subst, SubType, suc, sym, true, unwrap_or, ValType, where_stands}
use Rattle.smith_body.proofs.Common.{zero, ℕ, ◌++◌, ◌+◌, ◌∙◌, ◌∷◌, ◌≡◌, ◌≤◌}
use Rattle.std.specs.Prelude.{IfSome, is_some, option_map}
use Rattle.std.proofs.lemmas.List.{length-map}
use Rattle.std.proofs.lemmas.List.Elements.{All-append}
use Rattle.std.proofs.lemmas.Option.{same_Some}
use Rattle.smith_types.specs.Expressions.{IsStructAt, field_values, unpacked}
use Rattle.smith_types.specs.Syntax.composite_type.CompositeInnerType.{CompositeInnerType}
use Rattle.smith_types.specs.Syntax.composite_type.FieldType.{FieldType}
use Rattle.smith_types.specs.Syntax.composite_type.StructType.{StructType}
use Rattle.smith_draw_types.specs.HeldFields.{fields_of}
use Rattle.smith_instr.specs.Contexts.{created_reference}
use Rattle.smith_instr.specs.declared.aggregate.AggregateInstr.TheVariants as aggregate
use Rattle.smith_instr.specs.declared.instr.Instr.TheVariants as instr
use Rattle.smith_body.specs.DraftSteps.{IsDrawn}
use Rattle.smith_body_leaves.specs.DrawnLeaves.{IsBrief, IsMadeBy}
use Rattle.smith_body_leaves.specs.Leaves.{IsLeaf, created_at, created_from, created_type, fields_at, fields_in, first_leaf, first_single}
use Rattle.smith_body_leaves.specs.Leaves.{have_singles, instructions_of, is_created, is_created_in, leaf_within, may_create}
use Rattle.smith_body_leaves.specs.Leaves.{named_type, singles, spare_leaf, widest_struct}
use Rattle.smith_body.specs.Stops.{HaveNeededStops}
use Rattle.smith_body_leaves.specs.declared.leaf.Leaf.{Leaf}
use Rattle.smith_body_nodes.specs.IndexedTypes.{is_created_below, struct_in}
use Rattle.smith_body_nodes.proofs.IndexedTypeLemmas.{struct_fields, struct_there}
use Rattle.smith_body_nodes.specs.Scopes.{IsScope}
use Rattle.smith_body_nodes.proofs.AllowedLemmas.{permitted_allowed}
use Rattle.smith_body_nodes.proofs.OfferLemmas.{tested}
use Rattle.smith_body.proofs.DrawnLemmas.{alone, joined_valid, one_allowed, stop_drawn, value_drawn}
use Rattle.smith_body_leaves.proofs.LawLemmas.{IsFound, IsLeafFound, none_other, single_found, within_found}
use Rattle.smith_body_leaves.proofs.LeafChoiceLemmas.{brief_few, created_few, pair_few, some_leaf}
use Rattle.smith_body.proofs.MadeLemmas.{HasValidFields, Makes, single_leaf, single_makes, taking_makes, within_makes}
use Rattle.smith_body_leaves.proofs.SearchLemmas.{tried_each}
use Rattle.smith_body.proofs.StopLemmas.{at_end, in_turn}

-- the parts of a struct type that is created
record IsCreated (config : Config) (context : BodyContext) (set : List ℕ) (wanted : ValType) (ty : ℕ) : Type 0 where
  fields : List FieldType
  are : fields_at context.types ty ≡ fields
  there : IsStructAt context.types ty fields
  below : is_created_below context wanted ty ≡ true
  permitted : is_permitted context.features config (instr.Aggregate (aggregate.StructNew ty)) ≡ true
  filled : have_singles config context set (field_values fields) ≡ true

created_in : (config : Config) (context : BodyContext) (set : List ℕ) (wanted : ValType) (ty : ℕ) (o : Option StructType)
    → struct_in (slice_get context.types ty) ≡ o → is_created_in config context set wanted ty o ≡ true
    → IsCreated config context set wanted ty
created_in config context set wanted ty (Some structure) at is =
    let (may, filled) = both (may_create config context wanted ty) (have_singles config context set (field_values structure.fields)) is in
    let (below, permitted) = both (is_created_below context wanted ty)
    (is_permitted context.features config (instr.Aggregate (aggregate.StructNew ty))) may in
    record {
      fields = structure.fields;
      are = ap (λ (o : Option StructType). fields_in o) at;
      there = struct_there context.types ty
          structure at;
      below = below;
      permitted = permitted;
      filled = filled;
    }
created_in config context set wanted ty None at is = cc

created_there : (config : Config) (context : BodyContext) (set : List ℕ) (wanted : ValType) (ty : ℕ) (test : Bool)
    → is_created config context set wanted ty ≡ test → IfSome (if test then Some ty else None) (IsCreated config context set wanted)
created_there config context set wanted ty true is = created_in config context set wanted ty (struct_in (slice_get context.types ty)) refl
    is
created_there config context set wanted ty false is = tt

created_parts : (config : Config) (context : BodyContext) (set : List ℕ) (wanted : ValType)
    → IfSome (created_type config context set wanted) (IsCreated config context set wanted)
unfolding created_type
created_parts config context set wanted =
    tried_each (IsCreated config context set wanted) context true (named_type wanted) (created_at config context set wanted)
    (λ ty. created_there config context set wanted ty (is_created config context set wanted ty) refl)

-- the values of the fields have their types
single_makes_one : (config : Config) (context : BodyContext) (set : List ℕ) (base : List ValType) (value : ValType) (o : Option Instr)
    → IfSome o (IsLeaf context set value) → IfSome o (IsFound config context) → is_some o ≡ true
    → IsValid context value → AreValid context base → HaveNeededStops config context (option_to_list o) (stacked base set)
    (stacked (base ++ value ∷ []) set)
single_makes_one config context set base value (Some instruction) leaf found some valid under =
    (single_makes config context set value instruction valid leaf found).typed base under
single_makes_one config context set base value None leaf found some valid under = cc

singles_make : (config : Config) (context : BodyContext) (set : List ℕ) (base values : List ValType) → IsOrderly context.types
    → have_singles config context set values ≡ true → AreValid context values → AreValid context base
    → HaveNeededStops config context (singles config context set values) (stacked base set) (stacked (base ++ values) set)
singles_make config context set base [] orderly filled valid under = rw append-nil (at_end config context base set under)
singles_make config context set base (value ∷ values) orderly filled valid under =
    let (some, rest) = both (is_some (first_single config context set value)) (have_singles config context set values) filled in
    let value_valid : IsValid context value = valid 0 value (omega arith) in
    let valid' : AreValid context values = λ k d inside. valid (suc k) d (omega arith) in
    let first = single_makes_one config context set base value (first_single config context set value)
    (single_leaf config context set value orderly value_valid) (single_found config context set value) some value_valid under in
    let more : HaveNeededStops config context (singles config context set values) (stacked (base ++ value ∷ []) set)
    (stacked (base ++ value ∷ values) set) =
    rw append_assoc at (singles_make config context set (base ++ value ∷ []) values orderly rest valid'
    (joined_valid context base (value ∷ []) under (one_valid context value value_valid))) in
    in_turn first more

-- they are allowed
some_allowed : (scope : Scope) (labels : List (List ValType)) (o : Option Instr)
    → IfSome o (IsFound scope.config.now (context_of scope labels)) → All (IsAllowedIn scope) (option_to_list o)
some_allowed scope labels (Some instruction) found = one_allowed scope instruction (permitted_allowed scope instruction found)
some_allowed scope labels None found = All-nil (IsAllowedIn scope)

singles_allowed : (scope : Scope) (labels : List (List ValType)) (set : List ℕ) (values : List ValType)
    → All (IsAllowedIn scope) (singles scope.config.now (context_of scope labels) set values)
singles_allowed scope labels set [] = All-nil (IsAllowedIn scope)
singles_allowed scope labels set (value ∷ more) =
    let single = first_single scope.config.now (context_of scope labels) set value in
    All-append (IsAllowedIn scope) (option_to_list single) (singles scope.config.now (context_of scope labels) set more)
    (some_allowed scope labels single (single_found scope.config.now (context_of scope labels) set value))
    (singles_allowed scope labels set more)

-- they are as many as the fields at most
single_few : (o : Option Instr) → length (option_to_list o) ≤ 1
single_few (Some instruction) = omega arith
single_few None = omega arith

singles_few : (config : Config) (context : BodyContext) (set : List ℕ) (values : List ValType) → length (singles config context set values)
    ≤ length values
singles_few config context set [] = omega arith
singles_few config context set (value ∷ more) =
    let first = single_few (first_single config context set value) in
    let rest = singles_few config context set more in
    rw length-append (omega arith)

wide_struct_at : (types : List SubType) (index : ℕ) (t : SubType) → slice_get types index ≡ Some t
    → length (fields_of t.composite_type.inner) ≤ widest_struct types
unfolding widest_struct
wide_struct_at [] index t at = cc
wide_struct_at (u ∷ types) zero t at = let same : length (fields_of u.composite_type.inner) ≡ length (fields_of t.composite_type.inner) =
    ap (λ (t : SubType). length (fields_of t.composite_type.inner)) (same_Some u t at) in omega arith
wide_struct_at (u ∷ types) (suc index) t at = let rest = wide_struct_at types index t at in omega arith

struct_few : (types : List SubType) (ty : ℕ) (fields : List FieldType) → IsStructAt types ty fields → length fields ≤ widest_struct types
struct_few types ty fields (t, at, is) =
    let size : length (fields_of t.composite_type.inner) ≡ length fields = ap (λ (x : CompositeInnerType). length (fields_of x)) is in
    let wide = wide_struct_at types ty t at in
    omega arith

-- a created struct
struct_makes : (config : Config) (context : BodyContext) (set : List ℕ) (wanted : ValType) (ty : ℕ) → IsOrderly context.types
    → HasValidFields context → IsValid context wanted → IsCreated config context set wanted ty
    → Makes config context set wanted (created_from config context set ty)
struct_makes config context set wanted ty orderly fields valid made = record {
  typed = λ base under.
      let values = field_values made.fields in
      let creation = instr.Aggregate (aggregate.StructNew ty) in
      let below = tested context.types orderly (created_reference context ty) wanted made.below in
      let last = alone {config = config} context creation values (created_reference context ty ∷ []) (wanted ∷ []) base set set
      (made.fields, made.there, (refl, refl)) (below, tt) (one_valid context wanted valid) under (sym (append-nil set))
      (λ disallowed is. cc) in
      subst (λ (fields : List FieldType). HaveNeededStops config context (singles config context set (field_values fields) ++ creation ∷ [])
      (stacked base set) (stacked (base ++ wanted ∷ []) set)) (sym made.are)
      (in_turn (singles_make config context set base values orderly made.filled (fields ty made.fields made.there) under) last);
}

struct_short : (config : Config) (context : BodyContext) (set : List ℕ) (wanted : ValType) (ty : ℕ) → IsCreated config context set wanted ty
    → length (created_from config context set ty) ≤ 1 + widest_struct context.types
struct_short config context set wanted ty made =
    let values = field_values made.fields in
    let creation = instr.Aggregate (aggregate.StructNew ty) in
    let few = singles_few config context set values in
    let counted : length values ≡ length made.fields = length-map made.fields (λ (field : FieldType). unpacked field.element_type) in
    let wide = struct_few context.types ty made.fields made.there in
    let size : length (singles config context set values ++ creation ∷ []) ≡ length (singles config context set values) + 1 =
    length-append (singles config context set values) (creation ∷ []) in
    subst (λ (fields : List FieldType). length (singles config context set (field_values fields) ++ creation ∷ []) ≤ 1 + widest_struct
    context.types) (sym made.are) (omega arith)

-- a value that is found has its type, is allowed and is short
record IsReady (scope : Scope) (labels : List (List ValType)) (set : List ℕ) (wanted : ValType) (instructions : List Instr) : Type 0 where
  makes : Makes scope.config.now (context_of scope labels) set wanted instructions
  allowed : All (IsAllowedIn scope) instructions
  short : length instructions ≤ longest_leaf scope.config.now scope.types.now.types

leaf_allowed : (scope : Scope) (labels : List (List ValType)) (leaf : Leaf) → IsLeafFound scope.config.now (context_of scope labels) leaf
    → All (IsAllowedIn scope) (instructions_of leaf)
leaf_allowed scope labels leaf found =
    All-append (IsAllowedIn scope) (leaf.value ∷ []) (option_to_list leaf.next ++ option_to_list leaf.last)
    (one_allowed scope leaf.value (permitted_allowed scope leaf.value found.value))
    (All-append (IsAllowedIn scope) (option_to_list leaf.next) (option_to_list leaf.last) (some_allowed scope labels leaf.next found.next)
    (some_allowed scope labels leaf.last found.last))

leaf_ready : (scope : Scope) (labels : List (List ValType)) (set : List ℕ) (wanted : ValType) (leaf : Leaf)
    → scope.config.now.disallow_traps ≡ true → leaf_within scope.config.now (context_of scope labels) set 2 true wanted ≡ Some leaf
    → IsOrderly scope.types.now.types
    → HasValidFields (context_of scope labels) → IsValid (context_of scope labels) wanted
    → IsReady scope labels set wanted (instructions_of leaf)
leaf_ready scope labels set wanted leaf trapless is orderly fields valid =
    let config = scope.config.now in
    let context = context_of scope labels in
    record {
      makes = subst (λ (o : Option Leaf). IfSome o (λ leaf. Makes config context set wanted (instructions_of leaf))) is
          (within_makes config context set wanted orderly fields valid);
      allowed = leaf_allowed scope labels leaf (subst (λ (o : Option Leaf). IfSome o (IsLeafFound config context)) is
          (within_found config context set 2 true wanted));
      short = brief_few config scope.types.now.types leaf trapless;
    }

struct_ready : (scope : Scope) (labels : List (List ValType)) (set : List ℕ) (wanted : ValType) (ty : ℕ) → scope.config.now.disallow_traps
    ≡ true → created_type scope.config.now (context_of scope labels) set wanted ≡ Some ty → IsOrderly scope.types.now.types
    → HasValidFields (context_of scope labels) → IsValid (context_of scope labels) wanted
    → IsReady scope labels set wanted (created_from scope.config.now (context_of scope labels) set ty)
struct_ready scope labels set wanted ty trapless is orderly fields valid =
    let config = scope.config.now in
    let context = context_of scope labels in
    let made : IsCreated config context set wanted ty = subst (λ (o : Option ℕ). IfSome o (IsCreated config context set wanted)) is
    (created_parts config context set wanted) in
    let creation = instr.Aggregate (aggregate.StructNew ty) in
    let values = field_values (fields_at context.types ty) in
    record {
      makes = struct_makes config context set wanted ty orderly fields valid made;
      allowed = All-append (IsAllowedIn scope) (singles config context set values) (creation ∷ []) (singles_allowed scope labels set values)
          (one_allowed scope creation (permitted_allowed scope creation made.permitted));
      short = created_few config scope.types.now.types _ trapless (struct_short config context set wanted ty made);
    }

ready_drawn : {scope : Scope} {wanted : ValType} {old new : Draft} (instructions : List Instr)
    → IsReady scope old.labels.items old.set.items wanted instructions
    → new.out ≡ old.out ++ instructions → new.set.items ≡ old.set.items → new.labels.items ≡ old.labels.items → new.budget ≡ old.budget
    → IsDrawn scope [] (wanted ∷ []) 1 old new
ready_drawn {scope = scope} {wanted = wanted} {old = old} {new = new} instructions ready longer same labels budget =
    value_drawn {scope = scope} {wanted = wanted} {old = old} {new = new} instructions
    (λ base under. rw append-nil (ready.makes.typed base under)) ready.allowed ready.short longer same labels budget

-- the first value, or an `unreachable` that is needed
first_drawn : {scope : Scope} {wanted : ValType} {old new : Draft} (leaf : Option Leaf) (ty : Option ℕ) → IsScope (bare scope)
    → IsValid (bare scope) wanted → scope.config.now.disallow_traps ≡ true
    → leaf_within scope.config.now (where_stands scope old) old.set.items 2 true wanted ≡ leaf
    → created_type scope.config.now (where_stands scope old) old.set.items wanted ≡ ty
    → new.out ≡ old.out ++ unwrap_or (option_map instructions_of leaf)
    (unwrap_or (option_map (created_from scope.config.now (where_stands scope old) old.set.items) ty) (instr.Unreachable ∷ []))
    → new.set.items ≡ old.set.items → new.labels.items ≡ old.labels.items → new.budget ≡ old.budget
    → IsDrawn scope [] (wanted ∷ []) 1 old new
first_drawn {scope = scope} {wanted = wanted} {old = old} {new = new} (Some leaf) ty stands valid trapless is made longer same labels
    budget =
    let fields : HasValidFields (where_stands scope old) = λ ty fields there. struct_fields (bare scope) ty fields stands there in
    ready_drawn {scope = scope} {wanted = wanted} {old = old} {new = new} (instructions_of leaf)
    (leaf_ready scope old.labels.items old.set.items wanted leaf trapless is stands.orderly fields valid) longer same labels budget
first_drawn {scope = scope} {wanted = wanted} {old = old} {new = new} None (Some ty) stands valid trapless is made longer same labels
    budget =
    let fields : HasValidFields (where_stands scope old) = λ ty fields there. struct_fields (bare scope) ty fields stands there in
    ready_drawn {scope = scope} {wanted = wanted} {old = old} {new = new}
    (created_from scope.config.now (where_stands scope old) old.set.items ty)
    (struct_ready scope old.labels.items old.set.items wanted ty trapless made stands.orderly fields valid) longer same labels budget
first_drawn {scope = scope} {wanted = wanted} {old = old} {new = new} None None stands valid trapless is made longer same labels budget =
    stop_drawn {scope = scope} {wanted = wanted} {old = old} {new = new} valid
    (λ disallowed. none_other scope.config.now (where_stands scope old) old.set.items wanted stands.orderly is made) longer same labels
    budget

spare_by : {scope : Scope} {wanted : ValType} {old new : Draft} (trapless : Bool) → IsScope (bare scope) → IsValid (bare scope) wanted
    → scope.config.now.disallow_traps ≡ trapless
    → new.out ≡ old.out ++ (if trapless then first_leaf scope.config.now (where_stands scope old) old.set.items wanted else
    instr.Unreachable ∷ [])
    → new.set.items ≡ old.set.items → new.labels.items ≡ old.labels.items → new.budget ≡ old.budget
    → IsDrawn scope [] (wanted ∷ []) 1 old new
unfolding first_leaf
spare_by {scope = scope} {wanted = wanted} {old = old} {new = new} true stands valid is longer same labels budget =
    first_drawn {scope = scope} {wanted = wanted} {old = old} {new = new}
    (leaf_within scope.config.now (where_stands scope old) old.set.items 2 true wanted)
    (created_type scope.config.now (where_stands scope old) old.set.items wanted) stands valid is refl refl longer same labels budget
spare_by {scope = scope} {wanted = wanted} {old = old} {new = new} false stands valid is longer same labels budget =
    stop_drawn {scope = scope} {wanted = wanted} {old = old} {new = new} valid (λ disallowed. absurd (false≢true (sym is ∙ disallowed)))
    longer same labels budget

pub spare_drawn : {scope : Scope} {wanted : ValType} {old new : Draft} → IsScope (bare scope) → IsValid (bare scope) wanted
    → new.out ≡ old.out ++ spare_leaf scope.config.now (where_stands scope old) old.set.items wanted
    → new.set.items ≡ old.set.items → new.labels.items ≡ old.labels.items → new.budget ≡ old.budget
    → IsDrawn scope [] (wanted ∷ []) 1 old new
unfolding spare_leaf
spare_drawn {scope = scope} {wanted = wanted} {old = old} {new = new} stands valid longer same labels budget =
    spare_by {scope = scope} {wanted = wanted} {old = old} {new = new} scope.config.now.disallow_traps stands valid refl longer same labels
    budget

-- a drawn instruction that is permitted
pub drawn_permitted : {scope : Scope} {wanted : ValType} {old new : Draft} (instruction : Instr) → IsValid (bare scope) wanted
    → IsLeaf (where_stands scope old) old.set.items wanted instruction → IsFound scope.config.now (where_stands scope old) instruction
    → new.out ≡ old.out ++ instruction ∷ [] → new.set.items ≡ old.set.items → new.labels.items ≡ old.labels.items → new.budget ≡ old.budget
    → IsDrawn scope [] (wanted ∷ []) 1 old new
drawn_permitted {scope = scope} {wanted = wanted} {old = old} {new = new} instruction valid leaf found longer same labels budget =
    let ready : IsReady scope old.labels.items old.set.items wanted (instruction ∷ []) = record {
      makes = single_makes scope.config.now (where_stands scope old) old.set.items wanted instruction valid leaf found;
      allowed = one_allowed scope instruction (permitted_allowed scope instruction found);
      short = some_leaf scope.config.now scope.types.now.types;
    } in
    ready_drawn {scope = scope} {wanted = wanted} {old = old} {new = new} (instruction ∷ []) ready longer same labels budget

-- a value that is preferred to null
pair_makes : (config : Config) (context : BodyContext) (set : List ℕ) (wanted : ValType) (value : Instr) (next last : Option Instr)
    → IsValid context wanted → next ≡ None → IsMadeBy context set wanted value last → IsFound config context value
    → IfSome last (IsFound config context) → Makes config context set wanted (value ∷ (option_to_list next ++ option_to_list last))
pair_makes config context set wanted value None None valid brief made found last_found = single_makes config context set wanted value valid
    made found
pair_makes config context set wanted value None (Some last) valid brief (number, taking) found last_found =
    taking_makes config context set I32 wanted (value ∷ []) last valid (single_makes config context set I32 value tt number found) taking
    last_found
pair_makes config context set wanted value (Some next) last valid brief made found last_found = cc

pub preferred_drawn : {scope : Scope} {wanted : ValType} {old new : Draft} (leaf : Leaf) → IsValid (bare scope) wanted
    → IsBrief (where_stands scope old) old.set.items wanted leaf → IsLeafFound scope.config.now (where_stands scope old) leaf
    → new.out ≡ old.out ++ instructions_of leaf → new.set.items ≡ old.set.items → new.labels.items ≡ old.labels.items
    → new.budget ≡ old.budget → IsDrawn scope [] (wanted ∷ []) 1 old new
preferred_drawn {scope = scope} {wanted = wanted} {old = old} {new = new} leaf valid brief found longer same labels budget =
    let ready : IsReady scope old.labels.items old.set.items wanted (instructions_of leaf) = record {
      makes = pair_makes scope.config.now (where_stands scope old) old.set.items wanted leaf.value leaf.next leaf.last valid brief.brief
          brief.made found.value found.last;
      allowed = leaf_allowed scope old.labels.items leaf found;
      short = pair_few scope.config.now scope.types.now.types leaf brief.brief;
    } in
    ready_drawn {scope = scope} {wanted = wanted} {old = old} {new = new} (instructions_of leaf) ready longer same labels budget
