-- Branches on null.
use Rattle.smith_body_reference_branches.proofs.Common.{arith, bare, false, length, None, one_valid, Ref, refl, Some, sym, true, ◌<◌, ◌∙◌}
use Rattle.std.proofs.Common.{[], Bool, List, Option, suc, ℕ, ◌++◌, ◌+◌, ◌-◌, ◌∷◌, ◌≡◌, ◌≤◌}
use Rattle.std.proofs.Common.{ap, drop, drop-cons, get_or, length-append, subst, take}
use Rattle.std.specs.Prelude.{slice_get, IsTrue, option_map, if◌then◌else◌}
use Rattle.std.specs.List.{AllZip}
use Rattle.std.proofs.Math.ListN.{drop_of_length-le}
use Rattle.std.proofs.lemmas.Bool.{leb-true}
use Rattle.std.proofs.lemmas.List.{length-take-le, take-append-drop}
use Rattle.std.proofs.lemmas.List.Elements.{All-push, All-take}
use Rattle.std.proofs.lemmas.Option.{get_or_from_slice_get, same_Some, slice_get_within}
use Rattle.smith_bytes.specs.Draws.{bool_at, choose_at}
use Rattle.smith_types.specs.Expressions.{reference_to}
use Rattle.smith_types.specs.Subtyping.{IsValBelow, itself}
use Rattle.smith_types.specs.Syntax.value_type.HeapType.{HeapType}
use Rattle.smith_types.specs.Syntax.value_type.RefType.{RefType}
use Rattle.smith_types.specs.Syntax.value_type.ValType.{ValType}
use Rattle.smith_types.specs.Syntax.value_type.ValType.TheVariants.{F32, F64, I32, I64, V128}
use Rattle.smith_types.specs.Syntax.composite_type.SubType.{SubType}
use Rattle.smith_types.proofs.GrowthLemmas.{IsValBelow-refl}
use Rattle.smith_instr.specs.Contexts.{BodyContext, IsHeapValid, IsValid, AreValid, nullable_to}
use Rattle.smith_instr.specs.declared.instr.Instr.TheVariants as instr
use Rattle.smith_instr.proofs.SequenceLemmas.{below_themselves}
use Rattle.smith_body_nodes.specs.Chosen.{giving}
use Rattle.smith_body_nodes.specs.Nodes.{IsNode, node_of}
use Rattle.smith_body_reference_branches.specs.NullChoices.{br_on_non_null_at, br_on_non_null_by, br_on_non_null_node, br_on_null_at}
use Rattle.smith_body_reference_branches.specs.NullChoices.{br_on_null_by, br_on_null_node, br_on_null_value_at, is_of_reference, is_short}
use Rattle.smith_body_reference_branches.specs.NullChoices.{is_short_at, kept_node, last_reference, null_branch_at, short_label_at}
use Rattle.smith_body_nodes.specs.Above.{reference_in}
use Rattle.smith_body_nodes.specs.Offered.{label_count, offered}
use Rattle.smith_body_nodes.specs.ReferenceChoices.{referent_at}
use Rattle.smith_body_nodes.specs.Scopes.{AreLabels, context_of}
use Rattle.smith_body_nodes.specs.declared.scope.Scope.{Scope}
use Rattle.smith_body_nodes.proofs.LabelLemmas.{label_at}
use Rattle.smith_body_nodes.proofs.NodeLemmas.{no_valid, three_wide}
use Rattle.smith_body_nodes.proofs.PlainLemmas.{gives_one}
use Rattle.smith_body_nodes.proofs.ReferenceChoiceLemmas.{nullable_valid}

-- a label of at most `most` values
short_option : (labels : List (List ValType)) (most index : ℕ) (o : Option (List ValType)) → slice_get labels index ≡ o
    → is_short_at most o ≡ true → (taken : List ValType) × (slice_get labels index ≡ Some taken) × (length taken ≤ most)
short_option labels most index (Some taken) at is = (taken, at, leb-true (length taken) most is)
short_option labels most index None at is = cc

short_there : (labels : List (List ValType)) (most index : ℕ) → is_short labels most index ≡ true → (taken : List ValType)
    × (slice_get labels index ≡ Some taken) × (length taken ≤ most)
short_there labels most index is = short_option labels most index (slice_get labels index) refl is

none_of : (values : List ValType) → length values ≤ 0 → values ≡ []
none_of [] none = refl
none_of (value ∷ values) none = absurd (omega arith)

-- a non-null reference, if the branch is not taken
pub kept_gives : (context : BodyContext) (set : List ℕ) (to : RefType) (label : ℕ) → IsValid context (Ref to)
    → is_short context.labels 0 label ≡ true
    → IsNode context set (Ref to ∷ []) (node_of (nullable_to to.heap_type ∷ []) (instr.BrOnNull label) 0)
kept_gives context set to label valid is =
    let (taken, at, few) = short_there context.labels 0 label is in
    let at' : slice_get context.labels label ≡ Some [] = at ∙ ap (λ (values : List ValType). Some values) (none_of taken few) in
    gives_one context set (Ref to) (reference_to to.heap_type) (nullable_to to.heap_type ∷ []) (instr.BrOnNull label)
    (λ more. ([], to.heap_type, at', valid.1.heap_type, (refl, refl)))
    (record { heap = itself; nullable = λ h. cc }) valid refl (omega arith)
    (one_valid context (nullable_to to.heap_type) (nullable_valid context to.heap_type valid.0 valid.1.heap_type))

kept_below : (types : List SubType) (taken : List ValType) (heap_type : HeapType)
    → AllZip (IsValBelow types) (taken ++ reference_to heap_type ∷ []) (taken ++ nullable_to heap_type ∷ [])
kept_below types [] heap_type = (record { heap = itself; nullable = λ h. refl }, tt)
kept_below types (value ∷ taken) heap_type = (IsValBelow-refl types value, kept_below types taken heap_type)

pub one_longer : (values : List ValType) (top : ValType) → length (values ++ top ∷ []) ≡ length values + 1
one_longer values top = simp length-append refl

pub br_on_null_gives : (scope : Scope) (labels : List (List ValType)) (set : List ℕ) (label : ℕ) (heap_type : HeapType)
    (taken : List ValType) → AreLabels scope labels → label < length labels → taken ≡ get_or labels label taken → is_short labels 2 label
    ≡ true
    → IsTrue (bare scope).features.reference_types → IsHeapValid (bare scope) heap_type → IsNode (context_of scope labels) set []
    (br_on_null_node label heap_type taken)
br_on_null_gives scope labels set label heap_type taken are inside is short on valid =
    let (at, taken_valid, few) = label_at scope labels are label taken inside is in
    let (taken', at', less) = short_there labels 2 label short in
    let same : taken' ≡ taken = same_Some taken' taken (sym at' ∙ at) in
    let less' : length taken ≤ 2 = rw same at less in
    let more_valid : AreValid (bare scope) (taken ++ nullable_to heap_type ∷ []) = All-push (IsValid (bare scope)) taken
    (nullable_to heap_type) taken_valid (nullable_valid (bare scope) heap_type on valid) in
    record {
      results = taken ++ reference_to heap_type ∷ [];
      dropped = taken ++ nullable_to heap_type ∷ [];
      typed = λ more. (taken, heap_type, at, valid, (refl, refl));
      below = kept_below scope.types.now.types taken heap_type;
      given = no_valid (bare scope);
      spare = more_valid;
      drops = one_longer taken (nullable_to heap_type);
      sets_local = refl;
      few = let wide = three_wide scope.types.now.types in let longer = one_longer taken (nullable_to heap_type) in omega arith;
      valid = more_valid;
      inside = tt;
    }

-- a reference that is the last of several values
reference_option : (o : Option ValType) (to : RefType) → reference_in o ≡ Some to → o ≡ Some (Ref to)
reference_option (Some (Ref from)) to is = ap (λ (r : RefType). Some (Ref r)) (same_Some from to is)
reference_option (Some I32) to is = cc
reference_option (Some I64) to is = cc
reference_option (Some F32) to is = cc
reference_option (Some F64) to is = cc
reference_option (Some V128) to is = cc
reference_option None to is = cc

pub last_there : (taken : List ValType) (to : RefType) → last_reference taken ≡ Some to → (length taken - 1 < length taken)
    × (get_or taken (length taken - 1) (Ref to) ≡ Ref to)
last_there taken to is =
    let at = reference_option (slice_get taken (length taken - 1)) to is in
    (slice_get_within taken (length taken - 1) (Ref to) at, get_or_from_slice_get taken (length taken - 1) (Ref to) (Ref to) at)

pub last_is : (taken : List ValType) (to : RefType) → last_reference taken ≡ Some to → taken ≡ take (length taken - 1) taken ++ Ref to ∷ []
last_is taken to is =
    let k = length taken - 1 in
    let (inside, here) = last_there taken to is in
    let first : drop k taken ≡ get_or taken k (Ref to) ∷ drop (suc k) taken = drop-cons taken k (Ref to) inside in
    let rest : drop (suc k) taken ≡ [] = drop_of_length-le taken {i = suc k} (omega arith) in
    let end : drop k taken ≡ Ref to ∷ [] = rw (here, rest) at first in
    sym (take-append-drop k taken) ∙ ap (λ (values : List ValType). take k taken ++ values) end

pub br_on_non_null_gives : (scope : Scope) (labels : List (List ValType)) (set : List ℕ) (label : ℕ) (taken : List ValType) (to : RefType)
    → AreLabels scope labels → label < length labels → taken ≡ get_or labels label taken → last_reference taken ≡ Some to
    → IsNode (context_of scope labels) set [] (br_on_non_null_node label taken to)
br_on_non_null_gives scope labels set label taken to are inside is last =
    let (at, taken_valid, few) = label_at scope labels are label taken inside is in
    let others = take (length taken - 1) taken in
    let (within, here) = last_there taken to last in
    let to_valid : IsValid (bare scope) (Ref to) = subst (IsValid (bare scope)) here (taken_valid (length taken - 1) (Ref to) within) in
    let others_valid : AreValid (bare scope) others = All-take (IsValid (bare scope)) (length taken - 1) taken taken_valid in
    let at' : slice_get labels label ≡ Some (others ++ Ref to ∷ []) = at ∙ ap (λ (values : List ValType). Some values)
    (last_is taken to last) in
    let count : length others ≡ length taken - 1 = length-take-le (length taken - 1) taken (omega arith) in
    record {
      results = others;
      dropped = others;
      typed = λ more. (others, to, at', (refl, refl));
      below = below_themselves scope.types.now.types others;
      given = no_valid (bare scope);
      spare = others_valid;
      drops = count;
      sets_local = refl;
      few = let longer = one_longer others (nullable_to to.heap_type) in omega arith;
      valid = All-push (IsValid (bare scope)) others (nullable_to to.heap_type) others_valid
          (nullable_valid (bare scope) to.heap_type to_valid.0 to_valid.1.heap_type);
      inside = tt;
    }

-- the chosen branch
pub kept_none : (context : BodyContext) (to : RefType) (bytes left : List ℕ) → short_label_at context 0 bytes ≡ (None, left)
    → br_on_null_value_at context (Ref to) bytes ≡ (None, left)
unfolding br_on_null_value_at
kept_none context to bytes left drawn = ap (λ (label : Option ℕ × List ℕ). giving (kept_node to) label) drawn

pub kept_there : (context : BodyContext) (to : RefType) (bytes left : List ℕ) (label : ℕ) → short_label_at context 0 bytes
    ≡ (Some label, left) → br_on_null_value_at context (Ref to) bytes
    ≡ (Some (node_of (nullable_to to.heap_type ∷ []) (instr.BrOnNull label) 0), left)
unfolding br_on_null_value_at
kept_there context to bytes left label drawn = ap (λ (label : Option ℕ × List ℕ). giving (kept_node to) label) drawn

pub br_on_null_off : (context : BodyContext) (bytes : List ℕ) → context.features.reference_types ≡ false → br_on_null_at context bytes
    ≡ (None, bytes)
unfolding br_on_null_at
br_on_null_off context bytes off = rw off refl

pub br_on_null_none : (context : BodyContext) (bytes left : List ℕ) → context.features.reference_types ≡ true
    → short_label_at context 2 bytes ≡ (None, left) → br_on_null_at context bytes ≡ (None, left)
unfolding br_on_null_at
br_on_null_none context bytes left on drawn = rw on (ap (λ (label : Option ℕ × List ℕ). br_on_null_by context label.0 label.1) drawn)

pub br_on_null_there : (context : BodyContext) (bytes middle left : List ℕ) (label : ℕ) (heap_type : HeapType) (taken : List ValType)
    → context.features.reference_types ≡ true → short_label_at context 2 bytes ≡ (Some label, middle)
    → referent_at context.locals middle ≡ (heap_type, left) → slice_get context.labels label ≡ Some taken → br_on_null_at context bytes
    ≡ (Some (br_on_null_node label heap_type taken), left)
unfolding br_on_null_at
br_on_null_there context bytes middle left label heap_type taken on drawn drawn' at =
    rw on (ap (λ (label : Option ℕ × List ℕ). br_on_null_by context label.0 label.1) drawn ∙ rw (drawn', at) refl)

pub br_on_non_null_none : (context : BodyContext) (bytes left : List ℕ)
    → choose_at (offered (is_of_reference context.labels) (label_count context)) bytes ≡ (None, left) → br_on_non_null_at context bytes
    ≡ (None, left)
unfolding br_on_non_null_at
br_on_non_null_none context bytes left drawn =
    ap (λ (label : Option ℕ × List ℕ). giving (λ label. br_on_non_null_by context label (slice_get context.labels label)) label) drawn

pub br_on_non_null_there : (context : BodyContext) (bytes left : List ℕ) (label : ℕ) (taken : List ValType) (o : Option RefType)
    → choose_at (offered (is_of_reference context.labels) (label_count context)) bytes ≡ (Some label, left)
    → slice_get context.labels label ≡ Some taken → last_reference taken ≡ o → br_on_non_null_at context bytes
    ≡ (option_map (br_on_non_null_node label taken) o, left)
unfolding br_on_non_null_at
br_on_non_null_there context bytes left label taken o drawn at last =
    ap (λ (label : Option ℕ × List ℕ). giving (λ label. br_on_non_null_by context label (slice_get context.labels label)) label) drawn
    ∙ (ap (λ (values : Option (List ValType)). (br_on_non_null_by context label values, left)) at
    ∙ ap (λ (o : Option RefType). (option_map (br_on_non_null_node label taken) o, left)) last)

pub null_branch_by : (context : BodyContext) (bytes middle : List ℕ) (null : Bool) → bool_at bytes ≡ (null, middle)
    → null_branch_at context bytes ≡ (if null then br_on_null_at context middle else br_on_non_null_at context middle)
unfolding null_branch_at
null_branch_by context bytes middle null drawn = rw drawn refl
