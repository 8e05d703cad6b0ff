-- Branches on casts.
use Rattle.smith_body_reference_branches.proofs.Common.{arith, bare, false, length, None, one_valid, Ref, refl, Some, sym, true, ◌<◌, ◌∙◌}
use Rattle.std.proofs.Common.{[], Bool, get_or, List, Option, take, ℕ, ◌++◌, ◌-◌, ◌∷◌, ◌≡◌, ◌≤◌}
use Rattle.std.proofs.Common.{ap, subst}
use Rattle.std.specs.Prelude.{slice_get, ◌==◌, not, IsTrue, min, option_map, option_and_then, unwrap_or, if◌then◌else◌}
use Rattle.std.specs.List.{AllZip}
use Rattle.std.proofs.lemmas.List.{length-take-le}
use Rattle.std.proofs.lemmas.List.Elements.{All-push, All-take}
use Rattle.std.proofs.lemmas.Option.{same_Some, slice_get-get_or}
use Rattle.smith_bytes.specs.Draws.{bool_at, choose_at, range_at}
use Rattle.smith_types.specs.Subtyping.{IsRefBelow, IsValBelow, itself}
use Rattle.smith_types.specs.Types.{IsOrderly}
use Rattle.smith_types.specs.Syntax.composite_type.SubType.{SubType}
use Rattle.smith_types.specs.Syntax.value_type.HeapType.{HeapType}
use Rattle.smith_types.specs.Syntax.value_type.RefType.{RefType}
use Rattle.smith_types.specs.Syntax.value_type.ValType.{ValType}
use Rattle.smith_types.specs.Syntax.value_type.ValType.TheVariants.{F32, F64, I32, I64, V128}
use Rattle.smith_types.proofs.GrowthLemmas.{IsRefBelow-trans, IsValBelow-refl}
use Rattle.smith_draw_types.specs.Below.{is_val_below}
use Rattle.smith_instr.specs.Contexts.{BodyContext, IsValid, AreValid}
use Rattle.smith_instr.specs.InstrTypes.{HasInstrType, difference, sets}
use Rattle.smith_instr.specs.declared.instr.Instr.{Instr}
use Rattle.smith_instr.specs.declared.instr.Instr.TheVariants as instr
use Rattle.smith_body_reference_branches.specs.CastBranchChoices.{below_at, below_in, br_on_cast_at, br_on_cast_fail_at, cast_branch_at}
use Rattle.smith_body_reference_branches.specs.CastBranchChoices.{cast_branch_for, cast_branch_to, cast_label, cast_label_at}
use Rattle.smith_body_reference_branches.specs.CastBranchChoices.{cast_label_there, cast_node, cast_of, cast_value_at, is_exception}
use Rattle.smith_body_reference_branches.specs.CastBranchChoices.{is_strictly_below, kept_cast, kept_cast_at, kept_cast_node, last_of}
use Rattle.smith_body_reference_branches.specs.CastBranchChoices.{left_out_at, local_below_at, lower_at, reference_as, strictly_below_at}
use Rattle.smith_body_nodes.specs.Above.{above_at, reference_in}
use Rattle.smith_body_nodes.specs.Chosen.{Chosen, giving}
use Rattle.smith_body_nodes.specs.IndexedTypes.{names_types}
use Rattle.smith_body_nodes.specs.Items.{continued}
use Rattle.smith_body_nodes.specs.Nodes.{IsNode}
use Rattle.smith_body_reference_branches.specs.NullChoices.{is_of_reference, last_reference}
use Rattle.smith_body_nodes.specs.Offered.{chunk_at, is_below_at, is_local_below, is_target, offered}
use Rattle.smith_body_nodes.specs.Scopes.{AreLabels, context_of, indexed, widest}
use Rattle.smith_body_reference_branches.specs.declared.cast_branches.CastLabel.{CastLabel}
use Rattle.smith_body_nodes.specs.declared.scope.Scope.{Scope}
use Rattle.smith_body_nodes.proofs.ItemLemmas.{given_none, given_some}
use Rattle.smith_body_nodes.proofs.LabelLemmas.{label_at}
use Rattle.smith_body_nodes.proofs.NodeLemmas.{no_valid}
use Rattle.smith_body_reference_branches.proofs.NullLemmas.{last_is, last_there, one_longer}
use Rattle.smith_body_nodes.proofs.OfferLemmas.{both, target_there, tested}
use Rattle.smith_body_nodes.proofs.PlainLemmas.{gives_one}

-- the type of a local that matches a reference type, or the type itself
pub below_valid : (context : BodyContext) (value : ValType) (from : RefType) → IsValid context value → IsValid context (Ref from)
    → IsValid context (Ref (unwrap_or (reference_in (Some value)) from))
below_valid context (Ref to) from valid valid' = valid
below_valid context I32 from valid valid' = valid'
below_valid context I64 from valid valid' = valid'
below_valid context F32 from valid valid' = valid'
below_valid context F64 from valid valid' = valid'
below_valid context V128 from valid valid' = valid'

below_it : (types : List SubType) (value : ValType) (from : RefType) → IsOrderly types → is_val_below types value (Ref from) ≡ true
    → IsRefBelow types (unwrap_or (reference_in (Some value)) from) from
below_it types (Ref to) from orderly is = tested types orderly (Ref to) (Ref from) is
below_it types I32 from orderly is = IsValBelow-refl types (Ref from)
below_it types I64 from orderly is = IsValBelow-refl types (Ref from)
below_it types F32 from orderly is = IsValBelow-refl types (Ref from)
below_it types F64 from orderly is = IsValBelow-refl types (Ref from)
below_it types V128 from orderly is = IsValBelow-refl types (Ref from)

pub itself_below : (types : List SubType) (from : RefType) → IsRefBelow types from from
itself_below types from = IsValBelow-refl types (Ref from)

pub drawn_below : (context : BodyContext) (from : RefType) (index : ℕ) (d : ValType) → IsOrderly context.types
    → index < length context.locals → is_local_below context (Ref from) index ≡ true
    → IsRefBelow context.types (unwrap_or (reference_in (Some (get_or context.locals index d))) from) from
drawn_below context from index d orderly inside is =
    below_it context.types (get_or context.locals index d) from orderly
    (subst (λ (o : Option ValType). is_below_at context.types (Ref from) o ≡ true) (slice_get-get_or context.locals index d inside) is)

pub local_none : (context : BodyContext) (from : RefType) (bytes left : List ℕ)
    → choose_at (offered (is_local_below context (Ref from)) (indexed (length context.locals))) bytes ≡ (None, left)
    → local_below_at context from bytes ≡ (from, left)
local_none context from bytes left drawn = ap (λ (d : Option ℕ × List ℕ). (below_in context from d.0, d.1)) drawn

pub local_some : (context : BodyContext) (from : RefType) (bytes left : List ℕ) (index : ℕ) (d : ValType)
    → choose_at (offered (is_local_below context (Ref from)) (indexed (length context.locals))) bytes ≡ (Some index, left)
    → index < length context.locals
    → local_below_at context from bytes ≡ (unwrap_or (reference_in (Some (get_or context.locals index d))) from, left)
local_some context from bytes left index d drawn inside =
    ap (λ (d : Option ℕ × List ℕ). (below_in context from d.0, d.1)) drawn
    ∙ ap (λ (o : Option ValType). (unwrap_or (reference_in o) from, left)) (slice_get-get_or context.locals index d inside)

-- a type strictly below a reference type, or the type itself
pub strict_valid : (context : BodyContext) (above : RefType) (index : ℕ) → names_types context ≡ true → index < length context.types
    → IsValid context (Ref above) → IsValid context (Ref (reference_as above index))
strict_valid context above index named inside valid =
    let (on, gc) = both context.features.reference_types context.features.gc named in
    (valid.0, record { heap_type = (gc, inside); nullable = valid.1.nullable })

pub strict_below : (context : BodyContext) (above : RefType) (index : ℕ) → IsOrderly context.types → is_strictly_below context above index
    ≡ true → IsRefBelow context.types (reference_as above index) above
strict_below context above index orderly is =
    let (below, other) = both (is_val_below context.types (Ref (reference_as above index)) (Ref above))
    (not (is_val_below context.types (Ref above) (Ref (reference_as above index)))) is in
    tested context.types orderly (Ref (reference_as above index)) (Ref above) below

pub strict_off : (context : BodyContext) (above : RefType) (bytes : List ℕ) → names_types context ≡ false
    → strictly_below_at context above bytes ≡ (above, bytes)
strict_off context above bytes off = rw off refl

pub strict_none : (context : BodyContext) (above : RefType) (bytes left : List ℕ) → names_types context ≡ true
    → chunk_at (is_strictly_below context above) (indexed (length context.types)) bytes ≡ (None, left)
    → strictly_below_at context above bytes ≡ (above, left)
strict_none context above bytes left on drawn = rw (on, drawn) refl

pub strict_some : (context : BodyContext) (above : RefType) (bytes left : List ℕ) (index : ℕ) → names_types context ≡ true
    → chunk_at (is_strictly_below context above) (indexed (length context.types)) bytes ≡ (Some index, left)
    → strictly_below_at context above bytes ≡ (reference_as above index, left)
strict_some context above bytes left index on drawn = rw (on, drawn) refl

pub lower_strictly : (context : BodyContext) (above : RefType) (bytes left : List ℕ) → bool_at bytes ≡ (true, left)
    → strictly_below_at context above left ≡ lower_at context above bytes
lower_strictly context above bytes left drawn = rw drawn refl

pub lower_itself : (context : BodyContext) (above : RefType) (bytes left : List ℕ) → bool_at bytes ≡ (false, left)
    → lower_at context above bytes ≡ (above, left)
lower_itself context above bytes left drawn = rw drawn refl

pub below_strictly : (context : BodyContext) (from : RefType) (bytes left : List ℕ) → bool_at bytes ≡ (true, left)
    → strictly_below_at context from left ≡ below_at context from bytes
below_strictly context from bytes left drawn = rw drawn refl

pub below_local : (context : BodyContext) (from : RefType) (bytes left : List ℕ) → bool_at bytes ≡ (false, left)
    → local_below_at context from left ≡ below_at context from bytes
below_local context from bytes left drawn = rw drawn refl

-- a label whose last value is a reference
pub cast_label_none : (labels : List (List ValType)) (bytes left : List ℕ)
    → choose_at (offered (is_of_reference labels) (min (length labels) 64)) bytes ≡ (None, left) → cast_label_at labels bytes ≡ (None, left)
cast_label_none labels bytes left drawn = given_none (cast_label_there labels)
    (choose_at (offered (is_of_reference labels) (min (length labels) 64)) bytes) left drawn

pub cast_label_some : (labels : List (List ValType)) (bytes left : List ℕ) (index : ℕ) (taken : List ValType) (o : Option RefType)
    → choose_at (offered (is_of_reference labels) (min (length labels) 64)) bytes ≡ (Some index, left) → slice_get labels index ≡ Some taken
    → last_reference taken ≡ o → cast_label_at labels bytes ≡ (option_map (cast_label index) o, left)
cast_label_some labels bytes left index taken o drawn at is =
    given_some (cast_label_there labels) (choose_at (offered (is_of_reference labels) (min (length labels) 64)) bytes) left index
    (option_map (cast_label index) o) drawn
    (ap (λ (values : Option (List ValType)). option_map (cast_label index) (option_and_then last_reference values)) at
    ∙ ap (λ (o : Option RefType). option_map (cast_label index) o) is)

pub last_at : (labels : List (List ValType)) (index : ℕ) (taken : List ValType) (last : RefType) → slice_get labels index ≡ Some taken
    → last_reference taken ≡ Some last → last_of labels index ≡ Some last
last_at labels index taken last at is = ap (λ (values : Option (List ValType)). option_and_then last_reference values) at ∙ is

last_in : (labels : List (List ValType)) (index : ℕ) (taken : List ValType) (last : RefType) → slice_get labels index ≡ Some taken
    → last_of labels index ≡ Some last → last_reference taken ≡ Some last
last_in labels index taken last at is = subst (λ (values : Option (List ValType)). option_and_then last_reference values ≡ Some last) at is

pub last_valid : (scope : Scope) (labels : List (List ValType)) (index : ℕ) (last : RefType) → AreLabels scope labels
    → index < length labels → last_of labels index ≡ Some last → IsValid (bare scope) (Ref last)
last_valid scope labels index last are inside is =
    let taken = get_or labels index [] in
    let (within, here) = last_there taken last (last_in labels index taken last (slice_get-get_or labels index [] inside) is) in
    subst (IsValid (bare scope)) here (are.valid index [] inside (length taken - 1) (Ref last) within)

-- the type that remains after a cast matches the type before
weaker : (a b : Bool) → IsTrue (if a then false else b) → IsTrue b
weaker true b h = cc
weaker false b h = h

left_below : (types : List SubType) (from to : RefType) → IsRefBelow types (difference from to) from
left_below types from to = record { heap = itself; nullable = weaker to.nullable from.nullable }

last_below : (types : List SubType) (values : List ValType) (left from : RefType) → IsRefBelow types left from
    → AllZip (IsValBelow types) (values ++ Ref left ∷ []) (values ++ Ref from ∷ [])
last_below types [] left from below = (below, tt)
last_below types (value ∷ values) left from below = (IsValBelow-refl types value, last_below types values left from below)

-- a branch whose values are dropped if it is not taken
cast_drops : (scope : Scope) (labels : List (List ValType)) (set : List ℕ) (taken : List ValType) (from last left : RefType)
    (instruction : Instr) → AreValid (bare scope) taken → length taken ≤ widest scope.types.now.types → last_reference taken ≡ Some last
    → IsValid (bare scope) (Ref from) → IsRefBelow scope.types.now.types left from → sets instruction ≡ []
    → ((more : List ℕ) → HasInstrType (context_of scope labels) (set ++ more) instruction (take (length taken - 1) taken ++ Ref from ∷ [])
    (take (length taken - 1) taken ++ Ref left ∷ []))
    → IsNode (context_of scope labels) set [] (cast_node from instruction taken)
cast_drops scope labels set taken from last left instruction valid few is from_valid below none typed =
    let others = take (length taken - 1) taken in
    let (within, here) = last_there taken last is in
    let count : length others ≡ length taken - 1 = length-take-le (length taken - 1) taken (omega arith) in
    let longer = one_longer others (Ref from) in
    let operands_valid : AreValid (bare scope) (others ++ Ref from ∷ []) = All-push (IsValid (bare scope)) others (Ref from)
    (All-take (IsValid (bare scope)) (length taken - 1) taken valid) from_valid in
    record {
      results = others ++ Ref left ∷ [];
      dropped = others ++ Ref from ∷ [];
      typed = typed;
      below = last_below scope.types.now.types others left from below;
      given = no_valid (bare scope);
      spare = operands_valid;
      drops = omega arith;
      sets_local = none;
      few = omega arith;
      valid = operands_valid;
      inside = tt;
    }

pub br_on_cast_gives : (scope : Scope) (labels : List (List ValType)) (set : List ℕ) (label : CastLabel) (to from : RefType)
    (taken : List ValType) → AreLabels scope labels → label.index < length labels → taken ≡ get_or labels label.index taken
    → last_of labels label.index ≡ Some label.last
    → IsValid (bare scope) (Ref to) → IsRefBelow scope.types.now.types to label.last → IsValid (bare scope) (Ref from)
    → IsRefBelow scope.types.now.types label.last from
    → IsNode (context_of scope labels) set [] (cast_node from (instr.BrOnCast (cast_of label from to)) taken)
br_on_cast_gives scope labels set label to from taken are inside is last to_valid under from_valid above =
    let (at, valid, few) = label_at scope labels are label.index taken inside is in
    let last' = last_in labels label.index taken label.last at last in
    let at' : slice_get labels label.index ≡ Some (take (length taken - 1) taken ++ Ref label.last ∷ []) =
    at ∙ ap (λ (values : List ValType). Some values) (last_is taken label.last last') in
    cast_drops scope labels set taken from label.last (difference from to) (instr.BrOnCast (cast_of label from to)) valid few last'
    from_valid (left_below scope.types.now.types from to) refl
    (λ more. (
      take (length taken - 1) taken,
      record {
        from_valid = from_valid.1;
        to_valid = to_valid.1;
        below = IsRefBelow-trans scope.types.now.types under above;
        wanted = label.last;
        taken = at';
        arrives = under;
      },
      (refl, refl),
    ))

pub br_on_cast_fail_gives : (scope : Scope) (labels : List (List ValType)) (set : List ℕ) (label : CastLabel) (from to : RefType)
    (taken : List ValType) → AreLabels scope labels → label.index < length labels → taken ≡ get_or labels label.index taken
    → last_of labels label.index ≡ Some label.last
    → IsValid (bare scope) (Ref from) → IsRefBelow scope.types.now.types from label.last → IsValid (bare scope) (Ref to)
    → IsRefBelow scope.types.now.types to from
    → IsNode (context_of scope labels) set [] (cast_node from (instr.BrOnCastFail (cast_of label from to)) taken)
br_on_cast_fail_gives scope labels set label from to taken are inside is last from_valid under to_valid below =
    let (at, valid, few) = label_at scope labels are label.index taken inside is in
    let last' = last_in labels label.index taken label.last at last in
    let at' : slice_get labels label.index ≡ Some (take (length taken - 1) taken ++ Ref label.last ∷ []) =
    at ∙ ap (λ (values : List ValType). Some values) (last_is taken label.last last') in
    cast_drops scope labels set taken from label.last to (instr.BrOnCastFail (cast_of label from to)) valid few last' from_valid below refl
    (λ more. (
      take (length taken - 1) taken,
      record {
        from_valid = from_valid.1;
        to_valid = to_valid.1;
        below = below;
        wanted = label.last;
        taken = at';
        arrives = IsRefBelow-trans scope.types.now.types (left_below scope.types.now.types from to) under;
      },
      (refl, refl),
    ))

-- the chosen branch
pub br_on_cast_some : (context : BodyContext) (label : CastLabel) (to from : RefType) (bytes middle left : List ℕ) (taken : List ValType)
    → lower_at context label.last bytes ≡ (to, middle) → above_at context label.last middle ≡ (from, left)
    → slice_get context.labels label.index ≡ Some taken → br_on_cast_at context label bytes
    ≡ (Some (cast_node from (instr.BrOnCast (cast_of label from to)) taken), left)
br_on_cast_some context label to from bytes middle left taken lower drawn at =
    ap (λ (d : RefType × List ℕ). let from = above_at context label.last d.1 in
    (option_map (cast_node from.0 (instr.BrOnCast (cast_of label from.0 d.0))) (slice_get context.labels label.index), from.1)) lower
    ∙ (ap (λ (d : RefType × List ℕ). (
      option_map (cast_node d.0 (instr.BrOnCast (cast_of label d.0 to)))
          (slice_get context.labels label.index),
      d.1,
    )) drawn
    ∙ ap (λ (o : Option (List ValType)). (option_map (cast_node from (instr.BrOnCast (cast_of label from to))) o, left)) at)

pub br_on_cast_fail_some : (context : BodyContext) (label : CastLabel) (from to : RefType) (bytes middle left : List ℕ)
    (taken : List ValType) → lower_at context label.last bytes ≡ (from, middle) → below_at context from middle ≡ (to, left)
    → slice_get context.labels label.index ≡ Some taken → br_on_cast_fail_at context label bytes
    ≡ (Some (cast_node from (instr.BrOnCastFail (cast_of label from to)) taken), left)
br_on_cast_fail_some context label from to bytes middle left taken lower drawn at =
    ap (λ (d : RefType × List ℕ). let to = below_at context d.0 d.1 in
    (option_map (cast_node d.0 (instr.BrOnCastFail (cast_of label d.0 to.0))) (slice_get context.labels label.index), to.1)) lower
    ∙ (ap (λ (d : RefType × List ℕ). (
      option_map (cast_node from (instr.BrOnCastFail (cast_of label from d.0)))
          (slice_get context.labels label.index),
      d.1,
    )) drawn
    ∙ ap (λ (o : Option (List ValType)). (option_map (cast_node from (instr.BrOnCastFail (cast_of label from to))) o, left)) at)

pub branch_succeeds : (context : BodyContext) (label : CastLabel) (bytes left : List ℕ) → bool_at bytes ≡ (true, left)
    → cast_branch_for context label bytes ≡ br_on_cast_at context label left
unfolding cast_branch_for
branch_succeeds context label bytes left drawn = rw drawn refl

pub branch_fails : (context : BodyContext) (label : CastLabel) (bytes left : List ℕ) → bool_at bytes ≡ (false, left)
    → cast_branch_for context label bytes ≡ br_on_cast_fail_at context label left
unfolding cast_branch_for
branch_fails context label bytes left drawn = rw drawn refl

-- a branch that is left out, or is not
pub left_out_never : (heap_type : HeapType) (bytes : List ℕ) → is_exception heap_type ≡ false → left_out_at heap_type bytes ≡ (false, bytes)
unfolding left_out_at
left_out_never heap_type bytes other = rw other refl

pub left_out_by : (heap_type : HeapType) (bytes left : List ℕ) (number : ℕ) → is_exception heap_type ≡ true
    → range_at 0 15 bytes ≡ (number, left) → left_out_at heap_type bytes ≡ (not (number == 15), left)
unfolding left_out_at
left_out_by heap_type bytes left number exception drawn = rw (exception, drawn) refl

abbrev made_unless : BodyContext → CastLabel → Bool × List ℕ → Chosen
made_unless context label out = if out.0 then (None, out.1) else cast_branch_for context label out.1

pub branch_out : (context : BodyContext) (label : CastLabel) (bytes middle left : List ℕ) → cast_label_at context.labels bytes
    ≡ (Some label, middle) → left_out_at label.last.heap_type middle ≡ (true, left) → cast_branch_at context bytes ≡ (None, left)
branch_out context label bytes middle left chosen drawn =
    ap (λ (d : Option CastLabel × List ℕ). continued (cast_branch_to context) d.0 d.1) chosen
    ∙ ap (λ (out : Bool × List ℕ). made_unless context label out) drawn

pub branch_in : (context : BodyContext) (label : CastLabel) (bytes middle left : List ℕ) → cast_label_at context.labels bytes
    ≡ (Some label, middle) → left_out_at label.last.heap_type middle ≡ (false, left)
    → cast_branch_at context bytes ≡ cast_branch_for context label left
branch_in context label bytes middle left chosen drawn =
    ap (λ (d : Option CastLabel × List ℕ). continued (cast_branch_to context) d.0 d.1) chosen
    ∙ ap (λ (out : Bool × List ℕ). made_unless context label out) drawn

-- a reference of the type of the cast, if the branch is not taken
one_above : (types : List SubType) (to : RefType) (taken : List ValType) (from : RefType) → AllZip (IsValBelow types) (Ref to ∷ []) taken
    → last_reference taken ≡ Some from → (taken ≡ Ref from ∷ []) × IsRefBelow types to from
one_above types to [] from below is = absurd below
one_above types to (Ref value ∷ []) from below is =
    let same : value ≡ from = same_Some value from is in
    (ap (λ (r : RefType). Ref r ∷ []) same, subst (λ (r : RefType). IsRefBelow types to r) same below.0)
one_above types to (I32 ∷ []) from below is = absurd below.0
one_above types to (I64 ∷ []) from below is = absurd below.0
one_above types to (F32 ∷ []) from below is = absurd below.0
one_above types to (F64 ∷ []) from below is = absurd below.0
one_above types to (V128 ∷ []) from below is = absurd below.0
one_above types to (value ∷ other ∷ more) from below is = absurd below.1

pub kept_cast_gives : (scope : Scope) (labels : List (List ValType)) (set : List ℕ) (to from : RefType) (label : ℕ) (taken : List ValType)
    → IsOrderly (bare scope).types → AreLabels scope labels → label < length labels → taken ≡ get_or labels label taken
    → is_target (bare scope).types labels (Ref to ∷ []) label ≡ true → last_reference taken ≡ Some from → IsValid (bare scope) (Ref to)
    → IsNode (context_of scope labels) set (Ref to ∷ []) (kept_cast_node to label from)
kept_cast_gives scope labels set to from label taken orderly are inside is target last to_valid =
    let types = scope.types.now.types in
    let (at, valid, few) = label_at scope labels are label taken inside is in
    let (taken', at', below) = target_there scope labels (Ref to ∷ []) label orderly target in
    let same : taken' ≡ taken = same_Some taken' taken (sym at' ∙ at) in
    let below' = subst (λ (values : List ValType). AllZip (IsValBelow types) (Ref to ∷ []) values) same below in
    let (only, under) = one_above types to taken from below' last in
    let from_valid = last_valid scope labels label from are inside (last_at labels label taken from at last) in
    let one : slice_get labels label ≡ Some (Ref from ∷ []) = at ∙ ap (λ (values : List ValType). Some values) only in
    gives_one (context_of scope labels) set (Ref to) (Ref to) (Ref from ∷ []) (instr.BrOnCastFail (cast_of (cast_label label from) from to))
    (λ more. (
      [],
      record {
        from_valid = from_valid.1;
        to_valid = to_valid.1;
        below = under;
        wanted = from;
        taken = one;
        arrives = left_below types from to;
      },
      (refl, refl),
    ))
    (itself_below types to) to_valid refl (omega arith) (one_valid (context_of scope labels) (Ref from) from_valid)

pub value_out : (context : BodyContext) (to : RefType) (bytes left : List ℕ) → left_out_at to.heap_type bytes ≡ (true, left)
    → cast_value_at context (Ref to) bytes ≡ (None, left)
unfolding cast_value_at
value_out context to bytes left drawn = rw drawn refl

pub value_in : (context : BodyContext) (to : RefType) (bytes left : List ℕ) → left_out_at to.heap_type bytes ≡ (false, left)
    → cast_value_at context (Ref to) bytes ≡ kept_cast_at context to left
unfolding cast_value_at
value_in context to bytes left drawn = rw drawn refl

pub kept_none : (context : BodyContext) (to : RefType) (bytes left : List ℕ)
    → choose_at (offered (is_target context.types context.labels (Ref to ∷ [])) (min (length context.labels) 64)) bytes ≡ (None, left)
    → kept_cast_at context to bytes ≡ (None, left)
kept_none context to bytes left drawn = ap (λ (label : Option ℕ × List ℕ). giving (kept_cast context.labels to) label) drawn

pub kept_some : (context : BodyContext) (to : RefType) (bytes left : List ℕ) (label : ℕ) (taken : List ValType) (o : Option RefType)
    → choose_at (offered (is_target context.types context.labels (Ref to ∷ [])) (min (length context.labels) 64)) bytes ≡ (Some label, left)
    → slice_get context.labels label ≡ Some taken → last_reference taken ≡ o → kept_cast_at context to bytes
    ≡ (option_map (kept_cast_node to label) o, left)
kept_some context to bytes left label taken o drawn at last =
    ap (λ (label : Option ℕ × List ℕ). giving (kept_cast context.labels to) label) drawn
    ∙ (ap (λ (values : Option (List ValType)). (option_map (kept_cast_node to label) (option_and_then last_reference values), left)) at
    ∙ ap (λ (o : Option RefType). (option_map (kept_cast_node to label) o, left)) last)
