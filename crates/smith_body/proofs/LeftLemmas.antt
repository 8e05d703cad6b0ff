-- A node with the results that nothing takes.
use Rattle.smith_body.proofs.Common.{[], All-nil, ap, append-nil, append_assoc, AreBelow, AreLabels, AreValid, arith, bare}
use Rattle.smith_body.proofs.Common.{below_themselves, block_cost, BodyContext, Config, context_of, Draft, drop, get_or, HasInstrType, Head}
use Rattle.smith_body.proofs.Common.{Instr, IsAllowedIn, IsNode, IsNoStop, IsValid, length, length-append, List, most, Node, None, Option}
use Rattle.smith_body.proofs.Common.{option_to_list, refl, replicate, Scope, slice_get, Some, subst, SubType, suc, sym, unwrap_or, ValType}
use Rattle.smith_body.proofs.Common.{where_stands, widest, zero, ℕ, ◌++◌, ◌+◌, ◌-◌, ◌<◌, ◌∙◌, ◌∷◌, ◌≡◌, ◌≤◌}
use Rattle.std.proofs.Common.{inl, inr, ◌⊎◌}
use Rattle.std.specs.List.{AllZip}
use Rattle.std.proofs.lemmas.List.{drop_all, length-drop}
use Rattle.std.proofs.lemmas.List.Elements.{All-drop}
use Rattle.std.proofs.lemmas.Option.{get_or_from_slice_get, slice_get_within}
use Rattle.smith_types.specs.Entities.{IsFuncAt}
use Rattle.smith_types.specs.Subtyping.{IsValBelow}
use Rattle.smith_types.specs.Syntax.composite_type.FuncType.{FuncType}
use Rattle.smith_instr.specs.declared.instr.Instr.TheVariants as instr
use Rattle.smith_body_nodes.specs.Nodes.{HasHeadType, head_instruction, head_sets, IsHeadValid}
use Rattle.smith_body_nodes.proofs.NodeLemmas.{zip_length}
use Rattle.smith_body_nodes.proofs.OfferLemmas.{func_there}
use Rattle.smith_body_nodes.specs.Offered.{func_in, function_in}
use Rattle.smith_body_nodes.specs.Scopes.{IsScope}
use Rattle.smith_body_nodes.specs.declared.node.Head.TheVariants as heads
use Rattle.smith_body.specs.DraftSteps.{IsDrawn}
use Rattle.smith_body.specs.Left.{left_by, left_by_head, results_of, spare_of}
use Rattle.smith_body.proofs.DrawnLemmas.{drawn_above, drawn_then, dropped_drawn, joined_valid, paid_for}

-- the types of the results are known, or no types are
AreLeft : List ValType → List ValType → Type 0
AreLeft left results = (left ≡ results) ⊎ (left ≡ [])

func_found : (types : List SubType) (index : ℕ) (function : FuncType) → IsFuncAt types index function
    → func_in (slice_get types index) ≡ Some function
func_found types index function (t, at, is) = rw (at, is) refl

left_of_instruction : (context : BodyContext) (set : List ℕ) (instruction : Instr) (operands results : List ValType)
    → HasInstrType context set instruction operands results → AreLeft (left_by context instruction) results
unfolding AreLeft
left_of_instruction context set (instr.Call index) operands results (function, (ty, at, func), (taken, gives)) =
    inl (rw (at, func_found context.types ty function func) (sym gives))
left_of_instruction context set (instr.CallIndirect table ty) operands results (function, wide, of_functions, func, (taken, gives)) =
    inl (rw (func_found context.types ty function func) (sym gives))
left_of_instruction context set (instr.CallRef ty) operands results (function, func, (taken, gives)) =
    inl (rw (func_found context.types ty function func) (sym gives))
left_of_instruction context set (instr.BrIf label) operands results (taken, at, (operands_are, gives)) = inl (rw at (sym gives))
left_of_instruction context set instruction operands results typed = inr refl

left_of_head : (context : BodyContext) (set : List ℕ) (head : Head) (operands results : List ValType)
    → HasHeadType context set head operands results → AreLeft (left_by_head context head) results
unfolding AreLeft
left_of_head context set (heads.Plain instruction) operands results typed = left_of_instruction context set instruction operands results
    typed
left_of_head context set (heads.Enclosed opening ty sides) operands results (is, may, taken, gives) = inl (sym gives)
left_of_head context set (heads.If ty sides) operands results (is, taken, gives) = inl (sym gives)
left_of_head context set (heads.Try ty clauses sides) operands results (is, caught, taken, gives) = inl (sym gives)

-- these types are valid
results_valid : (context : BodyContext) (o : Option FuncType) → ((function : FuncType) → o ≡ Some function
    → AreValid context function.results)
    → AreValid context (results_of o)
results_valid context (Some function) valid = valid function refl
results_valid context None valid = All-nil (IsValid context)

func_valid : (scope : Scope) → IsScope (bare scope) → (ty : ℕ)
    → AreValid (bare scope) (results_of (func_in (slice_get scope.types.now.types ty)))
func_valid scope inside ty =
    results_valid (bare scope) (func_in (slice_get scope.types.now.types ty))
    (λ function is. inside.results_valid ty function (func_there scope.types.now.types ty function is))

function_valid : (scope : Scope) (o : Option ℕ) → IsScope (bare scope)
    → AreValid (bare scope) (results_of (function_in scope.types.now.types o))
function_valid scope (Some ty) inside = func_valid scope inside ty
function_valid scope None inside = All-nil (IsValid (bare scope))

label_valid : (scope : Scope) (labels : List (List ValType)) (label : ℕ) (o : Option (List ValType)) → AreLabels scope labels
    → slice_get labels label ≡ o → AreValid (bare scope) (unwrap_or o [])
label_valid scope labels label (Some taken) are at =
    subst (AreValid (bare scope)) (get_or_from_slice_get labels label taken taken at) (are.valid label taken (slice_get_within labels
    label taken at))
label_valid scope labels label None are at = All-nil (IsValid (bare scope))

instruction_valid : (scope : Scope) (labels : List (List ValType)) (instruction : Instr) → IsScope (bare scope) → AreLabels scope labels
    → AreValid (bare scope) (left_by (context_of scope labels) instruction)
instruction_valid scope labels (instr.Call index) inside are = function_valid scope (slice_get scope.funcs.now index) inside
instruction_valid scope labels (instr.CallIndirect table ty) inside are = func_valid scope inside ty
instruction_valid scope labels (instr.CallRef ty) inside are = func_valid scope inside ty
instruction_valid scope labels (instr.BrIf label) inside are = label_valid scope labels label (slice_get labels label) are refl
instruction_valid scope labels instruction inside are = All-nil (IsValid (bare scope))

left_valid : (scope : Scope) (labels : List (List ValType)) (head : Head) → IsScope (bare scope) → AreLabels scope labels
    → IsHeadValid (bare scope).features (bare scope).types head → AreValid (bare scope) (left_by_head (context_of scope labels) head)
left_valid scope labels (heads.Plain instruction) inside are valid = instruction_valid scope labels instruction inside are
left_valid scope labels (heads.Enclosed opening ty sides) inside are valid = valid.results
left_valid scope labels (heads.If ty sides) inside are valid = valid.results
left_valid scope labels (heads.Try ty clauses sides) inside are valid = valid.results

pub spare_valid : (scope : Scope) (labels : List (List ValType)) (head : Head) (count : ℕ) → IsScope (bare scope) → AreLabels scope labels
    → IsHeadValid (bare scope).features (bare scope).types head → AreValid (bare scope) (spare_of (context_of scope labels) head count)
spare_valid scope labels head count inside are valid =
    let left = left_by_head (context_of scope labels) head in
    All-drop (IsValid (bare scope)) (length left - count) left (left_valid scope labels head inside are valid)

pub spare_few : (context : BodyContext) (head : Head) (count : ℕ) → length (spare_of context head count) ≤ count
spare_few context head count =
    let left = left_by_head context head in
    let rest = length-drop (length left - count) left in
    omega arith

-- results of which the first match some values
first_below : (types : List SubType) (results values more : List ValType) → AllZip (IsValBelow types) results (values ++ more)
    → AllZip (IsValBelow types) results (values ++ drop (length values) results)
first_below types results [] more below = below_themselves types results
first_below types [] (value ∷ values) more below = absurd below
first_below types (result ∷ results) (value ∷ values) more (first, rest) = (first, first_below types results values more rest)

-- the results that nothing takes: some whose types aren't known, or those that are settled
record AreSpare (scope : Scope) (results values spare : List ValType) (drops : ℕ) : Type 0 where
  pub dropped : List ValType
  pub below : AreBelow (bare scope) results (values ++ (dropped ++ spare))
  pub dropped_valid : AreValid (bare scope) dropped
  pub count : length dropped ≡ drops - length spare
  pub few : length dropped + length spare ≤ drops

are_spare : (scope : Scope) (left results values dropped : List ValType) (drops : ℕ) → AreBelow (bare scope) results (values ++ dropped)
    → AreValid (bare scope) dropped → length dropped ≡ drops → AreLeft left results
    → AreSpare scope results values (drop (length left - drops) left) drops
unfolding AreLeft
are_spare scope left results values dropped drops below valid count (inl known) =
    let long = zip_length (IsValBelow scope.types.now.types) results (values ++ dropped) below in
    let long' : length (values ++ dropped) ≡ length values + length dropped = length-append values dropped in
    let first : length results - drops ≡ length values = omega arith in
    let spare : drop (length left - drops) left ≡ drop (length values) results =
    ap (λ (xs : List ValType). drop (length xs - drops) xs) known ∙ ap (λ (n : ℕ). drop n results) first in
    let rest = length-drop (length values) results in
    rw spare (record {
      dropped = [];
      below = first_below scope.types.now.types results values dropped below;
      dropped_valid = All-nil (IsValid (bare scope));
      count = omega arith;
      few = omega arith;
    })
are_spare scope left results values dropped drops below valid count (inr none) =
    let spare : drop (length left - drops) left ≡ [] =
    ap (λ (xs : List ValType). drop (length xs - drops) xs) none ∙ drop_all (0 - drops) [] (omega arith) in
    rw spare (record { dropped = dropped; below = rw append-nil below; dropped_valid = valid; count = omega arith; few = omega arith })

-- a node: its operands, its head, and the results that nothing takes, of which the last are settled and
-- the others dropped
pub node_drawn : {scope : Scope} {values : List ValType} {node : Node} {old middle after settled new : Draft}
    → IsNode (where_stands scope old) old.set.items values node → (0 < node.drops → IsAllowedIn scope instr.Drop)
    → IsNoStop scope.config.now (head_instruction node.head) → 0 < old.budget
    → IsDrawn scope [] node.operands (length node.operands) (record old { budget = old.budget - 1 }) middle
    → ((operands given values : List ValType) → HasHeadType (where_stands scope middle) middle.set.items node.head operands given
    → AreBelow (bare scope) given values → AreValid (bare scope) values → IsNoStop scope.config.now (head_instruction node.head)
    → head_sets node.head ≡ option_to_list node.sets → IsDrawn scope operands values (block_cost scope.types.now.types) middle after)
    → (spare : List ValType) → spare ≡ spare_of (where_stands scope old) node.head node.drops → AreValid (bare scope) spare
    → IsDrawn scope spare [] (length spare) after settled
    → new.out ≡ settled.out ++ replicate (node.drops - length spare) instr.Drop → new.set.items ≡ settled.set.items
    → new.labels.items ≡ settled.labels.items → new.budget ≡ settled.budget
    → IsDrawn scope [] values 0 old new
node_drawn {scope = scope} {values = values} {node = node} {old = old} {middle = middle} {after = after} {settled = settled} {new = new}
    fits
    may_drop goes_on paid operands tops spare is spare_valid settles out set labels budget =
    let stood : HasHeadType (context_of scope old.labels.items) (old.set.items ++ operands.set) node.head node.operands fits.results =
    fits.typed operands.set in
    let known = left_of_head (context_of scope old.labels.items) (old.set.items ++ operands.set) node.head node.operands fits.results
    stood in
    let at_set : HasHeadType (context_of scope old.labels.items) middle.set.items node.head node.operands fits.results =
    subst (λ (set : List ℕ). HasHeadType (context_of scope old.labels.items) set node.head node.operands fits.results)
    (sym operands.set_more) stood in
    let stands : HasHeadType (where_stands scope middle) middle.set.items node.head node.operands fits.results =
    subst (λ (labels : List (List ValType)). HasHeadType (context_of scope labels) middle.set.items node.head node.operands fits.results)
    (sym operands.same) at_set in
    let these : AreSpare scope fits.results values spare node.drops =
    rw is (are_spare scope (left_by_head (where_stands scope old) node.head) fits.results values fits.dropped node.drops fits.below
    fits.spare
    fits.drops known) in
    let under = joined_valid (bare scope) values these.dropped fits.given these.dropped_valid in
    let given : AreValid (bare scope) (values ++ (these.dropped ++ spare)) =
    rw append_assoc at (joined_valid (bare scope) (values ++ these.dropped) spare under spare_valid) in
    let top = tops node.operands fits.results (values ++ (these.dropped ++ spare)) stands these.below given goes_on fits.sets_local in
    let few = fits.few in
    let count = these.count in
    let all = these.few in
    let may_drop' : 0 < length these.dropped → IsAllowedIn scope instr.Drop = λ some. may_drop (omega arith) in
    let above : IsDrawn scope (values ++ (these.dropped ++ spare)) (values ++ these.dropped) (length spare) after settled =
    rw (append-nil, append_assoc) at (drawn_above (values ++ these.dropped) under settles) in
    let out' : new.out ≡ settled.out ++ replicate (length these.dropped) instr.Drop = rw count out in
    let rest = dropped_drawn values these.dropped fits.given these.dropped_valid may_drop' out' set labels budget in
    paid_for {n = length node.operands + block_cost scope.types.now.types + length spare + length these.dropped} (omega arith) paid
    (drawn_then (drawn_then (drawn_then operands top) above) rest)
