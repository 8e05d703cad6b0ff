-- Values that are stored, tested or dropped.
use Rattle.smith_body.proofs.Common.{[], All, ap, append-nil, append_assoc, AreValid, arith, bare, BodyContext, Bool, both, choose_at}
use Rattle.smith_body.proofs.Common.{Config, context_of, Draft, drop, drop-cons, F32, F64, false, get_or, HasInstrType, I32, I64}
use Rattle.smith_body.proofs.Common.{if◌then◌else◌, Instr, is_permitted, IsAllowedIn, IsNoStop, IsValBelow-refl, IsValid, length}
use Rattle.smith_body.proofs.Common.{length-append, List, longest_leaf, most, no_valid, None, one_valid, Option, option_to_list, Ref, refl}
use Rattle.smith_body.proofs.Common.{Scope, sets, slice_get, Some, subst, SubType, suc, sym, take, true, unwrap_or, V128, ValType}
use Rattle.smith_body.proofs.Common.{where_stands, ℕ, ◌*◌, ◌++◌, ◌+◌, ◌-◌, ◌<◌, ◌∙◌, ◌∷◌, ◌≡◌, ◌≤◌}
use Rattle.std.specs.Prelude.{Err, nat_lt, Ok, OnOk, Result, ◌&&◌}
use Rattle.std.proofs.lemmas.List.{drop_all, take_all, take_more}
use Rattle.std.proofs.lemmas.List.Elements.{All-take}
use Rattle.std.proofs.lemmas.Option.{same_Some}
use Rattle.smith_syntax.specs.Same.{exact_val}
use Rattle.smith_syntax.specs.contracts.value_type.ValTypePartialEq.TheImpl.{ghosts as val_same}
use Rattle.smith_types.specs.Syntax.entity_type.GlobalType.{GlobalType}
use Rattle.smith_types.specs.Syntax.value_type.RefType.{RefType}
use Rattle.smith_instr.specs.declared.instr.Instr.TheVariants as instr
use Rattle.smith_instr.specs.declared.numeric.NumericInstr.TheVariants as numeric
use Rattle.smith_instr.specs.declared.numeric.SaturatingConversion.TheVariants as saturating
use Rattle.smith_instr.specs.declared.reference.ReferenceInstr.TheVariants as reference
use Rattle.smith_instr.specs.declared.vector.IntShape.TheVariants as shape
use Rattle.smith_instr.specs.declared.vector.VectorInstr.TheVariants as vector
use Rattle.smith_body_leaves.specs.Leaves.{widest_struct}
use Rattle.smith_body.specs.Bodies.{State, settled, settled_all}
use Rattle.smith_body.specs.DraftSteps.{IsDrawn, IsWritten, state_of}
use Rattle.smith_body.specs.Settled.{IsSettler, Settles, instructions_of, is_bare, is_bare_label, is_global_of}
use Rattle.smith_body.specs.Settled.{is_local_of, is_place_of, local_count, place_at, set_by}
use Rattle.smith_body.specs.Settled.{else_tested, settling_at, storing, test_at, test_of}
use Rattle.smith_body.specs.declared.settled.Settling.{Settling}
use Rattle.smith_body.specs.declared.settled.Settling.TheVariants as settlings
use Rattle.smith_body.proofs.DrawnLemmas.{drawn_above, drawn_none, drawn_then, written_drawn}
use Rattle.smith_body.proofs.ExactLemmas.{state_is}

-- places that store values of exactly this type
local_same : (value : ValType) (o : Option ValType) → is_local_of value o ≡ true → o ≡ Some value
local_same value (Some other) is = ap Some ((exact_val other value).0 is)
local_same value None is = cc

global_same : (value : ValType) (o : Option GlobalType) → is_global_of value o ≡ true
    → (global : GlobalType) × (o ≡ Some global) × (global.mutable ≡ true) × (global.val_type ≡ value)
global_same value (Some global) is =
    let (mutable, same) = both global.mutable (val_same.eq global.val_type value) is in
    (global, refl, mutable, (exact_val global.val_type value).0 same)
global_same value None is = cc

pub local_settler : (scope : Scope) (labels : List (List ValType)) (value : ValType) (place : ℕ)
    → nat_lt place (local_count (bare scope)) ≡ true → is_place_of (bare scope) value place ≡ true
    → IsAllowedIn scope (instr.LocalSet place)
    → IsSettler scope labels (value ∷ []) [] (instr.LocalSet place)
local_settler scope labels value place before is allowed =
    let at : slice_get scope.locals.now place ≡ Some value = local_same value (slice_get scope.locals.now place) (rw before at is) in
    record { typed = λ set. (value, at, (refl, refl)); goes_on = λ disallowed is. cc; allowed = allowed }

pub global_settler : (scope : Scope) (labels : List (List ValType)) (value : ValType) (place : ℕ)
    → nat_lt place (local_count (bare scope)) ≡ false → is_place_of (bare scope) value place ≡ true
    → IsAllowedIn scope (instr.GlobalSet (place - local_count (bare scope)))
    → IsSettler scope labels (value ∷ []) [] (instr.GlobalSet (place - local_count (bare scope)))
global_settler scope labels value place after is allowed =
    let (global, at, mutable, same) = global_same value (slice_get scope.globals.now (place - local_count (bare scope))) (rw after at is) in
    record {
      typed = λ set. (global, at, mutable, (ap (λ (value : ValType). value ∷ []) (sym same), refl));
      goes_on = λ disallowed is. cc;
      allowed = allowed;
    }

-- what stores values at a place
pub stores_local : (config : Config) (context : BodyContext) (place : ℕ) → nat_lt place (local_count context) ≡ true
    → is_permitted context.features config (instr.LocalSet place) ≡ true → storing config context place ≡ Some (settlings.Local place)
stores_local config context place before allowed = rw (before, allowed) refl

pub no_local : (config : Config) (context : BodyContext) (place : ℕ) → nat_lt place (local_count context) ≡ true
    → is_permitted context.features config (instr.LocalSet place) ≡ false → storing config context place ≡ None
no_local config context place before forbidden = rw (before, forbidden) refl

pub stores_global : (config : Config) (context : BodyContext) (place : ℕ) → nat_lt place (local_count context) ≡ false
    → is_permitted context.features config (instr.GlobalSet (place - local_count context)) ≡ true
    → storing config context place ≡ Some (settlings.Global (place - local_count context))
stores_global config context place after allowed = rw (after, allowed) refl

pub no_global : (config : Config) (context : BodyContext) (place : ℕ) → nat_lt place (local_count context) ≡ false
    → is_permitted context.features config (instr.GlobalSet (place - local_count context)) ≡ false → storing config context place ≡ None
no_global config context place after forbidden = rw (after, forbidden) refl

-- a branch to a label without values
bare_same : (o : Option (List ValType)) → is_bare o ≡ true → o ≡ Some []
bare_same (Some []) is = refl
bare_same (Some (value ∷ values)) is = cc
bare_same None is = cc

pub bare_label : (labels : List (List ValType)) (label : ℕ) → is_bare_label labels label ≡ true → slice_get labels label ≡ Some []
bare_label labels label is = bare_same (slice_get labels label) is

pub branch_settler : (scope : Scope) (labels : List (List ValType)) (label : ℕ) → slice_get labels label ≡ Some []
    → IsAllowedIn scope (instr.BrIf label) → IsSettler scope labels (I32 ∷ []) [] (instr.BrIf label)
branch_settler scope labels label at allowed =
    record { typed = λ set. ([], at, (refl, refl)); goes_on = λ disallowed is. cc; allowed = allowed }

-- a test that takes exactly the value
this_test : (scope : Scope) (labels : List (List ValType)) (value : ValType) (test other : Instr) → Some other ≡ Some test
    → ((set : List ℕ) → HasInstrType (context_of scope labels) set other (value ∷ []) (I32 ∷ [])) → IsNoStop scope.config.now other
    → sets other ≡ [] → IsAllowedIn scope test → IsSettler scope labels (value ∷ []) (I32 ∷ []) test × (sets test ≡ [])
this_test scope labels value test other some typed goes_on none allowed =
    let same = same_Some other test some in
    subst (λ (test : Instr). IsSettler scope labels (value ∷ []) (I32 ∷ []) test × (sets test ≡ [])) same
    (record { typed = typed; goes_on = goes_on; allowed = subst (IsAllowedIn scope) (sym same) allowed }, none)

no_test : (test : Instr) → None ≡ Some test → ⊥
no_test test none = cc

reference_test : (scope : Scope) (labels : List (List ValType)) (wanted : RefType) (test : Instr) (nullable : Bool)
    → wanted.nullable ≡ nullable
    → IsValid (bare scope) (Ref wanted) → test_of (Ref wanted) ≡ Some test → IsAllowedIn scope test
    → IsSettler scope labels (Ref wanted ∷ []) (I32 ∷ []) test × (sets test ≡ [])
reference_test scope labels wanted test true is valid tests allowed =
    let value : Ref wanted ∷ [] ≡ Ref (record { nullable = true; heap_type = wanted.heap_type }) ∷ [] =
    ap (λ (nullable : Bool). Ref (record { nullable = nullable; heap_type = wanted.heap_type }) ∷ []) is in
    this_test scope labels (Ref wanted) test (instr.Reference reference.IsNull) (rw is at tests)
    (λ set. (wanted.heap_type, valid.1.heap_type, (value, refl))) (λ disallowed is. cc) refl allowed
reference_test scope labels wanted test false is valid tests allowed = let none : None ≡ Some test = rw is at tests in absurd (no_test
    test none)

pub test_settler : (scope : Scope) (labels : List (List ValType)) (value : ValType) (test : Instr) → IsValid (bare scope) value
    → test_of value ≡ Some test → IsAllowedIn scope test → IsSettler scope labels (value ∷ []) (I32 ∷ []) test × (sets test ≡ [])
test_settler scope labels I32 test valid is allowed =
    this_test scope labels I32 test (instr.Numeric numeric.I32Eqz) is (λ set. (refl, refl)) (λ disallowed is. cc) refl allowed
test_settler scope labels I64 test valid is allowed =
    this_test scope labels I64 test (instr.Numeric numeric.I64Eqz) is (λ set. (refl, refl)) (λ disallowed is. cc) refl allowed
test_settler scope labels F32 test valid is allowed =
    this_test scope labels F32 test (instr.Numeric (numeric.Saturate saturating.I32TruncSatF32U)) is (λ set. (refl, refl))
    (λ disallowed is. cc) refl allowed
test_settler scope labels F64 test valid is allowed =
    this_test scope labels F64 test (instr.Numeric (numeric.Saturate saturating.I32TruncSatF64U)) is (λ set. (refl, refl))
    (λ disallowed is. cc) refl allowed
test_settler scope labels V128 test valid is allowed =
    this_test scope labels V128 test (instr.Vector (vector.AllTrue shape.I8x16)) is (λ set. (refl, refl)) (λ disallowed is. cc) refl allowed
test_settler scope labels (Ref wanted) test valid is allowed = reference_test scope labels wanted test wanted.nullable refl valid is allowed

-- what settles a value
pub settling_stored : (config : Config) (context : BodyContext) (value : ValType) (bytes left : List ℕ) (stored : Settling)
    → place_at config context value bytes ≡ (Some stored, left) → settling_at config context value bytes ≡ (stored, left)
unfolding settling_at
settling_stored config context value bytes left stored is =
    ap (λ (place : Option Settling × List ℕ). else_tested config context value place.0 place.1) is

settling_else : (config : Config) (context : BodyContext) (value : ValType) (bytes left rest : List ℕ) (tested : Option Settling)
    → place_at config context value bytes ≡ (None, left) → test_at config context value left ≡ (tested, rest)
    → settling_at config context value bytes ≡ (unwrap_or tested settlings.Dropped, rest)
unfolding settling_at
settling_else config context value bytes left rest tested is next =
    ap (λ (place : Option Settling × List ℕ). else_tested config context value place.0 place.1) is
    ∙ ap (λ (test : Option Settling × List ℕ). (unwrap_or test.0 settlings.Dropped, test.1)) next

pub settling_tested : (config : Config) (context : BodyContext) (value : ValType) (bytes left rest : List ℕ) (tested : Settling)
    → place_at config context value bytes ≡ (None, left) → test_at config context value left ≡ (Some tested, rest)
    → settling_at config context value bytes ≡ (tested, rest)
settling_tested config context value bytes left rest tested is next = settling_else config context value bytes left rest (Some tested) is
    next

pub settling_dropped : (config : Config) (context : BodyContext) (value : ValType) (bytes left rest : List ℕ)
    → place_at config context value bytes ≡ (None, left) → test_at config context value left ≡ (None, rest)
    → settling_at config context value bytes ≡ (settlings.Dropped, rest)
settling_dropped config context value bytes left rest is next = settling_else config context value bytes left rest None is next

pub ok_four : {T E P Q R S U : Type 0} (r : Result T E) → (P → Q → R → S → U) → OnOk r P → OnOk r Q → OnOk r R → OnOk r S → OnOk r U
ok_four (Ok x) f p q r s = f p q r s
ok_four (Err e) f p q r s = tt

pub settled_state : (scope : Scope) (value : ValType) (settling chosen : Settling) (old new : Draft) (bytes left : List ℕ)
    → settling_at scope.config.now (where_stands scope old) value bytes ≡ (chosen, left) → chosen ≡ settling
    → new.out ≡ old.out ++ instructions_of settling → new.set.items ≡ old.set.items ++ set_by settling
    → new.labels.items ≡ old.labels.items → new.budget ≡ old.budget
    → settled scope.config.now value (state_of scope old bytes) ≡ state_of scope new left
unfolding settled
settled_state scope value settling chosen old new bytes left drawn same out set labels budget =
    rw (drawn, same)
    (state_is scope new old.labels.items (old.out ++ instructions_of settling) (old.set.items ++ set_by settling) old.budget left labels
    out set
    budget)

-- an instruction that takes a value, and one that takes what a test makes of it
pub stored_drawn : {scope : Scope} {old new : Draft} (value : ValType) (instruction : Instr) (set : Option ℕ)
    → IsSettler scope old.labels.items (value ∷ []) [] instruction → sets instruction ≡ option_to_list set
    → IsWritten instruction set old new → IsDrawn scope (value ∷ []) [] 1 old new
stored_drawn {scope = scope} {old = old} value instruction set settler local written =
    written_drawn instruction (value ∷ []) [] [] set (settler.typed old.set.items) tt (no_valid (bare scope)) settler.allowed
    settler.goes_on local
    written

two_wide : (types : List SubType) → 1 ≤ widest_struct types
unfolding widest_struct
two_wide [] = omega arith
two_wide (t ∷ types) = let rest = two_wide types in omega arith

at_least_two : (on : Bool) (w : ℕ) → 1 ≤ w → 2 ≤ (if on then 1 + w else 2)
at_least_two true w wide = omega arith
at_least_two false w wide = omega arith

two_longest : (config : Config) (types : List SubType) → 2 ≤ longest_leaf config types
unfolding longest_leaf
two_longest config types = at_least_two config.disallow_traps (widest_struct types) (two_wide types)

pub tested_drawn : {scope : Scope} {old new : Draft} (value : ValType) (test : Instr) (label : ℕ)
    → IsSettler scope old.labels.items (value ∷ []) (I32 ∷ []) test → sets test ≡ []
    → IsSettler scope old.labels.items (I32 ∷ []) [] (instr.BrIf label) → new.out ≡ old.out ++ test ∷ instr.BrIf label ∷ []
    → new.set.items ≡ old.set.items → new.labels.items ≡ old.labels.items → new.budget ≡ old.budget
    → IsDrawn scope (value ∷ []) [] 1 old new
tested_drawn {scope = scope} {old = old} {new = new} value test label tester none branch out set labels budget =
    let middle : Draft = record old { out = old.out ++ test ∷ [] } in
    let first : IsWritten test None old middle = record {
      out = refl;
      set_more = sym (append-nil old.set.items);
      same = refl;
      budget =
          refl;
    } in
    let second : IsWritten (instr.BrIf label) None middle new = record {
      out = out ∙ sym (append_assoc old.out (test ∷ []) (instr.BrIf label ∷ []));
      set_more = set ∙ sym (append-nil old.set.items);
      same = labels;
      budget = budget;
    } in
    let tested : IsDrawn scope (value ∷ []) (I32 ∷ []) 1 old middle =
    written_drawn test (value ∷ []) (I32 ∷ []) (I32 ∷ []) None (tester.typed old.set.items) (IsValBelow-refl scope.types.now.types I32, tt)
    (one_valid (bare scope) I32 tt) tester.allowed tester.goes_on none first in
    let both = drawn_then tested (stored_drawn {old = middle} I32 (instr.BrIf label) None branch refl second) in
    let len : length new.out ≡ length old.out + 2 = rw out (simp length-append refl) in
    let few = two_longest scope.config.now scope.types.now.types in
    record {
      more = both.more;
      longer = both.longer;
      typed = both.typed;
      allowed = both.allowed;
      set = both.set;
      set_more = both.set_more;
      same = both.same;
      spent = both.spent;
      short = rw budget (omega arith);
    }

pub dropped_value : {scope : Scope} {old new : Draft} (value : ValType) → IsAllowedIn scope instr.Drop → IsWritten instr.Drop None old new
    → IsDrawn scope (value ∷ []) [] 1 old new
dropped_value {scope = scope} value allowed written =
    written_drawn instr.Drop (value ∷ []) [] [] None (value, (refl, refl)) tt (no_valid (bare scope)) allowed (λ disallowed is. cc) refl
    written

-- values, the last one first
pub last_settled : (config : Config) (values : List ValType) (place : ℕ) (d : ValType) (s t u : State) → place < length values
    → settled_all config (drop (length values - place) values) s ≡ t
    → settled config (get_or values (length values - 1 - place) d) t ≡ u
    → settled_all config (drop (length values - (place + 1)) values) s ≡ u
last_settled config values place d s t u inside before is =
    let at : length values - (place + 1) ≡ length values - 1 - place = omega arith in
    let below : length values - 1 - place < length values = omega arith in
    let next : suc (length values - 1 - place) ≡ length values - place = omega arith in
    let first : drop (length values - 1 - place) values ≡ get_or values (length values - 1 - place) d ∷ drop (length values - place)
    values =
    drop-cons values (length values - 1 - place) d below ∙ ap (λ (n : ℕ). get_or values (length values - 1 - place) d ∷ drop n values)
    next in
    rw (at, first) (ap (λ (s : State). settled config (get_or values (length values - 1 - place) d) s) before ∙ is)

pub last_drawn : {scope : Scope} {old middle new : Draft} (values : List ValType) (place : ℕ) (d : ValType) → place < length values
    → AreValid (bare scope) values → IsDrawn scope values (take (length values - place) values) place old middle
    → IsDrawn scope (get_or values (length values - 1 - place) d ∷ []) [] 1 middle new
    → IsDrawn scope values (take (length values - (place + 1)) values) (place + 1) old new
last_drawn {scope = scope} values place d inside valid before one =
    let at : length values - (place + 1) ≡ length values - 1 - place = omega arith in
    let below : length values - 1 - place < length values = omega arith in
    let next : length values - place ≡ length values - 1 - place + 1 = omega arith in
    let split : take (length values - place) values
    ≡ take (length values - 1 - place) values ++ get_or values (length values - 1 - place) d ∷ [] =
    ap (λ (n : ℕ). take n values) next ∙ take_more values (length values - 1 - place) d below in
    let above = drawn_above (take (length values - 1 - place) values) (All-take (IsValid (bare scope)) (length values - 1 - place) values
    valid)
    one in
    rw at (drawn_then (rw split at before) (rw append-nil at above))

pub none_settled : (config : Config) (values : List ValType) (s : State) → settled_all config (drop (length values - 0) values) s ≡ s
none_settled config values s = let none : drop (length values - 0) values ≡ [] = drop_all (length values - 0) values (omega arith) in rw
    none refl

pub none_drawn : (scope : Scope) (draft : Draft) (values : List ValType) → AreValid (bare scope) values
    → IsDrawn scope values (take (length values - 0) values) 0 draft draft
none_drawn scope draft values valid =
    let all : take (length values - 0) values ≡ values = take_all (length values - 0) values (omega arith) in
    rw all (rw append-nil at (drawn_above values valid (drawn_none scope draft)))

-- all values are settled
pub all_settled : (config : Config) (values : List ValType) (place : ℕ) (s t : State) → length values ≤ place
    → settled_all config (drop (length values - place) values) s ≡ t → settled_all config values s ≡ t
all_settled config values place s t past is = let none : length values - place ≡ 0 = omega arith in rw none at is

pub first_settled : {scope : Scope} {old new : Draft} (values : List ValType) (place : ℕ) → place ≡ length values
    → IsDrawn scope values (take (length values - place) values) place old new → IsDrawn scope values [] (length values) old new
first_settled values place past drawn =
    let none : length values - place ≡ 0 = omega arith in
    rw past at (rw none at drawn)
