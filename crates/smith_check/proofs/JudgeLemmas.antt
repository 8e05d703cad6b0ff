-- What a judge of functions says.
use Rattle.smith_check.proofs.Common.{all_right, ap, AreTypesValid, arith, canonical_groups, canonical_index, features_in, FuncType, get_or}
use Rattle.smith_check.proofs.Common.{IfOk, inl, inr, Instr, IsBodyTyped, IsFuncAt, length, List, LocalRun, map, MatchOption, Option, refl}
use Rattle.smith_check.proofs.Common.{renamed_val, same_Some, slice_get, Some, space_of, subst, SubType, sym, syntax_of, total, types_in}
use Rattle.smith_check.proofs.Common.{ValType, ℕ, ◌++◌, ◌+◌, ◌<◌, ◌∙◌, ◌≡◌, ◌≤◌}
use Rattle.std.proofs.Common.{Bor, Err, None, Ok, Result}
use Rattle.std.proofs.Common.{below_more}
use Rattle.std.specs.Prelude.{All}
use Rattle.std.proofs.Math.ListN.{get_or-map}
use Rattle.std.proofs.lemmas.List.{length-append, length-map}
use Rattle.std.proofs.lemmas.Option.{slice_get-get_or, slice_get-map, slice_get_read, slice_get_within}
use Rattle.std.specs.Option.{option_map}
use Rattle.smith_types.specs.Entities.{IsFuncTypeIndex}
use Rattle.smith_types.specs.Imports.{imported_spaces}
use Rattle.smith_types.specs.GroupedTypes.{GroupedTypes}
use Rattle.smith_decode.specs.BodyReadings.{body_view}
use Rattle.smith_decode.specs.declared.bodies.Body.{Body}
use Rattle.smith_check_operands.proofs.StepLemmas.{all_at}
use Rattle.smith_check_operands.specs.Lookups.{HasNoFunc}
use Rattle.smith_check_types.proofs.CheckLemmas.{section_valid}
use Rattle.smith_check_body.specs.Verdicts.{IsRefused}
use Rattle.smith_bytes.specs.declared.error.Error.{Error}
use Rattle.smith_explain.specs.Causes.{IsExplanation, IsUnreached}
use Rattle.smith_explain.specs.declared.explanation.Explanation.{Explanation}
use Rattle.smith_check.specs.Explanations.{IsExplained}
use Rattle.smith_check.specs.Faults.{AreTypesRight, IsBodyRefused, IsJudgement, IsRightBefore, most_locals}
use Rattle.smith_check.specs.FunctionJudges.{AreLocalsRight, AreRightBefore, HasPartsAt, HasTypeAt, IsFunctionJudge, IsRightAt}
use Rattle.smith_check.specs.FunctionJudges.{body_in, context_in, locals_in}
use Rattle.smith_check.specs.Locals.{IsFirstWrongRun, IsRunRight}
use Rattle.smith_check.specs.ValidPrograms.{AreValuesValid, IsFunctionAt, IsValidProgram}
use Rattle.smith_check.specs.declared.functions.FunctionJudge.{FunctionJudge}
use Rattle.smith_check.specs.declared.judgement.Fault.TheVariants as fault
use Rattle.smith_check.specs.declared.judgement.Judgement.TheVariants as judgement
use Rattle.smith_check.specs.declared.judgement.Unjudged.TheVariants as unjudged
use Rattle.smith_check.proofs.FunctionLemmas.{function_wrong, program_valid, refused_wrong, type_inside, unpaired_wrong}
use Rattle.smith_check.proofs.LocalLemmas.{length-locals_by, locals_from_runs, wrong_run}

-- the types of a judge
pub judge_types : (judge : FunctionJudge) → IsFunctionJudge judge
    → AreTypesValid (features_in judge.features) (space_of (canonical_groups judge.types.now.indices judge.module.now.types))
judge_types judge j =
    section_valid (features_in judge.features) judge.module.now.types judge.types.now.indices j.types.canonical j.types.valid

pub same_types : (judge : FunctionJudge) → IsFunctionJudge judge
    → judge.types.now.space.types ≡ types_in judge.types.now.indices (syntax_of judge.module.now)
same_types judge j = ap (λ (space : GroupedTypes). space.types) j.types.space

right_types : (judge : FunctionJudge) → IsFunctionJudge judge
    → AreTypesRight (features_in judge.features) judge.types.now.indices (syntax_of judge.module.now)
right_types judge j = record { supertypes = j.supertypes; canonical = j.types.canonical; valid = j.types.valid }

right_before : (judge : FunctionJudge) (place : ℕ) → IsFunctionJudge judge → AreRightBefore judge place
    → IsRightBefore (features_in judge.features) judge.types.now.indices (syntax_of judge.module.now) place
right_before judge place j before = record { types = right_types judge j; sections = j.sections; functions = before.each }

bodies_counted : (judge : FunctionJudge) → length (syntax_of judge.module.now).bodies ≡ length judge.module.now.bodies
bodies_counted judge = length-map judge.module.now.bodies body_view

body_viewed : (judge : FunctionJudge) (place : ℕ) (body : Body) → slice_get judge.module.now.bodies place ≡ Some body
    → slice_get (syntax_of judge.module.now).bodies place ≡ Some (body_view body)
body_viewed judge place body held = slice_get-map body_view judge.module.now.bodies place ∙ ap (option_map body_view) held

body_inside : (judge : FunctionJudge) (place : ℕ) (body : Body) → slice_get judge.module.now.bodies place ≡ Some body
    → place < length (syntax_of judge.module.now).bodies
body_inside judge place body held =
    slice_get_within (syntax_of judge.module.now).bodies place (body_view body) (body_viewed judge place body held)

pub type_in_module : (judge : FunctionJudge) (place : ℕ) (function : FuncType) → IsFunctionJudge judge
    → (typed : HasTypeAt judge place function)
    → IsFuncAt (types_in judge.types.now.indices (syntax_of judge.module.now)) (canonical_index judge.types.now.indices typed.index)
    function
type_in_module judge place function j typed =
    subst (λ (types : List SubType). IsFuncAt types (canonical_index judge.types.now.indices typed.index) function) (same_types judge j)
    typed.typed

-- the type of a function, as it is found by its canonical index
all_from_map : {A B : Type 0} (P : B → Type 0) (f : A → B) (xs : List A) → All P (map f xs) → All (λ (x : A). P (f x)) xs
all_from_map P f xs all = λ k d inside.
    let long = length-map xs f in subst P (get_or-map f xs k d) (all k (f d) (omega (arith, long, inside)))

functions_typed : (judge : FunctionJudge) → IsFunctionJudge judge
    → All (λ (index : ℕ). IsFuncTypeIndex (types_in judge.types.now.indices (syntax_of judge.module.now))
    (canonical_index judge.types.now.indices index)) judge.module.now.functions
functions_typed judge j =
    let indices = judge.types.now.indices in
    let m = syntax_of judge.module.now in
    let P : ℕ → Type 0 = λ index. IsFuncTypeIndex (types_in indices m) (canonical_index indices index) in
    all_right P (imported_spaces m.imports).funcs m.functions
    (all_from_map (IsFuncTypeIndex (types_in indices m)) (canonical_index indices) ((imported_spaces m.imports).funcs ++ m.functions)
    j.sections.entities.funcs)

module _ (judge : FunctionJudge) (place : ℕ) (functions indices : List ℕ) (types : List SubType) (canonical : ℕ) (j : IsFunctionJudge judge)
    (same : functions ≡ judge.module.now.functions) (renamed : indices ≡ judge.types.now.indices)
    (typed : types ≡ judge.types.now.space.types) (inside : place < length functions)
    (is : canonical ≡ canonical_index indices (get_or functions place 0)) where
  index_there : slice_get judge.module.now.functions place ≡ Some (get_or functions place 0)
  index_there = ap (λ (fs : List ℕ). slice_get fs place) (sym same) ∙ slice_get-get_or functions place 0 inside

  canonical_is : canonical ≡ canonical_index judge.types.now.indices (get_or functions place 0)
  canonical_is = is ∙ ap (λ (l : List ℕ). canonical_index l (get_or functions place 0)) renamed

  pub found_type : (result : Option (Bor FuncType))
      → MatchOption result (HasNoFunc types canonical) (λ function. IsFuncAt types canonical function.now)
      → MatchOption result (length judge.module.now.functions ≤ place) (λ function. HasTypeAt judge place function.now)
  found_type None none =
      let (function, at) = all_at (λ (index : ℕ). IsFuncTypeIndex (types_in judge.types.now.indices (syntax_of judge.module.now))
      (canonical_index judge.types.now.indices index)) judge.module.now.functions place (get_or functions place 0) (functions_typed judge j)
      index_there in
      absurd (none function (subst (λ (ts : List SubType). IsFuncAt ts canonical function) (sym (typed ∙ same_types judge j))
      (subst (λ (n : ℕ). IsFuncAt (types_in judge.types.now.indices (syntax_of judge.module.now)) n function) (sym canonical_is) at)))
  found_type (Some function) at = record {
    index = get_or functions place 0;
    there = index_there;
    typed = subst (λ (n : ℕ). IsFuncAt judge.types.now.space.types n function.now) canonical_is
        (subst (λ (ts : List SubType). IsFuncAt ts canonical function.now) typed at);
  }

-- a body, as it is read
pub body_read : (bodies slice : List Body) (place : ℕ) (body : Body) → slice ≡ bodies → place < length bodies
    → body ≡ get_or slice place body → slice_get bodies place ≡ Some body
body_read bodies slice place body same inside read =
    slice_get_read bodies (length bodies) place body refl inside (read ∙ ap (λ (bs : List Body). get_or bs place body) same)

pub function_at : (judge : FunctionJudge) (place : ℕ) (function : FuncType) (body : Body) → IsFunctionJudge judge
    → HasPartsAt judge place function body
    → IsFunctionAt judge.types.now.indices (syntax_of judge.module.now) place function (locals_in judge body) (body_in judge body)
function_at judge place function body j parts = record {
  index = parts.typed.index;
  typed_by = parts.typed.there;
  typed = type_in_module judge place function j parts.typed;
  code = body_view body;
  held = body_viewed judge place body parts.held;
  locals_are = refl;
  body_is = refl;
}

-- what is said of a body is said of its module
pub explained : (judge : FunctionJudge) (place at : ℕ) → IsFunctionJudge judge → (function : FuncType) (body : Body)
    → HasPartsAt judge place function body → (found : Result (Option Explanation) Error)
    → IfOk found (λ said. MatchOption said (IsUnreached (context_in judge function body) (body_in judge body) at)
    (IsExplanation (context_in judge function body) (body_in judge body) at))
    → IfOk found (λ said. MatchOption said (Unit {0})
    (IsExplained (features_in judge.features) (syntax_of judge.module.now) place at))
explained judge place at j function body parts (Ok (Some one)) said = (
  judge.types.now.indices,
  right_types judge j,
  record {
    function = function;
    locals = locals_in judge body;
    body = body_in judge body;
    there = function_at judge place function body j parts;
    explained = said;
  },
)
explained judge place at j function body parts (Ok None) said = tt
explained judge place at j function body parts (Err e) said = tt

module _ (judge : FunctionJudge) (place : ℕ) (j : IsFunctionJudge judge) where
  pub typed_right : (function : FuncType) (body : Body) → HasPartsAt judge place function body → AreLocalsRight judge body
      → IsBodyTyped (context_in judge function body) (body_in judge body) → IsRightAt judge place
  typed_right function body parts locals typed = record {
    function = function;
    locals = locals_in judge body;
    body = body_in judge body;
    there = function_at judge place function body j parts;
    locals_valid = locals;
    body_typed = typed;
  }

  module _ (before : AreRightBefore judge place) where
    pub refused_judgement : (function : FuncType) (body : Body) (at : ℕ) → HasPartsAt judge place function body → AreLocalsRight judge body
        → IsRefused (context_in judge function body) (body_in judge body) at
        → IsJudgement (features_in judge.features) judge.module.now (judgement.Invalid (fault.Body place at))
    refused_judgement function body at parts locals refused =
        let features = features_in judge.features in
        let indices = judge.types.now.indices in
        let m = syntax_of judge.module.now in
        let wrong : IsBodyRefused features indices m place at = record {
          function = function;
          locals = locals_in judge body;
          body = body_in judge body;
          there = function_at judge place function body j parts;
          locals_valid = locals;
          refused = refused;
        } in (
          function_wrong features indices m (right_types judge j) place (body_inside judge place body parts.held)
              (refused_wrong features indices m place at wrong),
          (indices, right_before judge place j before, inl wrong),
        )

    pub many_judgement : (function : FuncType) (body : Body) → HasPartsAt judge place function body
        → (length function.params + total body.locals ≤ most_locals → ⊥)
        → IsJudgement (features_in judge.features) judge.module.now (judgement.NotJudged (unjudged.Locals place))
    many_judgement function body parts many = record {
      indices = judge.types.now.indices;
      before = right_before judge place j before;
      function = function;
      locals = locals_in judge body;
      body = body_in judge body;
      there = function_at judge place function body j parts;
      many =
          let both = length-append function.params (locals_in judge body) in
          let own = length-locals_by judge.types.now.indices body.locals in
          omega (arith, both, own, many);
    }

    local_judgement : (body : Body) (end run : ℕ) → slice_get judge.module.now.bodies place ≡ Some body
        → end ≡ length (types_in judge.types.now.indices (syntax_of judge.module.now))
        → IsFirstWrongRun (features_in judge.features) end judge.types.now.indices body.locals run
        → IsJudgement (features_in judge.features) judge.module.now (judgement.Invalid (fault.Local place run))
    local_judgement body end run held long first =
        let features = features_in judge.features in
        let indices = judge.types.now.indices in
        let m = syntax_of judge.module.now in
        let here : IsFirstWrongRun features (length (types_in indices m)) indices body.locals run =
        subst (λ (n : ℕ). IsFirstWrongRun features n indices body.locals run) long first in (
          function_wrong features indices m (right_types judge j) place (body_inside judge place body held) (λ valid.
              let code : valid.there.code ≡ body_view body = same_Some valid.there.code (body_view body)
              (sym valid.there.held ∙ body_viewed judge place body held) in
              let locals : valid.locals ≡ locals_in judge body = valid.there.locals_are
              ∙ ap (λ (c : List ValType × List Instr). map (renamed_val (canonical_index indices)) c.0) code in
              wrong_run features (length (types_in indices m)) indices body.locals run here
              (subst (λ (ls : List ValType). AreValuesValid features indices m ls) locals valid.locals_valid)),
          (indices, right_before judge place j before, record { code = body; there = held; first = here }),
        )

    -- the type of a function is missing
    pub untyped_judgement : place < length judge.module.now.bodies → length judge.module.now.functions ≤ place
        → IsJudgement (features_in judge.features) judge.module.now (judgement.Invalid (fault.Body place 0))
    untyped_judgement inside past =
        let features = features_in judge.features in
        let indices = judge.types.now.indices in
        let m = syntax_of judge.module.now in
        let none : length m.functions < place → ⊥ = λ low.
        let own = type_inside features indices m (length m.functions) (before.each (length m.functions) low) in omega (arith, own) in
        let at : place ≡ length m.functions = omega (arith, past, none) in
        let held : place < length m.bodies = let same = bodies_counted judge in omega (arith, same, inside) in (
          unpaired_wrong features indices m place (inl (at, held)),
          (indices, right_before judge place j before, inr (refl, inl (at, held))),
        )

    -- the body of a function is missing
    pub missing_judgement : place ≡ length judge.module.now.bodies → place < length judge.module.now.functions
        → IsJudgement (features_in judge.features) judge.module.now (judgement.Invalid (fault.Body place 0))
    missing_judgement at inside =
        let features = features_in judge.features in
        let indices = judge.types.now.indices in
        let m = syntax_of judge.module.now in
        let last : place ≡ length m.bodies = at ∙ sym (bodies_counted judge) in (
          unpaired_wrong features indices m place (inr (last, inside)),
          (indices, right_before judge place j before, inr (refl, inr (last, inside))),
        )

-- runs of locals that are judged
module _ (judge : FunctionJudge) (j : IsFunctionJudge judge) (body : Body) (types : List SubType) (indices : List ℕ) (runs : List LocalRun)
    (typed : types ≡ judge.types.now.space.types) (renamed : indices ≡ judge.types.now.indices) (are : runs ≡ body.locals) where
  types_counted : length types ≡ length (types_in judge.types.now.indices (syntax_of judge.module.now))
  types_counted = ap (λ (ts : List SubType). length ts) (typed ∙ same_types judge j)

  pub rights_valid : All (IsRunRight (features_in judge.features) (length types) indices) runs → AreLocalsRight judge body
  rights_valid all =
      locals_from_runs (features_in judge.features) (length (types_in judge.types.now.indices (syntax_of judge.module.now)))
      judge.types.now.indices body.locals
      (subst (λ (rs : List LocalRun). All (IsRunRight (features_in judge.features)
      (length (types_in judge.types.now.indices (syntax_of judge.module.now))) judge.types.now.indices) rs) are
      (subst (λ (l : List ℕ). All (IsRunRight (features_in judge.features)
      (length (types_in judge.types.now.indices (syntax_of judge.module.now))) l) runs) renamed
      (subst (λ (n : ℕ). All (IsRunRight (features_in judge.features) n indices) runs) types_counted all)))

  pub wrong_judgement : (place run : ℕ) → AreRightBefore judge place → slice_get judge.module.now.bodies place ≡ Some body
      → IsFirstWrongRun (features_in judge.features) (length types) indices runs run
      → IsJudgement (features_in judge.features) judge.module.now (judgement.Invalid (fault.Local place run))
  wrong_judgement place run before held first =
      local_judgement judge place j before body (length types) run held types_counted
      (subst (λ (rs : List LocalRun). IsFirstWrongRun (features_in judge.features) (length types) judge.types.now.indices rs run) are
      (subst (λ (l : List ℕ). IsFirstWrongRun (features_in judge.features) (length types) l runs run) renamed first))

pub one_more : (judge : FunctionJudge) (place : ℕ) → AreRightBefore judge place → IsRightAt judge place → AreRightBefore judge (place + 1)
one_more judge place before here = record { each = below_more (IsRightAt judge) place before.each here }

-- all functions are valid
pub whole_valid : (judge : FunctionJudge) → IsFunctionJudge judge → AreRightBefore judge (length judge.module.now.bodies)
    → (length judge.module.now.bodies < length judge.module.now.functions → ⊥)
    → IsValidProgram (features_in judge.features) (syntax_of judge.module.now)
whole_valid judge j before no_more =
    let features = features_in judge.features in
    let indices = judge.types.now.indices in
    let m = syntax_of judge.module.now in
    let none : length m.functions < length judge.module.now.bodies → ⊥ = λ low.
    let own = type_inside features indices m (length m.functions) (before.each (length m.functions) low) in omega (arith, own) in
    let same : length m.functions ≡ length m.bodies = let count = bodies_counted judge in omega (arith, count, none, no_more) in
    program_valid features indices m (right_types judge j) j.sections same
    (λ place inside. before.each place (let count = bodies_counted judge in omega (arith, count, same, inside)))
