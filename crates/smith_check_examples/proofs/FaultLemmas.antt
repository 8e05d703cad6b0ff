-- First faults of the examples.
use Rattle.std.proofs.Common.{◌≡◌, ◌∙◌, ◌<◌, ◌++◌, ℕ, zero, suc, List, [], ◌∷◌, length, length-append}
use Rattle.std.proofs.Common.{ap, arith, inl, inr, refl, sym, subst}
use Rattle.std.specs.Prelude.{drop, map, replicate}
use Rattle.std.specs.List.{All}
use Rattle.std.proofs.lemmas.List.{length-map}
use Rattle.std.proofs.lemmas.List.Elements.{All-cons, All-head, All-nil}
use Rattle.std.proofs.lemmas.Option.{same_Some}
use Rattle.smith_types.specs.Syntax.composite_type.FuncType.{FuncType}
use Rattle.smith_types.specs.Syntax.value_type.ValType.{ValType}
use Rattle.smith_types.specs.Syntax.value_type.ValType.TheVariants.{I32}
use Rattle.smith_types.specs.ExampleFeatures.{usual_features}
use Rattle.smith_instr.specs.declared.instr.Instr.{Instr}
use Rattle.smith_instr.specs.declared.instr.Instr.TheVariants as instr
use Rattle.smith_decode.specs.declared.bodies.Body.{Body}
use Rattle.smith_check.specs.Locals.{IsFirstWrongRun}
use Rattle.smith_decode.specs.Modules.{Syntax, syntax_of}
use Rattle.smith_check_types.specs.Renamed.{renamed_val}
use Rattle.smith_check_types.specs.TypeSections.{canonical_index}
use Rattle.smith_check_module.specs.Contexts.{context_in, spaces_in}
use Rattle.smith_check_module.specs.SectionFaults.{IsItemRight, parts}
use Rattle.smith_check_module.specs.declared.faults.Part.{Part}
use Rattle.smith_check_module.specs.declared.faults.Part.TheVariants as part
use Rattle.smith_check.specs.ExamplePrograms.{does_nothing}
use Rattle.smith_check.specs.Faults.{HasManyLocals, IsFirstFault}
use Rattle.smith_check.specs.declared.judgement.Fault.TheVariants as fault
use Rattle.smith_check.proofs.ExampleLemmas.{does_nothing_valid}
use Rattle.smith_check.proofs.GroupLemmas.{none_canonical, none_valid}
use Rattle.smith_check_examples.specs.ExampleModules.{below_final, of_runs, of_several_supertypes, starts_missing, three_runs, two_faults}
use Rattle.smith_check_examples.specs.ExampleModules.{with_body, without_body}
use Rattle.smith_check_examples.specs.ExampleSyntax.{with_locals}
use Rattle.smith_check_examples.proofs.BodyLemmas.{before_bodies, drop_not_refused_past, drop_refused, function_at, nothing_not_refused}
use Rattle.smith_check_examples.proofs.BodyLemmas.{own, renamed_locals}
use Rattle.smith_check_examples.proofs.LocalLemmas.{past_one, second_wrong, third_not_first}
use Rattle.smith_check_examples.proofs.TypeLemmas.{function_types, none_below_final, plain_at}

-- the items of a part of the module that starts with a missing function
abbrev missing : Syntax
missing = syntax_of starts_missing

abbrev Right : Part → Type 0
Right kind = (index : ℕ) → IsItemRight (context_in usual_features [] missing) [] (spaces_in [] missing) missing kind index

abbrev earlier_parts : List Part
earlier_parts =
    part.Tags ∷ part.Functions ∷ part.Tables ∷ part.Memories ∷ part.Globals ∷ part.TableInitials ∷ part.GlobalInitials ∷ part.Exports ∷ []

earlier_right : All Right earlier_parts
earlier_right =
    All-cons Right part.Tags (drop 1 earlier_parts) (λ index item at. absurd (cc at)) (
    All-cons Right part.Functions (drop 2 earlier_parts) (λ index item at. absurd (cc at)) (
    All-cons Right part.Tables (drop 3 earlier_parts) (λ index item at. absurd (cc at)) (
    All-cons Right part.Memories (drop 4 earlier_parts) (λ index item at. absurd (cc at)) (
    All-cons Right part.Globals (drop 5 earlier_parts) (λ index item at. absurd (cc at)) (
    All-cons Right part.TableInitials (drop 6 earlier_parts) (λ index item at. absurd (cc at)) (
    All-cons Right part.GlobalInitials (drop 7 earlier_parts) (λ index item at. absurd (cc at)) (
    All-cons Right part.Exports (drop 8 earlier_parts) (λ index item at. absurd (cc at)) (All-nil Right))))))))

pub start_first : IsFirstFault usual_features starts_missing (fault.Section (record { part = part.Start; index = 0 }))
start_first = (
  [],
  record { supertypes = refl; canonical = none_canonical; valid = none_valid usual_features },
  record {
    before = earlier_parts;
    after = part.Elements ∷ part.Datas ∷ [];
    order = refl;
    earlier = earlier_right;
    first = record {
      wrong = λ right. let (index, at, is) = right refl in cc at;
      before = λ other low. absurd (omega (arith, low));
    };
  },
)

-- a tag whose type is missing is wrong
tag_wrong : (indices : List ℕ)
    → IsItemRight (context_in usual_features indices (syntax_of two_faults)) indices (spaces_in indices (syntax_of two_faults))
    (syntax_of two_faults) part.Tags 0 → ⊥
tag_wrong indices right =
    let (valid, on) = right (canonical_index indices 0) refl in
    let (function, (t, at, is)) = valid in cc at

pub tag_first : IsFirstFault usual_features two_faults (fault.Section (record { part = part.Tags; index = 0 }))
tag_first = (
  [],
  record { supertypes = refl; canonical = none_canonical; valid = none_valid usual_features },
  record {
    before = [];
    after = _;
    order = refl;
    earlier = All-nil _;
    first = record { wrong = tag_wrong []; before = λ other low. absurd (omega (arith, low)) };
  },
)

-- all parts before functions are tags
tags_before : (P : Part → Type 0) (before after : List Part) → parts ≡ before ++ part.Functions ∷ after → All P before → P part.Tags
tags_before P [] after order each = absurd (cc order)
tags_before P (kind ∷ kinds) after order each =
    let same : kind ≡ part.Tags = cc order in subst P same (All-head P kind kinds each)

pub functions_not_first : IsFirstFault usual_features two_faults (fault.Section (record { part = part.Functions; index = 0 })) → ⊥
functions_not_first (indices, types, first) =
    let m = syntax_of two_faults in
    let context = context_in usual_features indices m in
    let P : Part → Type 0 = λ kind. (index : ℕ) → IsItemRight context indices (spaces_in indices m) m kind index in
    tag_wrong indices (tags_before P first.before first.after first.order first.earlier 0)

pub second_tag_not_first : IsFirstFault usual_features two_faults (fault.Section (record { part = part.Tags; index = 1 })) → ⊥
second_tag_not_first (indices, types, first) = first.first.wrong (λ item at. absurd (cc at))

-- types below final ones
pub types_first : IsFirstFault usual_features below_final (fault.Types 1)
types_first = record {
  before = record { supertypes = refl; valid = function_types };
  wrong = λ right. none_below_final right.valid.indices right.valid.valid;
}

pub first_type_not_first : IsFirstFault usual_features below_final (fault.Types 0) → ⊥
first_type_not_first wrong = wrong.wrong (record { supertypes = refl; valid = function_types })

pub several_first : IsFirstFault usual_features of_several_supertypes (fault.Types 0)
several_first = record {
  before = record { supertypes = refl; valid = none_valid usual_features };
  wrong = λ right. let several = right.supertypes in cc several;
}

pub section_not_first : IsFirstFault usual_features below_final (fault.Section (record { part = part.Start; index = 0 })) → ⊥
section_not_first (indices, types, first) = none_below_final types.valid.indices types.valid.valid

-- runs of locals
pub run_first : IsFirstFault usual_features (of_runs three_runs) (fault.Local 0 1)
run_first =
    let indices = does_nothing_valid.indices in (
      indices,
      before_bodies _,
      record {
        code = _;
        there = refl;
        first = second_wrong 1 indices (past_one indices does_nothing_valid.canonical.long);
      },
    )

pub run_not_first : IsFirstFault usual_features (of_runs three_runs) (fault.Local 0 2) → ⊥
run_not_first (indices, right, wrong) =
    let code = same_Some _ wrong.code wrong.there in
    third_not_first 1 indices (past_one indices right.types.canonical.long)
    (subst (λ (body : Body). IsFirstWrongRun usual_features 1 indices body.locals 2) (sym code) wrong.first)

-- bodies
pub drop_first : IsFirstFault usual_features (with_body (instr.Drop ∷ [])) (fault.Body 0 0)
drop_first = (does_nothing_valid.indices, before_bodies _, inl drop_refused)

pub past_drop_not_first : IsFirstFault usual_features (with_body (instr.Drop ∷ [])) (fault.Body 0 1) → ⊥
past_drop_not_first (indices, right, inl refused) = drop_not_refused_past indices refused
past_drop_not_first (indices, right, inr (first, missing)) = omega (arith, first)

pub no_instruction_not_first : IsFirstFault usual_features (with_body []) (fault.Body 0 0) → ⊥
no_instruction_not_first (indices, right, inl refused) = nothing_not_refused indices refused
no_instruction_not_first (indices, right, inr (first, inl (past, held))) = omega (arith, past)
no_instruction_not_first (indices, right, inr (first, inr (past, held))) = omega (arith, past)

pub missing_body_first : IsFirstFault usual_features without_body (fault.Body 0 0)
missing_body_first = (does_nothing_valid.indices, before_bodies [], inr (refl, inr (refl, omega arith)))

-- many locals
replicated : (count : ℕ) → length (replicate count I32) ≡ count
replicated zero = refl
replicated (suc count) = ap suc (replicated count)

pub many_locals : (count : ℕ) → 50000 < count → HasManyLocals usual_features (with_locals count) 0
many_locals count many =
    let all = replicate count I32 in
    record {
      indices = does_nothing_valid.indices;
      before = before_bodies _;
      function = own.function;
      locals = renamed_locals all;
      body = [];
      there = function_at all [];
      many = omega (
        arith,
        many,
        replicated count,
        length-map all (renamed_val (canonical_index does_nothing_valid.indices)),
        length-append own.function.params (renamed_locals all),
      );
    }

pub few_locals : HasManyLocals usual_features does_nothing 0 → ⊥
few_locals wrong =
    let code : ([], []) ≡ wrong.there.code = same_Some ([], []) wrong.there.code wrong.there.held in
    let locals = wrong.there.locals_are
    ∙ sym (ap (λ (c : List ValType × List Instr). map (renamed_val (canonical_index wrong.indices)) c.0) code) in
    let params = ap (λ (f : FuncType). f.params) (plain_at wrong.indices _ wrong.function wrong.there.typed) in
    omega (arith, wrong.many, ap length locals, ap length params, length-append wrong.function.params wrong.locals)
