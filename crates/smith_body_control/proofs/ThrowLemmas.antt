-- Throws of exceptions.
use Rattle.smith_body_control.proofs.Common.{[], All, ap, append-nil, AreValid, arith, below_themselves, BodyContext, both, func_there}
use Rattle.smith_body_control.proofs.Common.{func_wide, FuncType, get_or, indexed, IsFuncAt, IsNode, length, List, no_valid, node_of, None}
use Rattle.smith_body_control.proofs.Common.{one_valid, Option, range_at, refl, slice_get, Some, sym, true, ValType, ℕ, ◌-◌, ◌<◌, ◌∙◌, ◌∷◌}
use Rattle.smith_body_control.proofs.Common.{◌≡◌}
use Rattle.std.proofs.Common.{subst}
use Rattle.std.specs.Prelude.{option_map}
use Rattle.std.proofs.lemmas.Bool.{ne_eqb}
use Rattle.std.proofs.lemmas.Option.{same_Some, slice_get_within, get_or_from_slice_get}
use Rattle.smith_types.specs.Entities.{IsTagValid}
use Rattle.smith_types.specs.Syntax.composite_type.CompositeInnerType.TheVariants.{Func}
use Rattle.smith_types.specs.Syntax.composite_type.SubType.{SubType}
use Rattle.smith_instr.specs.Contexts.{IsTag, nullable_to}
use Rattle.smith_instr.specs.declared.instr.Instr.TheVariants as instr
use Rattle.smith_body_nodes.specs.Chosen.{giving}
use Rattle.smith_body_nodes.specs.Offered.{function_in}
use Rattle.smith_body_control.specs.ThrowChoices.{any_throw_at, exn, refers_to_exceptions, tag_at, tag_type_at, throw_at, throw_node}
use Rattle.smith_body_control.specs.ThrowChoices.{throw_ref_node}
use Rattle.smith_body_nodes.proofs.ChosenLemmas.{not_zero}
use Rattle.smith_body_nodes.proofs.PlainNodeLemmas.{plain_node}
use Rattle.smith_body_nodes.proofs.ReferenceChoiceLemmas.{nullable_valid}

-- the type of a tag
tag_option : (context : BodyContext) (tag : ℕ) (ty : FuncType) (o : Option ℕ) → slice_get context.tags tag ≡ o → function_in context.types o
    ≡ Some ty
    → (index : ℕ) × (slice_get context.tags tag ≡ Some index) × IsFuncAt context.types index ty
tag_option context tag ty (Some index) at is = (index, at, func_there context.types index ty is)
tag_option context tag ty None at is = cc

pub tag_there : (context : BodyContext) (tag : ℕ) (ty : FuncType) → tag_type_at context tag ≡ Some ty → (index : ℕ)
    × (slice_get context.tags tag ≡ Some index) × IsFuncAt context.types index ty
tag_there context tag ty is = tag_option context tag ty (slice_get context.tags tag) refl is

same_func : (types : List SubType) (index : ℕ) (one other : FuncType) → IsFuncAt types index one → IsFuncAt types index other → one ≡ other
same_func types index one other (t, at, is) (t', at', is') =
    let same : t ≡ t' = same_Some t t' (sym at ∙ at') in
    let functions : Func one ≡ Func other = sym is ∙ (ap (λ (t : SubType). t.composite_type.inner) same ∙ is') in
    cc

-- the type of a tag has no results
pub tag_is : (context : BodyContext) (tag : ℕ) (ty : FuncType) → All (IsTagValid context.types) context.tags → tag_type_at context tag
    ≡ Some ty → IsTag context tag ty.params
tag_is context tag ty valid is =
    let (index, at, there) = tag_there context tag ty is in
    let is_valid : IsTagValid context.types (get_or context.tags tag 0) = valid tag 0 (slice_get_within context.tags tag index at) in
    let (other, other_there, none) = rw (get_or_from_slice_get context.tags tag index 0 at) at is_valid in
    let same : other ≡ ty = same_func context.types index other ty other_there there in
    let none' : ty.results ≡ [] = ap (λ (f : FuncType). f.results) (sym same) ∙ none in (
      index,
      at,
      subst (λ (results : List ValType). IsFuncAt context.types index (record { params = ty.params; results = results })) none'
          there,
    )

pub throw_gives : (context : BodyContext) (set : List ℕ) (tag : ℕ) (ty : FuncType) (values : List ValType)
    → All (IsTagValid context.types) context.tags → AreValid context ty.params → tag_type_at context tag ≡ Some ty → AreValid context values
    → IsNode context set values (node_of ty.params (instr.Throw tag) 0)
throw_gives context set tag ty values tags params is valid =
    let (index, at, there) = tag_there context tag ty is in
    let wide = func_wide context.types index ty there in
    record {
      results = values;
      dropped = [];
      typed = λ more. (ty.params, tag_is context tag ty tags is, ([], refl, valid));
      below = rw append-nil (below_themselves context.types values);
      given = valid;
      spare = no_valid context;
      drops = refl;
      sets_local = refl;
      few = omega arith;
      valid = params;
      inside = tt;
    }

pub throw_ref_gives : (context : BodyContext) (set : List ℕ) (values : List ValType) → refers_to_exceptions context.features ≡ true
    → AreValid context values → IsNode context set values (node_of (nullable_to exn ∷ []) instr.ThrowRef 0)
throw_ref_gives context set values refers valid =
    let (on, exceptions) = both context.features.reference_types context.features.exceptions refers in
    plain_node context set (nullable_to exn ∷ []) values instr.ThrowRef (λ more. ([], refl, valid)) refl
    (one_valid context (nullable_to exn) (nullable_valid context exn on (exceptions, λ h. cc))) valid (omega arith)

-- the chosen tag and throw
pub tag_none : (tags bytes : List ℕ) → indexed (length tags) ≡ 0 → tag_at tags bytes ≡ (None, bytes)
unfolding tag_at
tag_none tags bytes none = rw none refl

pub tag_drawn : (tags bytes left : List ℕ) (tag : ℕ) → 0 < indexed (length tags) → range_at 0 (indexed (length tags) - 1) bytes
    ≡ (tag, left) → tag_at tags bytes ≡ (Some tag, left)
unfolding tag_at
tag_drawn tags bytes left tag some drawn = rw (not_zero (indexed (length tags)) some, drawn) refl

pub throw_none : (context : BodyContext) (bytes left : List ℕ) → tag_at context.tags bytes ≡ (None, left) → throw_at context bytes
    ≡ (None, left)
unfolding throw_at
throw_none context bytes left drawn = ap (λ (tag : Option ℕ × List ℕ). giving (throw_node context) tag) drawn

pub throw_by : (context : BodyContext) (bytes left : List ℕ) (tag : ℕ) (o : Option FuncType) → tag_at context.tags bytes ≡ (Some tag, left)
    → tag_type_at context tag ≡ o
    → throw_at context bytes ≡ (option_map (λ (ty : FuncType). node_of ty.params (instr.Throw tag) 0) o, left)
unfolding throw_at
throw_by context bytes left tag o drawn at =
    ap (λ (tag : Option ℕ × List ℕ). giving (throw_node context) tag) drawn
    ∙ ap (λ (o : Option FuncType). (option_map (λ (ty : FuncType). node_of ty.params (instr.Throw tag) 0) o, left)) at

pub any_throw_tagged : (context : BodyContext) (bytes left : List ℕ) (number : ℕ) → range_at 0 7 bytes ≡ (number, left)
    → number < 7 → any_throw_at context bytes ≡ throw_at context left
unfolding any_throw_at
any_throw_tagged context bytes left number drawn less = rw (drawn, ne_eqb number 7 (λ same. absurd (omega arith))) refl

pub any_throw_by_reference : (context : BodyContext) (bytes left : List ℕ) → range_at 0 7 bytes ≡ (7, left)
    → any_throw_at context bytes ≡ (throw_ref_node context.features, left)
unfolding any_throw_at
any_throw_by_reference context bytes left drawn = rw drawn refl
