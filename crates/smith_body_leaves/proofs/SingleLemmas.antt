-- The values of one instruction that the fields of a struct have.
use Rattle.smith_body_leaves.proofs.Common.{[], ap, arith, BodyContext, Config, drop, field_values, FieldType, get_or, Instr, length, List}
use Rattle.smith_body_leaves.proofs.Common.{None, Option, refl, slice_get, Some, struct_in, suc, sym, unpacked, ValType, where_stands, zero}
use Rattle.smith_body_leaves.proofs.Common.{ℕ, ◌++◌, ◌+◌, ◌<◌, ◌∙◌, ◌∷◌, ◌≡◌, ◌≤◌}
use Rattle.std.proofs.Common.{drop-cons}
use Rattle.std.proofs.Common.{append_assoc}
use Rattle.std.specs.Prelude.{option_to_list}
use Rattle.std.proofs.lemmas.List.{append-nil}
use Rattle.smith_types.specs.Syntax.composite_type.StructType.{StructType}
use Rattle.smith_instr.specs.Contexts.{AreValid}
use Rattle.smith_body_leaves.specs.Leaves.{fields_at, fields_in, first_single, singles}
use Rattle.smith_body_nodes.proofs.IndexedTypeLemmas.{struct_fields, struct_there}
use Rattle.smith_body_nodes.specs.Scopes.{IsScope}
use Rattle.smith_body_nodes.specs.declared.scope.Draft.{Draft}
use Rattle.smith_body_nodes.specs.declared.scope.Scope.{Scope}
use Rattle.smith_body_nodes.proofs.NodeLemmas.{no_valid}

-- the fields of a struct type are valid
fields_valid_in : (context : BodyContext) (ty : ℕ) (o : Option StructType) → IsScope context → struct_in (slice_get context.types ty) ≡ o
    → AreValid context (field_values (fields_in o))
fields_valid_in context ty (Some structure) scope at = struct_fields context ty structure.fields scope
    (struct_there context.types ty structure at)
fields_valid_in context ty None scope at = no_valid context

pub fields_valid : (context : BodyContext) (ty : ℕ) → IsScope context → AreValid context (field_values (fields_at context.types ty))
fields_valid context ty scope = fields_valid_in context ty (struct_in (slice_get context.types ty)) scope refl

-- one field after another
none_past : (config : Config) (context : BodyContext) (set : List ℕ) (fields : List FieldType) (place : ℕ) → length fields ≤ place
    → singles config context set (field_values (drop place fields)) ≡ []
none_past config context set [] zero past = refl
none_past config context set [] (suc place) past = refl
none_past config context set (field ∷ fields) zero past = absurd (omega arith)
none_past config context set (field ∷ fields) (suc place) past = none_past config context set fields place (omega arith)

next_single : (config : Config) (context : BodyContext) (set : List ℕ) (fields : List FieldType) (place : ℕ) (d : FieldType)
    (out : List Instr) → place < length fields
    → out ++ singles config context set (field_values (drop place fields))
    ≡ (out ++ option_to_list (first_single config context set (unpacked (get_or fields place d).element_type))) ++ singles config context
    set (field_values (drop (place + 1) fields))
next_single config context set fields place d out inside =
    let first : drop place fields ≡ get_or fields place d ∷ drop (suc place) fields = drop-cons fields place d inside in
    let next : place + 1 ≡ suc place = omega arith in
    rw (first, next) (sym (append_assoc out _ _))

pub single_written : (config : Config) (context : BodyContext) (set : List ℕ) (fields : List FieldType) (place : ℕ) (d : FieldType)
    (whole out written : List Instr) (single : Option Instr) → place < length fields
    → single ≡ first_single config context set (unpacked (get_or fields place d).element_type) → written ≡ out ++ option_to_list single
    → whole ≡ out ++ singles config context set (field_values (drop place fields))
    → whole ≡ written ++ singles config context set (field_values (drop (place + 1) fields))
single_written config context set fields place d whole out written single inside is longer so_far =
    let rest = singles config context set (field_values (drop (place + 1) fields)) in
    so_far
    ∙ (next_single config context set fields place d out inside ∙ (ap (λ (o : Option Instr). (out ++ option_to_list o) ++ rest) (sym is)
    ∙ ap (λ (instructions : List Instr). instructions ++ rest) (sym longer)))

pub no_single : (config : Config) (context : BodyContext) (set : List ℕ) (fields : List FieldType) (place : ℕ) (whole out : List Instr)
    → length fields ≤ place → whole ≡ out ++ singles config context set (field_values (drop place fields)) → out ≡ whole
no_single config context set fields place whole out past so_far =
    let none : singles config context set (field_values (drop place fields)) ≡ [] = none_past config context set fields place past in
    sym (append-nil out) ∙ (ap (λ (rest : List Instr). out ++ rest) (sym none) ∙ sym so_far)

pub creation_written : (old middle new first last : List Instr) → middle ≡ old ++ first → new ≡ middle ++ last
    → new ≡ old ++ (first ++ last)
creation_written old middle new first last before after = after ∙ (ap (λ (instructions : List Instr). instructions ++ last) before
    ∙ append_assoc old first last)

-- written values change neither the labels nor the locals that are set
pub single_before : (scope : Scope) (old here : Draft) (value : ValType) (single : Option Instr) → here.set.items ≡ old.set.items
    → here.labels.items ≡ old.labels.items → single ≡ first_single scope.config.now (where_stands scope here) here.set.items value
    → single ≡ first_single scope.config.now (where_stands scope old) old.set.items value
single_before scope old here value single set labels is = rw (← set, ← labels) is
