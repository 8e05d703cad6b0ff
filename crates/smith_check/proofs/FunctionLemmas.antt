-- Functions of a module, and what makes the module wrong.
use Rattle.smith_check.proofs.Common.{ap, AreSectionsValid, arith, canonical_index, Features, FuncType, inl, inr, Instr, IsBodyTyped}
use Rattle.smith_check.proofs.Common.{IsFuncAt, IsTypeSectionValid, length, List, map, renamed_val, same_Some, subst, SubType, sym}
use Rattle.smith_check.proofs.Common.{types_in, ValType, ℕ, ◌<◌, ◌∙◌, ◌≡◌}
use Rattle.std.proofs.lemmas.Option.{slice_get_within}
use Rattle.smith_types.specs.Syntax.composite_type.CompositeInnerType.TheVariants.{Func}
use Rattle.smith_decode.specs.Modules.{Syntax}
use Rattle.smith_check_renamed.specs.RenamedInstructions.{renamed_body}
use Rattle.smith_check_types.proofs.CheckLemmas.{section_valid}
use Rattle.smith_check_types.proofs.LawLemmas.{unique_indices}
use Rattle.smith_check.specs.Faults.{AreTypesRight, IsBodyRefused, IsUnpaired}
use Rattle.smith_check.specs.ValidPrograms.{IsFunctionAt, IsFunctionValid, IsValidProgram, context_of_function}

same_function : (types : List SubType) (index : ℕ) (one other : FuncType) → IsFuncAt types index one → IsFuncAt types index other
    → one ≡ other
same_function types index one other (t, at, is) (u, there, also) =
    let same : t ≡ u = same_Some t u (sym at ∙ there) in
    let inner : Func one ≡ Func other = sym is ∙ ap (λ (s : SubType). s.composite_type.inner) same ∙ also in
    cc inner

module _ (features : Features) (indices : List ℕ) (m : Syntax) where
  -- a place has one function
  same_type : (place : ℕ) (function other : FuncType) (locals others : List ValType) (body instead : List Instr)
      → IsFunctionAt indices m place function locals body → IsFunctionAt indices m place other others instead → function ≡ other
  same_type place function other locals others body instead one two =
      let index : one.index ≡ two.index = same_Some one.index two.index (sym one.typed_by ∙ two.typed_by) in
      same_function (types_in indices m) (canonical_index indices two.index) function other
      (subst (λ (i : ℕ). IsFuncAt (types_in indices m) (canonical_index indices i) function) index one.typed) two.typed

  same_code : (place : ℕ) (function other : FuncType) (locals others : List ValType) (body instead : List Instr)
      → (one : IsFunctionAt indices m place function locals body) → (two : IsFunctionAt indices m place other others instead)
      → one.code ≡ two.code
  same_code place function other locals others body instead one two = same_Some one.code two.code (sym one.held ∙ two.held)

  pub same_locals : (place : ℕ) (function other : FuncType) (locals others : List ValType) (body instead : List Instr)
      → IsFunctionAt indices m place function locals body → IsFunctionAt indices m place other others instead → locals ≡ others
  same_locals place function other locals others body instead one two =
      one.locals_are ∙ ap (λ (code : List ValType × List Instr). map (renamed_val (canonical_index indices)) code.0)
      (same_code place function other locals others body instead one two) ∙ sym two.locals_are

  same_body : (place : ℕ) (function other : FuncType) (locals others : List ValType) (body instead : List Instr)
      → IsFunctionAt indices m place function locals body → IsFunctionAt indices m place other others instead → body ≡ instead
  same_body place function other locals others body instead one two =
      one.body_is ∙ ap (λ (code : List ValType × List Instr). renamed_body (canonical_index indices) code.1)
      (same_code place function other locals others body instead one two) ∙ sym two.body_is

  -- a function whose body is refused is not valid
  pub refused_wrong : (place instruction : ℕ) → IsBodyRefused features indices m place instruction
      → IsFunctionValid features indices m place → ⊥
  refused_wrong place instruction refused valid =
      let types : valid.function ≡ refused.function = same_type place valid.function refused.function valid.locals refused.locals
      valid.body refused.body valid.there refused.there in
      let locals : valid.locals ≡ refused.locals = same_locals place valid.function refused.function valid.locals refused.locals
      valid.body refused.body valid.there refused.there in
      let bodies : valid.body ≡ refused.body = same_body place valid.function refused.function valid.locals refused.locals
      valid.body refused.body valid.there refused.there in
      refused.refused.untyped (subst (λ (body : List Instr).
      IsBodyTyped (context_of_function features indices m refused.function refused.locals) body) bodies
      (subst (λ (ls : List ValType). IsBodyTyped (context_of_function features indices m refused.function ls) valid.body) locals
      (subst (λ (f : FuncType). IsBodyTyped (context_of_function features indices m f valid.locals) valid.body) types valid.body_typed)))

  -- a valid function has a type and a body
  pub type_inside : (place : ℕ) → IsFunctionValid features indices m place → place < length m.functions
  type_inside place valid = slice_get_within m.functions place valid.there.index valid.there.typed_by

  -- the indices of a valid module are these
  module _ (right : AreTypesRight features indices m) where
    program_sections : IsValidProgram features m → AreSectionsValid features indices m
    program_sections program =
        subst (λ (is : List ℕ). AreSectionsValid features is m)
        (unique_indices m.types program.indices indices program.canonical right.canonical) program.sections

    pub program_function : (place : ℕ) → place < length m.functions → IsValidProgram features m → IsFunctionValid features indices m place
    program_function place inside program =
        subst (λ (is : List ℕ). IsFunctionValid features is m place)
        (unique_indices m.types program.indices indices program.canonical right.canonical) (program.functions place inside)

    -- wrong sections, and a wrong function, make a module wrong
    pub sections_wrong : (AreSectionsValid features indices m → ⊥) → IsValidProgram features m → ⊥
    sections_wrong wrong program = wrong (program_sections program)

    pub function_wrong : (place : ℕ) → place < length m.bodies → (IsFunctionValid features indices m place → ⊥) → IsValidProgram features m
        → ⊥
    function_wrong place inside wrong program =
        let same = program.bodies in wrong (program_function place (omega arith) program)

    -- a module is valid if all of it is
    pub program_valid : AreSectionsValid features indices m → length m.functions ≡ length m.bodies
        → ((place : ℕ) → place < length m.functions → IsFunctionValid features indices m place) → IsValidProgram features m
    program_valid sections bodies functions = record {
      supertypes = right.supertypes;
      scope = right.valid.scope;
      indices = indices;
      canonical = right.canonical;
      types = section_valid features m.types indices right.canonical right.valid;
      sections = sections;
      bodies = bodies;
      functions = functions;
    }

  -- wrong types make a module wrong
  pub types_wrong : (IsTypeSectionValid features m.types → ⊥) → IsValidProgram features m → ⊥
  types_wrong wrong program =
      wrong (record { scope = program.scope; indices = program.indices; canonical = program.canonical; valid = program.types })

  pub unpaired_wrong : (place : ℕ) → IsUnpaired m place → IsValidProgram features m → ⊥
  unpaired_wrong place (inl h) program = let same = program.bodies in let at = h.0 in let inside = h.1 in omega (arith, same, at, inside)
  unpaired_wrong place (inr h) program = let same = program.bodies in let at = h.0 in let inside = h.1 in omega (arith, same, at, inside)
