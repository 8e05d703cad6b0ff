-- Reference types in forms that are enabled, and in others.
use Rattle.smith_program_examples.proofs.Common.{[], All-cons, All-nil, Body, Code, default_config, empty_module, false≢true, inl, List}
use Rattle.smith_program_examples.proofs.Common.{Ref, refl, sym, trapping, ℕ, ◌∙◌, ◌∷◌, ◌≡◌}
use Rattle.std.proofs.Common.{false, inr}
use Rattle.std.specs.Prelude.{All}
use Rattle.smith_types.specs.Syntax.Features.{Features}
use Rattle.smith_types.specs.Syntax.composite_type.SubType.{SubType}
use Rattle.smith_types.specs.Syntax.entity_type.GlobalType.{GlobalType}
use Rattle.smith_types.specs.Syntax.entity_type.TableType.{TableType}
use Rattle.smith_types.specs.Syntax.segments.ElementSegment.{ElementSegment}
use Rattle.smith_types.specs.ExampleFeatures.{no_features}
use Rattle.smith_types.specs.ValidTypes.{values_of}
use Rattle.smith_config.specs.declared.config.Config.{Config}
use Rattle.smith_config.specs.ExampleMembers.{without_gc}
use Rattle.smith_config.specs.Features.{features_of}
use Rattle.smith_module_rules.specs.Module.{ModuleParts}
use Rattle.smith_instr.specs.declared.control.BlockType.TheVariants as block
use Rattle.smith_instr.specs.declared.instr.Instr.TheVariants as instr
use Rattle.smith_program.specs.Bodies.{AreBodiesBy}
use Rattle.smith_program_examples.specs.ExamplePrograms.{block_of, indexed}
use Rattle.smith_program_examples.proofs.BodyExamples.{bodies_by}
use Rattle.smith_binary_program.specs.Forms.{AreReferencesEnabled, AreValFormsEnabled, HasLongReferences, IsRefFormEnabled}
use Rattle.smith_binary_program.specs.Forms.{IsStatedEnabled, IsValFormEnabled}

-- none of the features with a long form is on
none_long : (features : Features) → features.gc ≡ false → features.function_references ≡ false → features.custom_descriptors ≡ false
    → features.shared_everything_threads ≡ false → HasLongReferences features → ⊥
none_long features gc functions exact shared (inl on) = false≢true (sym gc ∙ on)
none_long features gc functions exact shared (inr (inl on)) = false≢true (sym functions ∙ on)
none_long features gc functions exact shared (inr (inr (inl on))) = false≢true (sym exact ∙ on)
none_long features gc functions exact shared (inr (inr (inr on))) = false≢true (sym shared ∙ on)

pub none_without_features : HasLongReferences no_features → ⊥
none_without_features = none_long no_features refl refl refl refl

pub none_without_gc : HasLongReferences (features_of without_gc) → ⊥
none_without_gc = none_long (features_of without_gc) refl refl refl refl

-- a module of these functions and nothing else
abbrev bare : Config → List Code → ModuleParts
bare config codes = record (empty_module config) { code = codes }

bare_enabled : (config : Config) (codes : List Code) (bodies : List Body)
    → All (λ (code : Code). AreValFormsEnabled (features_of config) code.locals) codes
    → AreBodiesBy (λ (place : ℕ) (code : Code). All (IsStatedEnabled (features_of config))) (bare config codes) bodies
    → AreReferencesEnabled (bare config codes) bodies
bare_enabled config codes bodies locals instructions = record {
  types = All-nil (λ (t : SubType). AreValFormsEnabled (features_of config) (values_of t.composite_type.inner));
  tables = All-nil (λ (table : TableType). IsRefFormEnabled (features_of config) table.element_type);
  globals = All-nil (λ (global : GlobalType). IsValFormEnabled (features_of config) global.val_type);
  elems = All-nil (λ (e : ElementSegment). IsRefFormEnabled (features_of config) e.ty);
  locals = locals;
  instructions = instructions;
}

pub empty_enabled : AreReferencesEnabled (empty_module without_gc) []
empty_enabled =
    let features = features_of without_gc in
    bare_enabled without_gc [] [] (All-nil (λ (code : Code). AreValFormsEnabled features code.locals))
    (bodies_by (λ (place : ℕ) (code : Code). All (IsStatedEnabled features)) (bare without_gc []) [] refl tt)

-- a block whose result is a reference, with garbage collection
block_enabled : All (IsStatedEnabled (features_of default_config)) (instr.Block (block.Value (Ref indexed)) ∷ instr.End ∷ [])
block_enabled =
    let features = features_of default_config in
    All-cons (IsStatedEnabled features) (instr.Block (block.Value (Ref indexed))) (instr.End ∷ [])
    (All-cons (IsValFormEnabled features) (Ref indexed) [] (λ is. inl refl) (All-nil (IsValFormEnabled features)))
    (All-cons (IsStatedEnabled features) instr.End [] (All-nil (IsValFormEnabled features)) (All-nil (IsStatedEnabled features)))

pub block_with_gc : AreReferencesEnabled (bare default_config (trapping ∷ [])) (block_of indexed ∷ [])
block_with_gc =
    let features = features_of default_config in
    let Locals : Code → Type 0 = λ code. AreValFormsEnabled features code.locals in
    bare_enabled default_config (trapping ∷ []) (block_of indexed ∷ [])
    (All-cons Locals trapping [] (All-nil (IsValFormEnabled features)) (All-nil Locals))
    (bodies_by (λ (place : ℕ) (code : Code). All (IsStatedEnabled features)) (bare default_config (trapping ∷ []))
    (block_of indexed ∷ []) refl ((λ never. never, block_enabled), tt))
