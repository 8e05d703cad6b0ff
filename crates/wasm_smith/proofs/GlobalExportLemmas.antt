-- The export of a global has a new name, and a valid module stays valid with it.
use Rattle.wasm_smith.proofs.Common.{[], ap, arith, Bool, codes, Export, false, if◌then◌else◌, is_exported, IsValid, length, length-append}
use Rattle.wasm_smith.proofs.Common.{List, module_spaces, ModuleParts, refl, suc, true, zero, ℕ, ◌++◌, ◌<◌, ◌≡◌, ◌≤◌}
use Rattle.std.proofs.Common.{get_or}
use Rattle.std.proofs.Common.{append-nil}
use Rattle.std.specs.List.{repeat}
use Rattle.std.proofs.lemmas.Option.{slice_get-get_or}
use Rattle.smith_types.specs.Syntax.entity_type.ExportKind.TheVariants as kind
use Rattle.smith_types.specs.Syntax.entity_type.EntityType.TheVariants as entity
use Rattle.smith_module_rules.specs.ExportedItems.{IsStanding}
use Rattle.smith_draw_contents.specs.Exporting.{longest_export}
use Rattle.smith_draw_contents.proofs.ExportNameLemmas.{exported_short}
use Rattle.smith_draw_contents.proofs.ExportsFitLemmas.{valid_push}
use Rattle.wasm_smith.specs.GlobalExport.{unused_name, with_global}
use Rattle.wasm_smith.specs.Termination.{counter}

false_unless : (b : Bool) → (b ≡ true → ⊥) → b ≡ false
false_unless true never = absurd (never refl)
false_unless false never = refl

as_long : (n : ℕ) → length (repeat n (codes "_")) ≡ n
as_long zero = refl
as_long (suc n) = ap suc (as_long n)

-- the text after a name, if it is taken or not
abbrev tail : List Export → Bool → List ℕ
tail exports taken = if taken then repeat (longest_export exports) (codes "_") else []

new_by : (name : List ℕ) (exports : List Export) (taken : Bool) → 0 < length name → is_exported exports name ≡ taken
    → is_exported exports (name ++ tail exports taken) ≡ false
new_by name exports false some none = rw (append-nil name) none
new_by name exports true some there = false_unless (is_exported exports (name ++ tail exports true)) (λ also.
    let short : length (name ++ tail exports true) ≤ longest_export exports = exported_short (name ++ tail exports true) exports also in
    let long = as_long (longest_export exports) in
    let whole = length-append name (tail exports true) in
    omega (arith, some, short, long, whole))

pub unused_is_new : (name : List ℕ) (exports : List Export) → 0 < length name → is_exported exports (unused_name name exports) ≡ false
unused_is_new name exports some = new_by name exports (is_exported exports name) some refl

global_stands : (m : ModuleParts) (index : ℕ) → index < length m.globals → IsStanding (module_spaces m) kind.Global index
global_stands m index within =
    let global = get_or m.globals index counter in
    (entity.Global global, (global, slice_get-get_or m.globals index counter within, refl))

-- a valid module stays valid with an export of one of its globals
pub exporting_valid : (name : List ℕ) (index : ℕ) (m : ModuleParts) → 0 < length name → index < length m.globals → IsValid m
    → IsValid (record m { exports = with_global name index m.exports })
exporting_valid name index m some within valid = record {
  types = valid.types;
  imports = valid.imports;
  spaces = record {
    imports = valid.spaces.imports;
    tags = valid.spaces.tags;
    funcs = valid.spaces.funcs;
    tables = valid.spaces.tables;
    memories = valid.spaces.memories;
    globals = valid.spaces.globals;
  };
  entities = valid.entities;
  counts = valid.counts;
  definitions = record {
    tables = valid.definitions.tables;
    globals = λ place at initial there.
        let given = valid.definitions.globals place at initial there in
        record { in_order = given.in_order; global = given.global; stands = given.stands; initialised = given.initialised };
  };
  exports = valid_push (unused_name name m.exports, kind.Global, index) valid.exports (unused_is_new name m.exports some)
      (global_stands m index within);
  start = valid.start;
  elems = valid.elems;
  data_segments = valid.data_segments;
  bodies = record { each = valid.bodies.each; bodies = valid.bodies.bodies; counters = valid.bodies.counters };
}
