-- The steps of drawing a module, one after another, produce the module of the bytes, and parts with
-- the properties of each step.
use Rattle.wasm_smith.proofs.Common.{Bool, Config, Err, Error, Exports, false, FixesImports, flattened, HasNoShapes, Imported}
use Rattle.wasm_smith.proofs.Common.{imported_spaces, is_memory, IsErrAnd, IsTrue, length, List, ModuleParts, Ok, refl, Result, Returns}
use Rattle.wasm_smith.proofs.Common.{spaces_in, subst, sym, ℕ, ◌<◌, ◌∙◌, ◌≡◌}
use Rattle.smith_bytes.specs.declared.error.Error.TheVariants as errors
use Rattle.smith_bytes.specs.Steps.{section_flag_at}
use Rattle.wasm_smith.specs.FirstParts.{ModuleSoFar, StandsWhole}
use Rattle.wasm_smith.specs.Build.{first_parts_typed_at, defined_at, exported_at, exports_of, imported_at, module_at, module_of}
use Rattle.wasm_smith.specs.DrawnContents.{AreContents, HasGrantedContents, HasNoFloatContents, after_exports_at, imported_in}
use Rattle.wasm_smith.specs.DrawnParts.{IsDrawnFor}
use Rattle.wasm_smith.specs.DrawnSteps.{AreExportsDrawn, AreFreeImports, HasSameImports, drawn_next}
use Rattle.smith_module_rules.specs.InterestingValues.{AreAll, IsInteresting32, IsInteresting64}
use Rattle.wasm_smith.specs.declared.build.contents.Contents.{Contents}
use Rattle.wasm_smith.specs.declared.build.parts_so_far.PartsSoFar.{PartsSoFar}

-- the draws of the steps together are the draw of the module
pub module_read : (distinct : Bool) (config : Config) (bytes : List ℕ) (typed imported defined whole : ModuleSoFar) (flag : Bool)
    (made : Exports) (contents : Contents) (count : ℕ) (first second third fourth fifth last : List ℕ)
    → first_parts_typed_at config bytes ≡ Ok (typed, first) → imported_at distinct config typed first ≡ Ok (imported, second)
    → section_flag_at (length imported.groups) second ≡ (flag, third)
    → defined_at config imported third ≡ Ok (defined, fourth) → exported_at config defined fourth ≡ Ok (whole, fifth)
    → made ≡ exports_of config whole
    → after_exports_at config whole.types.types (imported_spaces (flattened whole.groups)) whole.spaces made fifth ≡ Ok (contents, last)
    → count ≡ length (flattened whole.groups)
    → module_at distinct config bytes ≡ Ok (record (module_of config whole contents flag) { num_imports = count }, last)
unfolding module_at
module_read distinct config bytes typed imported defined whole flag made contents count first second third fourth fifth last begins imports
    flags defines exports size remaining counted =
    let after_own = subst (λ (own : Exports). after_exports_at config whole.types.types (imported_spaces (flattened whole.groups))
    whole.spaces own fifth ≡ Ok (contents, last)) size remaining in
    rw (begins, imports, flags, defines, exports, after_own, counted) refl

refused_so : {X Y Z : Type 0} (view : X → ModuleParts × List ℕ) (own : Z → Y) (e : Error) (read : Result Y Error)
    (whole : Result (ModuleParts × List ℕ) Error) → (read ≡ Err e → whole ≡ Err e) → Returns is_memory own (Err e) read
    → Returns is_memory view (Err e) whole
refused_so view own errors.Memory read whole both h = tt
refused_so view own e read whole both h = both h

-- if exports are refused, so is the module
pub exports_refused : {X Z : Type 0} (view : X → ModuleParts × List ℕ) (own : Z → ModuleSoFar × List ℕ) (result : Result X Error)
    (e : Error) (distinct : Bool) (config : Config) (bytes : List ℕ) (typed imported defined : ModuleSoFar) (flag : Bool)
    (first second third fourth : List ℕ) → first_parts_typed_at config bytes ≡ Ok (typed, first) → imported_at distinct config typed first
    ≡ Ok (imported, second) → section_flag_at (length imported.groups) second ≡ (flag, third)
    → defined_at config imported third ≡ Ok (defined, fourth) → Returns is_memory own (Err e) (exported_at config defined fourth)
    → IsErrAnd result (λ y. y ≡ e) → Returns is_memory view result (module_at distinct config bytes)
unfolding module_at
exports_refused view own (Ok x) e distinct config bytes typed imported defined flag first second third fourth begins imports flags defines
    refused passed = absurd passed
exports_refused view own (Err y) e distinct config bytes typed imported defined flag first second third fourth begins imports flags defines
    refused passed =
    subst (λ (one : Error). Returns is_memory view (Err one) (module_at distinct config bytes)) (sym passed)
    (refused_so view own e (exported_at config defined fourth) (module_at distinct config bytes)
    (λ fails. rw (begins, imports, flags, defines, fails) refl) refused)

-- if contents are refused, so is the module
pub module_refused : {X Z : Type 0} (view : X → ModuleParts × List ℕ) (own : Z → Contents × List ℕ) (result : Result X Error) (e : Error)
    (distinct : Bool) (config : Config) (bytes : List ℕ) (typed imported defined whole : ModuleSoFar) (flag : Bool) (made : Exports)
    (first second third fourth fifth : List ℕ) → first_parts_typed_at config bytes ≡ Ok (typed, first)
    → imported_at distinct config typed first ≡ Ok (imported, second) → section_flag_at (length imported.groups) second ≡ (flag, third)
    → defined_at config imported third ≡ Ok (defined, fourth) → exported_at config defined fourth ≡ Ok (whole, fifth)
    → made ≡ exports_of config whole
    → Returns is_memory own (Err e) (after_exports_at config whole.types.types (imported_spaces (flattened whole.groups)) whole.spaces made
    fifth) → IsErrAnd result (λ y. y ≡ e) → Returns is_memory view result (module_at distinct config bytes)
unfolding module_at
module_refused view own (Ok x) e distinct config bytes typed imported defined whole flag made first second third fourth fifth begins imports
    flags defines exports size refused passed = absurd passed
module_refused view own (Err y) e distinct config bytes typed imported defined whole flag made first second third fourth fifth begins
    imports flags defines exports size refused passed =
    let after_exports = λ (given : Exports). after_exports_at config whole.types.types (imported_spaces (flattened whole.groups))
    whole.spaces given fifth in
    let refused_own = subst (λ (given : Exports). Returns is_memory own (Err e) (after_exports given)) size refused in
    subst (λ (one : Error). Returns is_memory view (Err one) (module_at distinct config bytes)) (sym passed)
    (refused_so view own e (after_exports (exports_of config whole)) (module_at distinct config bytes)
    (λ fails. rw (begins, imports, flags, defines, exports, fails) refl) refused_own)

-- a whole state stays whole with contents
whole_with : {config : Config} {drawn : PartsSoFar} (later : PartsSoFar) → later.types ≡ drawn.types → later.imported ≡ drawn.imported
    → later.definitions ≡ drawn.definitions → StandsWhole config drawn → StandsWhole config later
whole_with later types imported definitions h = record {
  groups = rw imported h.groups;
  count = rw imported h.count;
  stands = rw (types, imported, definitions) h.stands;
  most = rw imported h.most;
  most_types = rw types h.most_types;
  most_imports = rw imported h.most_imports;
  tables = rw imported h.tables;
  memories = rw imported h.memories;
  type_size = rw (types, imported) h.type_size;
  within = rw imported h.within;
}

-- imports stay the same over two steps
pub same_imports : {first second third : Imported} → HasSameImports first second → HasSameImports second third → HasSameImports first third
same_imports one two = record { groups = two.groups ∙ one.groups; count = two.count ∙ one.count; type_size = two.type_size ∙ one.type_size }

free_so : {distinct : Bool} {config : Config} {old new : Imported} → HasSameImports old new → AreFreeImports distinct config old
    → AreFreeImports distinct config new
free_so same free = record { apart = rw same.groups free.apart; least = rw same.count free.least }

written_so : {old new : Imported} (flag : Bool) → HasSameImports old new → (0 < length old.groups → IsTrue flag) → 0 < length new.groups
    → IsTrue flag
written_so flag same written some = written (rw same.groups at some)

-- the parts of a module, from the state after exports were made
pub drawn_for : {distinct : Bool} {config : Config} {before : Imported} {drawn : PartsSoFar} (contents : Contents) (flag : Bool)
    (narrow wide : List ℕ) → AreExportsDrawn config drawn
    → ((FixesImports config → ⊥) → AreFreeImports distinct config before) → HasSameImports before drawn.imported
    → (0 < length before.groups → IsTrue flag)
    → AreContents config drawn.types.types (imported_in drawn.imported) (spaces_in drawn.imported.spaces) drawn.imported.type_size contents
    → (config.allow_floats ≡ false → HasNoShapes config → HasNoFloatContents contents)
    → HasGrantedContents config (drawn_next config drawn) drawn.imported.spaces.tables contents
    → AreAll (IsInteresting32 drawn.imported.spaces.tables drawn.imported.spaces.memories) narrow
    → AreAll (IsInteresting64 drawn.imported.spaces.tables drawn.imported.spaces.memories) wide
    → IsDrawnFor distinct config (record drawn {
      contents = contents;
      encodes_imports = flag;
      interesting_values32 = narrow;
      interesting_values64 = wide;
    })
drawn_for {drawn = drawn} contents flag narrow wide h free same written kept calm granted those32 those64 =
    let later : PartsSoFar = record drawn {
      contents = contents;
      encodes_imports = flag;
      interesting_values32 = narrow;
      interesting_values64 = wide;
    } in
    record {
      whole = whole_with later refl refl refl h.whole;
      least_types = h.least_types;
      least = h.least;
      free = λ fixes. free_so same (free fixes);
      contents = kept;
      interesting64 = those64;
      interesting32 = those32;
      encodes_imports = written_so flag same written;
      floats = λ off none. let so_far = h.floats off none in
          record { types = so_far.types; defined = so_far.defined; contents = calm off none };
      grounded = h.grounded;
      granted = granted;
    }
