-- A module made of drawn parts keeps its promises.
use Rattle.wasm_smith.proofs.Common.{Bool, Config, HasInterestingValues, refl}
use Rattle.wasm_smith.specs.Build.{parts_of}
use Rattle.wasm_smith.specs.DrawnParts.{IsDrawnFor}
use Rattle.smith_module_rules.specs.Promises.{KeepsPromises}
use Rattle.wasm_smith.specs.declared.build.parts_so_far.PartsSoFar.{PartsSoFar}
use Rattle.wasm_smith.proofs.GrantedModuleLemmas.{granted_drawn, locals_drawn}
use Rattle.wasm_smith.proofs.NoFloatLemmas.{no_floats_drawn}

pub drawn_promises : (distinct : Bool) (config : Config) (drawn : PartsSoFar) → IsDrawnFor distinct config drawn
    → KeepsPromises distinct config (parts_of config drawn)
drawn_promises distinct config drawn h = record {
  names = λ asked free. (h.free free).apart asked;
  no_floats = λ off none. no_floats_drawn config drawn (h.floats off none);
  granted = λ none. granted_drawn config drawn h.whole h.granted (h.grounded none);
  granted_locals = locals_drawn config drawn h.whole h.granted;
  everything = λ all free. h.contents.exports.everything free all;
  no_start = h.contents.no_start;
  inside = λ on. record { elems = h.contents.segments.elems_inside on; data_segments = h.contents.segments.data_inside on };
  sections = record { types = h.contents.encodes_types; imports = h.encodes_imports };
  no_fuel = refl;
}

pub drawn_interesting : (distinct : Bool) (config : Config) (drawn : PartsSoFar) → IsDrawnFor distinct config drawn
    → HasInterestingValues (parts_of config drawn)
drawn_interesting distinct config drawn h = record { wide = h.interesting64; narrow = h.interesting32 }
