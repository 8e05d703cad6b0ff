-- A module made of drawn parts is valid.
use Rattle.wasm_smith.proofs.Common.{All-nil, ap, arith, Bool, Config, ConstInstr, defined_end, IsCounterGlobal, IsValid, length}
use Rattle.wasm_smith.proofs.Common.{length-append, List, module_imports, ModuleParts, Option, slice_get, ℕ, ◌+◌, ◌∙◌, ◌≡◌}
use Rattle.std.proofs.Common.{Some}
use Rattle.wasm_smith.specs.Bodies.{HasBodies}
use Rattle.wasm_smith.specs.Build.{parts_of}
use Rattle.wasm_smith.specs.DrawnParts.{IsDrawnFor}
use Rattle.smith_module_rules.specs.Module.{AreSpacesMade, IsGlobalDefined, IsTableDefined}
use Rattle.wasm_smith.specs.declared.build.parts_so_far.PartsSoFar.{PartsSoFar}

-- a valid module has a body for each function that it defines
pub bodies_there : (m : ModuleParts) → IsValid m → HasBodies m.num_defined_funcs m.funcs m.code
bodies_there m valid =
    let made = valid.spaces.funcs in
    let whole : length m.funcs ≡ length (module_imports m).funcs + length made.defined =
    ap length made.parts ∙ length-append (module_imports m).funcs made.defined in
    record { each = valid.bodies.each; among = omega (arith, made.count_is, whole) }

module _ (distinct : Bool) (config : Config) (drawn : PartsSoFar) (h : IsDrawnFor distinct config drawn) where
  abbrev m : ModuleParts
  m = parts_of config drawn

  spaces_made : AreSpacesMade m
  spaces_made = record {
    imports = h.whole.count;
    tags = h.whole.stands.tags;
    funcs = h.whole.stands.funcs;
    tables = h.whole.stands.tables;
    memories = h.whole.stands.memories;
    globals = h.whole.stands.globals;
  }

  tables_defined : (place : ℕ) (initial : Option (List ConstInstr)) → slice_get m.defined_tables place ≡ Some initial
      → IsTableDefined m place initial
  tables_defined place initial at = h.whole.stands.each_table place initial at

  globals_defined : (place index : ℕ) (initial : List ConstInstr) → slice_get m.defined_globals place ≡ Some (index, initial)
      → IsGlobalDefined m place index initial
  globals_defined place index initial at =
      let one = h.whole.stands.each_global place index initial at in
      record { in_order = one.in_order; global = one.global; stands = one.stands; initialised = one.initialised }

  pub drawn_valid : IsValid m
  drawn_valid = record {
    types = h.whole.stands.types;
    imports = h.whole.groups;
    spaces = spaces_made;
    entities = h.whole.stands.entities;
    counts = h.whole.stands.counts;
    definitions = record { tables = tables_defined; globals = globals_defined };
    exports = h.contents.exports.valid;
    start = h.contents.start;
    elems = h.contents.segments.elems;
    data_segments = h.contents.segments.data_segments;
    bodies = record {
      each = omega (arith, h.contents.each_body, defined_end h.whole.stands.funcs);
      bodies = h.contents.bodies;
      counters = All-nil (IsCounterGlobal m.globals (length (module_imports m).globals));
    };
  }
