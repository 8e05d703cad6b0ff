use Rattle.wasm_smith.proofs.Common.{All, ap, Contains, EntitySpaces, flattened, imported_spaces, nothing_defined, shape_imports}
use Rattle.wasm_smith.proofs.Common.{shape_spaces, space_of, subst, sym, ◌≡◌}
use Rattle.wasm_smith.specs.FirstParts.{ModuleSoFar}
use Rattle.wasm_smith.proofs.FirstPartsLemmas.{stands_alone, taken_enabled, offered_all}
use Rattle.wasm_smith.proofs.build.first_parts.begin_with_imports.Goals as goal

pub returns-clause-parts : goal.returns-clause-parts
returns-clause-parts c =
    let config = c.args.config.now in
    let shape = c.args.shape.now in
    let given = c.in_ok-types.ensures in
    let taken = imported_spaces (flattened c.in_ok-types.imported.groups) in
    let offered = imported_spaces (shape_imports shape) in
    let spaces = given.taken.counts.spaces in
    let fit = given.taken.fit in
    let nothing : c.args.drawn.now.definitions ≡ nothing_defined =
    ap (λ (so_far : ModuleSoFar). so_far.defined) c.requires.nothing.so_far in
    record {
      types = given.types;
      kept = given.kept;
      count = given.taken.counts.count;
      type_size = given.taken.counts.type_size;
      valid = given.taken.groups;
      stands = rw (given.types, spaces, nothing) (stands_alone config (space_of shape.groups) taken c.requires.valid.consistent.types
          fit.entities (taken_enabled config taken c.requires.sanitized fit.within.numbers fit.within.tags));
      within = fit.within;
      tables = subst (λ (all : EntitySpaces). All (Contains (shape_spaces shape).tables) all.tables) (sym spaces)
          (offered_all offered.tables shape.tables taken.tables fit.tables);
      memories = subst (λ (all : EntitySpaces). All (Contains (shape_spaces shape).memories) all.memories) (sym spaces)
          (offered_all offered.memories shape.memories taken.memories fit.memories);
      globals = subst (λ (all : EntitySpaces). All (Contains (shape_spaces shape).globals) all.globals) (sym spaces)
          (offered_all offered.globals shape.globals taken.globals fit.globals);
      spaces = spaces;
      exports = ap (λ (so_far : ModuleSoFar). so_far.exports) c.requires.nothing.so_far;
    }
