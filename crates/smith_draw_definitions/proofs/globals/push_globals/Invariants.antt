use Rattle.smith_draw_definitions.proofs.Common.{AreKeptOffers}
use Rattle.smith_draw_definitions.specs.Definitions.{scope_among, global_scope}
use Rattle.smith_draw_definitions.proofs.GlobalsLoop.{AreDefining}
use Rattle.smith_draw_definitions.proofs.globals.push_globals.Given as goal

abbrev pub invariant-loop-made : goal.invariant-loop-made
invariant-loop-made l =
    let standing = scope_among l.types.types l.funcs l.imported_funcs l.imported_globals l.fn.globals in
    record {
      defining : AreDefining l.config standing l.fn.globals l.fn.initials l.made l.globals l.initials l.fn.u l.u;
      kept : AreKeptOffers (global_scope l.config standing l.globals) l.kept;
    }
