use Rattle.smith_check_module.proofs.Common.{slice_get_past, spaces_in}
use Rattle.smith_check_module.specs.ConstScopes.{context_of}
use Rattle.smith_check_module.proofs.SegmentLemmas.{element_decided, no_table}
use Rattle.smith_check_module.proofs.segments.is_element_mode_valid.Goals as goal

pub returns-else-not-is_below-clause-decided : goal.returns-else-not-is_below-clause-decided
returns-else-not-is_below-clause-decided c =
    element_decided (context_of c.args.scope.now) c.args.scope.now.indices.now (spaces_in c.args.spaces.now) c.args.ty c.args.mode.now
    c.in-Active.table c.in-Active.offset c.in-Active.is c.as_slice.result.now c.in-Some.table.now c.as_slice.ensures
    c.in-Some.ensures.lookup.3.0 c.in-Some.ensures.lookup.1 (c.is_below.ensures.0 c.if-not-is_below.false) c.address_type.result
    c.as_slice-in-Some.result.now c.address_type.ensures c.as_slice-in-Some.ensures c.is_constant.result c.is_constant.ensures.decided

pub returns-in-None-clause-decided : goal.returns-in-None-clause-decided
returns-in-None-clause-decided c = (
  λ never. absurd cc,
  λ valid. absurd (no_table (context_of c.args.scope.now) c.args.scope.now.indices.now (spaces_in c.args.spaces.now) c.args.ty
      c.args.mode.now c.in-Active.table c.in-Active.offset c.in-Active.is c.as_slice.result.now c.as_slice.ensures
      (slice_get_past _ _ c.in-None.ensures.lookup.3) valid),
)
