use Rattle.smith_draw_consts.proofs.Common.{function_reference, Some}
use Rattle.smith_draw_consts.specs.KeptOffers.{readable}
use Rattle.smith_draw_consts.proofs.ClassLemmas.{no_classes}
use Rattle.smith_draw_consts.proofs.read_items.ReadItems.new.Goals as goal

pub returns : goal.returns
returns c = λ context. record {
  globals = no_classes context.types (λ index global. readable global) context.globals c.new.result c.new.ensures.kinds c.new.ensures.of;
  funcs = no_classes context.types (λ function index. Some (function_reference context function index)) context.funcs c.new-2.result
      c.new-2.ensures.kinds c.new-2.ensures.of;
}
