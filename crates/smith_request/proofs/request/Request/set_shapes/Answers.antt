use Rattle.std.proofs.Common.{refl}
use Rattle.std.proofs.lemmas.Result.{on_ok_weaker}
use Rattle.smith_request.proofs.request.Request.set_shapes.Goals as goal

pub returns-clause-ok : goal.returns-clause-ok
returns-clause-ok c = on_ok_weaker c.set_shape-3.result (λ module_shape. record {
  shapes = record {
    available_imports = c.set_shape.new.shape;
    exports = c.set_shape-2.new.shape;
    module_shape = c.set_shape-3.new.shape;
  };
  available_imports = c.in_ok-set_shape.ensures.ok;
  exports = c.in_ok-set_shape-2.ensures.ok;
  module_shape = module_shape;
  is = refl;
}) c.set_shape-3.ensures.ok
