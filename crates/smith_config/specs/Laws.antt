-- Laws of shapes.
use Rattle.smith_bytes.specs.declared.error.Which.{Which}
use Rattle.smith_bytes.specs.declared.error.ShapeFault.{ShapeFault}
use Rattle.smith_config.specs.declared.config.Config.{Config}
use Rattle.smith_config.specs.declared.shape.Shape.{Shape}
use Rattle.smith_config.specs.Shapes.{IsShapeValid}
use Rattle.smith_config.specs.ShapeFaults.{HasShapeFault}

-- a shape is valid exactly if it has no fault
pub record ShapesAreValidOrFaulty : Type 0 where
  pub faultless : (which : Which) (config : Config) (shape : Shape) → IsShapeValid which config shape → (fault : ShapeFault)
      → ¬ HasShapeFault which config shape fault
  pub valid : (which : Which) (config : Config) (shape : Shape) → ((fault : ShapeFault) → ¬ HasShapeFault which config shape fault)
      → ¬ ¬ IsShapeValid which config shape
