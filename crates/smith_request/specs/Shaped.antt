-- Requests with shapes in files.
use Rattle.std.specs.Prelude.{◌≡◌, ◌≢◌, ℕ, List, [], Option, Some}
use Rattle.smith_bytes.specs.declared.error.Error.TheVariants.{Memory}
use Rattle.smith_bytes.specs.declared.error.Which.{Which}
use Rattle.smith_bytes.specs.declared.error.Which.TheVariants.{AvailableImports, Exports, ModuleShape}
use Rattle.smith_config.specs.Shapes.{Shapes}
use Rattle.smith_config.specs.declared.shape.Shape.{Shape}
use Rattle.smith_shape_file.specs.ShapeFiles.{IsShapeFile, IsShapeFileFault}
use Rattle.smith_request.specs.Refusals.{IsRefusalFor}
use Rattle.smith_request.specs.Requests.{IsBinaryFor, IsTextFor}
use Rattle.smith_request.specs.declared.manner.Form.{Form}
use Rattle.smith_request.specs.declared.refusal.Refusal.{Refusal}
use Rattle.smith_request.specs.declared.refusal.Refusal.TheVariants.{NotUtf8, Config, Module, Encoding}
use Rattle.smith_request.specs.declared.refusal.Refusal.TheVariants.{Shape as of_shape, NoChange, NoFamily}
use Rattle.smith_request.specs.declared.request.Request.{Request}
use Rattle.smith_request.specs.declared.shaped.ShapeFiles.{ShapeFiles}

-- the shape in the file replaces another shape; an empty file leaves it unchanged
pub data IsGiven (bytes : List ℕ) (before after : Option Shape) : Type 0 where
  none : bytes ≡ [] → after ≡ before → IsGiven bytes before after
  one : {shape : Shape} → bytes ≢ [] → IsShapeFile bytes shape → after ≡ Some shape → IsGiven bytes before after

-- a request with other shapes
abbrev pub with_shapes : Shapes → Request → Request
with_shapes shapes request = record request {
  config = record request.config {
    available_imports = shapes.available_imports;
    exports = shapes.exports;
    module_shape = shapes.module_shape;
  };
}

-- a request with the shapes in these files
pub record IsShaped (files : ShapeFiles) (request shaped : Request) : Type 0 where
  pub shapes : Shapes
  pub available_imports : IsGiven files.available_imports.now request.config.available_imports shapes.available_imports
  pub exports : IsGiven files.exports.now request.config.exports shapes.exports
  pub module_shape : IsGiven files.module_shape.now request.config.module_shape shapes.module_shape
  pub is : shaped ≡ with_shapes shapes request

-- the file for this use has no shape, for this reason, or memory runs out
abbrev pub IsNoShape : Which → List ℕ → Refusal → Type 0
IsNoShape which bytes (of_shape used fault) = (used ≡ which) × IsShapeFileFault bytes fault
IsNoShape which bytes (Module e) = e ≡ Memory
IsNoShape which bytes NotUtf8 = ⊥
IsNoShape which bytes (Config _) = ⊥
IsNoShape which bytes (Encoding _) = ⊥
IsNoShape which bytes NoChange = ⊥
IsNoShape which bytes NoFamily = ⊥

-- the file for one of the uses has no shape
pub data IsUnshaped (files : ShapeFiles) (refusal : Refusal) : Type 0 where
  available_imports : IsNoShape AvailableImports files.available_imports.now refusal → IsUnshaped files refusal
  exports : IsNoShape Exports files.exports.now refusal → IsUnshaped files refusal
  module_shape : IsNoShape ModuleShape files.module_shape.now refusal → IsUnshaped files refusal

-- the bytes are the file of the program for a request with shapes, and an input
pub record IsShapedBinary (files : ShapeFiles) (request : Request) (input bytes : List ℕ) : Type 0 where
  pub shaped : Request
  pub is_shaped : IsShaped files request shaped
  pub binary : IsBinaryFor shaped input bytes

-- the program for a request with shapes and an input exists, and has a file
abbrev pub HasShapedBinary : ShapeFiles → Request → List ℕ → Type 0
HasShapedBinary files request input = (bytes : List ℕ) × IsShapedBinary files request input bytes

-- the program for a request with shapes and an input exists, and the bytes are a text
pub record IsShapedText (files : ShapeFiles) (request : Request) (input bytes : List ℕ) : Type 0 where
  pub shaped : Request
  pub is_shaped : IsShaped files request shaped
  pub written : IsTextFor shaped input bytes

-- an error for a request with shapes and an input
pub data IsShapedRefusal (form : Form) (files : ShapeFiles) (request : Request) (input : List ℕ) (refusal : Refusal) : Type 0 where
  unshaped : IsUnshaped files refusal → IsShapedRefusal form files request input refusal
  unmade : {shaped : Request} → IsShaped files request shaped → IsRefusalFor form shaped input refusal →
      IsShapedRefusal form files request input refusal
