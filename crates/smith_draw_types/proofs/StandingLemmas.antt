-- Matching types refer to existing types if the other type does.
use Rattle.smith_draw_types.proofs.Common.{[], above_stands, All-from_recursion, AreBelow, below_stands, FuncType, IsFuncMatch, IsOrderly}
use Rattle.smith_draw_types.proofs.Common.{IsStorageMatch, IsValBelow, IsValInRange, List, recursion_from_All, Ref, rules, StorageType}
use Rattle.smith_draw_types.proofs.Common.{SubType, Val, ValType, ◌∷◌}
use Rattle.std.specs.List.{AllByRecursion as Each}
use Rattle.smith_types.specs.Matching.{IsFuncInRange, IsStorageInRange}

pub val_stands : (types : List SubType) (a b : ValType) → IsValBelow types a b → IsValInRange types b → IsValInRange types a
val_stands types (Ref a) (Ref b) below h = below_stands types a.heap_type b.heap_type below.heap h
val_stands types a b below h = search rules

pub val_above_stands : (types : List SubType) → IsOrderly types → (a b : ValType) → IsValBelow types a b → IsValInRange types a
    → IsValInRange types b
val_above_stands types orderly (Ref a) (Ref b) below h = above_stands types orderly a.heap_type b.heap_type below.heap h
val_above_stands types orderly a b below h = search rules

pub storage_stands : (types : List SubType) (a b : StorageType) → IsStorageMatch types a b → IsStorageInRange types b
    → IsStorageInRange types a
storage_stands types (Val a) (Val b) matched h = val_stands types a b matched h
storage_stands types a b matched h = search rules

each_stands : (types : List SubType) (xs ys : List ValType) → AreBelow types xs ys → Each (IsValInRange types) ys
    → Each (IsValInRange types) xs
each_stands types [] [] below h = tt
each_stands types (x ∷ xs) (y ∷ ys) (below, more) h = (val_stands types x y below h.0, each_stands types xs ys more h.1)
each_stands types xs ys below h = absurd below

each_above_stands : (types : List SubType) → IsOrderly types → (xs ys : List ValType) → AreBelow types xs ys → Each (IsValInRange types) xs
    → Each (IsValInRange types) ys
each_above_stands types orderly [] [] below h = tt
each_above_stands types orderly (x ∷ xs) (y ∷ ys) (below, more) h =
    (val_above_stands types orderly x y below h.0, each_above_stands types orderly xs ys more h.1)
each_above_stands types orderly xs ys below h = absurd below

pub func_stands : (types : List SubType) → IsOrderly types → (f g : FuncType) → IsFuncMatch types f g → IsFuncInRange types g
    → IsFuncInRange types f
func_stands types orderly f g matched h =
    let P = IsValInRange types in
    record {
      params = All-from_recursion P f.params (each_above_stands types orderly g.params f.params matched.params
          (recursion_from_All P g.params h.params));
      results = All-from_recursion P f.results (each_stands types f.results g.results matched.results
          (recursion_from_All P g.results h.results));
    }
