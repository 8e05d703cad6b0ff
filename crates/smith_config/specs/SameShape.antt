-- The `==` of shapes decides equality. This proof is here because the law of the trait `Exact`
-- cites it.
use Rattle.std.proofs.Common.{◌≡◌, ap}
use Rattle.std.specs.Bool.{Decides}
use Rattle.std.specs.Cmp.{unsigned_Decides}
use Rattle.std.proofs.lemmas.Bool.Decides.{Decides-like, Decides-and}
use Rattle.smith_syntax.specs.Same.{exact_items, exact_sub, exact_table, exact_memory, exact_global, exact_export, exact_imports}
use Rattle.smith_config.specs.declared.shape.Shape.{Shape}
use Rattle.smith_config.specs.contracts.shape.ShapePartialEq.TheImpl.{ghosts as shape_same}

pub exact_shape : (a b : Shape) → Decides (shape_same.eq a b) (a ≡ b)
exact_shape a b = Decides-like _ (λ (p, (q, (r, (s, (t, (u, (v, w))))))). λ i. record {
  groups = p i;
  imports = q i;
  funcs = r i;
  tags = s i;
  tables = t i;
  memories = u i;
  globals = v i;
  exports = w i;
})
    (λ e. (
      ap (λ x. x.groups) e,
      (
        ap (λ x. x.imports) e,
        (
          ap (λ x. x.funcs) e,
          (ap (λ x. x.tags) e, (ap (λ x. x.tables) e, (ap (λ x. x.memories) e, (ap (λ x. x.globals) e, ap (λ x. x.exports) e)))),
        ),
      ),
    ))
    (Decides-and _ _ (exact_items (exact_items exact_sub) a.groups b.groups)
    (Decides-and _ _ (exact_items exact_imports a.imports b.imports)
    (Decides-and _ _ (exact_items unsigned_Decides a.funcs b.funcs) (Decides-and _ _ (exact_items unsigned_Decides a.tags b.tags)
    (Decides-and _ _ (exact_items exact_table a.tables b.tables) (Decides-and _ _ (exact_items exact_memory a.memories b.memories)
    (Decides-and _ _ (exact_items exact_global a.globals b.globals) (exact_items exact_export a.exports b.exports))))))))
