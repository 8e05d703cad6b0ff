use Rattle.smith_check_branches.proofs.Common.{All, arith, bare, IsCatch, label_of, labels_of, length, refl, reverse, subst, take, take_all}
use Rattle.smith_check_branches.proofs.Common.{with_labels, ◌<◌, ◌∷◌, ◌≡◌}
use Rattle.std.proofs.lemmas.List.Elements.{All-more}
use Rattle.smith_check_branches.proofs.catches.are_catches.Goals as goal

pub loop-clause-preserved : goal.loop-clause-preserved
loop-clause-preserved c =
    let within : c.loop-clause.clause-index < length c.args.clauses.now = omega arith in
    All-more (IsCatch (with_labels (bare c.args.scope.now) (label_of c.args.shape.now ∷ labels_of (reverse c.args.outers.now))))
    c.args.clauses.now c.loop-clause.clause-index _ within c.loop-clause.invariant (c.is_catch.ensures.0 c.if-not-is_catch.false)

pub returns : goal.returns
returns c =
    let whole : take c.loop-clause.clause-index c.args.clauses.now ≡ c.args.clauses.now =
    take_all c.loop-clause.clause-index c.args.clauses.now (omega arith) in (
      λ h. subst (λ cs. All (IsCatch (with_labels (bare c.args.scope.now)
          (label_of c.args.shape.now ∷ labels_of (reverse c.args.outers.now)))) cs) whole c.loop-clause.invariant,
      λ all. refl,
    )
