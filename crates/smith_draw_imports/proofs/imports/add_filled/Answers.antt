use Rattle.smith_draw_imports.proofs.Common.{ap, flattened, Import, Imports, imports_of, List, subst, sym, ◌++◌, ◌∙◌, ◌≡◌}
use Rattle.smith_draw_imports.specs.Imported.{Counts, AreImportsFit}
use Rattle.smith_draw_imports.proofs.ImportsGrownLemmas.{ends_counted, none_added}
use Rattle.smith_draw_imports.proofs.imports.add_filled.Goals as goal

pub returns-in_ok-push-clause-ended : goal.returns-in_ok-push-clause-ended
returns-in_ok-push-clause-ended c = λ off. ends_counted c.in_ok-goes_on.ensures.counts c.in_ok-goes_on.ensures.fit
    (c.in_ok-goes_on.ensures.ended off)

pub returns-else-has_imports-clause-so_far : goal.returns-else-has_imports-clause-so_far
returns-else-has_imports-clause-so_far c =
    let kept = c.in_ok-goes_on.ensures.groups in
    let same : flattened c.args.imported.now.groups ++ imports_of c.fill.new.group ≡ flattened c.args.imported.now.groups =
    none_added (flattened c.args.imported.now.groups) c.fill.new.group
    (λ some. cc (sym c.if-has_imports.false ∙ c.has_imports.ensures.1 some)) in
    let all = same ∙ sym (ap (λ (made : List Imports). flattened made) kept) in
    record {
      counts = subst (λ (imports : List Import). Counts c.args.types.now.types c.args.distinct c.fill.new.imported imports) all
          c.in_ok-goes_on.ensures.counts;
      fit = subst (λ (imports : List Import). AreImportsFit c.args.config.now c.args.types.now.types c.args.distinct imports) all
          c.in_ok-goes_on.ensures.fit;
      groups = rw kept c.requires.so_far.groups;
    }

pub returns-else-has_imports-clause-ended : goal.returns-else-has_imports-clause-ended
returns-else-has_imports-clause-ended c = λ off. ends_counted c.in_ok-goes_on.ensures.counts c.in_ok-goes_on.ensures.fit
    (c.in_ok-goes_on.ensures.ended off)
