use Rattle.smith_body.proofs.Common.{sym}
use Rattle.smith_body.proofs.SettledLemmas.{branch_settler, test_settler}
use Rattle.smith_body.proofs.settled.choose_test.Goals as goal

pub returns-clause-settles : goal.returns-clause-settles
returns-clause-settles c =
    let labels = c.args.draft.now.labels.items in
    let (tester, none) = test_settler c.args.scope.now labels c.args.value c.in_ok-test.test c.requires.value (sym c.in_ok-test.ensures)
    (c.is_allowed.ensures.allowed c.if-not-is_allowed.false) in (
      tester,
      none,
      branch_settler c.args.scope.now labels c.in_ok-label.label c.in_ok-label.ensures.without
          (c.is_allowed-else-not-is_allowed.ensures.allowed c.if-not-is_allowed-2.false),
    )
