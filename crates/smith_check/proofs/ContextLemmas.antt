-- The context in which a judge of functions has a body checked.
use Rattle.smith_check.proofs.Common.{[], ap, canonical_index, features_in, FuncType, IfOk, Instr, length, List, MatchOption, Option, subst}
use Rattle.smith_check.proofs.Common.{sym, syntax_of, types_in, ValType, ℕ, ◌++◌, ◌∙◌, ◌≡◌}
use Rattle.std.proofs.Common.{Result}
use Rattle.std.proofs.lemmas.List.{length-map}
use Rattle.smith_bytes.specs.declared.error.Error.{Error}
use Rattle.smith_types.specs.Imports.{EntitySpaces}
use Rattle.smith_instr.specs.Contexts.{BodyContext}
use Rattle.smith_decode.specs.DataReadings.{segment_view}
use Rattle.smith_decode.specs.declared.bodies.Body.{Body}
use Rattle.smith_check_operands.specs.Scopes.{IsScope}
use Rattle.smith_check_body.specs.Verdicts.{IsVerdict}
use Rattle.smith_check_body.specs.declared.verdict.Verdict.{Verdict}
use Rattle.smith_explain.specs.Causes.{IsExplanation, IsUnreached}
use Rattle.smith_explain.specs.declared.explanation.Explanation.{Explanation}
use Rattle.smith_check.specs.FunctionJudges.{AreLocalsRight, HasTypeAt, IsContextOf, IsFunctionJudge, body_in, context_in, locals_in}
use Rattle.smith_check.specs.declared.functions.FunctionJudge.{FunctionJudge}
use Rattle.smith_check.proofs.JudgeLemmas.{judge_types, same_types, type_in_module}
use Rattle.smith_check.proofs.ScopeLemmas.{scope_of_function}

module _ (judge : FunctionJudge) (j : IsFunctionJudge judge) (function : FuncType) (body : Body) (locals : List ValType)
    (context : BodyContext) (s : IsContextOf judge function locals context) (held : locals ≡ function.params ++ locals_in judge body) where
  same_context : context ≡ context_in judge function body
  same_context =
      let types : context.types ≡ types_in judge.types.now.indices (syntax_of judge.module.now) = s.types ∙ same_types judge j in
      let funcs = s.funcs ∙ ap (λ (e : EntitySpaces). e.funcs) j.spaces in
      let imported = s.imported ∙ j.imported in
      let tables = s.tables ∙ ap (λ (e : EntitySpaces). e.tables) j.spaces in
      let memories = s.memories ∙ ap (λ (e : EntitySpaces). e.memories) j.spaces in
      let globals = s.globals ∙ ap (λ (e : EntitySpaces). e.globals) j.spaces in
      let tags = s.tags ∙ ap (λ (e : EntitySpaces). e.tags) j.spaces in
      let elems = s.elems ∙ j.elems in
      let datas = s.datas ∙ sym (length-map judge.module.now.datas segment_view) in
      let references = s.references ∙ j.references in
      let all = s.locals ∙ held in
      λ i. record {
        features = s.features i;
        types = types i;
        funcs = funcs i;
        imported_funcs = imported i;
        tables = tables i;
        memories = memories i;
        globals = globals i;
        tags = tags i;
        elems = elems i;
        datas = datas i;
        references = references i;
        locals = all i;
        params = s.params i;
        labels = s.labels i;
        results = s.results i;
      }

  pub is_scope : (place : ℕ) → HasTypeAt judge place function → AreLocalsRight judge body → IsScope context
  is_scope place typed valid =
      subst IsScope (sym same_context)
      (scope_of_function (features_in judge.features) judge.types.now.indices (syntax_of judge.module.now) (judge_types judge j) j.sections
      function (locals_in judge body) (canonical_index judge.types.now.indices typed.index) (type_in_module judge place function j typed)
      valid)

  pub same_verdict : (found : Result Verdict Error) (instructions : List Instr) → instructions ≡ body_in judge body
      → IfOk found (IsVerdict context instructions) → IfOk found (IsVerdict (context_in judge function body) (body_in judge body))
  same_verdict found instructions is verdict =
      subst (λ (other : BodyContext). IfOk found (IsVerdict other (body_in judge body))) same_context
      (subst (λ (code : List Instr). IfOk found (IsVerdict context code)) is verdict)

  pub same_explanation : (at : ℕ) (found : Result (Option Explanation) Error) (instructions : List Instr)
      → instructions ≡ body_in judge body
      → IfOk found (λ said. MatchOption said (IsUnreached context instructions at) (IsExplanation context instructions at))
      → IfOk found (λ said. MatchOption said (IsUnreached (context_in judge function body) (body_in judge body) at)
      (IsExplanation (context_in judge function body) (body_in judge body) at))
  same_explanation at found instructions is said =
      subst (λ (other : BodyContext).
      IfOk found (λ one. MatchOption one (IsUnreached other (body_in judge body) at) (IsExplanation other (body_in judge body) at)))
      same_context (subst (λ (code : List Instr).
      IfOk found (λ one. MatchOption one (IsUnreached context code at) (IsExplanation context code at))) is said)
