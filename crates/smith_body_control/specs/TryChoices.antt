-- Drawn `try_table` blocks. The choices, their order and their weights are rules of this project.
use Rattle.std.specs.Prelude.{◌≡◌, ℕ, zero, suc, ◌&&◌, Bool, true, false, Option, Some, None, option_map, option_to_list, List, [], ◌∷◌}
use Rattle.std.specs.Prelude.{◌++◌, length, slice_get, if◌then◌else◌}
use Rattle.smith_body_control.specs.Common.{BodyContext, Chosen, Features, func_in, FuncType, indexed, Node, range_at, ValType}
use Rattle.smith_bytes.specs.Draws.{bool_at, choose_at}
use Rattle.smith_types.specs.Expressions.{reference_to}
use Rattle.smith_instr.specs.Contexts.{IsTag}
use Rattle.smith_instr.specs.declared.control.BlockType.TheVariants as block
use Rattle.smith_instr.specs.declared.control.Catch.{Catch}
use Rattle.smith_instr.specs.declared.control.Catch.TheVariants as catch
use Rattle.smith_body_nodes.specs.Nodes.{trying}
use Rattle.smith_body_nodes.specs.Offered.{is_target, label_count, offered}
use Rattle.smith_body_control.specs.ThrowChoices.{exn, refers_to_exceptions, tag_at, tag_type_at}

-- whether non-nullable references to exceptions are enabled
abbrev pub refers_to_caught : Features → Bool
refers_to_caught features = refers_to_exceptions features && features.function_references

-- a clause for the exceptions of a tag, or for all exceptions, which may pass a reference to the
-- exception
abbrev pub clause_of : Option ℕ → Bool → ℕ → Catch
clause_of (Some tag) false label = catch.One tag label
clause_of (Some tag) true label = catch.OneRef tag label
clause_of None false label = catch.All label
clause_of None true label = catch.AllRef label

-- the values that a clause passes to its label: the values of the exception, then the reference, if
-- any
abbrev pub passed_values : List ValType → Bool → List ValType
passed_values values false = values
passed_values values true = values ++ reference_to exn ∷ []

-- the values of the exceptions of a tag; none without a tag
abbrev pub IsCaught : BodyContext → Option ℕ → List ValType → Type 0
IsCaught context (Some tag) values = IsTag context tag values
IsCaught context None values = values ≡ []

-- a clause with a label that takes its values, if there is such a label
abbrev pub clause_to : BodyContext → Option ℕ → Bool → List ValType → List ℕ → Option Catch × List ℕ
clause_to context tag referenced values bytes =
    let label = choose_at (offered (is_target context.types context.labels (passed_values values referenced)) (label_count context))
    bytes in
    (option_map (clause_of tag referenced) label.0, label.1)

-- a clause for the exceptions of a tag of this type
abbrev pub tagged_to : BodyContext → Bool → ℕ → Option FuncType → List ℕ → Option Catch × List ℕ
tagged_to context referenced tag (Some ty) bytes = clause_to context (Some tag) referenced ty.params bytes
tagged_to context referenced tag None bytes = (None, bytes)

abbrev pub tagged_by : BodyContext → Bool → Option ℕ → List ℕ → Option Catch × List ℕ
tagged_by context referenced (Some tag) bytes = tagged_to context referenced tag (tag_type_at context tag) bytes
tagged_by context referenced None bytes = (None, bytes)

unfoldable pub tagged_clause_at : BodyContext → Bool → List ℕ → Option Catch × List ℕ
tagged_clause_at context referenced bytes = let tag = tag_at context.tags bytes in tagged_by context referenced tag.0 tag.1

-- whether a clause passes a reference to the exception
unfoldable pub referenced_at : Features → List ℕ → Bool × List ℕ
referenced_at features bytes = let wanted = bool_at bytes in (wanted.0 && refers_to_caught features, wanted.1)

-- a clause of one of the four kinds, if it is possible
unfoldable pub clause_at : BodyContext → List ℕ → Option Catch × List ℕ
clause_at context bytes =
    let tagged = bool_at bytes in
    let referenced = referenced_at context.features tagged.1 in
    if tagged.0 then tagged_clause_at context referenced.0 referenced.1 else clause_to context None referenced.0 [] referenced.1

-- several clauses, without the impossible ones
unfoldable pub clauses_at : BodyContext → ℕ → List ℕ → List Catch × List ℕ
clauses_at context zero bytes = ([], bytes)
clauses_at context (suc count) bytes =
    let clause = clause_at context bytes in
    let more = clauses_at context count clause.1 in
    (option_to_list clause.0 ++ more.0, more.1)

-- at most three clauses
abbrev pub some_clauses_at : BodyContext → List ℕ → List Catch × List ℕ
some_clauses_at context bytes = let count = range_at 0 3 bytes in clauses_at context count.0 count.1

-- a `try_table` that produces a value of the wanted type
unfoldable pub try_at : BodyContext → ValType → List ℕ → Chosen
try_at context wanted bytes =
    let clauses = some_clauses_at context bytes in
    (Some (trying (block.Value wanted) clauses.0 [] (wanted ∷ []) 0), clauses.1)

-- a `try_table` with a function type, whose results are dropped, or without parameters and results
abbrev pub any_try_node : List Catch → ℕ → Option FuncType → Node
any_try_node clauses index (Some function) = trying (block.Func index) clauses function.params function.results (length function.results)
any_try_node clauses index None = trying block.Empty clauses [] [] 0

unfoldable pub any_try_at : BodyContext → List ℕ → Chosen
any_try_at context bytes =
    let clauses = some_clauses_at context bytes in
    let index = range_at 0 (indexed (length context.types)) clauses.1 in
    (Some (any_try_node clauses.0 index.0 (func_in (slice_get context.types index.0))), index.1)
