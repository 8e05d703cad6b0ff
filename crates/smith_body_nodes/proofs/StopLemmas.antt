-- With `disallow_traps`, what is allowed has no `unreachable`.
use Rattle.smith_body_nodes.proofs.Common.{Bool, false, Features, Instr, subst, true, ◌||◌, ◌≡◌}
use Rattle.std.specs.Prelude.{not}
use Rattle.smith_config.specs.declared.config.Config.{Config}
use Rattle.smith_instr.specs.Enabled.{is_enabled}
use Rattle.smith_instr.specs.declared.instr.Instr.TheVariants as instr
use Rattle.smith_body_nodes.specs.Nodes.{head_instruction, is_drop_allowed, is_head_allowed, is_node_allowed}
use Rattle.smith_body_nodes.specs.Scopes.{is_permitted, kinds_of_bodies}
use Rattle.smith_body_nodes.specs.Traps.{IsNoStop, may_trap}
use Rattle.smith_body_nodes.specs.declared.node.Node.{Node}
use Rattle.smith_body_nodes.proofs.OfferLemmas.{both}

-- with `disallow_traps` an `unreachable` is not permitted
pub stop_forbidden : (features : Features) (config : Config) → config.disallow_traps ≡ true → is_permitted features config instr.Unreachable
    ≡ true → ⊥
unfolding is_permitted
stop_forbidden features config trapless is =
    let (_, kept) = both (is_enabled features (kinds_of_bodies config) instr.Unreachable)
    (not config.disallow_traps || not (may_trap instr.Unreachable)) is in
    let never : (not true || false) ≡ true = subst (λ (b : Bool). (not b || false) ≡ true) trapless kept in
    cc

-- with `disallow_traps`, an instruction that is permitted is not an `unreachable`
pub permitted_goes_on : (features : Features) (config : Config) (instruction : Instr) → is_permitted features config instruction ≡ true
    → IsNoStop config instruction
permitted_goes_on features config instruction permitted = λ disallowed stops. stop_forbidden features config disallowed
    (subst (λ (i : Instr). is_permitted features config i ≡ true) stops permitted)

pub node_goes_on : (features : Features) (config : Config) (node : Node) → is_node_allowed features config node ≡ true
    → IsNoStop config (head_instruction node.head)
node_goes_on features config node allowed =
    let (head, _) = both (is_head_allowed features config node.head) (is_drop_allowed features config node.drops) allowed in
    let (permitted, _) = both (is_permitted features config (head_instruction node.head)) _ head in
    permitted_goes_on features config (head_instruction node.head) permitted
