use Rattle.std.proofs.Common.{rules, ◌≡◌, length}
use Rattle.net_bench.specs.Assembly.{net_of_parts}
use Rattle.net_bench.proofs.Placing.{all_right, registers_low}
use Rattle.net_bench.proofs.assembly.set_all_roles.Goals as goal

pub set_register_roles-requires-clause-in_bounds : goal.set_register_roles-requires-clause-in_bounds
set_register_roles-requires-clause-in_bounds c =
    let each : length c.set_gate_roles.new.symbols ≡ length c.args.parts.now.names = search rules in
    registers_low (net_of_parts c.args.parts.now) c.requires.sound (length c.set_gate_roles.new.symbols) each

pub returns : goal.returns
returns c =
    let each : length c.set_register_roles.new.symbols ≡ length c.args.parts.now.names = search rules in
    all_right (net_of_parts c.args.parts.now) c.requires.sound c.set_register_roles.new.symbols each c.in_ok-set_register_roles.ensures.right
    (λ i d low. c.in_ok-set_register_roles.ensures.kept _ (c.in_ok-set_gate_roles.ensures.kept _ (c.set_input_roles.ensures.role_set i d low)))
    (λ i d low. c.in_ok-set_register_roles.ensures.kept _ (c.in_ok-set_gate_roles.ensures.role_set i d low))
    c.in_ok-set_register_roles.ensures.role_set
