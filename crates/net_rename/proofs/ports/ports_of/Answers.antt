use Rattle.std.proofs.Common.{◌∙◌, ap}
use Rattle.net_bench.specs.Circuit.{circuit}
use Rattle.net_order.specs.Order.{names_of}
use Rattle.net_order.specs.Tables.{with_names}
use Rattle.net_rename.proofs.PortNames.{all_ports}
use Rattle.net_rename.proofs.ports.ports_of.Goals as goal

pub returns : goal.returns
returns c =
    let net = circuit c.args.net.now in
    all_ports net c.new-ports.result c.add_names.new.table c.add_names-2.new.table c.add_names-3.new.table c.new-ports.ensures
    (c.in_ok-add_names.ensures ∙ ap (λ ss. with_names c.new-ports.result (names_of net ss)) c.inputs.ensures.value)
    (c.in_ok-add_names-2.ensures ∙ ap (λ ss. with_names c.add_names.new.table (names_of net ss)) c.outputs.ensures.value)
    (c.in_ok-add_names-3.ensures ∙ ap (λ ss. with_names c.add_names-2.new.table (names_of net ss)) c.registers_of.ensures.value)
