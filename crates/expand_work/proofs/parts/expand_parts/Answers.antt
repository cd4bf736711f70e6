use Rattle.std.proofs.Common.{rules, ◌+◌, ◌%◌, ◌^◌, map, length, sym, ap, ◌∙◌, subst, arith}
use Rattle.dd_store.specs.Nodes.{Nodes}
use Rattle.expand_work.specs.WaveParts.{AreParts, AreSettled}
use Rattle.expand_work.specs.OwnerRows.{AreRowsByOwner}
use Rattle.expand_work.specs.MemoryPool.{records_in, noted_in}
use Rattle.lane_queue.specs.Joining.{ArePorts, AreRetired}
use Rattle.expand_work.proofs.Expanding.{new_ports, parts_ports, are_parts, are_settled, records_as, noted_as, parts_by_owner}
use Rattle.expand_work.proofs.Tallying.{have_expanded, few_reached}
use Rattle.expand_work.proofs.parts.expand_parts.Goals as goal

pub run_workers-requires-clause-ports : goal.run_workers-requires-clause-ports
run_workers-requires-clause-ports g c κs within =
    let e = c.in_ok-lanes.ensures in
    new_ports c.in_ok-lanes.lanes c.count-workers.result c.in_ok-lanes.ports.items e.lanes.0 e.ports.0 e.ports.1

pub settle-requires : goal.settle-requires
settle-requires g c =
    let l = c.in_ok-lanes.lanes in
    subst (ArePorts (length l.lanes) l.sizes l.lanes) (sym c.in_ok-ports.ensures.ports) (parts_ports c.args.store.now l c.args.roots.now c.in_ok-parts.parts.items c.in_ok-parts.ensures.parts)

pub returns-clause-parts : goal.returns-clause-parts
returns-clause-parts g c =
    subst (λ n. AreParts c.args.store.now n c.args.roots.now (record { rows = map (records_in c.of.result.value) c.in_ok-ports.filled.items; noted = map noted_in c.in_ok-ports.filled.items })) c.count-workers.ensures.value
    (are_parts c.args.store.now c.levels.ensures.sound c.in_ok-lanes.lanes c.in_ok-lanes.ensures.lanes.1 (let e = c.in_ok-lanes.ensures.lanes.0 in let r = c.count-workers.ensures.some in omega (arith, e, r)) c.args.roots.now c.in_ok-parts.parts.items c.in_ok-parts.ensures.parts
    c.in_ok-settled.settled.ports.items (subst (λ ps. AreRetired (length c.in_ok-lanes.lanes.lanes) ps c.in_ok-settled.settled.ports.items) c.in_ok-ports.ensures.ports c.in_ok-settled.ensures.ports) (map (λ v. v.items) c.in_ok-settled.settled.left.items) c.in_ok-settled.ensures.law
    c.count-workers.result c.in_ok-lanes.ensures.lanes.0 (map (records_in c.of.result.value) c.in_ok-ports.filled.items) (map noted_in c.in_ok-ports.filled.items)
    (ap (λ (z : Nodes). map (records_in z) c.in_ok-ports.filled.items) c.of.ensures ∙ records_as c.args.store.now c.in_ok-parts.parts.items c.in_ok-ports.filled.items c.in_ok-ports.ensures.spaces)
    (noted_as c.in_ok-parts.parts.items c.in_ok-ports.filled.items c.in_ok-ports.ensures.spaces))

pub returns-clause-settled : goal.returns-clause-settled
returns-clause-settled g c =
    subst (λ n. AreSettled c.args.store.now n c.args.roots.now (record { rows = map (records_in c.of.result.value) c.in_ok-ports.filled.items; noted = map noted_in c.in_ok-ports.filled.items }) c.in_ok-settled.settled.ports.items) c.count-workers.ensures.value
    (are_settled c.args.store.now c.levels.ensures.sound c.in_ok-lanes.lanes c.in_ok-lanes.ensures.lanes.1 (let e = c.in_ok-lanes.ensures.lanes.0 in let r = c.count-workers.ensures.some in omega (arith, e, r)) c.args.roots.now c.in_ok-parts.parts.items c.in_ok-parts.ensures.parts
    c.in_ok-settled.settled.ports.items (subst (λ ps. AreRetired (length c.in_ok-lanes.lanes.lanes) ps c.in_ok-settled.settled.ports.items) c.in_ok-ports.ensures.ports c.in_ok-settled.ensures.ports) (map (λ v. v.items) c.in_ok-settled.settled.left.items) c.in_ok-settled.ensures.law
    c.count-workers.result c.in_ok-lanes.ensures.lanes.0 (map (records_in c.of.result.value) c.in_ok-ports.filled.items) (map noted_in c.in_ok-ports.filled.items)
    (ap (λ (z : Nodes). map (records_in z) c.in_ok-ports.filled.items) c.of.ensures ∙ records_as c.args.store.now c.in_ok-parts.parts.items c.in_ok-ports.filled.items c.in_ok-ports.ensures.spaces))

pub invariant_of-parts : goal.invariant_of-parts
invariant_of-parts g c =
    subst (λ (z : Nodes). AreRowsByOwner (map (records_in z) c.in_ok-ports.filled.items) c.in_ok-ports.rows.items) (sym c.of.ensures)
    (parts_by_owner c.args.store.now c.in_ok-lanes.lanes c.args.roots.now c.in_ok-parts.parts.items c.in_ok-parts.ensures.parts c.in_ok-ports.filled.items c.in_ok-ports.ensures.spaces c.in_ok-ports.rows.items c.in_ok-ports.ensures.rows)

pub invariant_of-parts-2 : goal.invariant_of-parts-2
invariant_of-parts-2 g c =
    subst (λ (z : Nodes). AreRowsByOwner (map (records_in z) c.in_ok-ports.filled.items) c.in_ok-ports.rows.items) (sym c.of.ensures)
    (parts_by_owner c.args.store.now c.in_ok-lanes.lanes c.args.roots.now c.in_ok-parts.parts.items c.in_ok-parts.ensures.parts c.in_ok-ports.filled.items c.in_ok-ports.ensures.spaces c.in_ok-ports.rows.items c.in_ok-ports.ensures.rows)

pub returns-clause-expanded : goal.returns-clause-expanded
returns-clause-expanded g c =
    have_expanded c.args.store.now c.args.crew.now.workers.count c.args.roots.now _ (returns-clause-parts g c) c.args.spaces.now c.add.new.self
    (c.add.ensures ∙ (λ i. (c.take_all-used.ensures i + c.count.ensures i) % 2 ^ 64))

pub returns-clause-few : goal.returns-clause-few
returns-clause-few g c = λ bounded.
    few_reached c.args.store.now c.args.crew.now.workers.count c.args.roots.now _ (returns-clause-parts g c) c.args.most (c.are_few.ensures (search rules) bounded)
