use Rattle.std.proofs.Common.{◌≡◌, ap, subst, map, Ok}
use Rattle.std.specs.Prelude.{IfSome}
use Rattle.net_cone.specs.Cones.{variable_name}
use Rattle.net_names.specs.declared.order.Order.{Order}
use Rattle.net_order.specs.Order.{NamingModel}
use Rattle.cone_check.specs.ConeRounds.{IsWidened}
use Rattle.order_search.specs.Trials.{IsPairingIn}
use Rattle.cone_check.proofs.ConeTasks.{judged_pair, many_pair, one_pair}
use Rattle.cone_check.proofs.pairs.judge_cones.Goals as goal

pub try_cones-requires-clause-one : goal.try_cones-requires-clause-one
try_cones-requires-clause-one g c κs within =
    let w = c.args.context.now in
    let task = c.task_of-task.result in
    let P : NamingModel → Type 0 = λ q. (order : Order) × IsPairingIn task order q × (q.names ≡ map (variable_name c.names.result.now) c.as_slice.result.now) in
    let p = subst (λ o. IfSome o P) c.in-Some.is c.in_ok-paired.ensures.paired in
    let named : c.in-Some.pairing.names ≡ map (variable_name w.naming.now.names) c.in_ok-places.places.items =
    subst (λ ps. c.in-Some.pairing.names ≡ map (variable_name w.naming.now.names) ps) c.as_slice.ensures.value
    (subst (λ ns. c.in-Some.pairing.names ≡ map (variable_name ns) c.as_slice.result.now) c.names.ensures p.2) in
    one_pair w c.args.subject.now c.args.cones.now task c.requires.ready c.requires.cones c.task_of-task.ensures c.inputs.ensures.sound c.inputs-2.ensures.sound c.in_ok-places.places.items c.in-Some.pairing c.in_ok-places.ensures.places
    (p.0, p.1, named)

pub returns-in_default : goal.returns-in_default
returns-in_default g c =
    many_pair c.args.context.now c.args.subject.now c.args.cones.now c.task_of-task.result c.requires.ready c.requires.cones c.task_of-task.ensures
    c.args.budget (g.G.Monitor.bound c.args.monitor.now) (c.in_ok-paired.ensures.many (ap Ok c.in_default.is))

pub returns : goal.returns
returns g c =
    let w = c.args.context.now in
    let task = c.task_of-task.result in
    let P : NamingModel → Type 0 = λ q. (order : Order) × IsPairingIn task order q × (q.names ≡ map (variable_name c.names.result.now) c.as_slice.result.now) in
    let p = subst (λ o. IfSome o P) c.in-Some.is c.in_ok-paired.ensures.paired in
    let named : c.in-Some.pairing.names ≡ map (variable_name w.naming.now.names) c.in_ok-places.places.items =
    subst (λ ps. c.in-Some.pairing.names ≡ map (variable_name w.naming.now.names) ps) c.as_slice.ensures.value
    (subst (λ ns. c.in-Some.pairing.names ≡ map (variable_name ns) c.as_slice.result.now) c.names.ensures p.2) in
    judged_pair w c.args.subject.now c.args.cones.now task c.requires.ready c.requires.cones c.task_of-task.ensures c.inputs.ensures.sound c.inputs-2.ensures.sound c.in_ok-places.places.items c.in-Some.pairing c.in_ok-places.ensures.places
    (p.0, p.1, named) c.args.budget (g.G.Monitor.bound c.args.monitor.now) c.in-Ok.found c.in_ok-verdict.verdict c.in-Ok.ensures.decided c.in-Ok.ensures.within (λ e. c.in-Ok.ensures.left (ap Ok e))
    (λ e. c.in-Ok.ensures.listed_left (ap Ok e))
    (subst (λ ps. IsWidened w c.args.subject.now ps c.in-Ok.found c.in_ok-verdict.verdict) c.as_slice-2.ensures.value c.in_ok-verdict.ensures)
