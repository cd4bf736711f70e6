use Rattle.std.proofs.Common.{map, All, subst, sym}
use Rattle.req_table.specs.Lanes.{ends, MayFollow}
use Rattle.lane_queue.specs.declared.load.Load.TheVariants.{Bundle}
use Rattle.lane_queue.specs.Loads.{ask_of}
use Rattle.lane_queue.specs.PortView.{sent_to, MayBeSent, lanes_scope}
use Rattle.expand_work.specs.Work.{SentTo}
use Rattle.expand_work.proofs.Sending.{carries, sent_load}
use Rattle.expand_work.proofs.send.send_bundle.Goals as goal

pub send-requires-clause-some : goal.send-requires-clause-some
send-requires-clause-some g c = carries c.number-from.result c.args.asks c.requires.some

pub send-requires-clause-may_follow : goal.send-requires-clause-may_follow
send-requires-clause-may_follow g c = subst (λ n. All (MayFollow (lanes_scope c.args.lanes.now) (ends (sent_to c.args.port.now c.args.to))) (map (ask_of n) c.args.asks)) (sym c.number-from.ensures.number) c.requires.may

pub send-requires-clause-may_be_sent : goal.send-requires-clause-may_be_sent
send-requires-clause-may_be_sent g c = subst (λ n. All (MayBeSent (lanes_scope c.args.lanes.now) c.args.port.now.taken (ends (sent_to c.args.port.now c.args.to))) (map (ask_of n) c.args.asks)) (sym c.number-from.ensures.number) c.requires.leave

pub returns : goal.returns
returns g c =
    let e = c.in-Ok.ensures in
    subst (λ n. SentTo c.args.port.now c.send.new.port c.args.to (map (ask_of n) c.args.asks) 1) c.number-from.ensures.number
    (sent_load c.args.port.now c.send.new.port c.args.to (Bundle c.number-from.result c.args.asks) e.port e.sent e.others e.put e.others_put)
