use Rattle.std.proofs.Common.{ℕ, ◌<◌, length, All, subst, sym, ap}
use Rattle.req_table.specs.declared.Key.{Key}
use Rattle.lane_queue.specs.Loads.{items_in}
use Rattle.lane_queue.specs.PortView.{IsOpen, lanes_scope}
use Rattle.expand_work.specs.Work.{Offered, IsReceived, StaysClosed}
use Rattle.expand_work.proofs.Receiving.{stays_same}
use Rattle.lane_queue.specs.declared.load.Load.TheVariants.{Bundle}
use Rattle.expand_work.specs.PlacesBySender.{IsNoted, NotesPlaces}
use Rattle.expand_work.proofs.Noting.{asks_noted, end_noted}
use Rattle.expand_work.proofs.Taking.{load_facts, Takes, end_next, end_received, end_stays', bundle_levels, bundle_received, bundle_stays}
use Rattle.expand_work.proofs.receive.take_one.Goals as goal

pub note-requires-clause-level : goal.note-requires-clause-level
note-requires-clause-level g c = (end_next c.args.lanes.now c.args.port.now c.args.senders.now.clock c.args.tables.now c.requires.port c.requires.received c.in-End.from c.in-End.level c.take.new.port (subst (Takes c.args.port.now c.take.new.port) c.in-End.is c.in-Some.ensures.some)).2

pub note-requires-clause-next : goal.note-requires-clause-next
note-requires-clause-next g c = (end_next c.args.lanes.now c.args.port.now c.args.senders.now.clock c.args.tables.now c.requires.port c.requires.received c.in-End.from c.in-End.level c.take.new.port (subst (Takes c.args.port.now c.take.new.port) c.in-End.is c.in-Some.ensures.some)).1

pub admit_all-requires-clause-levels : goal.admit_all-requires-clause-levels
admit_all-requires-clause-levels g c = subst (All (λ (a : ℕ × Key). a.0 < length c.args.tables.now)) (sym c.asks-in-Bundle.ensures.value) (bundle_levels c.args.lanes.now c.args.port.now c.args.senders.now.clock c.args.tables.now c.requires.port c.requires.received c.in-Bundle.from c.in-Bundle.asks c.take.new.port (subst (Takes c.args.port.now c.take.new.port) c.in-Bundle.is c.in-Some.ensures.some))

pub returns-in_default-clause-stays : goal.returns-in_default-clause-stays
returns-in_default-clause-stays g c =
    let w = lanes_scope c.args.lanes.now in
    subst (λ xs. StaysClosed w c.args.port.now.taken xs c.args.tables.now c.args.tables.now) (sym (ap (λ q. q.taken) c.in_default.ensures.some.0)) (stays_same w c.args.port.now.taken c.args.tables.now)

pub returns-in-End-clause-received : goal.returns-in-End-clause-received
returns-in-End-clause-received g c =
    subst (λ k. IsReceived (lanes_scope c.args.lanes.now) c.take.new.port.taken k c.args.tables.now) (sym c.note.ensures) (end_received c.args.lanes.now c.args.port.now c.args.senders.now.clock c.args.tables.now c.requires.port c.requires.received c.in-End.from c.in-End.level c.take.new.port (subst (Takes c.args.port.now c.take.new.port) c.in-End.is c.in-Some.ensures.some))

pub returns-in-End-clause-stays : goal.returns-in-End-clause-stays
returns-in-End-clause-stays g c = end_stays' c.args.lanes.now c.args.port.now c.args.senders.now.clock c.args.tables.now c.requires.port c.requires.received c.in-End.from c.in-End.level c.take.new.port (subst (Takes c.args.port.now c.take.new.port) c.in-End.is c.in-Some.ensures.some)

pub returns-in_ok-admit_all-in-Bundle-clause-received : goal.returns-in_ok-admit_all-in-Bundle-clause-received
returns-in_ok-admit_all-in-Bundle-clause-received g c = bundle_received c.args.lanes.now c.args.port.now c.args.senders.now.clock c.args.tables.now c.requires.port c.requires.received c.in-Bundle.from c.in-Bundle.asks c.take.new.port (subst (Takes c.args.port.now c.take.new.port) c.in-Bundle.is c.in-Some.ensures.some) c.admit_all.new.tables (subst (λ xs. Offered xs c.args.tables.now c.admit_all.new.tables) c.asks-in-Bundle.ensures.value c.in_ok-admit_all-in-Bundle.ensures.offered)

pub returns-in_ok-admit_all-in-Bundle-clause-stays : goal.returns-in_ok-admit_all-in-Bundle-clause-stays
returns-in_ok-admit_all-in-Bundle-clause-stays g c = bundle_stays c.args.lanes.now c.args.port.now c.args.senders.now.clock c.args.tables.now c.requires.port c.requires.received c.in-Bundle.from c.in-Bundle.asks c.take.new.port (subst (Takes c.args.port.now c.take.new.port) c.in-Bundle.is c.in-Some.ensures.some) c.admit_all.new.tables (subst (λ x. All (IsOpen (lanes_scope c.args.lanes.now) c.args.port.now.taken) (items_in x)) c.in-Bundle.is c.in-Some.ensures.open) (subst (λ xs. Offered xs c.args.tables.now c.admit_all.new.tables) c.asks-in-Bundle.ensures.value c.in_ok-admit_all-in-Bundle.ensures.offered)

pub admit_all-requires-clause-from : goal.admit_all-requires-clause-from
admit_all-requires-clause-from g c =
    let d = load_facts c.args.lanes.now c.args.port.now (Bundle c.in-Bundle.from c.in-Bundle.asks) c.requires.port (subst (Takes c.args.port.now c.take.new.port) c.in-Bundle.is c.in-Some.ensures.some).1 in
    subst (λ n. c.in-Bundle.from < n) (sym c.requires.noted.long) d.sender

pub returns-in_default-clause-noted : goal.returns-in_default-clause-noted
returns-in_default-clause-noted g c = subst (λ xs. IsNoted (length c.args.lanes.now.lanes) xs c.args.tables.now c.args.senders.now.noted) (sym (ap (λ q. q.taken) c.in_default.ensures.some.0)) c.requires.noted

pub returns-in-End-clause-noted : goal.returns-in-End-clause-noted
returns-in-End-clause-noted g c =
    let t = subst (Takes c.args.port.now c.take.new.port) c.in-End.is c.in-Some.ensures.some in
    subst (λ xs. IsNoted (length c.args.lanes.now.lanes) xs c.args.tables.now c.args.senders.now.noted) (sym (ap (λ q. q.taken) t.0)) (end_noted (length c.args.lanes.now.lanes) c.in-End.from c.in-End.level c.args.port.now.taken c.args.tables.now c.args.senders.now.noted c.requires.noted)

pub returns-in_ok-admit_all-in-Bundle-clause-noted : goal.returns-in_ok-admit_all-in-Bundle-clause-noted
returns-in_ok-admit_all-in-Bundle-clause-noted g c =
    let t = subst (Takes c.args.port.now c.take.new.port) c.in-Bundle.is c.in-Some.ensures.some in
    subst (λ xs. IsNoted (length c.args.lanes.now.lanes) xs c.admit_all.new.tables c.admit_all.new.noted) (sym (ap (λ q. q.taken) t.0))
    (asks_noted (length c.args.lanes.now.lanes) c.in-Bundle.from c.in-Bundle.asks c.args.port.now.taken c.args.tables.now c.admit_all.new.tables c.args.senders.now.noted c.admit_all.new.noted c.requires.noted
    (subst (λ xs. NotesPlaces c.in-Bundle.from xs c.args.tables.now c.admit_all.new.tables c.args.senders.now.noted c.admit_all.new.noted) c.asks-in-Bundle.ensures.value c.in_ok-admit_all-in-Bundle.ensures.noted))
