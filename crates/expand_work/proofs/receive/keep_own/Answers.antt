use Rattle.std.proofs.Common.{ℕ, ◌<◌, [], length, map, set, All, subst, ap, sym, ◌∙◌, arith}
use Rattle.std.proofs.lemmas.List.{set-get_or, set-set}
use Rattle.req_table.specs.declared.Key.{Key}
use Rattle.lane_queue.specs.Loads.{ask_of}
use Rattle.expand_work.specs.PlacesBySender.{NotesPlaces}
use Rattle.expand_work.specs.Work.{at, MaySend, HasKept, Offered}
use Rattle.expand_work.proofs.Cutting.{cut_less}
use Rattle.expand_work.proofs.Noting.{own_within}
use Rattle.expand_work.proofs.Sending.{still_of}
use Rattle.lane_queue.proofs.Endpoints.{port-lengths}
use Rattle.expand_work.proofs.Holding.{hold-levels, keeping-none, keeping-may, keeping-more}
use Rattle.expand_work.proofs.receive.keep_own.Goals as goal

pub loop-bundle-init : goal.loop-bundle-init
loop-bundle-init c = (
  keeping-none c.args.lanes.now c.args.port.now c.args.senders.now.clock c.args.tables.now c.args.senders.now.noted (at c.args.due.now c.number-own.result) c.requires.taken c.requires.received c.requires.noted,
  sym (set-get_or c.args.due.now c.number-own.result []),
)

pub keep_all-requires-clause-may : goal.keep_all-requires-clause-may
keep_all-requires-clause-may c =
    let own = c.number-own.result in
    let q = c.loop-bundle.port in
    let may = subst (λ n. MaySend c.args.lanes.now c.args.port.now c.args.port.now.number (at c.args.due.now n)) (sym c.number-own.ensures.number) c.requires.may in
    subst (MaySend c.args.lanes.now q q.number) (sym c.asks-asks.ensures.value)
    (keeping-may c.args.lanes.now c.args.port.now q c.loop-bundle.senders.clock c.args.tables.now c.loop-bundle.tables c.loop-bundle.senders.noted (at c.args.due.now own) (at c.loop-bundle.due own) c.in-Some.bundle (at c.take.new.self own)
    may c.in-Some.ensures.bundle c.loop-bundle.invariant.0)

pub loop-bundle-smaller : goal.loop-bundle-smaller
loop-bundle-smaller c =
    let own = c.number-own.result in
    let cut = c.in-Some.ensures.bundle in
    let less = cut_less (at c.loop-bundle.due own) c.in-Some.bundle (at c.take.new.self own) cut in
    let some = cut.some in omega (arith, less, some)

pub loop-bundle-preserved : goal.loop-bundle-preserved
loop-bundle-preserved c =
    let own = c.number-own.result in
    let l = c.args.lanes.now in
    let p = c.args.port.now in
    let left = at c.loop-bundle.due own in
    let rest = at c.take.new.self own in
    let is = c.asks-asks.ensures.value in
    let may = subst (λ n. MaySend l p p.number (at c.args.due.now n)) (sym c.number-own.ensures.number) c.requires.may in
    let kept = subst (λ xs. HasKept c.loop-bundle.port c.keep_all.new.port (map (ask_of c.loop-bundle.port.number) xs)) is c.keep_all.ensures.kept in
    let offered = subst (λ xs. Offered xs c.loop-bundle.tables c.admit_all.new.tables) is c.in_ok-admit_all.ensures.offered in
    let notes = subst (λ n. NotesPlaces n c.in-Some.bundle c.loop-bundle.tables c.admit_all.new.tables c.loop-bundle.senders.noted c.admit_all.new.noted) c.number-own.ensures.number
    (subst (λ xs. NotesPlaces own xs c.loop-bundle.tables c.admit_all.new.tables c.loop-bundle.senders.noted c.admit_all.new.noted) is c.in_ok-admit_all.ensures.noted) in (
      keeping-more l p c.loop-bundle.port c.loop-bundle.senders.clock c.args.tables.now c.loop-bundle.tables c.loop-bundle.senders.noted (at c.args.due.now own) left c.in-Some.bundle rest may c.in-Some.ensures.bundle c.loop-bundle.invariant.0 c.requires.port
          (subst (λ n. p.number < n) (port-lengths l p c.requires.port) c.number-own.ensures.within) c.keep_all.new.port c.admit_all.new.tables c.admit_all.new.noted kept c.keep_all.ensures.taken offered notes,
      c.take.ensures.rest ∙ ap (λ d. set d own rest) c.loop-bundle.invariant.1 ∙ set-set c.args.due.now own left rest,
    )

pub admit_all-requires-clause-levels : goal.admit_all-requires-clause-levels
admit_all-requires-clause-levels c =
    let own = c.number-own.result in
    let l = c.args.lanes.now in
    let p = c.args.port.now in
    let q = c.loop-bundle.port in
    let h = c.loop-bundle.invariant.0 in
    let may = subst (λ n. MaySend l p p.number (at c.args.due.now n)) (sym c.number-own.ensures.number) c.requires.may in
    subst (All (λ (a : ℕ × Key). a.0 < length c.loop-bundle.tables)) (sym c.asks-asks.ensures.value)
    (hold-levels l q c.in-Some.bundle (still_of l p q h.kept.port c.requires.port)
    (keeping-may l p q c.loop-bundle.senders.clock c.args.tables.now c.loop-bundle.tables c.loop-bundle.senders.noted (at c.args.due.now own) (at c.loop-bundle.due own) c.in-Some.bundle (at c.take.new.self own) may c.in-Some.ensures.bundle h) c.loop-bundle.tables h.received.many)

pub admit_all-requires-clause-from : goal.admit_all-requires-clause-from
admit_all-requires-clause-from c = own_within c.args.lanes.now c.args.port.now c.requires.port c.number-own.result c.number-own.ensures.number c.number-own.ensures.within c.loop-bundle.senders.noted c.loop-bundle.invariant.0.places.long
