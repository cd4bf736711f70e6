use Rattle.std.proofs.Common.{ℕ, ◌<◌, ◌++◌, ◌∷◌, [], length, take, refl, ap, sym, subst, ◌∙◌, arith}
use Rattle.std.proofs.lemmas.List.{take_more}
use Rattle.req_table.specs.declared.Key.{Key}
use Rattle.expand_work.specs.Work.{Offered}
use Rattle.expand_work.specs.PlacesBySender.{NotesPlaces}
use Rattle.expand_work.proofs.Taking.{offered-more, offered-long}
use Rattle.expand_work.proofs.Noting.{notes_start, notes_more}
use Rattle.expand_work.proofs.receive.admit_all.Goals as goal

pub loop-ask-init : goal.loop-ask-init
loop-ask-init c = (refl, notes_start c.args.from c.args.tables.now c.args.noted.now)

pub admit-requires : goal.admit-requires
admit-requires c =
    let i = c.loop-ask.ask-index in
    let n = offered-long (take i c.args.asks.now) c.args.tables.now c.loop-ask.tables c.loop-ask.invariant.0 in
    let f = subst (λ (x : ℕ × Key). x.0 < length c.args.tables.now) (sym c.ask-item.is) (c.requires.levels i c.ask-item.result c.loop-ask-test.true) in
    omega (arith, n, f)

pub push-requires : goal.push-requires
push-requires c = let n = c.loop-ask.invariant.1.long in let b = c.requires.from in omega (arith, n, b)

pub loop-ask-preserved : goal.loop-ask-preserved
loop-ask-preserved c =
    let i = c.loop-ask.ask-index in
    let a = c.ask-item.result in
    let off = c.in_ok-place.ensures in
    let n = offered-long (take i c.args.asks.now) c.args.tables.now c.loop-ask.tables c.loop-ask.invariant.0 in
    let f = subst (λ (x : ℕ × Key). x.0 < length c.args.tables.now) (sym c.ask-item.is) (c.requires.levels i c.ask-item.result c.loop-ask-test.true) in
    let next = ap (λ (x : ℕ × Key). take i c.args.asks.now ++ x ∷ []) c.ask-item.is ∙ sym (take_more c.args.asks.now i a c.loop-ask-test.true) in (
      subst (λ l. Offered l c.args.tables.now c.admit.new.self) next (offered-more (take i c.args.asks.now) a c.args.tables.now c.loop-ask.tables c.admit.new.self off.0 c.loop-ask.invariant.0 off.1.0 off.2),
      subst (λ l. NotesPlaces c.args.from l c.args.tables.now c.admit.new.self c.args.noted.now c.push.new.self) next
          (notes_more c.args.from (take i c.args.asks.now) a c.args.tables.now c.loop-ask.tables c.admit.new.self c.args.noted.now c.loop-ask.noted c.push.new.self c.in_ok-place.place (omega (arith, n, f)) c.requires.from c.loop-ask.invariant.1 off c.in_ok-push.ensures),
    )
