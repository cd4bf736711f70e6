use Rattle.std.proofs.Common.{subst, arith}
use Rattle.std.proofs.lemmas.List.{take_all}
use Rattle.expand_work.proofs.Holding.{Holding, hold-start, hold-may, hold-leave, hold-more}
use Rattle.expand_work.proofs.receive.keep_all.Goals as goal

pub loop-ask-init : goal.loop-ask-init
loop-ask-init c = hold-start c.args.port.now c.requires.taken

pub keep-requires-clause-may_follow : goal.keep-requires-clause-may_follow
keep-requires-clause-may_follow c = hold-may c.args.lanes.now c.args.port.now c.args.asks.now c.requires.port c.requires.may c.loop-ask.port c.loop-ask.ask-index c.ask-item.result c.loop-ask-test.true c.ask-item.is c.loop-ask.invariant

pub keep-requires-clause-may_be_sent : goal.keep-requires-clause-may_be_sent
keep-requires-clause-may_be_sent c = hold-leave c.args.lanes.now c.args.port.now c.args.asks.now c.requires.port c.requires.may c.loop-ask.port c.loop-ask.ask-index c.ask-item.result c.loop-ask-test.true c.ask-item.is c.loop-ask.invariant

pub keep-requires-clause-taken : goal.keep-requires-clause-taken
keep-requires-clause-taken c = c.loop-ask.invariant.all

pub loop-ask-preserved : goal.loop-ask-preserved
loop-ask-preserved c = hold-more c.args.lanes.now c.args.port.now c.args.asks.now c.requires.port c.requires.may c.loop-ask.port c.loop-ask.ask-index c.ask-item.result c.loop-ask-test.true c.ask-item.is c.loop-ask.invariant c.keep.new.self c.keep.ensures.kept

pub returns-clause-kept : goal.returns-clause-kept
returns-clause-kept c =
    let h = subst (Holding c.args.port.now c.loop-ask.port) (take_all c.loop-ask.ask-index c.args.asks.now (let t = c.loop-ask-test.false in omega (arith, t))) c.loop-ask.invariant in
    h.kept

pub returns-clause-taken : goal.returns-clause-taken
returns-clause-taken c = c.loop-ask.invariant.all
