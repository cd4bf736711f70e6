use Rattle.wave_tests.proofs.Known.{if_answers_known}
use Rattle.wave_tests.proofs.waves.answers_of.Goals as goal

pub returns-in-OneThread-clause-known : goal.returns-in-OneThread-clause-known
returns-in-OneThread-clause-known g c =
    if_answers_known c.args.store.now c.wave_on_one_thread.new.store c.args.entries.now (λ a. a.items) c.wave_on_one_thread.result c.wave_on_one_thread.ensures.wave.answers

pub returns-in-Threads-clause-known : goal.returns-in-Threads-clause-known
returns-in-Threads-clause-known g c =
    if_answers_known c.args.store.now c.wave.new.store c.args.entries.now (λ a. a.items) c.wave.result c.wave.ensures.wave.answers

pub returns-clause-known : goal.returns-clause-known
returns-clause-known g c =
    if_answers_known c.args.store.now c.wave-in-Upto.new.store c.args.entries.now (λ a. a.items) c.wave-in-Upto.result c.wave-in-Upto.ensures.wave.answers
