use Rattle.wave_tests.proofs.Known.{if_answers_known}
use Rattle.wave_tests.proofs.widths.answers_of.Goals as goal

pub returns-clause-known : goal.returns-clause-known
returns-clause-known g c =
    if_answers_known c.args.store.now c.wave.new.store c.args.entries.now (λ a. a.items) c.wave.result c.wave.ensures.wave.answers
