use Rattle.std.proofs.Common.{rules, ◌≡◌, sym}
use Rattle.check_tool.proofs.compare.check_or_print_named.Goals as goal

pub returns-clause-report : goal.returns-clause-report
returns-clause-report g c =
    let one : c.new-first.result ≡ c.args.texts.now.first.items = search rules in
    let two : c.new-second.result ≡ c.args.texts.now.second.items = search rules in
    rw (sym one, sym two) c.check_or_print.ensures.report

pub returns-clause-fault : goal.returns-clause-fault
returns-clause-fault g c =
    let one : c.new-first.result ≡ c.args.texts.now.first.items = search rules in
    let two : c.new-second.result ≡ c.args.texts.now.second.items = search rules in
    rw (sym one, sym two) c.check_or_print.ensures.fault
