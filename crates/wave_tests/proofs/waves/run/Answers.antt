use Rattle.std.proofs.Common.{rules, ◌≡◌, ◌++◌, sym, subst, All}
use Rattle.std.proofs.lemmas.List.Elements.{All-append}
use Rattle.dd_store.specs.View.{Has}
use Rattle.wave_tests.proofs.Known.{still_known}
use Rattle.wave_tests.proofs.waves.run.Goals as goal

pub returns-clause-known : goal.returns-clause-known
returns-clause-known g c =
    let grown : c.extend_from_slice.new.self.items ≡ c.args.known.now.items ++ c.in_ok-answers.answers.items = search rules in
    subst (All (Has c.answers_of.new.store)) (sym grown)
    (All-append (Has c.answers_of.new.store) c.args.known.now.items c.in_ok-answers.answers.items
    (still_known c.args.store.now c.answers_of.new.store c.answers_of.ensures.keeps c.args.known.now.items c.requires.known)
    c.in_ok-answers.ensures.known)
