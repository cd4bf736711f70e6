use Rattle.std.proofs.Common.{All, [], ◌∷◌}
use Rattle.std.proofs.lemmas.List.Elements.{All-nil, All-cons, All-append}
use Rattle.dd_store.specs.View.{Has}
use Rattle.dd_store.proofs.View.{keeps}
use Rattle.wave_tests.proofs.Known.{still_known}
use Rattle.wave_tests.proofs.least.add_node.Goals as goal

pub returns : goal.returns
returns g c =
    let new = c.make.new.self in
    let made = c.expect-made.result in
    let old = still_known c.args.store.now new (keeps c.args.store.now new c.make.ensures.extends) c.args.known.now.items c.requires in
    let has : Has new made = rw c.expect-made.ensures at c.make.ensures.in_store in
    rw (rw c.expect.ensures at c.push.ensures.items)
    (All-append (Has new) c.args.known.now.items (made ∷ []) old (All-cons (Has new) made [] has (All-nil (Has new))))
