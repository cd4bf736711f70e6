use Rattle.std.proofs.Common.{rules, ◌≡◌, Bool, None, sym, subst}
use Rattle.req_table.specs.declared.Key.{Key}
use Rattle.req_table.specs.TerminalCase.{terminal_of}
use Rattle.req_table.specs.Keys.{IsKey}
use Rattle.req_table.specs.Sizes.{sizes_of, IsKeyOf}
use Rattle.req_table.proofs.Waved.{is_key}
use Rattle.req_table.proofs.Sized.{sizes_of_key}
use Rattle.wave_tests.proofs.requests.request_for.Goals as goal

pub returns-clause-key : goal.returns-clause-key
returns-clause-key g c =
    let long : terminal_of c.args.op c.args.f c.args.g ≡ None = search rules in
    subst (λ (n : Key × Bool). IsKey c.args.store.now n.0) (sym c.normal.ensures.key) (is_key c.args.store.now c.args.op c.args.f c.args.g c.requires.first c.requires.second long)

pub returns-clause-sized : goal.returns-clause-sized
returns-clause-sized g c =
    let long : terminal_of c.args.op c.args.f c.args.g ≡ None = search rules in
    subst (λ (n : Key × Bool). IsKeyOf (sizes_of c.args.store.now) n.0) (sym c.normal.ensures.key)
    (sizes_of_key c.args.store.now _ (is_key c.args.store.now c.args.op c.args.f c.args.g c.requires.first c.requires.second long))
