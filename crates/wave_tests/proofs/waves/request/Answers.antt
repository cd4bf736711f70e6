use Rattle.std.proofs.Common.{rules, ◌≡◌, Bool, None, sym, subst}
use Rattle.req_table.specs.declared.Key.{Key}
use Rattle.req_table.specs.Keys.{IsKey}
use Rattle.req_table.specs.TerminalCase.{terminal_of}
use Rattle.req_table.proofs.Waved.{is_key}
use Rattle.wave_tests.proofs.waves.request.Goals as goal

pub returns : goal.returns
returns g c =
    let long : terminal_of c.args.step.0 c.known_at-f.result c.known_at-g.result ≡ None = search rules in
    subst (λ (n : Key × Bool). IsKey c.args.store.now n.0) (sym c.normal.ensures.key)
    (is_key c.args.store.now c.args.step.0 c.known_at-f.result c.known_at-g.result c.known_at-f.ensures c.known_at-g.ensures long)
