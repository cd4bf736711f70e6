use Rattle.std.proofs.Common.{map, inr}
use Rattle.net_names.proofs.NameTexts.{all_names, bad_name, one_more_name}
use Rattle.net_names.proofs.order_file.names_in.Goals as goal

pub returns-in-End-clause-names : goal.returns-in-End-clause-names
returns-in-End-clause-names c =
    all_names c.args.text.now c.tokens.invariant.0 c.tokens.scanner c.next-line.new.self (map (λ n. n.items) c.tokens.names.items) c.next-line.result.0 c.next-line.result.1
    c.tokens.invariant.1 c.tokens.invariant.2 c.next-line.ensures c.requires c.in-End.is

pub tokens-preserved : goal.tokens-preserved
tokens-preserved c =
    one_more_name c.args.text.now c.tokens.invariant.0 c.tokens.scanner c.next-line.new.self (map (λ n. n.items) c.tokens.names.items) c.next-line.result.0 c.next-line.result.1
    c.tokens.invariant.1 c.tokens.invariant.2 c.next-line.ensures (map (λ n. n.items) c.push_name.new.names.items) c.in-Some.name.now c.in_default.not-End (c.in-Some.ensures c.next-line.result.0) c.in_ok-push_name-in-Some.ensures

pub returns-in-None : goal.returns-in-None
returns-in-None c = record {
  names = tt;
  refused = inr (bad_name c.args.text.now c.tokens.invariant.0 c.tokens.scanner c.next-line.new.self (map (λ n. n.items) c.tokens.names.items) c.next-line.result.0 c.next-line.result.1
      c.tokens.invariant.1 c.tokens.invariant.2 c.next-line.ensures c.requires c.in_default.not-End (c.in-None.ensures c.next-line.result.0));
}
