use Rattle.std.proofs.Common.{◌≡◌, ◌≢◌, ◌⊎◌, inl, inr, None, Some, ◌∙◌, ap, sym}
use Rattle.net_bench.specs.Scan.{seen}
use Rattle.net_names.specs.OrderText.{listed_name}
use Rattle.net_rename.proofs.PairTexts.{all_pairs, bad_first, bad_second, one_more_pair}
use Rattle.net_rename.proofs.pair_file.pairs_in.Goals as goal
use Rattle.net_rename.proofs.pair_file.pairs_in.Goals.{in_default-name_in-2-via-in-Some-name_in+else-same_line-line, in_default-name_in-2-via-in_default-name_in-2}

pub returns-in-End-clause-pairs : goal.returns-in-End-clause-pairs
returns-in-End-clause-pairs c =
    all_pairs c.args.text.now c.tokens.invariant.0 c.tokens.scanner c.next-line.new.self c.tokens.pairs.items c.next-line.result.0 c.next-line.result.1
    c.tokens.invariant.1 c.tokens.invariant.2 c.next-line.ensures c.requires c.in-End.is

pub returns-in_default-name_in : goal.returns-in_default-name_in
returns-in_default-name_in c = record {
  pairs = tt;
  refused = inr (bad_first c.args.text.now c.tokens.invariant.0 c.tokens.scanner c.next-line.new.self c.tokens.pairs.items c.next-line.result.0 c.next-line.result.1
      c.tokens.invariant.1 c.tokens.invariant.2 c.next-line.ensures c.requires c.in_default.not-End (c.in_default-name_in.ensures c.next-line.result.0));
}

pub tokens-preserved : goal.tokens-preserved
tokens-preserved c =
    let pushed = c.in_ok-push_pair-in-Some-name_in.ensures in
    one_more_pair c.args.text.now c.tokens.invariant.0 c.tokens.scanner c.next-line.new.self c.tokens.pairs.items c.next-line.result.0 c.next-line.result.1
    c.tokens.invariant.1 c.tokens.invariant.2 c.next-line.ensures
    c.next-same_line.new.self c.next-same_line.result.0 c.next-same_line.result.1 c.next-same_line.ensures
    c.push_pair.new.pairs.items pushed.0 c.if-same_line-line.true (c.in-Some.ensures c.next-line.result.0 ∙ ap (λ n. Some n) (sym pushed.1))
    (c.in-Some-name_in.ensures c.next-same_line.result.0 ∙ ap (λ n. Some n) (sym pushed.2)) pushed.3 pushed.4

pub returns-in_default-name_in-2 : goal.returns-in_default-name_in-2
returns-in_default-name_in-2 c =
    let bad : (c.next-same_line.result.0 ≢ c.next-line.result.0) ⊎ (listed_name (seen c.next-same_line.result.0 c.next-same_line.result.1) ≡ None) =
    elim c.in_default-name_in-2.branch [
      | in_default-name_in-2-via-in-Some-name_in+else-same_line-line w ↦ inl w.if-same_line-line.false
      | in_default-name_in-2-via-in_default-name_in-2 w ↦ inr (w.in_default-name_in-2.ensures c.next-same_line.result.0)
    ] in record {
      pairs = tt;
      refused = inr (bad_second c.args.text.now c.tokens.invariant.0 c.tokens.scanner c.next-line.new.self c.tokens.pairs.items c.next-line.result.0 c.next-line.result.1
          c.tokens.invariant.1 c.tokens.invariant.2 c.next-line.ensures
          c.next-same_line.new.self c.next-same_line.result.0 c.next-same_line.result.1 c.next-same_line.ensures
          c.requires c.in_default.not-End bad);
    }
