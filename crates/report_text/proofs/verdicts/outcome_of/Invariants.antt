use Rattle.std.proofs.Common.{◌≡◌, ◌+◌, take}
use Rattle.std.specs.Prelude.{count_by}
use Rattle.report_text.specs.Lines.{is_equal, is_different, is_unmatched, is_undecided}
use Rattle.report_text.proofs.verdicts.outcome_of.Given as goal

-- those so far are counted, each once
abbrev pub invariant-loop-verdict : goal.invariant-loop-verdict
invariant-loop-verdict l = record {
  equal : l.outcome.equal ≡ count_by is_equal (take l.verdict-index l.verdicts);
  different : l.outcome.different ≡ count_by is_different (take l.verdict-index l.verdicts);
  unmatched : l.outcome.unmatched ≡ count_by is_unmatched (take l.verdict-index l.verdicts);
  undecided : l.outcome.undecided ≡ count_by is_undecided (take l.verdict-index l.verdicts);
  all : l.outcome.equal + l.outcome.different + l.outcome.unmatched + l.outcome.undecided ≡ l.verdict-index;
}
