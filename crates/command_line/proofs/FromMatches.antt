-- From what the parser has found to the arguments.
use Rattle.std.proofs.Common.{inl, inr, List, Result, Ok, Err, IfOk, IfErr}
use Rattle.clap.specs.Words.{Row, Text}
use Rattle.command_line.specs.declared.options.Options.{Options}
use Rattle.command_line.specs.declared.reading.Refused.{Refused}
use Rattle.command_line.specs.Words.{HaveConflict, AreMatches, AreOptions, AskFor, IsRefusal, IsRefusedFor}

module _ (words : List Text) (rows : List Row) (found : AreMatches words rows) where
  pub asked : (r : Result Options Refused) → IfOk r (λ o. (HaveConflict rows → ⊥) × AreOptions rows o) → IfOk r (AskFor words)
  asked (Err refused) h = tt
  asked (Ok o) h = (rows, found, h.0, h.1)

  pub refused_for : (r : Result Options Refused) → IfErr r (IsRefusedFor rows) → IfErr r (IsRefusal words)
  refused_for (Ok o) h = tt
  refused_for (Err refused) h = by h
    where
      by : IsRefusedFor rows refused → IsRefusal words refused
      by (inl conflicting) = inr (inl (rows, found, conflicting.0, conflicting.1))
      by (inr (inl bad)) = inr (inr (inl (rows, found, bad.0, bad.1, bad.2)))
      by (inr (inr none)) = inr (inr (inr none))
