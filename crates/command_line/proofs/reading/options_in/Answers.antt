use Rattle.std.proofs.Common.{ℕ, Err, ap, inl, inr, subst, refl}
use Rattle.std.specs.Prelude.{IsSomeAnd}
use Rattle.command_line.specs.Words.{IsMemory}
use Rattle.command_line.proofs.reading.options_in.Goals as goal

pub returns-in-Some-clause-refused : goal.returns-in-Some-clause-refused
returns-in-Some-clause-refused c = inl (c.in-Some.ensures.any, c.refuse_conflict.ensures)

pub returns-in_default-memory_in-clause-refused : goal.returns-in_default-memory_in-clause-refused
returns-in_default-memory_in-clause-refused c =
    inr (inl (
      c.in_default.ensures.any,
      inl (subst (λ w. IsSomeAnd w (λ text. (n : ℕ) → IsMemory text n → ⊥)) c.word_of-word.ensures (c.in_default-memory_in.ensures.none refl)),
      c.bad_memory.ensures,
    ))

pub options_of-requires-clause-without_conflict : goal.options_of-requires-clause-without_conflict
options_of-requires-clause-without_conflict c = c.in_default.ensures.any

pub returns-in-Ok-picks_in-clause-options : goal.returns-in-Ok-picks_in-clause-options
returns-in-Ok-picks_in-clause-options c = (c.in_default.ensures.any, c.options_of.ensures)

pub returns-in-Err-Share-clause-refused : goal.returns-in-Err-Share-clause-refused
returns-in-Err-Share-clause-refused c =
    inr (inl (
      c.in_default.ensures.any,
      inr (c.in-Err-Share.ensures.share (ap Err c.in-Err-Share.field-0-is)),
      c.bad_share.ensures,
    ))
