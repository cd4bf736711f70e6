use Rattle.std.proofs.Common.{◌≡◌, ◌++◌, take}
use Rattle.req_table.specs.WordLists.{words_in}
use Rattle.req_table.proofs.words.Words.append_short.Given as goal

abbrev pub invariant-loop-word : goal.invariant-loop-word
invariant-loop-word l = words_in l.self ≡ words_in l.fn.self ++ take l.word-index l.more
