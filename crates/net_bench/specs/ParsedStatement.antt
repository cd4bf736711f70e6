-- The words, statements and partial statements of the code as those of the definitions, which leave out where they are in memory.
use Rattle.std.specs.Prelude.{List, [], ◌∷◌, ◌++◌, map, Option, Some, None}
use Rattle.net_bench.specs.declared.syntax.Word.{Word as CodeWord}
use Rattle.net_bench.specs.declared.syntax.ParsedStatement.{ParsedStatement}
use Rattle.net_bench.specs.declared.syntax.ParsedStatement.TheVariants.{Input as input, Output as output, Gate as gate}
use Rattle.net_bench.specs.declared.syntax.PartialStatement.{PartialStatement}
use Rattle.net_bench.specs.declared.syntax.Next.{Next}
use Rattle.net_bench.specs.declared.syntax.Next.TheVariants.{More as more, Complete as whole}
use Rattle.net_bench.specs.declared.syntax.PartialStatement.TheVariants.{Nothing as nothing, First as first_name, Opened as opened, Named as named}
use Rattle.net_bench.specs.declared.syntax.PartialStatement.TheVariants.{Defining as defining, AtWord as at_word, Operands as operands}
use Rattle.net_bench.specs.declared.syntax.PartialStatement.TheVariants.{AfterOperand as after_operand, AfterComma as after_comma}
use Rattle.net_bench.specs.Machine.{State, Between, First, Opened, Named, Defining, AtWord, Operands, AfterOperand, AfterComma}
use Rattle.net_bench.specs.Text.{Word}
use Rattle.net_bench.specs.Statement.{Statement, Input, Output, Gate}

-- a word of the code
abbrev pub word_of : CodeWord → Word
word_of w = record { line = w.line; text = w.text.now }

-- a statement of the code
abbrev pub statement_of : ParsedStatement → Statement
statement_of (input word name) = Input (word_of word) (word_of name)
statement_of (output word name) = Output (word_of word) (word_of name)
statement_of (gate g) = Gate (word_of g.out) (word_of g.word) (word_of g.first) (map word_of g.others.items)

-- the reader's state, from the whole statements so far and the partial statement
abbrev pub state_of : List Statement → PartialStatement → State
state_of done nothing = Between done
state_of done (first_name word) = First done (word_of word)
state_of done (opened word) = Opened done (word_of word)
state_of done (named word name) = Named done (word_of word) (word_of name)
state_of done (defining out) = Defining done (word_of out)
state_of done (at_word out word) = AtWord done (word_of out) (word_of word)
state_of done (operands out word) = Operands done (word_of out) (word_of word)
state_of done (after_operand g) = AfterOperand done (word_of g.out) (word_of g.word) (word_of g.first) (map word_of g.others.items)
state_of done (after_comma g) = AfterComma done (word_of g.out) (word_of g.word) (word_of g.first) (map word_of g.others.items)

-- the state after one more token
abbrev pub next_state : List Statement → Next → State
next_state done (more part) = state_of done part
next_state done (whole parsed) = Between (done ++ statement_of parsed ∷ [])

-- the statement that the token has closed, after those before it
abbrev pub closing : List Statement → Next → Option (List Statement × Statement)
closing done (more part) = None
closing done (whole parsed) = Some (done, statement_of parsed)
