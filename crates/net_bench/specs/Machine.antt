-- The reader's states: what the tokens so far have said. The grammar does not mention them; laws in proofs/ show that
-- both agree.
use Rattle.std.specs.Prelude.{Bool, ◌||◌, if◌then◌else◌, IsTrue, List, [], ◌∷◌, ◌++◌, flat_map, fold, codes}
use Rattle.net_bench.specs.Text.{Word, Token, Open, Close, Comma, Equals, Name, End}
use Rattle.net_bench.specs.Statement.{Statement, Input, Output, Gate, spelled, after_comma, AreSpelledRight, is_word}

-- between statements, or in a partial statement, each with the whole statements before it
pub data State : Type 0 where
  Between : (done : List Statement) → State
  First : (done : List Statement) (w : Word) → State
  Opened : (done : List Statement) (w : Word) → State
  Named : (done : List Statement) (w n : Word) → State
  Defining : (done : List Statement) (out : Word) → State
  AtWord : (done : List Statement) (out g : Word) → State
  Operands : (done : List Statement) (out g : Word) → State
  AfterOperand : (done : List Statement) (out g a : Word) (others : List Word) → State
  AfterComma : (done : List Statement) (out g a : Word) (others : List Word) → State
  Finished : (done : List Statement) → State
  Failed : State

-- INPUT in either case
abbrev pub is_input_word : Word → Bool
is_input_word w = is_word w.text (codes "INPUT")

-- OUTPUT in either case
abbrev pub is_output_word : Word → Bool
is_output_word w = is_word w.text (codes "OUTPUT")

-- INPUT or OUTPUT
abbrev pub is_port_word : Word → Bool
is_port_word w = is_input_word w || is_output_word w

-- the statement of such a word
abbrev pub port : Word → Word → Statement
port w n = if is_input_word w then Input w n else Output w n

-- the state after one more token
abbrev pub step : State → Token → State
step (Between done) (Name w) = First done w
step (Between done) End = Finished done
step (First done w) Equals = Defining done w
step (First done w) Open = if is_port_word w then Opened done w else Failed
step (Opened done w) (Name n) = Named done w n
step (Named done w n) Close = Between (done ++ port w n ∷ [])
step (Defining done out) (Name g) = AtWord done out g
step (AtWord done out g) Open = Operands done out g
step (Operands done out g) (Name a) = AfterOperand done out g a []
step (AfterOperand done out g a others) Comma = AfterComma done out g a others
step (AfterOperand done out g a others) Close = Between (done ++ Gate out g a others ∷ [])
step (AfterComma done out g a others) (Name b) = AfterOperand done out g a (others ++ b ∷ [])
step s t = Failed

-- the state after more tokens
abbrev pub run : State → List Token → State
run s ts = fold step s ts

-- the tokens that lead to a state
abbrev pub tokens_of : State → List Token
tokens_of (Between done) = flat_map spelled done
tokens_of (First done w) = flat_map spelled done ++ Name w ∷ []
tokens_of (Opened done w) = flat_map spelled done ++ Name w ∷ Open ∷ []
tokens_of (Named done w n) = flat_map spelled done ++ Name w ∷ Open ∷ Name n ∷ []
tokens_of (Defining done out) = flat_map spelled done ++ Name out ∷ Equals ∷ []
tokens_of (AtWord done out g) = flat_map spelled done ++ Name out ∷ Equals ∷ Name g ∷ []
tokens_of (Operands done out g) = flat_map spelled done ++ Name out ∷ Equals ∷ Name g ∷ Open ∷ []
tokens_of (AfterOperand done out g a others) = flat_map spelled done ++ Name out ∷ Equals ∷ Name g ∷ Open ∷ Name a
    ∷ flat_map after_comma others
tokens_of (AfterComma done out g a others) = flat_map spelled done ++ Name out ∷ Equals ∷ Name g ∷ Open ∷ Name a
    ∷ (flat_map after_comma others ++ Comma ∷ [])
tokens_of (Finished done) = flat_map spelled done ++ End ∷ []
tokens_of Failed = []

-- what is true of a state that has not failed
abbrev pub IsRight : State → Type 0
IsRight (Between done) = AreSpelledRight done
IsRight (First done w) = AreSpelledRight done
IsRight (Opened done w) = AreSpelledRight done × IsTrue (is_port_word w)
IsRight (Named done w n) = AreSpelledRight done × IsTrue (is_port_word w)
IsRight (Defining done out) = AreSpelledRight done
IsRight (AtWord done out g) = AreSpelledRight done
IsRight (Operands done out g) = AreSpelledRight done
IsRight (AfterOperand done out g a others) = AreSpelledRight done
IsRight (AfterComma done out g a others) = AreSpelledRight done
IsRight (Finished done) = AreSpelledRight done
IsRight Failed = ⊥
