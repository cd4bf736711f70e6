-- The machine finds of each list of tokens whether statements begin with it.
use Rattle.std.proofs.Common.{◌≡◌, ◌≢◌, ℕ, List, [], ◌∷◌, ◌++◌, Bool, true, false, refl, sym, ap, ◌∙◌, subst, append_assoc, append-nil, arith, length}
use Rattle.std.specs.Char.{to_ascii_lowercase}
use Rattle.std.proofs.lemmas.Slice.Eq.{bytes_eq-Decides}
use Rattle.std.specs.Prelude.{◌||◌, if◌then◌else◌, flat_map, fold, codes, bytes_eq, map}
use Rattle.std.proofs.lemmas.List.Sums.{fold-append}
use Rattle.std.proofs.lemmas.Grind.{flat_map-append}
use Rattle.net_bench.specs.Text.{Word, Token, Open, Close, Comma, Equals, Name, End}
use Rattle.net_bench.specs.Statement.{Statement, Input, Output, Gate, spelled, spelling, after_comma, IsSpelledRight, AreSpelledRight}
use Rattle.net_bench.specs.Fault.{Begins}
use Rattle.net_bench.specs.Machine.{State, Between, First, Opened, Named, Defining, AtWord, Operands, AfterOperand, AfterComma, Finished, Failed, is_input_word, is_output_word, is_port_word, port, step, run, tokens_of, IsRight}

-- ---- forward: what is spelled is run through

pub failed : (ts : List Token) → run Failed ts ≡ Failed
failed [] = refl
failed (t ∷ ts) = failed ts

more_operands : (done : List Statement) (out g a : Word) (seen others : List Word) (rest : List Token) →
    run (AfterOperand done out g a seen) (flat_map after_comma others ++ rest) ≡ run (AfterOperand done out g a (seen ++ others)) rest
more_operands done out g a seen [] rest = ap (λ ws. run (AfterOperand done out g a ws) rest) (sym (append-nil seen))
more_operands done out g a seen (b ∷ others) rest =
    more_operands done out g a (seen ++ b ∷ []) others rest ∙ ap (λ ws. run (AfterOperand done out g a ws) rest) (append_assoc seen (b ∷ []) others)

port_input : (w n : Word) (t : Bool) → t ≡ true → (if t then Input w n else Output w n) ≡ Input w n
port_input w n true e = refl
port_input w n false e = cc

port_output : (w n : Word) (t : Bool) → t ≡ false → (if t then Input w n else Output w n) ≡ Output w n
port_output w n true e = cc
port_output w n false e = refl

pub either_true : {A : Type 0} (t : Bool) (x y : A) → t ≡ true → (if t then x else y) ≡ x
either_true true x y e = refl
either_true false x y e = cc

or_left : (i o : Bool) → i ≡ true → (i || o) ≡ true
or_left true o e = refl
or_left false o e = cc

or_right : (i o : Bool) → o ≡ true → (i || o) ≡ true
or_right true o e = refl
or_right false o e = e

differ : (x : List ℕ) → bytes_eq x (codes "output") ≡ true → bytes_eq x (codes "input") ≡ false
differ x h =
    elim (bytes_eq x (codes "input")) as (λ t. bytes_eq x (codes "input") ≡ t → t ≡ false) [
      | true ↦ λ e.
          let p : x ≡ codes "input" = (bytes_eq-Decides x (codes "input")).0 e in
          let q : x ≡ codes "output" = (bytes_eq-Decides x (codes "output")).0 h in
          let n : length x ≡ 5 = ap length p in
          let m : length x ≡ 6 = ap length q in
          absurd (omega arith)
      | false ↦ λ e. refl
    ] refl

not_both : (w : Word) → is_output_word w ≡ true → is_input_word w ≡ false
not_both w h = differ (map to_ascii_lowercase w.text) h

pub run_one : (done : List Statement) (s : Statement) (rest : List Token) → IsSpelledRight s → run (Between done) (spelled s ++ rest) ≡ run (Between (done ++ s ∷ [])) rest
run_one done (Input w n) rest h =
    ap (λ s. fold step (step (step s (Name n)) Close) rest) (either_true (is_port_word w) (Opened done w) Failed (or_left (is_input_word w) (is_output_word w) h)) ∙
    ap (λ s. run (Between (done ++ s ∷ [])) rest) (port_input w n (is_input_word w) h)
run_one done (Output w n) rest h =
    ap (λ s. fold step (step (step s (Name n)) Close) rest) (either_true (is_port_word w) (Opened done w) Failed (or_right (is_input_word w) (is_output_word w) h)) ∙
    ap (λ s. run (Between (done ++ s ∷ [])) rest) (port_output w n (is_input_word w) (not_both w h))
run_one done (Gate out g a others) rest h =
    ap (λ ts. fold step (AfterOperand done out g a []) ts) (append_assoc (flat_map after_comma others) (Close ∷ []) rest) ∙
    more_operands done out g a [] others (Close ∷ rest)

pub run_all : (done ss : List Statement) (rest : List Token) → AreSpelledRight ss → run (Between done) (flat_map spelled ss ++ rest) ≡ run (Between (done ++ ss)) rest
run_all done [] rest h = ap (λ ss. run (Between ss) rest) (sym (append-nil done))
run_all done (s ∷ ss) rest h =
    ap (run (Between done)) (append_assoc (spelled s) (flat_map spelled ss) rest) ∙
    run_one done s (flat_map spelled ss ++ rest) h.0 ∙
    run_all (done ++ s ∷ []) ss rest h.1 ∙
    ap (λ xs. run (Between xs) rest) (append_assoc done (s ∷ []) ss)

-- the spelling of right statements is run through
pub finishes : (ss : List Statement) → AreSpelledRight ss → run (Between []) (spelling ss) ≡ Finished ss
finishes ss h = run_all [] ss (End ∷ []) h

-- what begins a list of right statements does not fail
pub begun : (front more : List Token) (ss : List Statement) → AreSpelledRight ss → front ++ more ≡ spelling ss → run (Between []) front ≡ Failed → ⊥
begun front more ss h e f =
    let whole : run (Between []) (front ++ more) ≡ Finished ss = ap (run (Between [])) e ∙ finishes ss h in
    let bad : run (Between []) (front ++ more) ≡ Failed = fold-append step (Between []) front more ∙ ap (λ s. run s more) f ∙ failed more in
    cc

-- ---- backward: if the run has not failed, the state says what the tokens were

right_snoc : (ss : List Statement) (s : Statement) → AreSpelledRight ss → IsSpelledRight s → AreSpelledRight (ss ++ s ∷ [])
right_snoc [] s h k = (k, tt)
right_snoc (x ∷ ss) s h k = (h.0, right_snoc ss s h.1 k)

pub spelled_snoc : (ss : List Statement) (s : Statement) → flat_map spelled (ss ++ s ∷ []) ≡ flat_map spelled ss ++ spelled s
spelled_snoc ss s = flat_map-append spelled ss (s ∷ []) ∙ ap (λ ts. flat_map spelled ss ++ ts) (append-nil (spelled s))

port_right : (w n : Word) (i o : Bool) → (i || o) ≡ true → i ≡ is_input_word w → o ≡ is_output_word w → IsSpelledRight (if i then Input w n else Output w n)
port_right w n true o h e f = sym e
port_right w n false o h e f = sym f ∙ h

port_spelled : (w n : Word) (t : Bool) → spelled (if t then Input w n else Output w n) ≡ Name w ∷ Open ∷ Name n ∷ Close ∷ []
port_spelled w n true = refl
port_spelled w n false = refl

pub opens : (done : List Statement) (w : Word) (t : Bool) → (if t then Opened done w else Failed) ≢ Failed → t ≡ true
opens done w true other = refl
opens done w false other = absurd (other refl)

-- the state after one more token
abbrev pub Goes : State → Token → State → Type 0
Goes s t new = IsRight new × (tokens_of new ≡ tokens_of s ++ t ∷ [])

pub go : (s : State) (t : Token) → step s t ≢ Failed → IsRight s → Goes s t (step s t)
go (Between done) (Name w) other h = (h, refl)
go (Between done) End other h = (h, refl)
go (First done w) Equals other h = (h, sym (append_assoc (flat_map spelled done) (Name w ∷ []) (Equals ∷ [])))
go (First done w) Open other h =
    let t : is_port_word w ≡ true = opens done w (is_port_word w) other in
    subst (Goes (First done w) Open) (sym (either_true (is_port_word w) (Opened done w) Failed t))
    ((h, t), sym (append_assoc (flat_map spelled done) (Name w ∷ []) (Open ∷ [])))
go (Opened done w) (Name n) other h = (h, sym (append_assoc (flat_map spelled done) (Name w ∷ Open ∷ []) (Name n ∷ [])))
go (Named done w n) Close other h = (
  right_snoc done (port w n) h.0 (port_right w n (is_input_word w) (is_output_word w) h.1 refl refl),
  spelled_snoc done (port w n) ∙ ap (λ ts. flat_map spelled done ++ ts) (port_spelled w n (is_input_word w)) ∙
      sym (append_assoc (flat_map spelled done) (Name w ∷ Open ∷ Name n ∷ []) (Close ∷ [])),
)
go (Defining done out) (Name g) other h = (h, sym (append_assoc (flat_map spelled done) (Name out ∷ Equals ∷ []) (Name g ∷ [])))
go (AtWord done out g) Open other h = (h, sym (append_assoc (flat_map spelled done) (Name out ∷ Equals ∷ Name g ∷ []) (Open ∷ [])))
go (Operands done out g) (Name a) other h = (h, sym (append_assoc (flat_map spelled done) (Name out ∷ Equals ∷ Name g ∷ Open ∷ []) (Name a ∷ [])))
go (AfterOperand done out g a others) Comma other h =
    (h, sym (append_assoc (flat_map spelled done) (Name out ∷ Equals ∷ Name g ∷ Open ∷ Name a ∷ flat_map after_comma others) (Comma ∷ [])))
go (AfterOperand done out g a others) Close other h = (
  right_snoc done (Gate out g a others) h tt,
  spelled_snoc done (Gate out g a others) ∙
      sym (append_assoc (flat_map spelled done) (Name out ∷ Equals ∷ Name g ∷ Open ∷ Name a ∷ flat_map after_comma others) (Close ∷ [])),
)
go (AfterComma done out g a others) (Name b) other h = (
  h,
  ap (λ ts. flat_map spelled done ++ Name out ∷ Equals ∷ Name g ∷ Open ∷ Name a ∷ ts)
      (flat_map-append after_comma others (b ∷ []) ∙ sym (append_assoc (flat_map after_comma others) (Comma ∷ []) (Name b ∷ []))) ∙
      sym (append_assoc (flat_map spelled done) (Name out ∷ Equals ∷ Name g ∷ Open ∷ Name a ∷ (flat_map after_comma others ++ Comma ∷ [])) (Name b ∷ [])),
)
go s t other h = absurd (other refl)

-- the state after more tokens
abbrev pub Goes' : State → List Token → State → Type 0
Goes' s ts new = IsRight new × (tokens_of new ≡ tokens_of s ++ ts)

no_end : (ss : List Statement) → Finished ss ≡ Failed → ⊥
no_end ss e = cc

-- a run that has not failed has read what its state says
pub reads_back : (s : State) (ts : List Token) → run s ts ≢ Failed → IsRight s → Goes' s ts (run s ts)
reads_back s [] other h = (h, sym (append-nil (tokens_of s)))
reads_back s (t ∷ ts) other h =
    let next : Goes s t (step s t) = go s t (λ e. other (ap (λ x. run x ts) e ∙ failed ts)) h in
    let rest : Goes' (step s t) ts (run (step s t) ts) = reads_back (step s t) ts other next.0 in
    (rest.0, rest.1 ∙ ap (λ xs. xs ++ ts) next.1 ∙ append_assoc (tokens_of s) (t ∷ []) ts)

-- a run that has finished has read the spelling of its statements
pub finished : (ts : List Token) (ss : List Statement) → run (Between []) ts ≡ Finished ss → AreSpelledRight ss × (ts ≡ spelling ss)
finished ts ss e =
    let all : Goes' (Between []) ts (run (Between []) ts) = reads_back (Between []) ts (λ f. no_end ss (sym e ∙ f)) tt in
    (subst IsRight e all.0, sym all.1 ∙ ap tokens_of e)

-- ---- from a state that has not failed the statements can be finished

abbrev CanFinish : State → Type 0
CanFinish s = (more : List Token) × (ss : List Statement) × (run s more ≡ Finished ss)

can_finish : (s : State) → s ≢ Failed → CanFinish s
can_finish (Between done) other = (End ∷ [], done, refl)
can_finish (First done w) other = (Equals ∷ Name w ∷ Open ∷ Name w ∷ Close ∷ End ∷ [], _, refl)
can_finish (Opened done w) other = (Name w ∷ Close ∷ End ∷ [], _, refl)
can_finish (Named done w n) other = (Close ∷ End ∷ [], _, refl)
can_finish (Defining done out) other = (Name out ∷ Open ∷ Name out ∷ Close ∷ End ∷ [], _, refl)
can_finish (AtWord done out g) other = (Open ∷ Name out ∷ Close ∷ End ∷ [], _, refl)
can_finish (Operands done out g) other = (Name out ∷ Close ∷ End ∷ [], _, refl)
can_finish (AfterOperand done out g a others) other = (Close ∷ End ∷ [], _, refl)
can_finish (AfterComma done out g a others) other = (Name out ∷ Close ∷ End ∷ [], _, refl)
can_finish (Finished done) other = ([], done, refl)
can_finish Failed other = absurd (other refl)

-- tokens with which the machine has not failed begin a list of right statements
pub can_begin : (front : List Token) → run (Between []) front ≢ Failed → Begins front
can_begin front other =
    let last : CanFinish (run (Between []) front) = can_finish (run (Between []) front) other in
    let whole : AreSpelledRight last.1 × (front ++ last.0 ≡ spelling last.1) =
    finished (front ++ last.0) last.1 (fold-append step (Between []) front last.0 ∙ last.2) in
    (last.1, last.0, whole.0, whole.1)

-- tokens with which it has failed begin none
pub cannot_begin : (front : List Token) → run (Between []) front ≡ Failed → Begins front → ⊥
cannot_begin front e h = begun front h.1 h.0 h.2 h.3 e
