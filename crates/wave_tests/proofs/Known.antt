-- Known references stay known, and a wave's answers become known.
use Rattle.std.proofs.Common.{List, [], ◌∷◌, All}
use Rattle.std.specs.Prelude.{Result, Ok, Err, IfOk}
use Rattle.std.proofs.lemmas.List.Elements.{All-nil, All-cons}
use Rattle.dd_store.specs.declared.reference.Ref.{Ref}
use Rattle.dd_store.specs.Nodes.{Nodes}
use Rattle.dd_store.specs.View.{Has, Keeps}
use Rattle.reduce_up.specs.Waves.{Entry, AnswersEach}

pub still_known : (S T : Nodes) → Keeps S T → (known : List Ref) → All (Has S) known → All (Has T) known
still_known S T K known h i d lt = K.has _ (h i d lt)

pub answers_known : (S T : Nodes) (entries : List Entry) (answers : List Ref) → AnswersEach S entries T answers → All (Has T) answers
answers_known S T [] [] z = All-nil (Has T)
answers_known S T [] (r ∷ answers) z = absurd z
answers_known S T (e ∷ entries) [] z = absurd z
answers_known S T (e ∷ entries) (r ∷ answers) z = All-cons (Has T) r answers z.0.0 (answers_known S T entries answers z.1)

pub if_answers_known : (S T : Nodes) (entries : List Entry) {A E : Type 0} (items : A → List Ref) (result : Result A E) → IfOk result (λ a. AnswersEach S entries T (items a)) → IfOk result (λ a. All (Has T) (items a))
if_answers_known S T entries items (Ok a) h = answers_known S T entries (items a) h
if_answers_known S T entries items (Err e) h = h
