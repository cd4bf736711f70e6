use Rattle.std.proofs.Common.{◌≡◌, ℕ, List, [], ◌++◌, sym, ap, ◌∙◌, subst}
use Rattle.std.specs.List.{flat_map}
use Rattle.std.specs.Prelude.{MatchOption}
use Rattle.req_table.specs.declared.Key.{Key}
use Rattle.expand_work.specs.Due.{in_partial, IsCut}
use Rattle.expand_work.proofs.Cutting.{full_rest, cut_full, none_left, cut_partial}
use Rattle.expand_work.proofs.due.Asks.take.Goals as goal

pub invariant_of-self : goal.invariant_of-self
invariant_of-self c = (full_rest c.self.inside.full.items c.pop_front.new.self.items c.pop_front.ensures.rest c.self.invariant.0, c.self.invariant.1)

pub returns-in-Some : goal.returns-in-Some
returns-in-Some c = cut_full c.in-Some.bundle (in_partial c.self.inside.partial) c.args.self.now c.self.inside.full.items c.pop_front.new.self.items c.in-Some.ensures.items c.self.invariant.0 c.self.view_is

pub returns-in-None : goal.returns-in-None
returns-in-None c =
    let fs : List (List (ℕ × Key)) = c.self.inside.full.items in
    let bs : List (List (ℕ × Key)) = c.pop_front.new.self.items in
    let partial = c.self.inside.partial in
    let none : fs ≡ [] = none_left fs bs c.in-None.ensures.items c.pop_front.ensures.rest in
    let rest : bs ≡ [] = sym c.in-None.ensures.items ∙ none in
    let all : in_partial partial ≡ c.args.self.now = ap (λ (xs : List (List (ℕ × Key))). flat_map (λ (x : List (ℕ × Key)). x) xs ++ in_partial partial) (sym none) ∙ c.self.view_is in
    let left : List (ℕ × Key) = flat_map (λ (x : List (ℕ × Key)). x) bs ++ in_partial c.take.new.self in
    let empty : left ≡ [] = λ i. flat_map (λ (x : List (ℕ × Key)). x) (rest i) ++ in_partial (c.take.ensures.after i) in
    subst (λ o. MatchOption o ((c.args.self.now ≡ []) × (left ≡ [])) (λ b. IsCut c.args.self.now b left)) (sym c.take.ensures.value)
    (cut_partial partial c.args.self.now left c.self.invariant.1 all empty)
