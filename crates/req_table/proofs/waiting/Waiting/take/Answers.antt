use Rattle.std.proofs.Common.{◌≡◌, ◌∙◌, ◌<◌, ℕ, List, [], length, set, sym, ap, subst}
use Rattle.std.proofs.lemmas.List.{set-set}
use Rattle.req_table.specs.declared.Key.{Key}
use Rattle.req_table.specs.Places.{AreMembers}
use Rattle.req_table.proofs.Members.{member_gone}
use Rattle.req_table.proofs.waiting.Waiting.take.Goals as goal

pub invariant_of-self : goal.invariant_of-self
invariant_of-self c =
    let T : List (List Key) = c.self.inside.tables.items in
    let l : ℕ = c.args.level in
    let fits : l < length T = subst (λ (z : List (List Key)). l < length z) (sym c.self.view_is) c.requires.level in
    let out : set (set T l c.swap.new.x) l c.new.result ≡ set T l [] = set-set T l c.swap.new.x c.new.result ∙ ap (set T l) c.new.ensures in
    subst (AreMembers c.remove.new.self) (sym out)
    (member_gone c.self.inside.nonempty_levels c.remove.new.self T l c.self.invariant fits c.remove.ensures.room c.remove.ensures.own c.remove.ensures.others)

pub invariant_of-self-else-len-gt-MAX_SMALL_LEN : goal.invariant_of-self-else-len-gt-MAX_SMALL_LEN
invariant_of-self-else-len-gt-MAX_SMALL_LEN c =
    let T : List (List Key) = c.self.inside.tables.items in
    let l : ℕ = c.args.level in
    let fits : l < length T = subst (λ (z : List (List Key)). l < length z) (sym c.self.view_is) c.requires.level in
    let empty : c.swap.new.x ≡ [] = c.swap.ensures.x_after ∙ c.requires.empty in
    subst (λ (z : List Key). AreMembers c.remove.new.self (set T l z)) (sym empty)
    (member_gone c.self.inside.nonempty_levels c.remove.new.self T l c.self.invariant fits c.remove.ensures.room c.remove.ensures.own c.remove.ensures.others)
