use Rattle.std.proofs.Common.{◌≡◌, ◌∙◌, sym, refl, Bool, true, false, ◌&&◌, List}
use Rattle.dd_store.specs.Graph.{bit}
use Rattle.dd_store.specs.declared.reference.Ref.{Ref}
use Rattle.dd_store.specs.Functions.{Agree}
use Rattle.dd_store.specs.Nodes.{Nodes, den, IsSameFunction}
use Rattle.dd_store.proofs.View.{kept_den}
use Rattle.two_ways.proofs.two_ways.Goals as goal

-- "and" of three values may be grouped either way
grouped : (a b c : Bool) → ((a && b) && c) ≡ (a && (b && c))
grouped true b c = refl
grouped false b c = refl

-- "and" of two values that are known
both_known : {p l r a b : Bool} → p ≡ (l && r) → l ≡ a → r ≡ b → p ≡ (a && b)
both_known p l r = p ∙ (λ i. l i && r i)

-- r denotes "a and b and c"
abbrev IsThree : Nodes → Ref → Type 0
IsThree S r = Agree S.levels (den S r) (λ x. bit x 0 && (bit x 1 && bit x 2))

pub returns : goal.returns
returns g c =
    let a = c.in_ok-a.ensures in
    let b = c.in_ok-b.ensures in
    let c3 = c.in_ok-c.ensures in
    let has_a = c3.made.keeps.has _ (b.made.keeps.has _ a.in_store) in
    -- in the store of the first wave a, b and c denote the bits of their levels
    let at_a = λ (x : List Bool). kept_den _ _ b.sound c3.made.keeps _ (b.made.keeps.has _ a.in_store) x ∙ kept_den _ _ a.sound b.made.keeps _ a.in_store x ∙ a.meaning x in
    let at_b = λ (x : List Bool). kept_den _ _ b.sound c3.made.keeps _ b.in_store x ∙ b.meaning x in
    let ab = c.in_ok-ab.ensures in
    let ways = c.in_ok-ways.ensures in
    let a_stays = (ab.kept _ has_a).1 in
    let c_stays = (ab.kept _ c3.in_store).1 in
    let first : IsThree c.both-2.new.store c.in_ok-ways.ways.0 = λ x bits.
    let before = bits ∙ ways.levels in
    both_known (ways.first.1 x bits) (both_known (ab.first.1 x before) (at_a x) (at_b x)) (c_stays x ∙ c3.meaning x) ∙ grouped (bit x 0) (bit x 1) (bit x 2) in
    let second : IsThree c.both-2.new.store c.in_ok-ways.ways.1 = λ x bits.
    let before = bits ∙ ways.levels in
    both_known (ways.second.1 x bits) (a_stays x ∙ at_a x) (both_known (ab.second.1 x before) (at_b x) (c3.meaning x)) in
    let agree : IsSameFunction c.both-2.new.store c.in_ok-ways.ways.0 c.in_ok-ways.ways.1 = λ x bits. first x bits ∙ sym (second x bits) in
    record { meaning = (ways.first.0, first); same = (c.levels.ensures.canonical _ _ ways.first.0 ways.second.0).1 agree }
