use Rattle.std.proofs.Common.{◌≡◌, ◌∙◌, ◌<◌, List, length, set, sym, subst, arith}
use Rattle.std.proofs.lemmas.Option.{slice_get_within}
use Rattle.req_table.specs.declared.Key.{Key}
use Rattle.req_table.specs.declared.Child.TheVariants as child
use Rattle.req_table.specs.Places.{AreMembers, AdmitsChild}
use Rattle.req_table.proofs.Entering.{ask_admits, level_entered, level_same}
use Rattle.req_table.proofs.Members.{member_first}
use Rattle.req_table.proofs.waiting.Waiting.admit_first.Goals.{After-admit}
use Rattle.req_table.proofs.waiting.Waiting.admit_first.Goals as goal

-- the tables are those before the call, and the level is one of theirs
same : (c : After-admit) → c.self.inside.tables.items ≡ c.args.self.now
same c = c.self.view_is ∙ c.reuse_spare_table.ensures

fits : (c : After-admit) → c.args.level < length c.self.inside.tables.items
fits c = subst (λ (z : List (List Key)). c.args.level < length z) (sym (same c)) c.requires.bound

pub invariant_of-self : goal.invariant_of-self
invariant_of-self c =
    subst (AreMembers c.self.inside.nonempty_levels)
    (sym (level_same c.self.inside.tables.items c.args.level c.index_mut-table.result.now c.admit.new.self
    (fits (goal.at.invariant_of-self c).After-admit) c.index_mut-table.ensures.value c.in_err-place.ensures.refused))
    c.self.invariant

pub invariant_of-self-2 : goal.invariant_of-self-2
invariant_of-self-2 c =
    let new : List Key = c.admit.new.self in
    let within : c.in_ok-place.place < length new = slice_get_within new c.in_ok-place.place c.args.key c.in_ok-place.ensures.at_place in
    member_first c.self.inside.nonempty_levels c.insert.new.self c.self.inside.tables.items c.args.level new c.self.invariant
    (fits (goal.at.invariant_of-self-2 c).After-admit) (omega (arith, within)) c.insert.ensures.room c.insert.ensures.own c.insert.ensures.others

pub returns-clause-admits : goal.returns-clause-admits
returns-clause-admits c m =
    let w = (goal.at.returns-clause-admits c).After-admit in
    let T : List (List Key) = c.self.inside.tables.items in
    let new : List Key = c.admit.new.self in
    let enters = level_entered T c.args.level c.index_mut-table.result.now new c.args.key c.in_ok-place.place c.in_ok-place.field-0-1
    (fits w) c.index_mut-table.ensures.value c.in_ok-place.ensures.admits_key c.in_ok-place.ensures.at_place in
    subst (λ (z : List (List Key)). AdmitsChild z (child.Ask c.args.level c.args.key m) (set T c.args.level new)) (same w)
    (ask_admits T c.args.level c.args.key c.in_ok-place.place new (fits w) enters m)
