use Rattle.std.proofs.Common.{◌≡◌, ◌<◌, List, length, set, sym, subst, arith}
use Rattle.std.proofs.lemmas.Option.{slice_get_within}
use Rattle.req_table.specs.declared.Key.{Key}
use Rattle.req_table.specs.declared.Child.TheVariants as child
use Rattle.req_table.specs.Places.{row, AreMembers, Enters, AdmitsChild}
use Rattle.req_table.proofs.Entering.{ask_admits, ask_placed, none_admits, level_entered, level_same}
use Rattle.req_table.proofs.Members.{member_more}
use Rattle.req_table.proofs.waiting.Waiting.admit.Goals.{In_ok-place, In_err-place}
use Rattle.req_table.proofs.waiting.Waiting.admit.Goals as goal

-- the key has a place
module _ (c : In_ok-place) where
  abbrev T : List (List Key)
  T = c.self.inside.tables.items

  fits : c.args.level < length T
  fits = subst (λ (z : List (List Key)). c.args.level < length z) (sym c.self.view_is) c.requires

  entered : Enters (row T c.args.level) c.args.key c.in_ok-place.place c.admit.new.self
  entered =
      level_entered T c.args.level c.index_mut.result.now c.admit.new.self c.args.key c.in_ok-place.place c.in_ok-place.field-0-1
      fits c.index_mut.ensures.value c.in_ok-place.ensures.admits_key c.in_ok-place.ensures.at_place

-- memory was refused
unchanged : (c : In_err-place) → set c.self.inside.tables.items c.args.level c.admit.new.self ≡ c.self.inside.tables.items
unchanged c =
    level_same c.self.inside.tables.items c.args.level c.index_mut.result.now c.admit.new.self
    (subst (λ (z : List (List Key)). c.args.level < length z) (sym c.self.view_is) c.requires) c.index_mut.ensures.value c.in_err-place.ensures.refused

pub invariant_of-self-2 : goal.invariant_of-self-2
invariant_of-self-2 c =
    let w = (goal.at.invariant_of-self-2 c).In_ok-place in
    let count : c.count.result ≡ length (row (T w) c.args.level) = subst (λ (z : List (List Key)). c.count.result ≡ length (row z c.args.level)) (sym c.self.view_is) c.count.ensures.value in
    let within : c.in_ok-place.place < length c.admit.new.self = slice_get_within c.admit.new.self c.in_ok-place.place c.args.key c.in_ok-place.ensures.at_place in
    member_more c.self.inside.nonempty_levels (T w) c.args.level c.admit.new.self c.self.invariant (fits w)
    (let ne : c.count.result ≡ 0 → ⊥ = c.if-count-eq0.false in omega (arith, count, ne)) (omega (arith, within))

pub invariant_of-self : goal.invariant_of-self
invariant_of-self c =
    subst (AreMembers c.self.inside.nonempty_levels) (sym (unchanged (goal.at.invariant_of-self c).In_err-place)) c.self.invariant

pub returns-clause-admits : goal.returns-clause-admits
returns-clause-admits c m =
    let w = (goal.at.returns-clause-admits c).In_ok-place in
    subst (λ (z : List (List Key)). AdmitsChild z (child.Ask c.args.level c.args.key m) (set (T w) c.args.level c.admit.new.self)) c.self.view_is
    (ask_admits (T w) c.args.level c.args.key c.in_ok-place.place c.admit.new.self (fits w) (entered w) m)

pub returns-clause-at_place : goal.returns-clause-at_place
returns-clause-at_place c =
    let w = (goal.at.returns-clause-at_place c).In_ok-place in
    ask_placed (T w) c.args.level c.args.key c.in_ok-place.place c.admit.new.self (fits w) (entered w)

pub returns-in_err-place-clause-admits : goal.returns-in_err-place-clause-admits
returns-in_err-place-clause-admits c m =
    let T : List (List Key) = c.self.inside.tables.items in
    let asked = child.Ask c.args.level c.args.key m in
    subst (λ (z : List (List Key)). AdmitsChild z asked (set T c.args.level c.admit.new.self)) c.self.view_is
    (subst (AdmitsChild T asked) (sym (unchanged (goal.at.returns-in_err-place-clause-admits c).In_err-place)) (none_admits T asked))
