use Rattle.std.proofs.Common.{◌≡◌, ◌<◌, ◌∙◌, true, sym, ap, subst, arith, length, get_or}
use Rattle.std.proofs.lemmas.Grind.{get_or_default_zero}
use Rattle.net_bench.specs.Circuit.{Circuit, variables_of}
use Rattle.net_order.specs.Order.{NamedNetlistModel, is_member, named}
use Rattle.net_order.proofs.Tabling.{own_is, other_is, partner_low, partners_len, variable_low}
use Rattle.net_order.proofs.side.NamedNetlist.name.Goals as goal

pub name-requires : goal.name-requires
name-requires c =
    let i = c.self.inside in
    variable_low i.how i.name_source.now i.net.now i.partners.items c.self.invariant c.args.variable
    (subst (λ (n : Circuit). is_member c.args.variable (variables_of n) ≡ true) (sym (ap (λ (v : NamedNetlistModel). v.net) c.self.view_is)) c.requires)

pub index-requires : goal.index-requires
index-requires c =
    let i = c.self.inside in
    let e = subst (λ (n : Circuit). is_member c.args.variable (variables_of n) ≡ true) (sym (ap (λ (v : NamedNetlistModel). v.net) c.self.view_is)) c.requires in
    let low = variable_low i.how i.name_source.now i.net.now i.partners.items c.self.invariant c.args.variable e in
    let len = partners_len i.how i.name_source.now i.net.now i.partners.items c.self.invariant c.args.variable e c.in-Position.is in
    omega (arith, low, len, c.number.ensures, i.partners.ok.0)

pub name-requires-in-Position : goal.name-requires-in-Position
name-requires-in-Position c =
    let i = c.self.inside in
    let e = subst (λ (n : Circuit). is_member c.args.variable (variables_of n) ≡ true) (sym (ap (λ (v : NamedNetlistModel). v.net) c.self.view_is)) c.requires in
    let low = variable_low i.how i.name_source.now i.net.now i.partners.items c.self.invariant c.args.variable e in
    let len = partners_len i.how i.name_source.now i.net.now i.partners.items c.self.invariant c.args.variable e c.in-Position.is in
    let inside : c.number.result < length c.self.inside.partners.items = omega (arith, low, len, c.number.ensures) in
    let is = c.of-partner.ensures ∙ c.index.ensures ∙ get_or_default_zero i.partners.items c.number.result c.index.result.now inside ∙ ap (λ k. get_or c.self.inside.partners.items k 0) c.number.ensures in
    subst (λ k. k < length c.self.inside.name_source.now.names) (sym is) (partner_low i.how i.name_source.now i.net.now i.partners.items c.self.invariant c.args.variable e c.in-Position.is)

pub returns-in-Name : goal.returns-in-Name
returns-in-Name c =
    let i = c.self.inside in
    let e = subst (λ (n : Circuit). is_member c.args.variable (variables_of n) ≡ true) (sym (ap (λ (v : NamedNetlistModel). v.net) c.self.view_is)) c.requires in
    own_is i.how i.name_source.now i.net.now i.partners.items c.self.invariant c.args.variable e c.name.result.now c.in-Name.is c.name.ensures.value ∙ ap (λ (v : NamedNetlistModel). named v c.args.variable) c.self.view_is

pub returns-in-Position : goal.returns-in-Position
returns-in-Position c =
    let i = c.self.inside in
    let e = subst (λ (n : Circuit). is_member c.args.variable (variables_of n) ≡ true) (sym (ap (λ (v : NamedNetlistModel). v.net) c.self.view_is)) c.requires in
    let low = variable_low i.how i.name_source.now i.net.now i.partners.items c.self.invariant c.args.variable e in
    let len = partners_len i.how i.name_source.now i.net.now i.partners.items c.self.invariant c.args.variable e c.in-Position.is in
    let inside : c.number.result < length c.self.inside.partners.items = omega (arith, low, len, c.number.ensures) in
    let is = c.of-partner.ensures ∙ c.index.ensures ∙ get_or_default_zero i.partners.items c.number.result c.index.result.now inside ∙ ap (λ k. get_or c.self.inside.partners.items k 0) c.number.ensures in
    other_is i.how i.name_source.now i.net.now i.partners.items c.self.invariant c.args.variable e c.of-partner.result c.name-in-Position.result.now c.in-Position.is is c.name-in-Position.ensures.value ∙
    ap (λ (v : NamedNetlistModel). named v c.args.variable) c.self.view_is
