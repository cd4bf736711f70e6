use Rattle.std.proofs.Common.{None, Some, sym, ap, ◌∙◌}
use Rattle.std.specs.Option.{is_some}
use Rattle.req_table.proofs.Keyed.{found}
use Rattle.req_table.proofs.table.Table.find.Goals as goal
use Rattle.req_table.proofs.table.Table.find.Goals.{in-Short+in_ok-of-in-Short, in-Long}

pub returns-in-Some : goal.returns-in-Some
returns-in-Some c = elim c.match-self.branch [
  | in-Short+in_ok-of-in-Short w ↦ (
      let at = sym w.place-is ∙ c.in-Some.is in
      let r = w.get_index_of-place.ensures in
      let short = w.in_ok-of-in-Short.field-0 in
      let there = found w.in-Short.short.keys short (Some c.in-Some.place) (sym at ∙ r.index) (ap is_some (sym at) ∙ r.found) in
      rw (← c.self.view_is, w.in-Short.is) (there ∙ ap (λ z. Some z) w.in_ok-of-in-Short.ensures.1))
  | in-Long w ↦ (
      let at = sym w.place-is ∙ c.in-Some.is in
      let r = w.get_index_of-place-in-Long.ensures in
      rw (← c.self.view_is, w.in-Long.is)
      (found w.in-Long.long.keys c.args.key (Some c.in-Some.place) (sym at ∙ r.index) (ap is_some (sym at) ∙ r.found)))
]

pub returns-in-None : goal.returns-in-None
returns-in-None c = elim c.match-self.branch [
  | in-Short+in_ok-of-in-Short w ↦ (
      let at = sym w.place-is ∙ c.in-None.is in
      let r = w.get_index_of-place.ensures in
      let short = w.in_ok-of-in-Short.field-0 in
      rw (← c.self.view_is, w.in-Short.is, ← w.in_ok-of-in-Short.ensures.1)
      (found w.in-Short.short.keys short None (sym at ∙ r.index) (ap is_some (sym at) ∙ r.found)))
  | in-Long w ↦ (
      let at = sym w.place-is ∙ c.in-None.is in
      let r = w.get_index_of-place-in-Long.ensures in
      rw (← c.self.view_is, w.in-Long.is)
      (found w.in-Long.long.keys c.args.key None (sym at ∙ r.index) (ap is_some (sym at) ∙ r.found)))
]
