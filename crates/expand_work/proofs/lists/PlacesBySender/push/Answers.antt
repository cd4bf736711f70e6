use Rattle.std.proofs.Common.{◌<◌, length, subst, sym, ap, ◌∙◌}
use Rattle.std.proofs.lemmas.List.{length-map}
use Rattle.expand_work.proofs.Growing.{grows}
use Rattle.expand_work.proofs.lists.PlacesBySender.push.Goals as goal

pub returns : goal.returns
returns c =
    grows (λ v. v.items) c.self.inside.lists.items c.args.from c.push.new.self c.index_mut.result.now c.args.place c.args.self.now (sym c.self.view_is)
    (subst (λ n. c.args.from < n) (ap (λ l. length l) (sym c.self.view_is) ∙ length-map c.self.inside.lists.items (λ v. v.items)) c.requires) c.index_mut.ensures.value c.in_ok-push.ensures.items
