use Rattle.std.proofs.Common.{◌∙◌, arith, ap}
use Rattle.std.proofs.lemmas.Grind.{common_steps}
use Rattle.net_order.specs.Index.{trailing}
use Rattle.net_order.proofs.Forcing.{mapped_none}
use Rattle.group_order.specs.NameKeys.{falling_key_of}
use Rattle.group_order.proofs.Lists.{key_more}
use Rattle.group_order.proofs.name_keys.falling_keys.Goals as goal

pub loop-place-init : goal.loop-place-init
loop-place-init c = let none = mapped_none in grind (arith, common_steps, none)

pub loop-place-preserved : goal.loop-place-preserved
loop-place-preserved c =
    key_more (λ n. falling_key_of (trailing n)) c.args.names.now c.loop-place.place c.at.result.now c.falling_key_of.result c.loop-place.keys.items c.push.new.self.items
    c.at.ensures (c.falling_key_of.ensures ∙ ap falling_key_of c.trailing_of.ensures) c.loop-place.invariant c.in_ok-push.ensures.items
