use Rattle.std.proofs.Common.{refl}
use Rattle.report_text.specs.Json.{extent_tokens}
use Rattle.report_text.proofs.Tokens.{adds_more}
use Rattle.report_text.proofs.as_json.add_extent.Goals as goal

pub returns : goal.returns
returns c =
    adds_more c.add_stopped.result c.args.out.now c.add_share.new.out c.add_stopped.new.out _ _ (extent_tokens c.args.share c.args.stopped) refl c.in_ok-add_share.ensures c.add_stopped.ensures
