use Rattle.std.proofs.Common.{map, string_bytes}
use Rattle.command_line.proofs.Found.{is_free, found, refused}
use Rattle.command_line.proofs.reading.parsed.Goals as goal

pub returns-in-Ok-clause-found : goal.returns-in-Ok-clause-found
returns-in-Ok-clause-found c =
    found _ (map string_bytes c.args.words.now) _ c.requires (c.in-Ok.ensures.kinds (is_free _ c.requires)) c.in-Ok.ensures.ok.2

pub returns-in-Err-clause-refused : goal.returns-in-Err-clause-refused
returns-in-Err-clause-refused c =
    refused _ (map string_bytes c.args.words.now) c.in-Err.error _ c.requires (c.in-Err.ensures.kinds (is_free _ c.requires)) c.refusal.ensures
