use Rattle.std.proofs.Common.{arith, map}
use Rattle.std.proofs.lemmas.List.{length-map}
use Rattle.net_names.proofs.NameTexts.{few_in_text}
use Rattle.net_names.proofs.order_file.read_order.Goals as goal

pub of-requires : goal.of-requires
of-requires g c =
    omega (
      arith,
      few_in_text c.as_slice.result.now (map (λ n. n.items) c.in-Ok-names_in.names.items) c.in-Ok-names_in.ensures.names,
      length-map c.in-Ok-names_in.names.items (λ n. n.items),
      c.in-Ok-names_in.ensures.names.0,
    )
