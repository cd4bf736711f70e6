use Rattle.std.proofs.Common.{ℕ, Vec, ap, arith, length}
use Rattle.std.specs.declared.alloc.Global.{Global}
use Rattle.std.proofs.lemmas.List.{length-map}
use Rattle.std.specs.Prelude.{slice_index_or, []}
use Rattle.group_order.proofs.Moved.{moved_long, moved_low}
use Rattle.group_order.proofs.listing.listed.Goals as goal

pub names_of-requires : goal.names_of-requires
names_of-requires c = moved_low (length c.args.names.now) c.args.numbers.now c.requires.moved

pub of-requires : goal.of-requires
of-requires c =
    omega (
      arith,
      c.requires.few,
      moved_long (length c.args.names.now) c.args.numbers.now c.requires.moved,
      ap length c.in_ok-list.ensures,
      length-map c.in_ok-list.list.items (λ (w : Vec ℕ Global). w.items),
      length-map c.args.numbers.now (λ v. slice_index_or c.args.names.now v []),
    )
