use Rattle.std.proofs.Common.{arith, ◌≡◌, ◌<◌, ◌∙◌, false, length, sym}
use Rattle.std.specs.Prelude.{◌==◌}
use Rattle.std.proofs.lemmas.Bool.Decides.{nat_tests}
use Rattle.dd_store.specs.Nodes.{count_of}
use Rattle.expand_work.specs.declared.fault.WaveFault.TheVariants.{Full}
use Rattle.reduce_up.proofs.Reduction.{row_over, row_given_up}
use Rattle.wave_doors.proofs.levels.reduce_level.Goals as goal

pub returns-then-count-limit-clause-row : goal.returns-then-count-limit-clause-row
returns-then-count-limit-clause-row g c =
    let empty : (length c.args.row.now == 0) ≡ false = sym c.is_empty.ensures ∙ c.if-is_empty.false in
    let some : 0 < length c.args.row.now = grind (arith, nat_tests) in
    let over : c.reduce_row_by_size.new.store.limit < count_of c.reduce_row_by_size.new.store = omega arith in
    row_given_up c.args.store.now c.args.results.now c.args.level c.args.row.now 0 c.reduce_row_by_size.new.store c.reduce_row_by_size.new.results Full c.reduce_row_by_size.ensures.left
    (row_over c.reduce_row_by_size.new.store c.args.level c.args.row.now some over)
