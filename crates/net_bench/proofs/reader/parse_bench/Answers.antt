use Rattle.std.proofs.lemmas.Result.{err_from_is_err_and, IfErr-weaker, IfOk-weaker}
use Rattle.net_bench.specs.Judge.{statements_in}
use Rattle.net_bench.proofs.Faultless.{faultless_sound}
use Rattle.net_bench.proofs.Accepting.{reads_well, placed_first, late_refused, makes}
use Rattle.net_bench.proofs.reader.parse_bench.Goals as goal

pub returns-in_err-symbols-clause-refused : goal.returns-in_err-symbols-clause-refused
returns-in_err-symbols-clause-refused c =
    let p = err_from_is_err_and c.from_residual.result c.from_residual.ensures.1 in
    rw (p.1, p.2) (placed_first c.args.text.now _ c.if-text-gt-MAX_TEXT.false c.in_err-symbols.ensures.fault)

pub returns-in_err-check_defined-clause-refused : goal.returns-in_err-check_defined-clause-refused
returns-in_err-check_defined-clause-refused c =
    let p = err_from_is_err_and c.from_residual-in_err-check_defined.result c.from_residual-in_err-check_defined.ensures.1 in
    rw (p.1, p.2) (
    late_refused c.args.text.now (statements_in c.args.text.now) _
    (reads_well c.args.text.now (statements_in c.args.text.now) c.if-text-gt-MAX_TEXT.false c.in_ok-symbols.ensures.ok)
    c.in_err-check_defined.ensures.refused)

pub netlist_of-requires-clause-sound : goal.netlist_of-requires-clause-sound
netlist_of-requires-clause-sound c =
    faultless_sound c.args.text.now (statements_in c.args.text.now)
    (reads_well c.args.text.now (statements_in c.args.text.now) c.if-text-gt-MAX_TEXT.false c.in_ok-symbols.ensures.ok)

pub returns-clause-accepted : goal.returns-clause-accepted
returns-clause-accepted c =
    IfOk-weaker c.netlist_of.result _ _
    (λ net h.
    makes c.args.text.now (statements_in c.args.text.now) net
    (reads_well c.args.text.now (statements_in c.args.text.now) c.if-text-gt-MAX_TEXT.false c.in_ok-symbols.ensures.ok)
    c.in_ok-check_defined.ensures.defined h.0 h.1)
    c.netlist_of.ensures.accepted

pub returns-clause-refused : goal.returns-clause-refused
returns-clause-refused c =
    IfErr-weaker c.netlist_of.result _ _
    (λ fault h.
    late_refused c.args.text.now (statements_in c.args.text.now) fault
    (reads_well c.args.text.now (statements_in c.args.text.now) c.if-text-gt-MAX_TEXT.false c.in_ok-symbols.ensures.ok)
    h)
    c.netlist_of.ensures.refused
