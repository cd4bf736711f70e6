use Rattle.std.proofs.Common.{◌∙◌, ap}
use Rattle.net_bench.specs.Judge.{statements_in}
use Rattle.net_bench.specs.Symbols.{undefined_use}
use Rattle.net_bench.proofs.Building.{late_undefined, all_defined}
use Rattle.net_bench.proofs.reader.check_defined.Goals as goal

pub returns-in-Some-clause-refused : goal.returns-in-Some-clause-refused
returns-in-Some-clause-refused c =
    late_undefined (statements_in c.args.text.now) c.args.symbols.now c.in-Some.line c.requires.table_matches
    (c.in-Some.ensures ∙ ap (λ ss. undefined_use ss c.as_slice-2.result.now) c.as_slice.ensures.value ∙ ap (undefined_use c.args.symbols.now.symbols.items) c.as_slice-2.ensures.value)

pub returns-in-None-clause-defined : goal.returns-in-None-clause-defined
returns-in-None-clause-defined c =
    all_defined (statements_in c.args.text.now) c.args.symbols.now c.requires.table_matches
    (c.in-None.ensures ∙ ap (λ ss. undefined_use ss c.as_slice-2.result.now) c.as_slice.ensures.value ∙ ap (undefined_use c.args.symbols.now.symbols.items) c.as_slice-2.ensures.value)
