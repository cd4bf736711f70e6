use Rattle.std.proofs.Common.{◌≡◌, ◌∙◌, ap, false, not, sym, true}
use Rattle.net_bench.specs.Circuit.{circuit}
use Rattle.net_rename.specs.Renaming.{is_free, is_port}
use Rattle.net_rename.proofs.Freedom.{free_by_absence, free_by_exchange, free_by_pair, taken_by_port}
use Rattle.net_rename.proofs.renaming.is_free.Goals as goal
use Rattle.net_rename.proofs.renaming.is_free.Goals.{then-is_none, else-is_none}

pub returns-then-has : goal.returns-then-has
returns-then-has c pairs one two =
    let free : is_free (circuit c.args.second.now) pairs c.args.pair.now ≡ true =
    elim c.if-is_none.branch [
      | then-is_none w ↦
          free_by_absence (circuit c.args.second.now) pairs c.args.pair.now c.as_slice-name.result.now c.find.result c.is_none.result c.as_slice-name.ensures.value c.find.ensures.value c.is_none.ensures w.if-is_none.true
      | else-is_none w ↦
          free_by_pair (circuit c.args.second.now) pairs c.args.pair.now c.as_slice-name.result.now c.find.result c.is_none.result c.as_slice-name.ensures.value c.find.ensures.value c.is_none.ensures
          c.args.tables.now.seconds two (sym w.has.ensures ∙ sym w.value-is ∙ c.if-has.true)
    ] in
    c.if-has.true ∙ sym free

pub returns-then-not-has : goal.returns-then-not-has
returns-then-not-has c pairs one two =
    let gate : is_port (circuit c.args.second.now) c.as_slice-name.result.now ≡ false = sym (c.requires c.as_slice-name.result.now) ∙ sym c.has-else-has.ensures ∙ c.if-not-has.true in
    elim c.if-is_none.branch [
      | then-is_none w ↦ let bad : true ≡ false = sym w.if-is_none.true ∙ sym w.value-is ∙ c.if-has.false in cc
      | else-is_none w ↦
          ap not c.has-then-not-has.ensures ∙
          sym (free_by_exchange (circuit c.args.second.now) pairs c.args.pair.now c.as_slice-name.result.now c.find.result c.is_none.result c.as_slice-name.ensures.value c.find.ensures.value c.is_none.ensures
          c.args.tables.now.seconds two w.if-is_none.false (sym w.has.ensures ∙ sym w.value-is ∙ c.if-has.false) c.args.tables.now.firsts c.as_slice.result.now gate one c.as_slice.ensures.value)
    ]

pub returns-else-not-has : goal.returns-else-not-has
returns-else-not-has c pairs one two =
    let port : is_port (circuit c.args.second.now) c.as_slice-name.result.now ≡ true = sym (c.requires c.as_slice-name.result.now) ∙ sym c.has-else-has.ensures ∙ c.if-not-has.false in
    elim c.if-is_none.branch [
      | then-is_none w ↦ let bad : true ≡ false = sym w.if-is_none.true ∙ sym w.value-is ∙ c.if-has.false in cc
      | else-is_none w ↦
          ap not c.if-not-has.false ∙
          sym (taken_by_port (circuit c.args.second.now) pairs c.args.pair.now c.as_slice-name.result.now c.find.result c.is_none.result c.as_slice-name.ensures.value c.find.ensures.value c.is_none.ensures
          c.args.tables.now.seconds two w.if-is_none.false (sym w.has.ensures ∙ sym w.value-is ∙ c.if-has.false) port)
    ]
