use Rattle.std.proofs.Common.{◌≡◌, ◌∙◌, sym, subst, length}
use Rattle.std.specs.List.{AllZip}
use Rattle.std.specs.Prelude.{All}
use Rattle.std.proofs.lemmas.List.Elements.{Contains-get_or}
use Rattle.std.proofs.lemmas.Result.{err_from_is_err_and}
use Rattle.dd_store.specs.Graph.{Pair}
use Rattle.dd_store.specs.Nodes.{IsThere}
use Rattle.expand_work.proofs.Zips.{zip_long}
use Rattle.reduce_up.specs.Sharing.{IsPairOf}
use Rattle.wave_doors.specs.Sharing.{HasPair}
use Rattle.wave_doors.proofs.Placing.{row_at_place}
use Rattle.wave_doors.proofs.Shared.{can_stand, row_added, row_refused, row_noted}
use Rattle.reduce_up.proofs.Reduction.{row_given_up, row_whole}
use Rattle.expand_work.specs.declared.fault.WaveFault.TheVariants.{OutOfMemory}
use Rattle.wave_doors.proofs.parallel.reduce_row_parallel.Goals as goal

pub gather-requires-clause-low_ready : goal.gather-requires-clause-low_ready
gather-requires-clause-low_ready g c κs within = λ k d lt. c.requires.ready.row.low_ready _ (Contains-get_or c.args.row.now k d lt)

pub gather-requires-clause-high_ready : goal.gather-requires-clause-high_ready
gather-requires-clause-high_ready g c κs within = λ k d lt. c.requires.ready.row.high_ready _ (Contains-get_or c.args.row.now k d lt)

pub add_pairs-requires-clause-ready : goal.add_pairs-requires-clause-ready
add_pairs-requires-clause-ready g c κs within =
    let pairs = c.as_slice.result.now in
    let are : AllZip (IsPairOf c.args.results.now) c.args.row.now pairs = subst (AllZip (IsPairOf c.args.results.now) c.args.row.now) (sym c.as_slice.ensures.value) c.in-Ok.ensures.pairs in
    λ k d lt. can_stand c.args.store.now c.args.results.now c.args.level c.args.row.now pairs c.requires.ready.held c.requires.ready.answers c.requires.ready.row are _ (Contains-get_or pairs k d lt)

pub references-requires-clause-there : goal.references-requires-clause-there
references-requires-clause-there g c κs within =
    subst (All (HasPair c.add_pairs.new.store c.args.level)) (c.as_slice.ensures.value ∙ sym c.as_slice-2.ensures.value) c.in_ok-add_pairs.ensures.there

pub put_row-requires-clause-long : goal.put_row-requires-clause-long
put_row-requires-clause-long g c =
    let pairs = c.as_slice.result.now in
    let are : AllZip (IsPairOf c.args.results.now) c.args.row.now pairs = subst (AllZip (IsPairOf c.args.results.now) c.args.row.now) (sym c.as_slice.ensures.value) c.in-Ok.ensures.pairs in
    let same : c.as_slice-2.result.now ≡ pairs = c.as_slice-2.ensures.value ∙ sym c.as_slice.ensures.value in
    let there : AllZip (λ (p : Pair) r. IsThere c.add_pairs.new.store c.args.level p.0 p.1 r) pairs c.in-Ok-references.answers.items =
    subst (λ z. AllZip (λ (p : Pair) r. IsThere c.add_pairs.new.store c.args.level p.0 p.1 r) z c.in-Ok-references.answers.items) same c.in-Ok-references.ensures in
    let a = zip_long (IsPairOf c.args.results.now) c.args.row.now pairs are in
    let b = zip_long (λ (p : Pair) r. IsThere c.add_pairs.new.store c.args.level p.0 p.1 r) pairs c.in-Ok-references.answers.items there in
    sym (a ∙ b)

pub put_row-requires-clause-placed : goal.put_row-requires-clause-placed
put_row-requires-clause-placed g c = row_at_place c.args.store.now c.args.results.now c.args.level c.args.row.now c.requires.ready.held c.requires.ready.row

pub returns-in_err-add_pairs : goal.returns-in_err-add_pairs
returns-in_err-add_pairs g c =
    let pairs = c.as_slice.result.now in
    let are : AllZip (IsPairOf c.args.results.now) c.args.row.now pairs = subst (AllZip (IsPairOf c.args.results.now) c.args.row.now) (sym c.as_slice.ensures.value) c.in-Ok.ensures.pairs in
    let p = err_from_is_err_and c.from_residual.result c.from_residual.ensures.1 in
    rw (p.1, p.2) (row_given_up c.args.store.now c.args.results.now c.args.level c.args.row.now 0 c.add_pairs.new.store c.args.results.now _
    (row_added c.args.store.now c.args.results.now c.args.level c.args.row.now pairs c.requires.ready.held c.requires.ready.answers c.requires.ready.row are c.add_pairs.new.store c.add_pairs.ensures.sound c.add_pairs.ensures.adds)
    (row_refused c.args.store.now c.args.results.now c.args.level c.args.row.now pairs c.requires.ready.held c.requires.ready.answers c.requires.ready.row are c.add_pairs.new.store c.add_pairs.ensures.sound c.add_pairs.ensures.adds _ c.in_err-add_pairs.ensures.fault))

pub returns-in_default-references : goal.returns-in_default-references
returns-in_default-references g c =
    let pairs = c.as_slice.result.now in
    let are : AllZip (IsPairOf c.args.results.now) c.args.row.now pairs = subst (AllZip (IsPairOf c.args.results.now) c.args.row.now) (sym c.as_slice.ensures.value) c.in-Ok.ensures.pairs in
    row_given_up c.args.store.now c.args.results.now c.args.level c.args.row.now 0 c.add_pairs.new.store c.args.results.now OutOfMemory
    (row_added c.args.store.now c.args.results.now c.args.level c.args.row.now pairs c.requires.ready.held c.requires.ready.answers c.requires.ready.row are c.add_pairs.new.store c.add_pairs.ensures.sound c.add_pairs.ensures.adds) tt

pub returns-in-Ok-put_row : goal.returns-in-Ok-put_row
returns-in-Ok-put_row g c =
    let pairs = c.as_slice.result.now in
    let are : AllZip (IsPairOf c.args.results.now) c.args.row.now pairs = subst (AllZip (IsPairOf c.args.results.now) c.args.row.now) (sym c.as_slice.ensures.value) c.in-Ok.ensures.pairs in
    let same : c.as_slice-2.result.now ≡ pairs = c.as_slice-2.ensures.value ∙ sym c.as_slice.ensures.value in
    let there : AllZip (λ (p : Pair) r. IsThere c.add_pairs.new.store c.args.level p.0 p.1 r) pairs c.in-Ok-references.answers.items =
    subst (λ z. AllZip (λ (p : Pair) r. IsThere c.add_pairs.new.store c.args.level p.0 p.1 r) z c.in-Ok-references.answers.items) same c.in-Ok-references.ensures in
    row_whole c.args.store.now c.args.results.now c.args.level c.args.row.now c.add_pairs.new.store c.put_row.new.self
    (row_noted c.args.store.now c.args.results.now c.args.level c.args.row.now pairs c.requires.ready.held c.requires.ready.answers c.requires.ready.row are c.add_pairs.new.store c.add_pairs.ensures.sound c.add_pairs.ensures.adds c.in-Ok-references.answers.items there (length c.args.row.now) c.put_row.new.self c.in-Ok-put_row.ensures.all_noted)

pub returns : goal.returns
returns g c =
    let pairs = c.as_slice.result.now in
    let are : AllZip (IsPairOf c.args.results.now) c.args.row.now pairs = subst (AllZip (IsPairOf c.args.results.now) c.args.row.now) (sym c.as_slice.ensures.value) c.in-Ok.ensures.pairs in
    let same : c.as_slice-2.result.now ≡ pairs = c.as_slice-2.ensures.value ∙ sym c.as_slice.ensures.value in
    let there : AllZip (λ (p : Pair) r. IsThere c.add_pairs.new.store c.args.level p.0 p.1 r) pairs c.in-Ok-references.answers.items =
    subst (λ z. AllZip (λ (p : Pair) r. IsThere c.add_pairs.new.store c.args.level p.0 p.1 r) z c.in-Ok-references.answers.items) same c.in-Ok-references.ensures in
    row_given_up c.args.store.now c.args.results.now c.args.level c.args.row.now 0 c.add_pairs.new.store c.put_row.new.self OutOfMemory
    (row_noted c.args.store.now c.args.results.now c.args.level c.args.row.now pairs c.requires.ready.held c.requires.ready.answers c.requires.ready.row are c.add_pairs.new.store c.add_pairs.ensures.sound c.add_pairs.ensures.adds c.in-Ok-references.answers.items there 0 c.put_row.new.self c.put_row.ensures.first_noted) tt
