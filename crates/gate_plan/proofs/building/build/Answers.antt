use Rattle.std.proofs.Common.{rules, refl, sym, arith, ◌≤◌, Err, ◌∙◌, ◌≡◌, [], List, length, ap, subst, get_or}
use Rattle.std.proofs.lemmas.Result.{err_from_is_err_and}
use Rattle.dd_store.specs.declared.reference.Ref.{Ref}
use Rattle.net_order.specs.Order.{first_level, second_level}
use Rattle.gate_plan.specs.Building.{AreDiagrams, circuits_of}
use Rattle.dd_store.specs.Nodes.{Nodes, count_of}
use Rattle.expand_work.specs.declared.fault.WaveFault.TheVariants.{OutOfMemory}
use Rattle.gate_plan.proofs.Asked.{within_kept}
use Rattle.gate_plan.proofs.Finished.{begun_lent, ranks_needed, ranks_fault, ranks_within, ranks_narrow, ranks_diagrams, ranks_need}
use Rattle.gate_plan.proofs.Needed.{variables_needed, variables_fault}
use Rattle.gate_plan.proofs.Pairs.{given_diagrams}
use Rattle.gate_plan.proofs.Together.{lent}
use Rattle.gate_plan.proofs.building.build.Goals as goal

pub returns-in_err-begun-clause-adds : goal.returns-in_err-begun-clause-adds
returns-in_err-begun-clause-adds g c =
    let p = circuits_of c.args.circuits.now in
    variables_needed p.first p.second p.given p.pairing c.args.store.now.levels c.requires.levels c.args.store.now c.begin.new.store c.begin.ensures.adds

pub returns-in_err-begun-clause-fault : goal.returns-in_err-begun-clause-fault
returns-in_err-begun-clause-fault g c =
    let p = circuits_of c.args.circuits.now in
    let r = err_from_is_err_and c.from_residual.result c.from_residual.ensures.1 in
    rw (r.1, r.2) (variables_fault p.first p.second p.given p.pairing c.args.store.now.levels c.requires.levels c.begin.new.store _ c.in_err-begun.ensures.fault)

pub build_all-requires-clause-plans : goal.build_all-requires-clause-plans
build_all-requires-clause-plans g c κs within =
    let p = circuits_of c.args.circuits.now in
    let T = c.begin.new.store in
    let sides = c.as_slice.result.now in
    let built = c.as_mut_slice.result.now in
    let begun = begun_lent p T c.in_ok-begun.begun.sides.items sides c.in_ok-begun.begun.built.items built c.as_slice.ensures.value c.as_mut_slice.ensures.value c.in_ok-begun.ensures.begun in
    begun.placed.plans

pub build_all-requires-clause-right : goal.build_all-requires-clause-right
build_all-requires-clause-right g c κs within =
    let p = circuits_of c.args.circuits.now in
    let T = c.begin.new.store in
    let sides = c.as_slice.result.now in
    let built = c.as_mut_slice.result.now in
    let begun = begun_lent p T c.in_ok-begun.begun.sides.items sides c.in_ok-begun.begun.built.items built c.as_slice.ensures.value c.as_mut_slice.ensures.value c.in_ok-begun.ensures.begun in
    begun.right

pub returns-in_err-build_all-clause-adds : goal.returns-in_err-build_all-clause-adds
returns-in_err-build_all-clause-adds g c =
    let p = circuits_of c.args.circuits.now in
    let S = c.args.store.now in
    let T = c.begin.new.store in
    let U = c.build_all.new.store in
    let sides = c.as_slice.result.now in
    let built = c.as_mut_slice.result.now in
    let begun = begun_lent p T c.in_ok-begun.begun.sides.items sides c.in_ok-begun.begun.built.items built c.as_slice.ensures.value c.as_mut_slice.ensures.value c.in_ok-begun.ensures.begun in
    ranks_needed p S T U c.requires.levels c.begin.ensures.sound c.begin.ensures.adds sides built begun c.build_all.ensures.adds

pub returns-in_err-build_all-clause-fault : goal.returns-in_err-build_all-clause-fault
returns-in_err-build_all-clause-fault g c =
    let p = circuits_of c.args.circuits.now in
    let S = c.args.store.now in
    let T = c.begin.new.store in
    let U = c.build_all.new.store in
    let sides = c.as_slice.result.now in
    let built = c.as_mut_slice.result.now in
    let begun = begun_lent p T c.in_ok-begun.begun.sides.items sides c.in_ok-begun.begun.built.items built c.as_slice.ensures.value c.as_mut_slice.ensures.value c.in_ok-begun.ensures.begun in
    let r = err_from_is_err_and c.from_residual-in_err-build_all.result c.from_residual-in_err-build_all.ensures.1 in
    rw (r.1, r.2) (ranks_fault p S T U c.requires.levels c.begin.ensures.sound c.begin.ensures.adds sides built begun c.build_all.ensures.adds _ c.in_err-build_all.ensures.fault)

pub returns-clause-adds : goal.returns-clause-adds
returns-clause-adds g c =
    let p = circuits_of c.args.circuits.now in
    let S = c.args.store.now in
    let T = c.begin.new.store in
    let U = c.build_all.new.store in
    let sides = c.as_slice.result.now in
    let built = c.as_mut_slice.result.now in
    let begun = begun_lent p T c.in_ok-begun.begun.sides.items sides c.in_ok-begun.begun.built.items built c.as_slice.ensures.value c.as_mut_slice.ensures.value c.in_ok-begun.ensures.begun in
    ranks_needed p S T U c.requires.levels c.begin.ensures.sound c.begin.ensures.adds sides built begun c.build_all.ensures.adds

pub returns-clause-within : goal.returns-clause-within
returns-clause-within g c =
    let p = circuits_of c.args.circuits.now in
    let S = c.args.store.now in
    let T = c.begin.new.store in
    let U = c.build_all.new.store in
    let sides = c.as_slice.result.now in
    let built = c.as_mut_slice.result.now in
    let begun = begun_lent p T c.in_ok-begun.begun.sides.items sides c.in_ok-begun.begun.built.items built c.as_slice.ensures.value c.as_mut_slice.ensures.value c.in_ok-begun.ensures.begun in
    ranks_within p S T U c.requires.levels c.begin.ensures.sound c.begin.ensures.adds sides built begun c.build_all.ensures.adds c.begin.ensures.within c.in_ok-build_all.ensures.within

pub returns-clause-within_bound : goal.returns-clause-within_bound
returns-clause-within_bound g c = λ bounded.
    let p = circuits_of c.args.circuits.now in
    let S = c.args.store.now in
    let T = c.begin.new.store in
    let U = c.build_all.new.store in
    let sides = c.as_slice.result.now in
    let built = c.as_mut_slice.result.now in
    let begun = begun_lent p T c.in_ok-begun.begun.sides.items sides c.in_ok-begun.begun.built.items built c.as_slice.ensures.value c.as_mut_slice.ensures.value c.in_ok-begun.ensures.begun in
    ranks_narrow p S T U c.requires.levels c.begin.ensures.sound c.begin.ensures.adds sides built begun c.build_all.ensures.adds _ (c.in_ok-build_all.ensures.within_bound bounded)

pub returns-clause-need : goal.returns-clause-need
returns-clause-need g c =
    let p = circuits_of c.args.circuits.now in
    let S = c.args.store.now in
    let T = c.begin.new.store in
    let U = c.build_all.new.store in
    let sides = c.as_slice.result.now in
    let built = c.as_mut_slice.result.now in
    let begun = begun_lent p T c.in_ok-begun.begun.sides.items sides c.in_ok-begun.begun.built.items built c.as_slice.ensures.value c.as_mut_slice.ensures.value c.in_ok-begun.ensures.begun in
    ranks_need p S T U c.requires.levels c.begin.ensures.sound c.begin.ensures.adds sides built begun c.build_all.ensures.adds c.build_all.new.built c.in_ok-build_all.ensures.built c.build_all.ensures.sound c.begin.ensures.within c.in_ok-build_all.ensures.within

pub returns-clause-first : goal.returns-clause-first
returns-clause-first g c =
    let p = circuits_of c.args.circuits.now in
    let S = c.args.store.now in
    let T = c.begin.new.store in
    let U = c.build_all.new.store in
    let sides = c.as_slice.result.now in
    let built = c.as_mut_slice.result.now in
    let begun = begun_lent p T c.in_ok-begun.begun.sides.items sides c.in_ok-begun.begun.built.items built c.as_slice.ensures.value c.as_mut_slice.ensures.value c.in_ok-begun.ensures.begun in
    let items = c.in_ok-begun.begun.built.items in
    let new = c.build_all.new.built in
    let right = c.in_ok-build_all.ensures.built in
    let long : c.in_ok-begun.begun.built.len ≡ length items = (let k = c.in_ok-begun.begun.built.ok.0 in omega arith) in
    let same : length new ≡ length items = right.0 ∙ sym begun.right.0 ∙ ap length c.as_mut_slice.ensures.value in
    let whole = lent items new c.in_ok-begun.begun.built.len long same in
    subst (λ (z : List (List Ref)). AreDiagrams p.first (first_level p.pairing) U (get_or z 0 [])) (sym whole)
    (ranks_diagrams p S T U c.requires.levels c.begin.ensures.sound c.begin.ensures.adds sides built begun c.build_all.ensures.adds new right 0 (record { netlist = p.first; level = first_level p.pairing }) (omega arith) refl)

pub returns-clause-second : goal.returns-clause-second
returns-clause-second g c =
    let p = circuits_of c.args.circuits.now in
    let S = c.args.store.now in
    let T = c.begin.new.store in
    let U = c.build_all.new.store in
    let sides = c.as_slice.result.now in
    let built = c.as_mut_slice.result.now in
    let begun = begun_lent p T c.in_ok-begun.begun.sides.items sides c.in_ok-begun.begun.built.items built c.as_slice.ensures.value c.as_mut_slice.ensures.value c.in_ok-begun.ensures.begun in
    let items = c.in_ok-begun.begun.built.items in
    let new = c.build_all.new.built in
    let right = c.in_ok-build_all.ensures.built in
    let long : c.in_ok-begun.begun.built.len ≡ length items = (let k = c.in_ok-begun.begun.built.ok.0 in omega arith) in
    let same : length new ≡ length items = right.0 ∙ sym begun.right.0 ∙ ap length c.as_mut_slice.ensures.value in
    let whole = lent items new c.in_ok-begun.begun.built.len long same in
    subst (λ (z : List (List Ref)). AreDiagrams p.second (second_level p.pairing) U (get_or z 1 [])) (sym whole)
    (ranks_diagrams p S T U c.requires.levels c.begin.ensures.sound c.begin.ensures.adds sides built begun c.build_all.ensures.adds new right 1 (record { netlist = p.second; level = second_level p.pairing }) (omega arith) refl)

pub returns-clause-given : goal.returns-clause-given
returns-clause-given g c =
    let p = circuits_of c.args.circuits.now in
    let S = c.args.store.now in
    let T = c.begin.new.store in
    let U = c.build_all.new.store in
    let sides = c.as_slice.result.now in
    let built = c.as_mut_slice.result.now in
    let begun = begun_lent p T c.in_ok-begun.begun.sides.items sides c.in_ok-begun.begun.built.items built c.as_slice.ensures.value c.as_mut_slice.ensures.value c.in_ok-begun.ensures.begun in
    let items = c.in_ok-begun.begun.built.items in
    let new = c.build_all.new.built in
    let right = c.in_ok-build_all.ensures.built in
    let long : c.in_ok-begun.begun.built.len ≡ length items = (let k = c.in_ok-begun.begun.built.ok.0 in omega arith) in
    let same : length new ≡ length items = right.0 ∙ sym begun.right.0 ∙ ap length c.as_mut_slice.ensures.value in
    let whole = lent items new c.in_ok-begun.begun.built.len long same in
    given_diagrams p.first p.second p.given p.pairing U _
    (λ l lt at.
    subst (λ (z : List (List Ref)). AreDiagrams l.netlist l.level U (get_or z 2 [])) (sym whole)
    (ranks_diagrams p S T U c.requires.levels c.begin.ensures.sound c.begin.ensures.adds sides built begun c.build_all.ensures.adds new right 2 l lt at))

pub returns-in_err-begun-clause-memory : goal.returns-in_err-begun-clause-memory
returns-in_err-begun-clause-memory g c = λ old _. within_kept c.args.store.now c.begin.new.store c.begin.ensures.within old

pub returns-in_err-build_all-clause-memory : goal.returns-in_err-build_all-clause-memory
returns-in_err-build_all-clause-memory g c =
    let O : Nodes = c.args.store.now in
    let T : Nodes = c.build_all.new.store in
    let memory : count_of O ≤ O.limit → c.build_all.result ≡ Err OutOfMemory → count_of T ≤ T.limit = λ old.
    c.build_all.ensures.memory (within_kept O c.begin.new.store c.begin.ensures.within old) in
    search (rules, memory)
