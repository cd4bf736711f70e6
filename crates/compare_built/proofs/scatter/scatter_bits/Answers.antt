use Rattle.std.proofs.Common.{◌≡◌, ◌∙◌, ap, sym, subst, arith, rules, ◌+◌, ◌<◌, ◌∷◌, [], false, length, length-append, get_or, replicate, take, vec_len}
use Rattle.std.specs.Prelude.{fold, min, zip, set}
use Rattle.std.specs.Iterator.Adapters.{zip_first, zip_second}
use Rattle.std.specs.Slice.Iter.{iter_rest}
use Rattle.std.proofs.Math.ListN.{length-replicate}
use Rattle.std.proofs.lemmas.List.{take_all}
use Rattle.std.proofs.lemmas.List.Sums.{fold_more}
use Rattle.std.proofs.lemmas.Slice.Zip.{get_or-zip, length-zip, zip_end, zip_turn}
use Rattle.compare_built.specs.Scatter.{with_bit}
use Rattle.compare_built.proofs.Scattering.{as_long}
use Rattle.compare_built.proofs.scatter.scatter_bits.Goals as goal

pub index_mut-requires : goal.index_mut-requires
index_mut-requires c =
    let places = c.args.places.now in
    let done = c.loop-place.yielded in
    let first : iter_rest (zip_first c.into_iter-place-iterator.result) ≡ places = search rules in
    let second : iter_rest (zip_second c.into_iter-place-iterator.result) ≡ c.args.bits.now = search rules in
    let step = zip_turn places c.args.bits.now done c.into_iter-place-iterator.result c.loop-place.place-iterator c.next.new.self c.next.result first second c.loop-place.yielded_by (c.in-Some.place, c.in-Some.bit) c.in-Some.is c.next.ensures.steps in
    let below : c.in-Some.place.now < c.args.levels = subst (λ l. l < c.args.levels) (sym (step.2 0)) (c.requires (length done) 0 step.0) in
    let long : length c.loop-place.all_bits.items ≡ c.args.levels =
    ap length c.loop-place.invariant ∙ as_long (replicate c.args.levels false) (take (length done) (zip places c.args.bits.now)) ∙ length-replicate c.args.levels false in
    let wide : vec_len c.loop-place.all_bits ≡ length c.loop-place.all_bits.items = search rules in
    subst (λ n. c.in-Some.place.now < n) (sym (wide ∙ long)) below

pub loop-place-preserved : goal.loop-place-preserved
loop-place-preserved c =
    let places = c.args.places.now in
    let bits = c.args.bits.now in
    let done = c.loop-place.yielded in
    let first : iter_rest (zip_first c.into_iter-place-iterator.result) ≡ places = search rules in
    let second : iter_rest (zip_second c.into_iter-place-iterator.result) ≡ bits = search rules in
    let step = zip_turn places bits done c.into_iter-place-iterator.result c.loop-place.place-iterator c.next.new.self c.next.result first second c.loop-place.yielded_by (c.in-Some.place, c.in-Some.bit) c.in-Some.is c.next.ensures.steps in
    let low : length done < length (zip places bits) = let size = length-zip places bits in let one = step.0 in let two = step.1 in omega (arith, size, one, two) in
    let next : fold with_bit (replicate c.args.levels false) (take (length done + 1) (zip places bits)) ≡ set c.loop-place.all_bits.items c.in-Some.place.now c.in-Some.bit.now =
    fold_more with_bit (replicate c.args.levels false) (zip places bits) (length done) (0, false) low ∙
    ap (with_bit (fold with_bit (replicate c.args.levels false) (take (length done) (zip places bits)))) (get_or-zip places bits (length done) (0, false) step.0 step.1) ∙
    ap (λ l. set (fold with_bit (replicate c.args.levels false) (take (length done) (zip places bits))) l (get_or bits (length done) false)) (sym (step.2 0)) ∙
    ap (set (fold with_bit (replicate c.args.levels false) (take (length done) (zip places bits))) c.in-Some.place.now) (sym (step.3 false)) ∙
    ap (λ all_bits. set all_bits c.in-Some.place.now c.in-Some.bit.now) (sym c.loop-place.invariant) in
    sym next ∙
    ap (λ n. fold with_bit (replicate c.args.levels false) (take n (zip places bits))) (sym (length-append done ((c.in-Some.place, c.in-Some.bit) ∷ [])))

pub returns : goal.returns
returns c =
    let places = c.args.places.now in
    let bits = c.args.bits.now in
    let done = c.loop-place.yielded in
    let first : iter_rest (zip_first c.into_iter-place-iterator.result) ≡ places = search rules in
    let second : iter_rest (zip_second c.into_iter-place-iterator.result) ≡ bits = search rules in
    let all : length done ≡ min (length places) (length bits) =
    zip_end places bits done c.into_iter-place-iterator.result c.loop-place.place-iterator c.next.new.self c.next.result first second c.loop-place.yielded_by c.in-None.is c.next.ensures.steps in
    let size = length-zip places bits in
    c.loop-place.invariant ∙ ap (fold with_bit (replicate c.args.levels false)) (take_all (length done) (zip places bits) (omega (arith, all, size)))
