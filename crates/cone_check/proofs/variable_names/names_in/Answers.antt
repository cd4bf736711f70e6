use Rattle.std.proofs.Common.{◌≡◌, ◌∙◌, ◌+◌, ◌<◌, ◌≤◌, ap, sym, subst, [], ℕ, List, length, get_or, set, take, All}
use Rattle.std.specs.Prelude.{slice_index}
use Rattle.std.proofs.lemmas.List.{length-map, length-set, take_all}
use Rattle.std.proofs.lemmas.Option.{get_or_from_slice_get}
use Rattle.std.specs.declared.alloc.Global.{Global}
use Rattle.std.specs.declared.vec.Vec.{Vec}
use Rattle.net_bench.specs.Circuit.{circuit, variables_of}
use Rattle.cone_check.specs.ConeRounds.{levels_in, texts}
use Rattle.cone_check.proofs.Called.{named_more}
use Rattle.cone_check.proofs.variable_names.names_in.Goals as goal

pub loop-place-preserved : goal.loop-place-preserved
loop-place-preserved c =
    let vs = variables_of (circuit c.args.net.now) in
    let levels = levels_in c.args.part c.args.naming.now in
    let f : ℕ → List ℕ = λ s. get_or c.args.naming.now.names (slice_index levels s) [] in
    let here = c.loop-place.place in
    let s = c.index-variables-place.result in
    let value = c.variables-variables.ensures.value in
    let lt : here < length vs = subst (λ (xs : List ℕ). here < length xs) value c.loop-place-test.true in
    let at : get_or vs here s ≡ s = ap (λ (xs : List ℕ). get_or xs here s) (sym value) ∙ sym c.index-variables-place.is in
    let in_range : s < length c.args.net.now.names = subst (λ k. k < length c.args.net.now.names) at (c.variables-variables.ensures.sound.variables here s lt) in
    let low : s < length c.loop-place.names.items = subst (λ n. s < n) (sym c.loop-place.invariant.each) in_range in
    let named : get_or c.names.result.now c.level_in-level.result [] ≡ c.at.result.now = get_or_from_slice_get c.names.result.now c.level_in-level.result c.at.result.now [] c.at.ensures in
    let is : c.in_ok-names-2.field-0.items ≡ f s = c.in_ok-names-2.ensures.items ∙ sym named ∙ ap (λ (ns : List (List ℕ)). get_or ns c.level_in-level.result []) c.names.ensures ∙ ap (λ k. get_or c.args.naming.now.names k []) c.level_in-level.ensures in
    record {
      each = length-set c.loop-place.names.items c.number.result c.in_ok-names-2.field-0 ∙ c.loop-place.invariant.each;
      named = subst (λ k. All (λ t. get_or (texts (set c.loop-place.names.items k c.in_ok-names-2.field-0)) t [] ≡ f t) (take (here + 1) vs)) (sym c.number.ensures)
          (named_more f c.loop-place.names.items c.in_ok-names-2.field-0 vs here s lt at low is c.loop-place.invariant.named);
    }

pub returns : goal.returns
returns c =
    let vs = variables_of (circuit c.args.net.now) in
    let names = c.loop-place.names.items in
    let past = subst (λ (xs : List ℕ). length xs ≤ c.loop-place.place) c.variables-variables.ensures.value c.loop-place-test.false in
    record {
      each = length-map names (λ (w : Vec ℕ Global). w.items) ∙ c.loop-place.invariant.each;
      variables = subst (λ xs. All (λ t. get_or (texts names) t [] ≡ get_or c.args.naming.now.names (slice_index (levels_in c.args.part c.args.naming.now) t) []) xs) (take_all c.loop-place.place vs past) c.loop-place.invariant.named;
    }
