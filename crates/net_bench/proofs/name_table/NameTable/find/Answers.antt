use Rattle.std.proofs.Common.{◌≡◌, ◌∙◌, List, ℕ, sym, ap, subst, slice_get, Some}
use Rattle.net_bench.specs.Circuit.{find}
use Rattle.net_bench.specs.NameTable.{names_in}
use Rattle.net_bench.proofs.Names.{found_place, found_missing}
use Rattle.net_bench.proofs.name_table.NameTable.find.Goals as goal

pub returns-in-Number : goal.returns-in-Number
returns-in-Number c =
    let b : List ℕ = c.self.inside.bytes.items in
    let names : List (List ℕ) = names_in c.self.inside.bytes.items c.self.inside.spans.items in
    let one : slice_get (names_in c.self.inside.bytes.items c.as_slice-2.result.now) c.in-Number.number ≡ Some c.args.name.now =
    subst (λ (z : List ℕ). slice_get (names_in z c.as_slice-2.result.now) c.in-Number.number ≡ Some c.args.name.now) c.as_slice.ensures.value c.in-Number.ensures in
    let at : slice_get names c.in-Number.number ≡ Some c.args.name.now =
    subst (λ z. slice_get (names_in c.self.inside.bytes.items z) c.in-Number.number ≡ Some c.args.name.now) c.as_slice-2.ensures.value one in
    sym (found_place names c.args.name.now c.in-Number.number c.self.invariant.once at) ∙ ap (λ ns. find ns c.args.name.now) c.self.view_is

pub returns-in-Slot : goal.returns-in-Slot
returns-in-Slot c =
    let names : List (List ℕ) = names_in c.self.inside.bytes.items c.self.inside.spans.items in
    let one = subst (λ (z : List ℕ). (i : ℕ) → slice_get (names_in z c.as_slice-2.result.now) i ≡ Some c.args.name.now → ⊥) c.as_slice.ensures.value c.in-Slot.ensures.0 in
    let absent = subst (λ z. (i : ℕ) → slice_get (names_in c.self.inside.bytes.items z) i ≡ Some c.args.name.now → ⊥) c.as_slice-2.ensures.value one in
    sym (found_missing names c.args.name.now absent) ∙ ap (λ ns. find ns c.args.name.now) c.self.view_is
