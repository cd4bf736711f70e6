-- The names of inputs, outputs and registers in one table.
use Rattle.std.proofs.Common.{◌≡◌, ◌∙◌, List, ℕ, Bool, [], true, false, refl, ap}
use Rattle.std.specs.Prelude.{◌||◌}
use Rattle.net_bench.specs.Circuit.{Circuit, is_name_in}
use Rattle.net_bench.proofs.Numbers.{in_fold}
use Rattle.net_order.specs.Order.{names_of, registers_of}
use Rattle.net_order.specs.Tables.{with_names}
use Rattle.net_rename.specs.Renaming.{ArePorts}

or_assoc : (a b c : Bool) → ((a || b) || c) ≡ (a || (b || c))
or_assoc true b c = refl
or_assoc false b c = refl

-- three lists of names on top of none
pub all_ports : (c : Circuit) (empty inputs outputs ports : List (List ℕ)) → empty ≡ [] → inputs ≡ with_names empty (names_of c c.inputs) →
    outputs ≡ with_names inputs (names_of c c.outputs) → ports ≡ with_names outputs (names_of c (registers_of c)) → ArePorts c ports
all_ports c empty inputs outputs ports none one two three n =
    let i : Bool = is_name_in (names_of c c.inputs) n in
    let o : Bool = is_name_in (names_of c c.outputs) n in
    let r : Bool = is_name_in (names_of c (registers_of c)) n in
    ap (λ ns. is_name_in ns n) three ∙ in_fold (names_of c (registers_of c)) outputs n ∙
    ap (λ b. b || r) (ap (λ ns. is_name_in ns n) two ∙ in_fold (names_of c c.outputs) inputs n) ∙
    ap (λ b. (b || o) || r) (ap (λ ns. is_name_in ns n) one ∙ in_fold (names_of c c.inputs) empty n ∙ ap (λ ns. is_name_in ns n || i) none) ∙
    or_assoc i o r
