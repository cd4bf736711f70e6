-- Lists of names that grow, each name once.
use Rattle.std.proofs.Common.{◌≡◌, ℕ, zero, refl, ◌+◌, ◌<◌, List, [], ◌∷◌, ◌++◌, sym, ap, ◌∙◌, suc, length, map, drop, get_or, arith}
use Rattle.std.specs.Prelude.{Some, slice_get}
use Rattle.std.proofs.lemmas.List.Sums.{fold-append}
use Rattle.std.proofs.lemmas.List.{drop_more}
use Rattle.std.proofs.lemmas.Option.{get_or_from_slice_get}
use Rattle.net_bench.specs.Circuit.{Circuit, with_name}
use Rattle.net_order.specs.Order.{name_of}
use Rattle.net_order.specs.Tables.{with_names}

-- the name that the netlist returns
pub name_is : (c : Circuit) (s : ℕ) (n : List ℕ) → slice_get c.names s ≡ Some n → name_of c s ≡ n
name_is c s n e = get_or_from_slice_get c.names s n [] e

-- the name of one more item of the list
pub one_more : (f : ℕ → List ℕ) (ss : List ℕ) (i s : ℕ) (n : List ℕ) (old new : List (List ℕ)) → i < length ss → s ≡ get_or ss i s → n ≡ f s → new ≡ with_name old n →
    with_names new (map f (drop (i + 1) ss)) ≡ with_names old (map f (drop i ss))
one_more f ss i s n old new h at is grown =
    let rest : drop i ss ≡ s ∷ drop (i + 1) ss = drop_more ss i s h ∙ ap (λ x. x ∷ drop (i + 1) ss) (sym at) in
    ap (λ t. with_names t (map f (drop (i + 1) ss))) grown ∙ sym (ap (λ xs. with_names old (map f xs)) rest ∙ ap (λ m. with_names (with_name old m) (map f (drop (i + 1) ss))) (sym is))

-- names after names
pub joined : (old xs ys : List (List ℕ)) → with_names (with_names old xs) ys ≡ with_names old (xs ++ ys)
joined old xs ys = sym (fold-append with_name old xs ys)

pub same_item : (xs : List ℕ) (i d e : ℕ) → i < length xs → get_or xs i d ≡ get_or xs i e
same_item [] i d e h = absurd (omega (arith, h))
same_item (x ∷ xs) zero d e h = refl
same_item (x ∷ xs) (suc i) d e h = same_item xs i d e (omega (arith, h))
