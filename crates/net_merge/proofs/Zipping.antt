-- What is found of pairs, pair after pair.
use Rattle.std.proofs.Common.{◌≡◌, ℕ, ◌+◌, ◌<◌, Bool, List, [], ◌∷◌, ◌++◌, length, take, get_or, sym, ap, ◌∙◌, subst}
use Rattle.std.specs.Prelude.{IsTrue}
use Rattle.std.specs.List.{AllZip}
use Rattle.std.proofs.lemmas.List.{take_more}
use Rattle.pair_graph.specs.declared.node.Node.{Node}
use Rattle.pair_graph.specs.Literals.{Parts}
use Rattle.pair_graph.specs.Graphs.{AreEquivalent, value}
use Rattle.net_merge.specs.SignalLiterals.{IsPairFinding, literal_at}

zip_push : {X Y : Type 0} (R : X → Y → Type 0) (xs : List X) (ys : List Y) (x : X) (y : Y) → AllZip R xs ys → R x y → AllZip R (xs ++ x ∷ []) (ys ++ y ∷ [])
zip_push R [] [] x y h r = (r, tt)
zip_push R [] (b ∷ ys) x y h r = absurd h
zip_push R (a ∷ xs) [] x y h r = absurd h
zip_push R (a ∷ xs) (b ∷ ys) x y h r = (h.0, zip_push R xs ys x y h.1 r)

-- one more pair of items in two lists that belong together
pub zip_more : {X Y : Type 0} (R : X → Y → Type 0) (xs : List X) (ys : List Y) (i : ℕ) (x : X) (y : Y) → i < length xs → x ≡ get_or xs i x
    → AllZip R (take i xs) ys → R x y → AllZip R (take (i + 1) xs) (ys ++ y ∷ [])
zip_more R xs ys i x y low at h r =
    subst (λ zs. AllZip R zs (ys ++ y ∷ [])) (sym (take_more xs i x low ∙ ap (λ z. take i xs ++ z ∷ []) (sym at)))
    (zip_push R (take i xs) ys x y h r)

-- what is found of two literals is found of the pair of signals that have them
pub pair_found : (old g : List Node) (firsts seconds : List Parts) (pair : ℕ × ℕ) (one two : Parts) (found : Bool) → g ≡ old
    → one ≡ literal_at firsts pair.0 → two ≡ literal_at seconds pair.1 → (IsTrue found → AreEquivalent g one two) → (one ≡ two → IsTrue found)
    → IsPairFinding old firsts seconds pair found
pair_found old g firsts seconds pair one two found unchanged is_one is_two equal same = record {
  equal = λ yes x. sym (ap (value old x) is_one) ∙
      subst (λ (h : List Node). value h x one ≡ value h x two) unchanged (equal yes x) ∙ ap (value old x) is_two;
  same = λ e. same (is_one ∙ e ∙ sym is_two);
}
