-- Literals that take the places of others.
use Rattle.std.proofs.Common.{◌≡◌, ℕ, ◌+◌, ◌<◌, ◌≤◌, List, [], ◌∷◌, ◌++◌, length, get_or, sym, ap, subst, ◌∙◌, arith, inl, inr}
use Rattle.std.proofs.lemmas.Bool.{cases_lt}
use Rattle.std.proofs.lemmas.List.{get_or_append_left, get_or_default, get_or_past, get_or_push}
use Rattle.net_bench.specs.Circuit.{Circuit}
use Rattle.pair_graph.specs.declared.node.Node.{Node}
use Rattle.pair_graph.specs.Literals.{Parts, false_literal}
use Rattle.pair_graph.specs.Graphs.{HasNode}
use Rattle.net_merge.specs.Merging.{AreSettled, IsSettled}
use Rattle.net_merge.specs.SignalLiterals.{AreSignalLiterals, literal_at}

-- one more literal is settled
pub settled_more : (g : List Node) (ls ms : List Parts) (l m : Parts) (place : ℕ) → length ms ≡ place → place < length ls → l ≡ get_or ls place l
    → IsSettled g l m → ((s : ℕ) → s < place → IsSettled g (literal_at ls s) (literal_at ms s))
    → (s : ℕ) → s < place + 1 → IsSettled g (literal_at ls s) (literal_at (ms ++ m ∷ []) s)
settled_more g ls ms l m place each low is here before s late = elim (cases_lt s place) [
  | inl early ↦ subst (IsSettled g (literal_at ls s))
      (sym (get_or_append_left ms (m ∷ []) false_literal s (subst (λ (n : ℕ). s < n) (sym each) early))) (before s early)
  | inr not_early ↦ (
      let e : s ≡ place = omega arith in
      let old : l ≡ literal_at ls s =
      is ∙ get_or_default ls place l false_literal low ∙ ap (λ (i : ℕ). get_or ls i false_literal) (sym e) in
      let new : m ≡ literal_at (ms ++ m ∷ []) s =
      sym (get_or_push ms m false_literal place each) ∙ ap (λ (i : ℕ). get_or (ms ++ m ∷ []) i false_literal) (sym e) in
      subst (λ (k : Parts). IsSettled g k (literal_at (ms ++ m ∷ []) s)) old (subst (IsSettled g l) new here))
]

-- literals that take the places of signals' literals are the signals' as well
pub AreSignalLiterals-settled : (c : Circuit) (level : ℕ → ℕ) (g : List Node) (ls ms : List Parts) → AreSignalLiterals c level g ls → AreSettled g ls ms
    → AreSignalLiterals c level g ms
AreSignalLiterals-settled c level g ls ms are settled = record {
  each = settled.each ∙ are.each;
  has = λ s. elim (cases_lt s (length ls)) [
    | inl low ↦ (settled.settled s low).1 (are.has s)
    | inr past ↦ (
        let none : literal_at ms s ≡ false_literal = get_or_past ms s false_literal (subst (λ (n : ℕ). n ≤ s) (sym settled.each) past) in
        let same : literal_at ls s ≡ false_literal = get_or_past ls s false_literal past in
        subst (HasNode g) (same ∙ sym none) (are.has s))
  ];
  values = λ s low. (λ x bits label.
      let there : s < length ls = subst (λ (n : ℕ). s < n) (sym are.each) low in
      sym ((settled.settled s there).0 x) ∙ are.values s low x bits label);
}
