-- The functions of pairs that are found equal agree.
use Rattle.std.proofs.Common.{◌≡◌, ◌<◌, ℕ, suc, Bool, false, List, [], ◌∷◌, length, map, replicate, refl, sym, ap, ◌∙◌, arith, inl, inr, subst, ◌++◌, ◌+◌}
use Rattle.std.specs.Prelude.{All, IsTrue, slice_index, slice_index_or}
use Rattle.std.proofs.lemmas.Bool.{cases_lt}
use Rattle.std.proofs.lemmas.List.{get_or_append_left, get_or_push}
use Rattle.std.specs.List.{AllZip}
use Rattle.net_bench.specs.Circuit.{IsNet, Net, circuit, variables_of}
use Rattle.net_bench.specs.Labels.{IsFunctionOf, IsLabelling, bit_of}
use Rattle.net_bench.proofs.Built.{has_labelling}
use Rattle.net_order.specs.Order.{NamingModel, name_of}
use Rattle.pair_graph.specs.declared.node.Node.{Node}
use Rattle.pair_graph.specs.Literals.{Parts}
use Rattle.pair_graph.specs.Graphs.{value}
use Rattle.net_merge.specs.SignalLiterals.{AreSignalLiterals, IsPairFinding, literal_at}
use Rattle.compare_built.specs.declared.subject.Subject.{Subject}
use Rattle.compare_built.specs.Comparing.{IsInside}
use Rattle.compare_built.specs.Facts.{IsEqualInside}
use Rattle.inside_check.specs.Levels.{HasLevelsOf}

-- a labelling does not depend on the levels of signals that are no variables
relabelled : (n : Net) → IsNet n → (levels copy : List ℕ) → HasLevelsOf (circuit n) levels copy → (x bits : List Bool)
    → IsLabelling (circuit n) (slice_index levels) x bits → IsLabelling (circuit n) (slice_index copy) x bits
relabelled n sound levels copy same x bits label = record {
  each = label.each;
  variables = λ i d low. label.variables i d low ∙
      ap (bit_of x) (sym (same (slice_index_or (variables_of (circuit n)) i d) (sound.variables i d low)));
  gates = label.gates;
}

-- the values of a signal's literal are its function
function_of : (n : Net) → IsNet n → (levels copy : List ℕ) → HasLevelsOf (circuit n) levels copy → (g : List Node) (ls : List Parts)
    → AreSignalLiterals (circuit n) (slice_index copy) g ls → (count s : ℕ) → s < length n.names
    → IsFunctionOf (circuit n) (slice_index levels) count s (λ x. value g x (literal_at ls s))
function_of n sound levels copy same g ls are count s low x size =
    let (bits, label) = has_labelling n sound (slice_index levels) x in
    (bits, label, sym (are.values s low x bits (relabelled n sound levels copy same x bits label)))

-- the signals of a pair
abbrev pub pair_of : Subject → ℕ × ℕ
pair_of s = (s.first, s.second)

module _ (a b : Net) (sound_a : IsNet a) (sound_b : IsNet b) (p : NamingModel) (of_a of_b : List ℕ) (levels_a : HasLevelsOf (circuit a) p.first of_a)
    (levels_b : HasLevelsOf (circuit b) p.second of_b) (g : List Node) (ls ms : List Parts)
    (firsts : AreSignalLiterals (circuit a) (slice_index of_a) g ls) (seconds : AreSignalLiterals (circuit b) (slice_index of_b) g ms) where
  -- a pair that is found equal is equal inside
  equal_pair : (s : Subject) → IsInside (circuit a) (circuit b) s → (found : Bool) → IsPairFinding g ls ms (pair_of s) found → IsTrue found
      → IsEqualInside (circuit a) (circuit b) p s
  equal_pair s inside found is true_found = record {
    compared = record {
      role = s.role;
      name = name_of (circuit a) s.named;
      first = λ x. value g x (literal_at ls s.first);
      second = λ x. value g x (literal_at ms s.second);
    };
    functions = record {
      role = refl;
      name = refl;
      first = function_of a sound_a p.first of_a levels_a g ls firsts (length p.names) s.first inside.1;
      second = function_of b sound_b p.second of_b levels_b g ms seconds (length p.names) s.second inside.2;
    };
    agree = λ x size holds. is.equal true_found x;
  }

  pub equal_pairs : (ss : List Subject) (bs : List Bool) → All (IsInside (circuit a) (circuit b)) ss → AllZip (IsPairFinding g ls ms) (map pair_of ss) bs
      → AllZip (λ s found. IsTrue found → IsEqualInside (circuit a) (circuit b) p s) ss bs
  equal_pairs [] [] inside zip = tt
  equal_pairs [] (b ∷ bs) inside zip = absurd zip
  equal_pairs (s ∷ ss) [] inside zip = absurd zip
  equal_pairs (s ∷ ss) (b ∷ bs) inside zip =
      (equal_pair s (inside 0 s (omega arith)) b zip.0, equal_pairs ss bs (λ i d low. inside (suc i) d (omega arith)) zip.1)

false_is_not_true : IsTrue false → ⊥
false_is_not_true e = cc

-- if no pair is found equal, nothing is claimed
pub none_found : (P : Subject → Type 0) (ss : List Subject) → AllZip (λ s found. IsTrue found → P s) ss (replicate (length ss) false)
none_found P [] = tt
none_found P (s ∷ ss) = ((λ no. absurd (false_is_not_true no)), none_found P ss)

-- there is a finding for each pair
pub zip_length : {X Y : Type 0} (R : X → Y → Type 0) (xs : List X) (ys : List Y) → AllZip R xs ys → length ys ≡ length xs
zip_length R [] [] zip = refl
zip_length R [] (y ∷ ys) zip = absurd zip
zip_length R (x ∷ xs) [] zip = absurd zip
zip_length R (x ∷ xs) (y ∷ ys) zip = ap suc (zip_length R xs ys zip.1)

-- one more signal has its level
pub level_more : (xs : List ℕ) (y i : ℕ) (f : ℕ → ℕ) → length xs ≡ i → ((s : ℕ) → s < i → slice_index xs s ≡ f s) → y ≡ f i → (s : ℕ) → s < i + 1
    → slice_index (xs ++ y ∷ []) s ≡ f s
level_more xs y i f each before is s low = elim (cases_lt s i) [
  | inl early ↦ get_or_append_left xs (y ∷ []) 0 s (subst (λ n. s < n) (sym each) early) ∙ before s early
  | inr late ↦ (let e : s ≡ i = omega arith in subst (λ t. slice_index (xs ++ y ∷ []) t ≡ f t) (sym e) (get_or_push xs y 0 i each ∙ is))
]
