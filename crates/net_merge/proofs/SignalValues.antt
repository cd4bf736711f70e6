-- What the literals of signals say of their functions, also in a newer graph.
use Rattle.std.proofs.Common.{◌≡◌, ℕ, ◌<◌, Bool, not, List, length, sym, ap, ◌∙◌}
use Rattle.dd_store.specs.Functions.{Agree}
use Rattle.net_bench.specs.Circuit.{Circuit, IsNet, Net, circuit}
use Rattle.net_bench.specs.Labels.{IsFunctionOf}
use Rattle.net_bench.proofs.Built.{has_labelling}
use Rattle.pair_graph.specs.declared.node.Node.{Node}
use Rattle.pair_graph.specs.Literals.{Parts, negated}
use Rattle.pair_graph.specs.Graphs.{AreEquivalent, HasNode, IsGraph, KeepsNodes, value}
use Rattle.pair_graph.proofs.Values.{KeepsNodes-has, value-keeps, value-negated}
use Rattle.net_merge.specs.SignalLiterals.{AreSignalLiterals, HaveNodes, IsLiteralOf, literal_at}

-- a signal's literal has the values of its function
has_function : (c : Circuit) (level : ℕ → ℕ) (g : List Node) (s : ℕ) (l : Parts) → IsLiteralOf c level g s l → (n : ℕ) (f : List Bool → Bool)
    → IsFunctionOf c level n s f → (x : List Bool) → length x ≡ n → value g x l ≡ f x
has_function c level g s l literal n f is x size = let (bits, label, at) = is x size in literal x bits label ∙ at

-- and these are its function, since each assignment has a labelling
pub functions : (net : Net) → IsNet net → (level : ℕ → ℕ) (g : List Node) (ls : List Parts) → AreSignalLiterals (circuit net) level g ls
    → (n s : ℕ) → s < length net.names → IsFunctionOf (circuit net) level n s (λ x. value g x (literal_at ls s))
functions net sound level g ls are n s low x size =
    let (bits, label) = has_labelling net sound level x in
    (bits, label, sym (are.values s low x bits label))

-- literals that have the same values have equal functions
pub equivalent_functions : (c d : Circuit) (level inner : ℕ → ℕ) (g : List Node) (ls ms : List Parts) → AreSignalLiterals c level g ls
    → AreSignalLiterals d inner g ms → (s t : ℕ) → s < length c.names → t < length d.names → AreEquivalent g (literal_at ls s) (literal_at ms t)
    → (n : ℕ) (f h : List Bool → Bool) → IsFunctionOf c level n s f → IsFunctionOf d inner n t h → Agree n f h
equivalent_functions c d level inner g ls ms one two s t low_s low_t same n f h is_f is_h x size =
    sym (has_function c level g s (literal_at ls s) (one.values s low_s) n f is_f x size) ∙ same x ∙
    has_function d inner g t (literal_at ms t) (two.values t low_t) n h is_h x size

pub equal_functions : (c d : Circuit) (level inner : ℕ → ℕ) (g : List Node) (ls ms : List Parts) → AreSignalLiterals c level g ls
    → AreSignalLiterals d inner g ms → (s t : ℕ) → s < length c.names → t < length d.names → literal_at ls s ≡ literal_at ms t
    → (n : ℕ) (f h : List Bool → Bool) → IsFunctionOf c level n s f → IsFunctionOf d inner n t h → Agree n f h
equal_functions c d level inner g ls ms one two s t low_s low_t same n f h is_f is_h =
    equivalent_functions c d level inner g ls ms one two s t low_s low_t (λ x. ap (value g x) same) n f h is_f is_h

pub complementary_functions : (c d : Circuit) (level inner : ℕ → ℕ) (g : List Node) (ls ms : List Parts) → AreSignalLiterals c level g ls
    → AreSignalLiterals d inner g ms → (s t : ℕ) → s < length c.names → t < length d.names → literal_at ls s ≡ negated (literal_at ms t)
    → (n : ℕ) (f h : List Bool → Bool) → IsFunctionOf c level n s f → IsFunctionOf d inner n t h → Agree n f (λ x. not (h x))
complementary_functions c d level inner g ls ms one two s t low_s low_t opposite n f h is_f is_h x size =
    sym (has_function c level g s (literal_at ls s) (one.values s low_s) n f is_f x size) ∙ ap (value g x) opposite ∙
    value-negated g x (literal_at ms t) ∙ ap not (has_function d inner g t (literal_at ms t) (two.values t low_t) n h is_h x size)

-- a literal keeps its values in a newer graph
pub IsLiteralOf-keeps : (c : Circuit) (level : ℕ → ℕ) (g h : List Node) → IsGraph g → KeepsNodes g h → (s : ℕ) (l : Parts) → HasNode g l
    → IsLiteralOf c level g s l → IsLiteralOf c level h s l
IsLiteralOf-keeps c level g h sound keeps s l has literal x bits label =
    value-keeps g sound.ordered x h keeps l has ∙ literal x bits label

pub HaveNodes-keeps : (g h : List Node) → KeepsNodes g h → (ls : List Parts) → HaveNodes g ls → HaveNodes h ls
HaveNodes-keeps g h keeps ls has s = KeepsNodes-has g h keeps (literal_at ls s).node (has s)

pub AreSignalLiterals-keeps : (c : Circuit) (level : ℕ → ℕ) (g h : List Node) → IsGraph g → KeepsNodes g h → (ls : List Parts)
    → AreSignalLiterals c level g ls → AreSignalLiterals c level h ls
AreSignalLiterals-keeps c level g h sound keeps ls are = record {
  each = are.each;
  has = HaveNodes-keeps g h keeps ls are.has;
  values = λ s low. IsLiteralOf-keeps c level g h sound keeps s (literal_at ls s) (are.has s) (are.values s low);
}
