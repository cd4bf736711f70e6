-- Folds of operands' values, operand after operand.
use Rattle.std.proofs.Common.{◌≡◌, ℕ, zero, suc, ◌+◌, ◌<◌, Bool, true, false, not, ◌&&◌, ◌||◌, List, [], ◌∷◌, length, map, take, get_or, refl, sym, ap, subst, ◌∙◌, arith, add-one}
use Rattle.std.specs.Prelude.{All}
use Rattle.std.proofs.lemmas.Option.{slice_get_within}
use Rattle.net_bench.specs.Labels.{all_ones, odd, some_one}
use Rattle.pair_graph.specs.declared.node.Node.{Node}
use Rattle.pair_graph.specs.declared.node.Node.TheVariants.{Constant}
use Rattle.pair_graph.specs.Literals.{Parts, complemented_if}
use Rattle.pair_graph.specs.Graphs.{HasNode, KeepsNodes, IsGraph, exclusive_or, node_value, inverted_if, value}
use Rattle.pair_graph.proofs.Values.{KeepsNodes-has, inverted_if-not, value-false, value-keeps, value-true}

-- a literal of a graph that has grown, and the function that it has there
pub record IsFolding (old new : List Node) (answer : Parts) (f : List Bool → Bool) : Type 0 where
  pub sound : IsGraph new
  pub keeps : KeepsNodes old new
  pub has : HasNode new answer
  pub value_is : (x : List Bool) → value new x answer ≡ f x

and_true : (a : Bool) → (a && true) ≡ (true && a)
and_true true = refl
and_true false = refl

and_assoc : (a b c : Bool) → (a && (b && c)) ≡ ((a && b) && c)
and_assoc true b c = refl
and_assoc false b c = refl

xor_false : (a : Bool) → exclusive_or a false ≡ exclusive_or false a
xor_false true = refl
xor_false false = refl

xor_assoc : (a b c : Bool) → exclusive_or a (exclusive_or b c) ≡ exclusive_or (exclusive_or a b) c
xor_assoc true true true = refl
xor_assoc true true false = refl
xor_assoc true false true = refl
xor_assoc true false false = refl
xor_assoc false b c = refl

-- one more operand
pub ones-more : (f : Parts → Bool) (xs : List Parts) (i : ℕ) (d : Parts) → i < length xs
    → all_ones (map f (take (suc i) xs)) ≡ (all_ones (map f (take i xs)) && f (get_or xs i d))
ones-more f [] i d low = absurd (omega arith)
ones-more f (x ∷ xs) zero d low = and_true (f x)
ones-more f (x ∷ xs) (suc i) d low =
    ap (λ (b : Bool). f x && b) (ones-more f xs i d (omega arith)) ∙ and_assoc (f x) (all_ones (map f (take i xs))) (f (get_or xs i d))

pub odd-more : (f : Parts → Bool) (xs : List Parts) (i : ℕ) (d : Parts) → i < length xs
    → odd (map f (take (suc i) xs)) ≡ exclusive_or (odd (map f (take i xs))) (f (get_or xs i d))
odd-more f [] i d low = absurd (omega arith)
odd-more f (x ∷ xs) zero d low = xor_false (f x)
odd-more f (x ∷ xs) (suc i) d low =
    ap (exclusive_or (f x)) (odd-more f xs i d (omega arith)) ∙ xor_assoc (f x) (odd (map f (take i xs))) (f (get_or xs i d))

-- the same for the operand at which a loop is
pub ones-next : (f : Parts → Bool) (xs : List Parts) (i : ℕ) (d : Parts) → i < length xs → d ≡ get_or xs i d
    → all_ones (map f (take (i + 1) xs)) ≡ (all_ones (map f (take i xs)) && f d)
ones-next f xs i d low e =
    ap (λ (n : ℕ). all_ones (map f (take n xs))) (add-one i) ∙ ones-more f xs i d low ∙
    ap (λ (l : Parts). all_ones (map f (take i xs)) && f l) (sym e)

pub odd-next : (f : Parts → Bool) (xs : List Parts) (i : ℕ) (d : Parts) → i < length xs → d ≡ get_or xs i d
    → odd (map f (take (i + 1) xs)) ≡ exclusive_or (odd (map f (take i xs))) (f d)
odd-next f xs i d low e =
    ap (λ (n : ℕ). odd (map f (take n xs))) (add-one i) ∙ odd-more f xs i d low ∙
    ap (λ (l : Parts). exclusive_or (odd (map f (take i xs))) (f l)) (sym e)

-- some operand is 1 if not all complements are
not_or : (a b : Bool) → (a || not b) ≡ not (not a && b)
not_or true b = refl
not_or false b = refl

pub some_one-not : (f : Parts → Bool) (xs : List Parts) → some_one (map f xs) ≡ not (all_ones (map (λ o. not (f o)) xs))
some_one-not f [] = refl
some_one-not f (x ∷ xs) =
    ap (λ (b : Bool). f x || b) (some_one-not f xs) ∙ not_or (f x) (all_ones (map (λ o. not (f o)) xs))

-- what is true of each of a list's literals is true of the one at a place
pub at_place : (P : Parts → Type 0) (xs : List Parts) (i : ℕ) (l : Parts) → All P xs → i < length xs → l ≡ get_or xs i l → P l
at_place P xs i l all low e = subst P (sym e) (all i l low)

-- the fold of no operands
pub fold-none : (g : List Node) → IsGraph g → (b : Bool) → IsFolding g g (record { node = 0; complemented = b }) (λ x. b)
fold-none g sound b = record {
  sound = sound;
  keeps = λ n m e. e;
  has = slice_get_within g 0 Constant sound.constant;
  value_is = λ x. constant_value b x;
}
  where
    constant_value : (b : Bool) (x : List Bool) → value g x (record { node = 0; complemented = b }) ≡ b
    constant_value true x = value-true g sound x
    constant_value false x = value-false g sound x

-- a complemented literal has the complementary value, also in a newer graph
pub complemented_value : (old g : List Node) → IsGraph old → KeepsNodes old g → (x : List Bool) (b : Bool) (o l : Parts) → HasNode old o
    → l ≡ complemented_if b o → value g x l ≡ inverted_if b (value old x o)
complemented_value old g sound keeps x b o l low e =
    ap (value g x) e ∙ by_bit b (value-keeps old sound.ordered x g keeps o low)
  where
    by_bit : (b : Bool) → value g x o ≡ value old x o → value g x (complemented_if b o) ≡ inverted_if b (value old x o)
    by_bit true same = inverted_if-not o.complemented (node_value g x o.node) ∙ ap not same
    by_bit false same = same

pub complemented_has : (old g : List Node) → KeepsNodes old g → (b : Bool) (o l : Parts) → HasNode old o → l ≡ complemented_if b o → HasNode g l
complemented_has old g keeps b o l low e = subst (HasNode g) (sym e) (by_bit b)
  where
    by_bit : (b : Bool) → HasNode g (complemented_if b o)
    by_bit true = KeepsNodes-has old g keeps o.node low
    by_bit false = KeepsNodes-has old g keeps o.node low

-- the fold with one more operand, by the graph's answer
pub fold-step : (op : Bool → Bool → Bool) (old g new : List Node) (a b o : Parts) (f k h : List Bool → Bool) → IsFolding old g a f
    → IsGraph new → KeepsNodes g new → HasNode new b → ((x : List Bool) → value new x b ≡ op (value g x a) (value g x o))
    → ((x : List Bool) → value g x o ≡ k x) → ((x : List Bool) → h x ≡ op (f x) (k x)) → IsFolding old new b h
fold-step op old g new a b o f k h was sound keeps has made operand more = record {
  sound = sound;
  keeps = λ n m e. keeps n m (was.keeps n m e);
  has = has;
  value_is = λ x. made x ∙ (let p = was.value_is x in let q = operand x in λ i. op (p i) (q i)) ∙ sym (more x);
}
