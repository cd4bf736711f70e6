-- What follows for a pair from a pattern that shows that it differs.
use Rattle.std.proofs.Common.{◌≡◌, ◌≢◌, ◌∙◌, ◌≤◌, ap, sym, refl, subst, arith, ℕ, zero, suc, ◌<◌, Bool, true, false, not, List, [], ◌∷◌, map, length, get_or, All, Option, Some, None}
use Rattle.std.specs.Prelude.{IfSome, IsTrue}
use Rattle.std.specs.List.{AllZip}
use Rattle.std.proofs.Math.Bridge.{le_prop}
use Rattle.std.proofs.lemmas.List.{get_or-map, length-map}
use Rattle.std.proofs.lemmas.List.Elements.{All-map}
use Rattle.gate_plan.proofs.Signals.{function, some_function}
use Rattle.net_bench.specs.Circuit.{Circuit, Net, IsNet, circuit}
use Rattle.net_bench.specs.Labels.{IsFunctionOf}
use Rattle.net_order.specs.Order.{NamingModel, first_level, name_of, second_level}
use Rattle.net_patterns.specs.declared.counterexample.ShownPattern.{ShownPattern}
use Rattle.net_patterns.specs.declared.patterns.Patterns.{Patterns}
use Rattle.net_patterns.specs.Choices.{IsFirstWith}
use Rattle.net_patterns.specs.Differences.{AreFirst, HasFirstValue, HasOutput, IsDifferenceAt, IsDifferenceWith, IsPairOf, IsShownBy}
use Rattle.net_patterns.specs.Patterns.{pattern_count}
use Rattle.net_patterns.proofs.Differing.{condition_holds, function_is, functions_differ}
use Rattle.report_text.specs.declared.verdict.Verdict.TheVariants.{Differs}
use Rattle.compare_built.specs.declared.subject.Subject.{Subject}
use Rattle.compare_built.specs.Comparing.{IsInside}
use Rattle.compare_built.specs.Conditions.{HasOneOutput, HoldsWhere}
use Rattle.compare_built.specs.Facts.{IsShownDifference, IsShownVerdict, patterns_of, shown_extras, signals_of}
use Rattle.compare_built.specs.Facts.IsShownDifference.{shown}
use Rattle.compare_built.specs.Report.{Compared}
use Rattle.compare_built.specs.Scatter.{IsOfNet}
use Rattle.pair_facts.specs.PairFacts.{IsFirstShown}
use Rattle.pair_facts.proofs.Conditional.{some_holds}

-- ---- conditions

pub has_output : (given : Option Circuit) → IfSome given HasOneOutput → IfSome given HasOutput
has_output None one = tt
has_output (Some c) one = omega (arith, one)

-- ---- patterns

abbrev made : (variables blocks : ℕ) → blocks ≤ 64 → Patterns
made variables blocks few = record { variables = variables; blocks = blocks; few = few }

as_few : (b c : ℕ) → b ≡ c → (v : ℕ) (h : b ≤ 64) (k : c ≤ 64) → made v b h ≡ made v c k
as_few b c same v = subst (λ c. (h : b ≤ 64) (k : c ≤ 64) → made v b h ≡ made v c k) same (λ h k. ap (made v b) (le_prop h k))

-- patterns of the same numbers of variables and blocks are the same
pub same_patterns : (q r : Patterns) → q.variables ≡ r.variables → q.blocks ≡ r.blocks → q ≡ r
same_patterns q r one two = subst (λ v. q ≡ made v r.blocks r.few) one (as_few q.blocks r.blocks two q.variables q.few r.few)

-- ---- the pairs

pub pairs_inside : (a b : Circuit) (ss : List Subject) → All (IsInside a b) ss → All (IsPairOf a b) (map signals_of ss)
pairs_inside a b ss h = All-map (IsPairOf a b) signals_of ss (λ i d low. let k = h i d low in (k.1, k.2))

-- the signals whose names pairs have are signals of the first netlist
pub all_named : (a b : Circuit) (ss : List Subject) → All (IsInside a b) ss → All (λ (s : Subject). s.named < length a.names) ss
all_named a b ss h = λ i d low. (h i d low).0

zipped : {A B : Type 0} (R : A → B → Type 0) (xs : List A) (ys : List B) (e : B) → length ys ≡ length xs → ((k : ℕ) (d : A) → k < length xs → R (get_or xs k d) (get_or ys k e)) → AllZip R xs ys
zipped R [] [] e same each = tt
zipped R [] (y ∷ ys) e same each = absurd (omega (arith, same))
zipped R (x ∷ xs) [] e same each = absurd (omega (arith, same))
zipped R (x ∷ xs) (y ∷ ys) e same each = (each 0 x (omega arith), zipped R xs ys e (omega (arith, same)) (λ k d low. each (suc k) d (omega (arith, low))))

-- the first patterns that show differences, pair by pair
pub first_of_each : (a b : Circuit) (given : Option Circuit) (p : NamingModel) (ss : List Subject) (found : List (Option ShownPattern)) →
    AreFirst a b given p (patterns_of a b p) (pattern_count (patterns_of a b p)) (map signals_of ss) found → AllZip (IsFirstShown a b given p) ss found
first_of_each a b given p ss found are =
    let count = pattern_count (patterns_of a b p) in
    let long : length (map signals_of ss) ≡ length ss = length-map ss signals_of in
    zipped (IsFirstShown a b given p) ss found None (are.each ∙ long)
    (λ k d low. subst (λ (pair : ℕ × ℕ). IsFirstWith (IsShownBy a b given p (patterns_of a b p) pair) (HasFirstValue a p (patterns_of a b p) pair) count (get_or found k None))
    (get_or-map signals_of ss k d (signals_of d) low) (are.first k (signals_of d) (omega (arith, low, long))))

pub fact_at : {A B : Type 0} (R : A → B → Type 0) (xs : List A) (ys : List B) (e : B) (k : ℕ) (d : A) → k < length xs → AllZip R xs ys → R (get_or xs k d) (get_or ys k e)
fact_at R [] ys e k d low all = absurd (omega (arith, low))
fact_at R (x ∷ xs) [] e k d low all = absurd all
fact_at R (x ∷ xs) (y ∷ ys) e zero d low all = all.0
fact_at R (x ∷ xs) (y ∷ ys) e (suc k) d low all = fact_at R xs ys e k d (omega (arith, low)) all.1

-- ---- the verdict

other_value : (u v : Bool) → u ≢ v → v ≡ not u
other_value true true ne = absurd (ne refl)
other_value true false ne = refl
other_value false true ne = refl
other_value false false ne = absurd (ne refl)

-- the condition holds at a difference
holds_at : (a b : Circuit) (given : Option Circuit) (p : NamingModel) (pair : ℕ × ℕ) (x : List Bool) → IfSome given IsOfNet → IfSome given HasOutput → IsDifferenceAt a b given p pair x →
    (holds : List Bool → Bool) → HoldsWhere given p holds → IsTrue (holds x)
holds_at a b None p pair x net some d holds is = ap (λ h. h x) is
holds_at a b (Some c) p pair x net some d holds is =
    by c net.is_circuit some d is
  where
    by : (c : Circuit) → circuit net.net ≡ c → HasOutput c → IsDifferenceAt a b (Some c) p pair x → HoldsWhere (Some c) p holds → IsTrue (holds x)
    by c same = subst (λ (c : Circuit). HasOutput c → IsDifferenceAt a b (Some c) p pair x → HoldsWhere (Some c) p holds → IsTrue (holds x)) same
        (λ one apart of. condition_holds net.net net.sound a b p pair x apart one holds of)

pub verdict_shown : (n m : Net) → IsNet n → IsNet m → (given : Option Circuit) (p : NamingModel) (s : Subject) (x : List Bool) (value : Bool) → IfSome given IsOfNet → IfSome given HasOutput →
    IsInside (circuit n) (circuit m) s → IsDifferenceWith (circuit n) (circuit m) given p (signals_of s) x value →
    IsShownVerdict (circuit n) (circuit m) given p s (Differs s.role (name_of (circuit n) s.named) x value (not value) shown_extras)
verdict_shown n m sound fine given p s x value net some inside (d, has) =
    let f = function n sound (first_level p) (length p.names) s.first in
    let g = function m fine (second_level p) (length p.names) s.second in
    let of_first = some_function n sound (first_level p) (length p.names) s.first in
    let of_second = some_function m fine (second_level p) (length p.names) s.second in
    let c : Compared = record { role = s.role; name = name_of (circuit n) s.named; first = f; second = g } in
    let holds = some_holds given p net in
    let apart : f x ≢ g x = functions_differ n m sound fine given p (signals_of s) x (inside.1, inside.2) d f g of_first of_second in
    let one : value ≡ f x = function_is n sound (first_level p) x s.first inside.1 value has f (subst (λ k. IsFunctionOf (circuit n) (first_level p) k s.first f) (sym d.bits) of_first) in
    let two : not value ≡ g x = ap not one ∙ sym (other_value (f x) (g x) apart) in
    let name = name_of (circuit n) s.named in
    let it = λ (u v : Bool). IsShownDifference (length p.names) holds.0 c (Differs s.role name x u v shown_extras) in
    let there = holds_at (circuit n) (circuit m) given p (signals_of s) x net some d holds.0 holds.1 in
    record {
      holds = holds.0;
      condition = holds.1;
      compared = c;
      functions = record { role = refl; name = refl; first = of_first; second = of_second };
      difference = subst (λ u. it u (not value)) (sym one) (subst (it (f x)) (sym two) (shown (record { bits = d.bits; satisfies = there; differ = apart })));
    }
