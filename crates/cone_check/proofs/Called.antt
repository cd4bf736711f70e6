-- The names that a pairing gives to variables: distinct variables of a netlist have distinct names.
use Rattle.std.proofs.Common.{◌≡◌, ◌≢◌, ◌∙◌, ap, sym, refl, subst, arith, inl, inr, ℕ, zero, suc, ◌<◌, Bool, true, false, List, [], ◌∷◌, ◌++◌, ◌+◌, length, length-append, get_or, map, set, take, All, Contains, Option, Some}
use Rattle.std.specs.Prelude.{◌==◌, ◌||◌, cond, slice_index, IfSome}
use Rattle.std.specs.declared.alloc.Global.{Global}
use Rattle.std.specs.declared.vec.Vec.{Vec}
use Rattle.std.proofs.lemmas.Bool.{cases_eq, cases_lt}
use Rattle.std.proofs.lemmas.List.{get_or-set_other, get_or-set_same, length-map, map-append, map-set, map_more}
use Rattle.std.proofs.lemmas.List.Elements.{All-contains, All-more, All-weaker, Contains-get_or}
use Rattle.net_bench.specs.Circuit.{HaveNoRepeats, Circuit, IsNet, Net, circuit, is_name_in, variables_of}
use Rattle.net_bench.proofs.Numbers.{in_distinct, number_at}
use Rattle.net_cone.specs.Cones.{AreNames}
use Rattle.net_names.specs.declared.order.Match.{Match}
use Rattle.net_names.specs.declared.order.Match.TheVariants.{Name, Position}
use Rattle.net_names.specs.declared.order.Order.{Order}
use Rattle.net_order.specs.Order.{HasLevels, IsNaming, NamingModel, NamedNetlistModel, all_names, both, given_side, is_member, level_of, name_of, named, names_by, own, partner, registers_of}
use Rattle.net_order.specs.Tables.{IsKnown}
use Rattle.net_order.proofs.AllNames.{known_given, known_sides}
use Rattle.net_order.proofs.Members.{contains_member, equal_numbers, no_true}
use Rattle.net_order.proofs.Orders.{ordered_all}
use Rattle.net_order.proofs.Tabling.{partner_in}
use Rattle.compare_built.specs.Cones.{AreNamed}
use Rattle.cone_check.specs.ConeRounds.{texts}

-- ---- names of a netlist's own

own_names_apart : (n : Net) → IsNet n → (s t : ℕ) → s < length n.names → t < length n.names → name_of (circuit n) s ≡ name_of (circuit n) t → s ≡ t
own_names_apart n sound s t low lower e = elim (cases_lt s t) [
  | inl less ↦ absurd (sound.names s t less lower e)
  | inr ge ↦ elim (cases_lt t s) [
    | inl more ↦ absurd (sound.names t s more low (sym e))
    | inr le ↦ omega (arith, ge, le)
  ]
]

own_apart : (n : Net) → IsNet n → (s t : ℕ) → Contains (variables_of (circuit n)) s → Contains (variables_of (circuit n)) t → name_of (circuit n) s ≡ name_of (circuit n) t → s ≡ t
own_apart n sound s t cs ct e =
    own_names_apart n sound s t (All-contains (λ v. v < length n.names) (variables_of (circuit n)) s sound.variables cs)
    (All-contains (λ v. v < length n.names) (variables_of (circuit n)) t sound.variables ct) e

-- ---- names of partners

once_rest : (t : ℕ) (ts : List ℕ) → HaveNoRepeats (t ∷ ts) → HaveNoRepeats ts
once_rest t ts once i j lt low e = once (suc i) (suc j) (omega (arith, lt)) (omega (arith, low)) e

-- the others differ from the first
others : (t : ℕ) (ts : List ℕ) → HaveNoRepeats (t ∷ ts) → All (λ u. t ≢ u) ts
others t ts once i d low e = once 0 (suc i) (omega arith) (omega (arith, low)) (e ∙ same ts i d 0 low)
  where
    same : (xs : List ℕ) (i d c : ℕ) → i < length xs → get_or xs i d ≡ get_or xs i c
    same [] i d c low = absurd (omega arith)
    same (x ∷ xs) zero d c low = refl
    same (x ∷ xs) (suc i) d c low = same xs i d c (omega (arith, low))

behind : (b m : Bool) → b ≡ false → (b || m) ≡ true → m ≡ true
behind true m e h = cc
behind false m e h = h

partner_here : (x t s : ℕ) (xs ts : List ℕ) → (x == s) ≡ true → partner (x ∷ xs) (t ∷ ts) s ≡ t
partner_here x t s xs ts e = ap (λ b. cond b t (partner xs ts s)) e

partner_later : (x t s : ℕ) (xs ts : List ℕ) → (x == s) ≡ false → partner (x ∷ xs) (t ∷ ts) s ≡ partner xs ts s
partner_later x t s xs ts e = ap (λ b. cond b t (partner xs ts s)) e

partners_apart : (xs ts : List ℕ) → HaveNoRepeats ts → length xs ≡ length ts → (s u : ℕ) → is_member s xs ≡ true → is_member u xs ≡ true → partner xs ts s ≡ partner xs ts u → s ≡ u
partners_apart [] ts once long s u ms mu e = absurd (no_true ms)
partners_apart (x ∷ xs) [] once long s u ms mu e = absurd (omega arith)
partners_apart (x ∷ xs) (t ∷ ts) once long s u ms mu e =
    by (λ hs hu same. partners_apart xs ts (once_rest t ts once) (omega (arith, long)) s u hs hu same) (x == s) (x == u) refl refl
  where
    size : length xs ≡ length ts
    size = omega (arith, long)

    not_t : (v : ℕ) → is_member v xs ≡ true → t ≢ partner xs ts v
    not_t v m = partner_in (λ w. t ≢ w) xs ts v (others t ts once) size m

    by : (is_member s xs ≡ true → is_member u xs ≡ true → partner xs ts s ≡ partner xs ts u → s ≡ u) → (b c : Bool) → (x == s) ≡ b → (x == u) ≡ c → s ≡ u
    by rest true true es eu = sym (equal_numbers x s es) ∙ equal_numbers x u eu
    by rest true false es eu = absurd (not_t u (behind (x == u) (is_member u xs) eu mu) (sym (partner_here x t s xs ts es) ∙ e ∙ partner_later x t u xs ts eu))
    by rest false true es eu = absurd (not_t s (behind (x == s) (is_member s xs) es ms) (sym (partner_here x t u xs ts eu) ∙ sym e ∙ partner_later x t s xs ts es))
    by rest false false es eu =
        rest (behind (x == s) (is_member s xs) es ms) (behind (x == u) (is_member u xs) eu mu)
        (sym (partner_later x t s xs ts es) ∙ e ∙ partner_later x t u xs ts eu)

-- ---- a pairing's names

module _ (how : Match) (a b : Circuit) (given : Option Circuit) (order : Order) (p : NamingModel) (h : IsNaming how a b given order p) where
  -- the name at a variable's level is the variable's
  name_at : (side : NamedNetlistModel) (levels : List ℕ) → IsKnown (all_names (both how a b) (given_side given)) side → HasLevels (names_by how a b given order) side levels →
      (s : ℕ) → Contains (variables_of side.net) s → get_or p.names (slice_index levels s) [] ≡ named side s
  name_at side levels known has s (i, low, at) =
      let is : slice_index levels s ≡ level_of (names_by how a b given order) (named side s) = rw at at (has i s low) in
      let there : is_name_in (names_by how a b given order) (named side s) ≡ true =
      ordered_all (both how a b) (given_side given) order h.fit (named side s)
      (in_distinct (all_names (both how a b) (given_side given)) (named side s) ∙ known s (contains_member (variables_of side.net) s (i, low, at))) in
      ap (λ ns. get_or ns (slice_index levels s) []) h.names ∙ ap (λ k. get_or (names_by how a b given order) k []) is ∙ number_at (names_by how a b given order) (named side s) [] there

  apart_in : (side : NamedNetlistModel) (levels : List ℕ) → IsKnown (all_names (both how a b) (given_side given)) side → HasLevels (names_by how a b given order) side levels →
      ((s t : ℕ) → Contains (variables_of side.net) s → Contains (variables_of side.net) t → named side s ≡ named side t → s ≡ t) →
      (names : List (List ℕ)) → AreNamed side.net levels p names →
      (s t : ℕ) → Contains (variables_of side.net) s → Contains (variables_of side.net) t → get_or names s [] ≡ get_or names t [] → s ≡ t
  apart_in side levels known has apart names are s t cs ct e =
      let called : (v : ℕ) → Contains (variables_of side.net) v → get_or names v [] ≡ named side v = λ v cv.
      All-contains (λ u. get_or names u [] ≡ get_or p.names (slice_index levels u) []) (variables_of side.net) v are.variables cv ∙ name_at side levels known has v cv in
      apart s t cs ct (sym (called s cs) ∙ e ∙ called t ct)

module _ (how : Match) (n m : Net) (given : Option Circuit) (order : Order) (p : NamingModel) (h : IsNaming how (circuit n) (circuit m) given order p) where
  pub first_names : IsNet n → (names : List (List ℕ)) → AreNamed (circuit n) p.first p names → AreNames n names
  first_names sound names are = record {
    each = are.each;
    apart = apart_in how (circuit n) (circuit m) given order p h (own (circuit n)) p.first (known_sides (both how (circuit n) (circuit m)) (given_side given)).0 h.first (own_apart n sound) names are;
  }

  pub given_names : (c : Net) → given ≡ Some (circuit c) → IsNet c → (names : List (List ℕ)) → AreNamed (circuit c) p.given p names → AreNames c names
  given_names c e sound names are =
      let known : IsKnown (all_names (both how (circuit n) (circuit m)) (given_side given)) (own (circuit c)) =
      subst (λ g. IsKnown (all_names (both how (circuit n) (circuit m)) (given_side g)) (own (circuit c))) (sym e) (known_given (both how (circuit n) (circuit m)) (given_side (Some (circuit c)))).0 in
      record {
        each = are.each;
        apart = apart_in how (circuit n) (circuit m) given order p h (own (circuit c)) p.given known
            (subst (λ o. IfSome o (λ d. HasLevels (names_by how (circuit n) (circuit m) given order) (own d) p.given)) e h.conditional) (own_apart c sound) names are;
      }

-- the names of the second netlist's variables, by the way of matching
second_apart : (how : Match) (n m : Net) (given : Option Circuit) (order : Order) (p : NamingModel) → IsNaming how (circuit n) (circuit m) given order p → IsNet n → IsNet m →
    (s t : ℕ) → Contains (variables_of (circuit m)) s → Contains (variables_of (circuit m)) t →
    named (record { how = how; name_source = circuit n; net = circuit m }) s ≡ named (record { how = how; name_source = circuit n; net = circuit m }) t → s ≡ t
second_apart Name n m given order p h first second s t cs ct e = own_apart m second s t cs ct e
second_apart Position n m given order p h first second s t cs ct e =
    let vs = variables_of (circuit m) in
    let ws = variables_of (circuit n) in
    let long : length vs ≡ length ws = as_many n m h.counted.0 h.counted.2 in
    let low : (v : ℕ) → is_member v vs ≡ true → partner vs ws v < length n.names = λ v mv. partner_in (λ w. w < length n.names) vs ws v first.variables long mv in
    let ms = contains_member vs s cs in
    let mt = contains_member vs t ct in
    partners_apart vs ws first.variables_once long s t ms mt (own_names_apart n first (partner vs ws s) (partner vs ws t) (low s ms) (low t mt) e)
  where
    as_many : (n m : Net) → length n.inputs ≡ length m.inputs → length (registers_of (circuit n)) ≡ length (registers_of (circuit m)) → length (variables_of (circuit m)) ≡ length (variables_of (circuit n))
    as_many n m inputs registers = omega (arith, inputs, registers, length-append m.inputs (registers_of (circuit m)), length-append n.inputs (registers_of (circuit n)))

pub second_names : (how : Match) (n m : Net) (given : Option Circuit) (order : Order) (p : NamingModel) → IsNaming how (circuit n) (circuit m) given order p → IsNet n → IsNet m →
    (names : List (List ℕ)) → AreNamed (circuit m) p.second p names → AreNames m names
second_names how n m given order p h first second names are = record {
  each = are.each;
  apart = apart_in how (circuit n) (circuit m) given order p h (record { how = how; name_source = circuit n; net = circuit m }) p.second
      (known_sides (both how (circuit n) (circuit m)) (given_side given)).1.0 h.second (second_apart how n m given order p h first second) names are;
}

-- ---- names by signal, one after the other

texts_at : (names : List (Vec ℕ Global)) (s t : ℕ) (v : Vec ℕ Global) → t ≢ s → get_or (texts (set names s v)) t [] ≡ get_or (texts names) t []
texts_at names s t v other = ap (λ ns. get_or ns t []) (map-set (λ (w : Vec ℕ Global). w.items) names s v) ∙ get_or-set_other (texts names) s t v.items [] other

texts_here : (names : List (Vec ℕ Global)) (s : ℕ) (v : Vec ℕ Global) → s < length names → get_or (texts (set names s v)) s [] ≡ v.items
texts_here names s v lt =
    ap (λ ns. get_or ns s []) (map-set (λ (w : Vec ℕ Global). w.items) names s v) ∙
    get_or-set_same (texts names) s v.items [] (omega (arith, lt, length-map names (λ (w : Vec ℕ Global). w.items)))

pub named_more : (f : ℕ → List ℕ) (names : List (Vec ℕ Global)) (v : Vec ℕ Global) (vs : List ℕ) (i s : ℕ) → i < length vs → get_or vs i s ≡ s → s < length names → v.items ≡ f s →
    All (λ t. get_or (texts names) t [] ≡ f t) (take i vs) → All (λ t. get_or (texts (set names s v)) t [] ≡ f t) (take (i + 1) vs)
named_more f names v vs i s lt at low is before =
    let P : ℕ → Type 0 = λ t. get_or (texts (set names s v)) t [] ≡ f t in
    All-more P vs i s lt (All-weaker (λ t. get_or (texts names) t [] ≡ f t) P kept (take i vs) before) (subst P (sym at) (texts_here names s v low ∙ is))
  where
    kept : (t : ℕ) → get_or (texts names) t [] ≡ f t → get_or (texts (set names s v)) t [] ≡ f t
    kept t e = elim (cases_eq t s) [
      | inl same ↦ subst (λ u. get_or (texts (set names s v)) u [] ≡ f u) (sym same) (texts_here names s v low ∙ is)
      | inr other ↦ texts_at names s t v other ∙ e
    ]

-- one more name at the end
pub texts_more : (f : ℕ → List ℕ) (old new : List (Vec ℕ Global)) (v : Vec ℕ Global) (places : List ℕ) (i : ℕ) → i < length places → new ≡ old ++ v ∷ [] → v.items ≡ f (get_or places i 0) →
    texts old ≡ map f (take i places) → texts new ≡ map f (take (i + 1) places)
texts_more f old new v places i lt grown is before =
    ap texts grown ∙ map-append (λ (w : Vec ℕ Global). w.items) old (v ∷ []) ∙ ap (λ ts. ts ++ v.items ∷ []) before ∙ ap (λ n. map f (take i places) ++ n ∷ []) is ∙ sym (map_more f places i 0 lt)

-- the same of names that are made from the names of a list
pub names_more : (f : List ℕ → List ℕ) (old new : List (Vec ℕ Global)) (v : Vec ℕ Global) (names : List (List ℕ)) (i : ℕ) → i < length names → new ≡ old ++ v ∷ [] → v.items ≡ f (get_or names i []) →
    texts old ≡ map f (take i names) → texts new ≡ map f (take (i + 1) names)
names_more f old new v names i lt grown is before =
    ap texts grown ∙ map-append (λ (w : Vec ℕ Global). w.items) old (v ∷ []) ∙ ap (λ ts. ts ++ v.items ∷ []) before ∙ ap (λ n. map f (take i names) ++ n ∷ []) is ∙ sym (map_more f names i [] lt)

-- the levels of variables, place by place
pub all_below : (vs : List ℕ) (level : ℕ → ℕ) (n : ℕ) → ((s : ℕ) → Contains vs s → level s < n) → All (λ s. level s < n) vs
all_below vs level n h i d lt = h (get_or vs i d) (Contains-get_or vs i d lt)
