-- The gates by rank.
use Rattle.std.proofs.Common.{◌≡◌, ◌≢◌, inl, inr, ℕ, zero, suc, ◌+◌, ◌-◌, ◌<◌, ◌≤◌, ◌==◌, Bool, true, false, cond, List, [], ◌∷◌, ◌++◌, refl, sym, ap, ◌∙◌, subst, map, length, get_or, set, replicate, eq-eqb, arith}
use Rattle.std.specs.Prelude.{Contains, All, filter, slice_index}
use Rattle.std.proofs.lemmas.List.{append-nil, map-append, get_or-set_same, get_or-set_other, get_or-map, length-map}
use Rattle.std.proofs.lemmas.List.Elements.{filter-append}
use Rattle.std.proofs.lemmas.Bool.{ne_eqb}
use Rattle.std.proofs.lemmas.Bool.Decides.{nat_tests}
use Rattle.net_bench.specs.declared.netlist.GateLine.{GateLine}
use Rattle.net_bench.specs.Circuit.{Net, IsNet, circuit, greatest, highest_rank, rank_of}
use Rattle.net_bench.proofs.OneLabelling.{at_contained}
use Rattle.net_bench.proofs.Chains.{greatest_above, lower}
use Rattle.net_cone.proofs.Lists.{in_filter, in_map}
use Rattle.net_simulate.specs.RankRows.{AreRows, rank_row}
use Rattle.net_simulate.proofs.Lists.{all_of, same_or}

long : {X : Type 0} (f : X → ℕ) (ys : List X) (i : ℕ) → i < length ys → i < length (map f ys)
long f [] i lt = absurd (omega arith)
long f (y ∷ ys) zero lt = omega arith
long f (y ∷ ys) (suc i) lt = let k : i < length (map f ys) = long f ys i (omega arith) in omega arith

-- no item's number is greater than the greatest
below_greatest : {X : Type 0} (f : X → ℕ) (xs : List X) (x : X) → Contains xs x → f x ≤ greatest (map f xs)
below_greatest f xs x among =
    subst (λ z. z ≤ greatest (map f xs)) (get_or-map f xs among.0 x 0 among.1 ∙ ap f among.2) (greatest_above (map f xs) among.0 (long f xs among.0 among.1))

pub rank_top : (n : Net) (g : GateLine) → Contains n.gates g → rank_of n g ≤ highest_rank n
rank_top n g among = below_greatest (rank_of n) n.gates g among

module _ (n : Net) (sound : IsNet n) where
  pub rank_low : (g : GateLine) → Contains n.gates g → 0 < rank_of n g
  rank_low g among =
      let e : rank_of n g ≡ greatest (map (slice_index n.ranks) g.operands) + 1 =
      at_contained (λ g. slice_index n.ranks g.out ≡ greatest (map (slice_index n.ranks) g.operands) + 1) n.gates g sound.ranks.gates among in
      omega arith

  pub operand_lower : (g : GateLine) (t : ℕ) → Contains n.gates g → Contains g.operands t → slice_index n.ranks t < rank_of n g
  operand_lower g t among operand = lower (circuit n) n.ranks sound.ranks t g.out (g, among, refl, operand)

-- the rows with one more gate
row_more : (n : Net) (gs : List GateLine) (g : GateLine) (r : ℕ) →
    map (λ h. h.out) (filter (λ h. rank_of n h == r) (gs ++ g ∷ [])) ≡ map (λ h. h.out) (filter (λ h. rank_of n h == r) gs) ++ cond (rank_of n g == r) (g.out ∷ []) []
row_more n gs g r =
    ap (map (λ h. h.out)) (filter-append (λ h. rank_of n h == r) gs (g ∷ [])) ∙
    map-append (λ h. h.out) (filter (λ h. rank_of n h == r) gs) (filter (λ h. rank_of n h == r) (g ∷ [])) ∙
    ap (λ ys. map (λ h. h.out) (filter (λ h. rank_of n h == r) gs) ++ ys) (one (rank_of n g == r))
  where
    one : (b : Bool) → map (λ h. h.out) (cond b (g ∷ []) []) ≡ cond b (g.out ∷ []) []
    one true = refl
    one false = refl

-- the rows of some of the gates
abbrev pub AreRowsOf : Net → List GateLine → List (List ℕ) → Type 0
AreRowsOf n gs rows = (r : ℕ) → r < length rows → get_or rows r [] ≡ map (λ g. g.out) (filter (λ g. rank_of n g == r + 1) gs)

pub rows_more : (n : Net) (gs : List GateLine) (g : GateLine) (rows : List (List ℕ)) (new : List ℕ) → AreRowsOf n gs rows → 0 < rank_of n g → rank_of n g ≤ length rows →
    new ≡ get_or rows (rank_of n g - 1) [] ++ g.out ∷ [] → length (set rows (rank_of n g - 1) new) ≡ length rows → AreRowsOf n (gs ++ g ∷ []) (set rows (rank_of n g - 1) new)
rows_more n gs g rows new are low high is count r less =
    let here : r < length rows = omega arith in
    elim (same_or r (rank_of n g - 1)) [
      | inl e ↦
          let on : (rank_of n g == r + 1) ≡ true = eq-eqb (rank_of n g) (r + 1) (omega arith) in
          ap (λ i. get_or (set rows i new) r []) (sym e) ∙ get_or-set_same rows r new [] here ∙ is ∙
          ap (λ i. get_or rows i [] ++ g.out ∷ []) (sym e) ∙ ap (λ ys. ys ++ g.out ∷ []) (are r here) ∙
          ap (λ b. map (λ h. h.out) (filter (λ h. rank_of n h == r + 1) gs) ++ cond b (g.out ∷ []) []) (sym on) ∙ sym (row_more n gs g (r + 1))
      | inr ne ↦
          let apart : rank_of n g ≢ r + 1 = λ e. ne (omega arith) in
          let off : (rank_of n g == r + 1) ≡ false = ne_eqb (rank_of n g) (r + 1) apart in
          get_or-set_other rows (rank_of n g - 1) r new [] ne ∙ are r here ∙ sym (append-nil (map (λ h. h.out) (filter (λ h. rank_of n h == r + 1) gs))) ∙
          ap (λ b. map (λ h. h.out) (filter (λ h. rank_of n h == r + 1) gs) ++ cond b (g.out ∷ []) []) (sym off) ∙ sym (row_more n gs g (r + 1))
    ]

pub no_rows : (n : Net) (count : ℕ) (rows : List (List ℕ)) → rows ≡ replicate count [] → AreRowsOf n [] rows
no_rows n count rows e r low = ap (λ rs. get_or rs r []) e ∙ empty count r
  where
    empty : (k i : ℕ) → get_or {A = List ℕ} (replicate k []) i [] ≡ []
    empty zero zero = refl
    empty zero (suc i) = refl
    empty (suc k) zero = refl
    empty (suc k) (suc i) = empty k i

-- a gate is in the row of its rank, and the gates in a row have its rank
pub in_row : (n : Net) (r : ℕ) (g : GateLine) → Contains n.gates g → rank_of n g ≡ r → Contains (rank_row n r) g.out
in_row n r g among e = in_map (λ h. h.out) (filter (λ h. rank_of n h == r) n.gates) g (in_filter (λ h. rank_of n h == r) n.gates g among (eq-eqb (rank_of n g) r e))

more : (n : Net) (r s : ℕ) (h : GateLine) (gs : List GateLine) → ((g : GateLine) × Contains gs g × (g.out ≡ s) × (rank_of n g ≡ r)) → (g : GateLine) × Contains (h ∷ gs) g × (g.out ≡ s) × (rank_of n g ≡ r)
more n r s h gs (g, (i, low, at), out, rank) = (g, (suc i, omega arith, at), out, rank)

first : (n : Net) (r s : ℕ) (h : GateLine) (gs : List GateLine) (xs : List ℕ) → rank_of n h ≡ r → (Contains xs s → (g : GateLine) × Contains gs g × (g.out ≡ s) × (rank_of n g ≡ r)) →
    Contains (h.out ∷ xs) s → (g : GateLine) × Contains (h ∷ gs) g × (g.out ≡ s) × (rank_of n g ≡ r)
first n r s h gs xs e rest (zero, low, at) = (h, (0, omega arith, refl), at, e)
first n r s h gs xs e rest (suc i, low, at) = more n r s h gs (rest (i, omega arith, at))

same_rank : (a b : ℕ) → (a == b) ≡ true → a ≡ b
same_rank a b e = grind (arith, nat_tests)

seek : (n : Net) (r s : ℕ) (gs : List GateLine) → Contains (map (λ h. h.out) (filter (λ h. rank_of n h == r) gs)) s → (g : GateLine) × Contains gs g × (g.out ≡ s) × (rank_of n g ≡ r)
seek n r s [] (i, low, at) = absurd (omega arith)
seek n r s (h ∷ hs) among =
    elim (rank_of n h == r) as (λ b. (rank_of n h == r) ≡ b → Contains (map (λ h. h.out) (cond b (h ∷ filter (λ h. rank_of n h == r) hs) (filter (λ h. rank_of n h == r) hs))) s →
    (g : GateLine) × Contains (h ∷ hs) g × (g.out ≡ s) × (rank_of n g ≡ r)) [
      | true ↦ λ e q. first n r s h hs (map (λ h. h.out) (filter (λ h. rank_of n h == r) hs)) (same_rank (rank_of n h) r e) (seek n r s hs) q
      | false ↦ λ e q. more n r s h hs (seek n r s hs q)
    ] refl among

pub row_gate : (n : Net) (r s : ℕ) → Contains (rank_row n r) s → (g : GateLine) × Contains n.gates g × (g.out ≡ s) × (rank_of n g ≡ r)
row_gate n r s among = seek n r s n.gates among

pub row_rank : (n : Net) (r s : ℕ) → Contains (rank_row n r) s → slice_index n.ranks s ≡ r
row_rank n r s among = let (g, there, out, rank) = row_gate n r s among in ap (slice_index n.ranks) (sym out) ∙ rank

pub signal_low : (n : Net) → IsNet n → (r s : ℕ) → Contains (rank_row n r) s → s < length n.names
signal_low n sound r s among =
    let (g, there, out, rank) = row_gate n r s among in
    subst (λ s. s < length n.names) out (at_contained (λ g. g.out < length n.names) n.gates g sound.outs there)

pub row_low : (n : Net) → IsNet n → (r : ℕ) → All (λ s. s < length n.names) (rank_row n r)
row_low n sound r = all_of (λ s. s < length n.names) (rank_row n r) (λ s among. signal_low n sound r s among)

-- a row as it is read
pub row_is : {X : Type 0} (f : X → List ℕ) (n : Net) (rows : List X) (i : ℕ) (r : X) (row : List ℕ) → AreRows n (map f rows) → i < length rows → r ≡ get_or rows i r → row ≡ f r → row ≡ rank_row n (i + 1)
row_is f n rows i r row are low at is = is ∙ ap f at ∙ sym (get_or-map f rows i r [] low) ∙ are.each i (subst (λ k. i < k) (sym (length-map rows f)) low)
