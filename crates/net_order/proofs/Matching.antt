-- What corresponds in a pairing is among the signals that are matched.
use Rattle.std.proofs.Common.{◌≡◌, ℕ, zero, suc, ◌<◌, List, [], ◌∷◌, Bool, true, false, refl, sym, ap, subst, length, arith, All}
use Rattle.std.specs.Prelude.{cond, ◌==◌, zip, Option, Some, None}
use Rattle.net_bench.specs.Circuit.{Circuit, Net, IsNet, circuit, find}
use Rattle.net_bench.proofs.Numbers.{or_left, or_right}
use Rattle.net_names.specs.declared.order.Match.{Match}
use Rattle.net_names.specs.declared.order.Match.TheVariants.{Name, Position}
use Rattle.net_names.specs.declared.order.Order.{Order}
use Rattle.net_order.specs.Order.{is_member, IsNaming, NamingModel, name_of, signal_named, where_among, pairs_by_name, with_pair, unmatched, without_pair, matched, only_in, registers_of}
use Rattle.net_order.proofs.AllNames.{registers_low}
use Rattle.net_order.proofs.Leaves.{member_at}

all_cons : {X : Type 0} (P : X → Type 0) (x : X) (xs : List X) → P x → All P xs → All P (x ∷ xs)
all_cons P x xs here rest zero d low = here
all_cons P x xs here rest (suc i) d low = rest i d (omega arith)

all_nil : {X : Type 0} (P : X → Type 0) → All P []
all_nil P i d low = absurd (omega arith)

all_along : {X : Type 0} (P Q : X → Type 0) (xs : List X) → ((x : X) → P x → Q x) → All P xs → All Q xs
all_along P Q [] f h = all_nil Q
all_along P Q (x ∷ xs) f h = all_cons Q x xs (f x (h 0 x (omega arith))) (all_along P Q xs f (λ i d low. h (suc i) d (omega arith)))

-- the signal is one of these
abbrev pub IsIn : List ℕ → ℕ → Type 0
IsIn ss s = is_member s ss ≡ true

-- both signals of a pair are among those that are matched
abbrev pub AreIn : List ℕ → List ℕ → ℕ × ℕ → Type 0
AreIn ss ts q = IsIn ss q.0 × IsIn ts q.1

same_number : (x : ℕ) → (x == x) ≡ true
same_number x = grind arith

all_in : (xs ys : List ℕ) → ((x : ℕ) → is_member x xs ≡ true → is_member x ys ≡ true) → All (IsIn ys) xs
all_in [] ys h = all_nil (IsIn ys)
all_in (x ∷ xs) ys h =
    all_cons (IsIn ys) x xs (h x (or_left (x == x) (is_member x xs) (same_number x)))
    (all_in xs ys (λ y e. h y (or_right (x == y) (is_member y xs) e)))

themselves : (xs : List ℕ) → All (IsIn xs) xs
themselves xs = all_in xs xs (λ x e. e)

-- what is found by its name among signals is one of them
found_in : (ts : List ℕ) (t u : ℕ) (b : Bool) → is_member t ts ≡ b → cond b (Some t) None ≡ Some u → IsIn ts u
found_in ts t u true is e = let same : t ≡ u = cc in subst (IsIn ts) same is
found_in ts t u false is e = cc

named_in : (ts : List ℕ) (o : Option ℕ) (u : ℕ) → where_among ts o ≡ Some u → IsIn ts u
named_in ts None u e = cc
named_in ts (Some t) u e = found_in ts t u (is_member t ts) refl e

module _ (a b : Circuit) (ss ts : List ℕ) where
  one_pair : (s : ℕ) (o : Option ℕ) (ps : List (ℕ × ℕ)) → IsIn ss s → ((u : ℕ) → o ≡ Some u → IsIn ts u) → All (AreIn ss ts) ps → All (AreIn ss ts) (with_pair s o ps)
  one_pair s None ps h k rest = rest
  one_pair s (Some t) ps h k rest = all_cons (AreIn ss ts) (s, t) ps (h, k t refl) rest

  named_pairs : (xs : List ℕ) → All (IsIn ss) xs → All (AreIn ss ts) (pairs_by_name a b ts xs)
  named_pairs [] h = all_nil (AreIn ss ts)
  named_pairs (s ∷ xs) h =
      one_pair s (signal_named b ts (name_of a s)) (pairs_by_name a b ts xs) (h 0 s (omega arith)) (λ u e. named_in ts (find b.names (name_of a s)) u e)
      (named_pairs xs (λ i d low. h (suc i) d (omega arith)))

  paired_by_position : (xs ys : List ℕ) → All (IsIn ss) xs → All (IsIn ts) ys → All (AreIn ss ts) (zip xs ys)
  paired_by_position [] ys h k = all_nil (AreIn ss ts)
  paired_by_position (s ∷ xs) [] h k = all_nil (AreIn ss ts)
  paired_by_position (s ∷ xs) (t ∷ ys) h k =
      all_cons (AreIn ss ts) (s, t) (zip xs ys) (h 0 s (omega arith), k 0 t (omega arith)) (paired_by_position xs ys (λ i d low. h (suc i) d (omega arith)) (λ i d low. k (suc i) d (omega arith)))

  pub matched_in : (how : Match) → All (AreIn ss ts) (matched how a b ss ts)
  matched_in Name = named_pairs ss (themselves ss)
  matched_in Position = paired_by_position ss ts (themselves ss) (themselves ts)

  one_without_partner : (s : ℕ) (o : Option ℕ) (xs : List ℕ) → IsIn ss s → All (IsIn ss) xs → All (IsIn ss) (without_pair s o xs)
  one_without_partner s None xs h rest = all_cons (IsIn ss) s xs h rest
  one_without_partner s (Some t) xs h rest = rest

  without_partner : (xs : List ℕ) → All (IsIn ss) xs → All (IsIn ss) (unmatched a b ts xs)
  without_partner [] h = all_nil (IsIn ss)
  without_partner (s ∷ xs) h = one_without_partner s (signal_named b ts (name_of a s)) (unmatched a b ts xs) (h 0 s (omega arith)) (without_partner xs (λ i d low. h (suc i) d (omega arith)))

  pub without_partner_in : (how : Match) → All (IsIn ss) (only_in how a b ss ts)
  without_partner_in Name = without_partner ss (themselves ss)
  without_partner_in Position = all_nil (IsIn ss)

-- what is true of all the signals is true of each that is one of them
pub one_of : (P : ℕ → Type 0) (ss : List ℕ) (s : ℕ) → All P ss → IsIn ss s → P s
one_of P ss s h e = let at = member_at s ss e in subst P at.2 (h at.0 s at.1)

module _ (how : Match) (n m : Net) (given : Option Circuit) (order : Order) (p : NamingModel) (first : IsNet n) (second : IsNet m) (h : IsNaming how (circuit n) (circuit m) given order p) where
  abbrev Low : ℕ → Type 0
  Low s = s < length n.names

  abbrev High : ℕ → Type 0
  High s = s < length m.names

  pairs_low : (ss ts : List ℕ) (qs : List (ℕ × ℕ)) → All Low ss → All High ts → qs ≡ matched how (circuit n) (circuit m) ss ts → All (λ q. (q.0 < length n.names) × (q.1 < length m.names)) qs
  pairs_low ss ts qs low high e =
      all_along (AreIn ss ts) (λ q. (q.0 < length n.names) × (q.1 < length m.names)) qs (λ q k. (one_of Low ss q.0 low k.0, one_of High ts q.1 high k.1))
      (subst (All (AreIn ss ts)) (sym e) (matched_in (circuit n) (circuit m) ss ts how))

  -- ---- outputs

  pub pairs_inside : All (λ q. (q.0 < length n.names) × (q.1 < length m.names)) p.outputs.pairs
  pairs_inside = pairs_low n.outputs m.outputs p.outputs.pairs first.outputs second.outputs (ap (λ c. c.pairs) h.outputs)

  pub only_first_inside : All (λ s. s < length n.names) p.outputs.only_first
  only_first_inside =
      all_along (IsIn n.outputs) Low p.outputs.only_first (λ s k. one_of Low n.outputs s first.outputs k)
      (subst (All (IsIn n.outputs)) (sym (ap (λ c. c.only_first) h.outputs)) (without_partner_in (circuit n) (circuit m) n.outputs m.outputs how))

  pub only_second_inside : All (λ s. s < length m.names) p.outputs.only_second
  only_second_inside =
      all_along (IsIn m.outputs) High p.outputs.only_second (λ s k. one_of High m.outputs s second.outputs k)
      (subst (All (IsIn m.outputs)) (sym (ap (λ c. c.only_second) h.outputs)) (without_partner_in (circuit m) (circuit n) m.outputs n.outputs how))

  -- ---- registers

  abbrev ours : List ℕ
  ours = registers_of (circuit n)

  abbrev theirs : List ℕ
  theirs = registers_of (circuit m)

  pub register_pairs_in : All (AreIn (registers_of (circuit n)) (registers_of (circuit m))) p.registers.pairs
  register_pairs_in = subst (All (AreIn ours theirs)) (sym (ap (λ c. c.pairs) h.registers)) (matched_in (circuit n) (circuit m) ours theirs how)

  pub register_pairs_inside : All (λ q. (q.0 < length n.names) × (q.1 < length m.names)) p.registers.pairs
  register_pairs_inside = pairs_low ours theirs p.registers.pairs (registers_low n first) (registers_low m second) (ap (λ c. c.pairs) h.registers)

  pub only_first_next_inside : All (λ s. s < length n.names) p.registers.only_first
  only_first_next_inside =
      all_along (IsIn ours) Low p.registers.only_first (λ s k. one_of Low ours s (registers_low n first) k)
      (subst (All (IsIn ours)) (sym (ap (λ c. c.only_first) h.registers)) (without_partner_in (circuit n) (circuit m) ours theirs how))

  pub only_second_next_inside : All (λ s. s < length m.names) p.registers.only_second
  only_second_next_inside =
      all_along (IsIn theirs) High p.registers.only_second (λ s k. one_of High theirs s (registers_low m second) k)
      (subst (All (IsIn theirs)) (sym (ap (λ c. c.only_second) h.registers)) (without_partner_in (circuit m) (circuit n) theirs ours how))
