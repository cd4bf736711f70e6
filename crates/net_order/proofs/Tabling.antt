-- Tables of names and of levels, with one more entry.
use Rattle.std.proofs.Common.{◌≡◌, ℕ, suc, ◌+◌, ◌<◌, List, [], ◌∷◌, ◌++◌, Bool, true, false, sym, ap, ◌∙◌, subst, inl, inr, length, take, drop, arith, get_or, set, All}
use Rattle.std.specs.Prelude.{cond, ◌||◌, ◌==◌, Some, slice_get}
use Rattle.std.specs.List.{AllZip}
use Rattle.std.proofs.lemmas.Bool.{cases_eq}
use Rattle.std.proofs.lemmas.List.{drop_more, take_more, get_or-set_other, get_or-set_same}
use Rattle.net_bench.specs.Circuit.{Circuit, Net, circuit, variables_of}
use Rattle.net_names.specs.declared.order.Match.{Match}
use Rattle.net_names.specs.declared.order.Match.TheVariants.{Name, Position}
use Rattle.net_order.specs.Order.{NamedNetlistModel, is_member, name_by, name_of, names_of_sides, names_on, partner}
use Rattle.net_order.specs.Tables.{AreMatched, ArePartners, IsSide, with_names}
use Rattle.net_order.proofs.Members.{at_inputs}
use Rattle.net_order.proofs.Named.{joined, name_is}

no_member : (X : Type 0) → false ≡ true → X
no_member X e = cc

either : (P : ℕ → Type 0) (b m : Bool) (t r : ℕ) → P t → (m ≡ true → P r) → (b || m) ≡ true → P (cond b t r)
either P true m t r p f h = p
either P false m t r p f h = f h

-- what is true of all of the second list is true of a partner
pub partner_in : (P : ℕ → Type 0) (from to : List ℕ) (s : ℕ) → All P to → length from ≡ length to → is_member s from ≡ true → P (partner from to s)
partner_in P [] ts s ps e h = no_member (P 0) h
partner_in P (x ∷ xs) [] s ps e h = absurd (omega (arith, e))
partner_in P (x ∷ xs) (t ∷ ts) s ps e h =
    either P (x == s) (is_member s xs) t (partner xs ts s) (ps 0 0 (omega arith)) (partner_in P xs ts s (λ i d below. ps (suc i) d (omega arith)) (omega (arith, e))) h

-- ---- side after side

sides_here : (which : Circuit → List ℕ) (sides : List NamedNetlistModel) (i : ℕ) (side : NamedNetlistModel) → i < length sides → side ≡ get_or sides i side →
    names_of_sides which (drop i sides) ≡ names_on side (which side.net) ++ names_of_sides which (drop (i + 1) sides)
sides_here which sides i side low at = ap (names_of_sides which) (drop_more sides i side low ∙ ap (λ x. x ∷ drop (i + 1) sides) (sym at))

-- the names of one more side
pub more_sides : (which : Circuit → List ℕ) (sides : List NamedNetlistModel) (i : ℕ) (side : NamedNetlistModel) (old new total : List (List ℕ)) → i < length sides → side ≡ get_or sides i side → new ≡ with_names old (names_on side (which side.net)) →
    with_names old (names_of_sides which (drop i sides)) ≡ total → with_names new (names_of_sides which (drop (i + 1) sides)) ≡ total
more_sides which sides i side old new total low at grown e =
    ap (λ t. with_names t (names_of_sides which (drop (i + 1) sides))) grown ∙ joined old (names_on side (which side.net)) (names_of_sides which (drop (i + 1) sides)) ∙
    ap (with_names old) (sym (sides_here which sides i side low at)) ∙ e

-- ---- levels

-- the level of one more variable
pub level_kept : (f : ℕ → ℕ) (variables levels : List ℕ) (i s w : ℕ) → s ≡ get_or variables i 0 → w ≡ f s → s < length levels →
    ((k : ℕ) → k < i → get_or levels (get_or variables k 0) 0 ≡ f (get_or variables k 0)) → (k : ℕ) → k < i + 1 → get_or (set levels s w) (get_or variables k 0) 0 ≡ f (get_or variables k 0)
level_kept f variables levels i s w is_s is_w in_bounds each k h =
    elim (cases_eq (get_or variables k 0) s) [
      | inl e ↦ ap (λ j. get_or (set levels s w) j 0) e ∙ get_or-set_same levels s w 0 in_bounds ∙ is_w ∙ ap f (sym e)
      | inr ne ↦
          let other : k ≡ i → ⊥ = λ e. ne (ap (λ j. get_or variables j 0) e ∙ sym is_s) in
          let low : k < i = omega arith in
          get_or-set_other levels s (get_or variables k 0) w 0 ne ∙ each k low
    ]

zip_push : {X Y : Type 0} (R : X → Y → Type 0) (xs : List X) (ys : List Y) (x : X) (y : Y) → AllZip R xs ys → R x y → AllZip R (xs ++ x ∷ []) (ys ++ y ∷ [])
zip_push R [] [] x y h r = (r, tt)
zip_push R [] (b ∷ ys) x y h r = absurd h
zip_push R (a ∷ xs) [] x y h r = absurd h
zip_push R (a ∷ xs) (b ∷ ys) x y h r = (h.0, zip_push R xs ys x y h.1 r)

-- the levels of one more side
pub zip_more : {X Y : Type 0} (R : X → Y → Type 0) (xs : List X) (ys : List Y) (i : ℕ) (x : X) (y : Y) → i < length xs → x ≡ get_or xs i x → AllZip R (take i xs) ys → R x y → AllZip R (take (i + 1) xs) (ys ++ y ∷ [])
zip_more R xs ys i x y low at h r = subst (λ zs. AllZip R zs (ys ++ y ∷ [])) (sym (take_more xs i x low ∙ ap (λ z. take i xs ++ z ∷ []) (sym at))) (zip_push R (take i xs) ys x y h r)

-- ---- the name of a side's variable

module _ (how : Match) (name_source net : Net) (partners : List ℕ) (h : IsSide how name_source net partners) (s : ℕ) (e : is_member s (variables_of (circuit net)) ≡ true) where
  pub variable_low : s < length net.names
  variable_low = at_inputs (λ x. x < length net.names) (variables_of (circuit net)) h.sound.variables s e

  pub partners_len : how ≡ Position → length partners ≡ length net.names
  partners_len is = (subst (λ m. ArePartners m (circuit name_source) (circuit net) partners) is h.table).0

  partner_is : how ≡ Position → get_or partners s 0 ≡ partner (variables_of (circuit net)) (variables_of (circuit name_source)) s
  partner_is is = (subst (λ m. ArePartners m (circuit name_source) (circuit net) partners) is h.table).1 s variable_low

  pub partner_low : how ≡ Position → get_or partners s 0 < length name_source.names
  partner_low is =
      subst (λ k. k < length name_source.names) (sym (partner_is is))
      (partner_in (λ k. k < length name_source.names) (variables_of (circuit net)) (variables_of (circuit name_source)) s h.naming.variables (subst (λ m. AreMatched m (circuit name_source) (circuit net)) is h.matched) e)

  pub own_is : (n : List ℕ) → how ≡ Name → slice_get net.names s ≡ Some n → n ≡ name_by how (circuit name_source) (circuit net) s
  own_is n is at = sym (name_is (circuit net) s n at) ∙ ap (λ m. name_by m (circuit name_source) (circuit net) s) (sym is)

  pub other_is : (p : ℕ) (n : List ℕ) → how ≡ Position → p ≡ get_or partners s 0 → slice_get name_source.names p ≡ Some n → n ≡ name_by how (circuit name_source) (circuit net) s
  other_is p n is is_p at = sym (name_is (circuit name_source) p n at) ∙ ap (name_of (circuit name_source)) (is_p ∙ partner_is is) ∙ ap (λ m. name_by m (circuit name_source) (circuit net) s) (sym is)
