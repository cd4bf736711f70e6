-- The nodes that a build adds are counted, Full has its cause, and a store without nodes gets exactly what is needed.
use Rattle.std.proofs.Common.{◌≡◌, ◌≢◌, ℕ, suc, ◌+◌, ◌*◌, ◌-◌, ◌<◌, ◌≤◌, ◌⊎◌, inl, inr, Bool, true, false, true≢false, List, [], ◌∷◌, ◌++◌, length, get_or, replicate, refl, sym, ◌∙◌, ap, subst, arith}
use Rattle.std.specs.Prelude.{Contains, Result}
use Rattle.std.proofs.Math.Seq.{get_or-append_seam}
use Rattle.std.proofs.lemmas.Bool.{cases_lt}
use Rattle.std.proofs.lemmas.List.{length-append, length-replicate, get_or-append_right}
use Rattle.std.proofs.lemmas.Option.{slice_get_within}
use Rattle.dd_store.specs.declared.StoreFault.{StoreFault}
use Rattle.dd_store.specs.declared.StoreFault.TheVariants as store_faults
use Rattle.dd_store.specs.declared.reference.Ref.{Ref}
use Rattle.dd_store.specs.declared.reference.Reference.TheVariants.{False, True}
use Rattle.dd_store.specs.Functions.{Agree, DependsOn, OfEither}
use Rattle.dd_store.specs.Graph.{bit}
use Rattle.dd_store.specs.Complements.{complement_both}
use Rattle.dd_store.specs.Nodes.{Nodes, den, IsSound, count_of, shard_at, with_node, Makes, IsNeeded as IsMissing}
use Rattle.dd_store.specs.Parts.{Part, top_of}
use Rattle.dd_store.specs.Parts.Part.{node}
use Rattle.dd_store.specs.View.{part, Has, Keeps, IsOneNode, IsMade, IsFull}
use Rattle.dd_store.proofs.Lacking.{no_diagram}
use Rattle.dd_store.proofs.Laws.{den-false, den-true}
use Rattle.dd_store.proofs.Storing.{Makes-cases, count-with_node, shard-le-count, node_in_shard, node-of}
use Rattle.dd_store.proofs.View.{parts, denotes, same_ref, keeps-trans, of_part}
use Rattle.expand_work.specs.declared.fault.WaveFault.{WaveFault}
use Rattle.expand_work.specs.declared.fault.WaveFault.TheVariants as wave_faults
use Rattle.reduce_up.specs.Reducing.{AddsDescribed}
use Rattle.reduce_up.specs.Waves.{Entry, entry_value, IsWanted, IsWaveFault}
use Rattle.reduce_up.proofs.Below.{fixed_as}
use Rattle.reduce_up.proofs.Opposite.{either_more, either_kept, one_node_either, one_node_part}
use Rattle.gate_plan.specs.Building.{wave_fault_of}
use Rattle.gate_plan.specs.Folds.{IsVariable}
use Rattle.gate_plan.specs.Need.{IsCounted, IsLean, IsComplete, HasNode}
use Rattle.gate_plan.specs.Needing.{LacksCounted, IsFullFor, IsBuildFault, IsStillWithin}

-- ---- nodes that are added one after the other

pub adds_trans : (S T U : Nodes) (D : ℕ → (List Bool → Bool) → Type 0) → IsSound T → AddsDescribed S T D → AddsDescribed T U D → AddsDescribed S U D
adds_trans S T U D sound i j = record { keeps = keeps-trans S T U i.keeps j.keeps; described = λ m h. later m (j.described m h) }
  where
    earlier : (m : Ref) → Has T m → Has S m ⊎ ((v : ℕ) × (lo : Ref) × (hi : Ref) × (part T m ≡ node v lo hi) × OfEither (D v) (den T m)) → Has S m ⊎ ((v : ℕ) × (lo : Ref) × (hi : Ref) × (part U m ≡ node v lo hi) × OfEither (D v) (den U m))
    earlier m h (inl k) = inl k
    earlier m h (inr k) = inr (k.0, k.1, k.2, j.keeps.part_is m h ∙ k.3, either_kept T U sound j.keeps (D k.0) m h k.4)

    later : (m : Ref) → Has T m ⊎ ((v : ℕ) × (lo : Ref) × (hi : Ref) × (part U m ≡ node v lo hi) × OfEither (D v) (den U m)) → Has S m ⊎ ((v : ℕ) × (lo : Ref) × (hi : Ref) × (part U m ≡ node v lo hi) × OfEither (D v) (den U m))
    later m (inl h) = earlier m h (i.described m h)
    later m (inr k) = inr k

-- nodes that fewer values describe are described by more
pub adds_as : (S T : Nodes) (D E : ℕ → (List Bool → Bool) → Type 0) → ((v : ℕ) (f : List Bool → Bool) → D v f → E v f) → AddsDescribed S T D → AddsDescribed S T E
adds_as S T D E h i = record { keeps = i.keeps; described = λ m has. by m (i.described m has) }
  where
    by : (m : Ref) → Has S m ⊎ ((v : ℕ) × (lo : Ref) × (hi : Ref) × (part T m ≡ node v lo hi) × OfEither (D v) (den T m)) → Has S m ⊎ ((v : ℕ) × (lo : Ref) × (hi : Ref) × (part T m ≡ node v lo hi) × OfEither (E v) (den T m))
    by m (inl k) = inl k
    by m (inr k) = inr (k.0, k.1, k.2, k.3, either_more (D k.0) (E k.0) (h k.0) (den T m) k.4)

-- a later store with the levels of an earlier one
pub adds_next : (S T U : Nodes) (V : ℕ → (List Bool → Bool) → Type 0) → IsSound T → AddsDescribed S T (IsCounted S.levels (V S.levels)) → AddsDescribed T U (IsCounted T.levels (V T.levels)) →
    AddsDescribed S U (IsCounted S.levels (V S.levels))
adds_next S T U V sound i j = adds_trans S T U (IsCounted S.levels (V S.levels)) sound i (subst (λ n. AddsDescribed T U (IsCounted n (V n))) i.keeps.levels j)

pub fault_next : (S T U : Nodes) (V : ℕ → (List Bool → Bool) → Type 0) (e : WaveFault) → Keeps S T → IsBuildFault T.levels (V T.levels) U e → IsBuildFault S.levels (V S.levels) U e
fault_next S T U V e kept f = subst (λ n. IsBuildFault n (V n) U e) kept.levels f

pub within_next : (S T U : Nodes) → IsStillWithin S T → IsStillWithin T U → IsStillWithin S U
within_next S T U h (inl le) = inl le
within_next S T U (inl le) (inr e) = inl (subst (λ z. count_of z ≤ z.limit) (sym e) le)
within_next S T U (inr d) (inr e) = inr (e ∙ d)

-- ---- more functions

counted_more : (n : ℕ) (Few Values : (List Bool → Bool) → Type 0) → ((f : List Bool → Bool) → Few f → Values f) → (v : ℕ) (f : List Bool → Bool) → IsCounted n Few v f → IsCounted n Values v f
counted_more n Few Values more v f c = record { value = c.value; is_value = more c.value c.is_value; fixed = c.fixed; depends = c.depends }

pub adds_more : (S T : Nodes) (n : ℕ) (Few Values : (List Bool → Bool) → Type 0) → ((f : List Bool → Bool) → Few f → Values f) → AddsDescribed S T (IsCounted n Few) → AddsDescribed S T (IsCounted n Values)
adds_more S T n Few Values more i = adds_as S T (IsCounted n Few) (IsCounted n Values) (counted_more n Few Values more) i

pub fault_more : (S : Nodes) (n : ℕ) (Few Values : (List Bool → Bool) → Type 0) → ((f : List Bool → Bool) → Few f → Values f) → (e : WaveFault) → IsBuildFault n Few S e → IsBuildFault n Values S e
fault_more S n Few Values more wave_faults.OutOfMemory f = tt
fault_more S n Few Values more wave_faults.NoWorker f = tt
fault_more S n Few Values more wave_faults.TooManyRequests f = tt
fault_more S n Few Values more wave_faults.Stopped f = tt
fault_more S n Few Values more wave_faults.Full (inl over) = inl over
fault_more S n Few Values more wave_faults.Full (inr full) = inr (full.0, (full.1.0, full.1.1, counted_more n Few Values more full.1.0 full.1.1 full.1.2, full.1.3))

-- ---- waves

-- A wave over the store S whose entries are for some of the functions.
module _ (S T : Nodes) (entries : List Entry) (Values : (List Bool → Bool) → Type 0) (are : (e : Entry) → Contains entries e → Values (entry_value S e)) where
  wanted_counted : (v : ℕ) (f : List Bool → Bool) → IsWanted S entries v f → IsCounted S.levels Values v f
  wanted_counted v f w = record { value = entry_value S w.entry; is_value = are w.entry w.is_entry; fixed = w.fixed; depends = w.depends }

  pub wave_adds : AddsDescribed S T (IsWanted S entries) → AddsDescribed S T (IsCounted S.levels Values)
  wave_adds i = adds_as S T (IsWanted S entries) (IsCounted S.levels Values) wanted_counted i

  pub wave_fault : Keeps S T → (e : WaveFault) → IsWaveFault S entries T e → IsBuildFault S.levels Values T e
  wave_fault kept wave_faults.OutOfMemory f = tt
  wave_fault kept wave_faults.NoWorker f = tt
  wave_fault kept wave_faults.TooManyRequests f = tt
  wave_fault kept wave_faults.Stopped f = tt
  wave_fault kept wave_faults.Full (asked, inl over) = inl over
  wave_fault kept wave_faults.Full (asked, inr full) =
      inr (full.0, (full.1.0, full.1.1, wanted_counted full.1.0 full.1.1 full.1.2, λ r h agree. full.1.3 r h (subst (λ n. Agree n (den T r) full.1.1) (sym kept.levels) agree)))

-- ---- variables

bit_behind : (q r : List Bool) (v : ℕ) → length q ≡ v → bit (q ++ r) v ≡ get_or r (v - v) false
bit_behind q r v e = get_or-append_right q r v v false e (omega arith)

pub bit_between : (q : List Bool) (b : Bool) (r : List Bool) (v : ℕ) → length q ≡ v → bit (q ++ b ∷ r) v ≡ b
bit_between q b r v e = ap (λ k. get_or (q ++ b ∷ r) k false) (sym e) ∙ get_or-append_seam q b r false

-- the bit of a level is counted at the level
bit_counted : (n v : ℕ) (f : List Bool → Bool) → v < n → ((x : List Bool) → f x ≡ bit x v) → IsCounted n (IsVariable n) v f
bit_counted n v f lt h = record {
  value = f;
  is_value = (v, lt, λ x hx. h x);
  fixed = (front, length-replicate v false, λ q r hq hr. h (q ++ r) ∙ bit_behind q r v hq ∙ sym (bit_behind front r v (length-replicate v false)) ∙ sym (h (front ++ r)));
  depends = (
    front,
    back,
    length-replicate v false,
    (let e : length back ≡ n - suc v = length-replicate (n - suc v) false in omega arith),
    λ e. true≢false (sym (bit_between front true back v (length-replicate v false)) ∙ sym (h (front ++ true ∷ back)) ∙ sym e ∙ h (front ++ false ∷ back) ∙ bit_between front false back v (length-replicate v false)),
  );
}
  where
    front : List Bool
    front = replicate v false

    back : List Bool
    back = replicate (n - suc v) false

-- a function that agrees with a counted one is counted
pub counted_as : (n : ℕ) (Values : (List Bool → Bool) → Type 0) (v : ℕ) (f g : List Bool → Bool) → Agree n f g → IsCounted n Values v g → IsCounted n Values v f
counted_as n Values v f g a c = record { value = c.value; is_value = c.is_value; fixed = fixed_as n v c.value g f a c.fixed; depends = reads c.depends }
  where
    reads : DependsOn n v g → DependsOn n v f
    reads (q, r, hq, hr, differ) =
        let whole : (b : Bool) → length (q ++ b ∷ r) ≡ n = λ b. simp length-append (omega arith) in
        (q, r, hq, hr, λ e. differ (sym (a (q ++ false ∷ r) (whole false)) ∙ e ∙ a (q ++ true ∷ r) (whole true)))

-- a variable that is made
pub variable_adds : (S T : Nodes) (v : ℕ) (r : Ref) → IsSound T → v < S.levels → IsMade S T v False True r → ((x : List Bool) → den T r x ≡ bit x v) → AddsDescribed S T (IsCounted S.levels (IsVariable S.levels))
variable_adds S T v r sound lt m h = record { keeps = m.keeps; described = λ k has. by k has (m.no_other k has) m.is }
  where
    counted : IsCounted S.levels (IsVariable S.levels) v (den T r)
    counted = bit_counted S.levels v (den T r) lt h

    by : (k : Ref) → Has T k → Has S k ⊎ ((False ≢ True) × IsOneNode T k r) → ((False ≡ True) × (r ≡ False)) ⊎ ((False ≢ True) × (part T r ≡ node v False True)) →
        Has S k ⊎ ((w : ℕ) × (lo : Ref) × (hi : Ref) × (part T k ≡ node w lo hi) × OfEither (IsCounted S.levels (IsVariable S.levels) w) (den T k))
    by k has (inl old) is = inl old
    by k has (inr one) (inl never) = absurd (one.0 never.0)
    by k has (inr one) (inr new) =
        let p = one_node_part T sound k r v False True has m.has new.1 one.1 in
        inr (v, p.0, p.1, p.2, one_node_either T k r (IsCounted S.levels (IsVariable S.levels) v) (λ f g a. counted_as S.levels (IsVariable S.levels) v f g (λ x hx. a x (hx ∙ sym m.keeps.levels))) one.1 counted)

pub variable_within : (S T : Nodes) (v : ℕ) (r : Result Ref StoreFault) → IsSound S → v < S.levels → T.limit ≡ S.limit → Makes S v False True r T → IsStillWithin S T
variable_within S T v r sound lt limit m = by (Makes-cases S T v False True r m)
  where
    by : (T ≡ S) ⊎ (IsMissing S v False True × (count_of S < S.limit) × (T ≡ with_node S v False True)) → IsStillWithin S T
    by (inl e) = inr e
    by (inr k) =
        let e : count_of T ≡ count_of S + 1 = ap count_of k.2 ∙ count-with_node S v False True sound.shaped lt in
        let room : count_of S < S.limit = k.1 in
        inl (omega arith)

-- a variable that was refused
pub variable_fault : (S : Nodes) (v : ℕ) (e : StoreFault) → IsSound S → v < S.levels → IsFull S v False True e → IsBuildFault S.levels (IsVariable S.levels) S (wave_fault_of e)
variable_fault S v store_faults.OutOfMemory sound lt f = tt
variable_fault S v store_faults.Full sound lt f = by (cases_lt S.limit (count_of S))
  where
    value : List Bool → Bool
    value x = bit x v

    below : (r : Ref) → top_of S.levels (part S r) ≡ S.levels → v < top_of S.levels (part S r)
    below r e = omega arith

    lacks : (r : Ref) → Has S r → Agree S.levels (den S r) value → ⊥
    lacks r h a =
        no_diagram Ref same_ref S.levels (part S) (Has S) (den S) (parts S sound) (denotes S sound) v lt False True tt tt (below False refl) (below True refl) f.1 f.2 value
        (λ p q x hp hq hx. bit_behind p x v hp ∙ sym (bit_behind q x v hq))
        (λ q x hq hx. den-false S (q ++ false ∷ x) ∙ sym (bit_between q false x v hq))
        (λ q x hq hx. den-true S (q ++ true ∷ x) ∙ sym (bit_between q true x v hq)) r h a

    by : (S.limit < count_of S) ⊎ (count_of S ≤ S.limit) → IsFullFor S.levels (IsVariable S.levels) S
    by (inl over) = inl over
    by (inr le) = inr ((let ge : S.limit ≤ count_of S = f.0 in omega arith), (v, value, bit_counted S.levels v value lt (λ x. refl), lacks))

-- ---- a store that had no nodes

-- a store whose count is 0 has no node
pub no_node : (S : Nodes) → count_of S ≡ 0 → (m : Ref) (v : ℕ) (lo hi : Ref) → Has S m → part S m ≡ node v lo hi → ⊥
no_node S none m v lo hi h e =
    let at = of_part S m v lo hi h e in
    let pair : Ref × Ref = complement_both at.1 (lo, hi) in
    let there = node_in_shard S at.0 pair (node-of S at.0 at.1 (lo, hi) at.4) in
    let few : length (get_or S.shards (16 * at.0.level + at.0.shard) []) ≤ count_of S = shard-le-count S (16 * at.0.level + at.0.shard) in
    let low : at.0.index < length (get_or S.shards (16 * at.0.level + at.0.shard) []) = slice_get_within (shard_at S at.0.level at.0.shard) at.0.index pair there.1 in
    omega arith

pub lean_from : (S T : Nodes) (n : ℕ) (Values : (List Bool → Bool) → Type 0) → count_of S ≡ 0 → AddsDescribed S T (IsCounted n Values) → IsLean n Values (part T) (Has T) (den T)
lean_from S T n Values none i = record { counted = λ m v lo hi h e. by m v lo hi h e (i.described m h) }
  where
    by : (m : Ref) (v : ℕ) (lo hi : Ref) → Has T m → part T m ≡ node v lo hi → Has S m ⊎ ((w : ℕ) × (a : Ref) × (b : Ref) × (part T m ≡ node w a b) × OfEither (IsCounted n Values w) (den T m)) → OfEither (IsCounted n Values v) (den T m)
    by m v lo hi h e (inl old) = absurd (no_node S none m v lo hi old (sym (i.keeps.part_is m old) ∙ e))
    by m v lo hi h e (inr new) =
        let f : ◌≡◌ {A = Part Ref} (node new.0 new.1 new.2) (node v lo hi) = sym new.3 ∙ e in
        let at : new.0 ≡ v = cc in
        subst (λ w. OfEither (IsCounted n Values w) (den T m)) at new.4

-- a store that lacks a counted function is not complete
pub not_complete : (S : Nodes) (n : ℕ) (Values : (List Bool → Bool) → Type 0) → LacksCounted n Values S → IsComplete n Values (part S) (Has S) (den S) → ⊥
not_complete S n Values (v, f, counted, lacks) whole =
    let w : HasNode n (part S) (Has S) (den S) v f = whole.present v f counted in
    lacks w.reference w.has w.denotes
