-- The functions that two netlists need, with a condition or without, are few: for each of them a diagram of one that agrees is made.
use Rattle.std.proofs.Common.{◌≡◌, ◌∙◌, ℕ, zero, suc, ◌<◌, ◌≤◌, ◌⊎◌, inl, inr, Bool, List, length, map, Some, None, refl, sym, ap, subst, arith, slice_index}
use Rattle.std.specs.Prelude.{◌&&◌, All, Contains, IsTrue}
use Rattle.dd_store.specs.Functions.{Agree}
use Rattle.dd_store.specs.Graph.{bit}
use Rattle.net_bench.specs.declared.netlist.GateLine.{GateLine}
use Rattle.net_bench.specs.Circuit.{Net, IsNet, circuit}
use Rattle.net_bench.specs.Statement.{takes_one}
use Rattle.net_bench.specs.Labels.{IsFunctionOf, IsLabelling, bit_of}
use Rattle.net_bench.proofs.Built.{has_labelling, same_labelling}
use Rattle.net_bench.proofs.OneLabelling.{at_contained, map_same}
use Rattle.net_order.specs.Order.{NamingModel}
use Rattle.gate_plan.specs.Building.{Levelled, levelled}
use Rattle.gate_plan.specs.Folds.{IsFoldValue, IsVariable, value_so_far}
use Rattle.gate_plan.specs.Needing.{IsValueOf}
use Rattle.compare_built.specs.Conditions.{HasOneOutput, HoldsWhere, output_of, restricted}
use Rattle.compare_built.specs.Comparing.{IsInside}
use Rattle.compare_built.specs.Limits.{IsComparedValue, IsFunctionIn}
use Rattle.compare_built.specs.Report.{subjects}
use Rattle.compare_built.specs.declared.subject.Subject.{Subject}
use Rattle.compare_built.proofs.Determined.{one_function, output_inside}
use Rattle.limit_law.proofs.Covering.{Covers, covers_one, covers_both, covers_less, covers_below, covers_list}

-- ---- the labels of one netlist

module _ (net : Net) (sound : IsNet net) (level : ℕ → ℕ) where
  -- the labels for an assignment
  labels : List Bool → List Bool
  labels x = (has_labelling net sound level x).0

  are_labels : (x : List Bool) → IsLabelling (circuit net) level x (labels x)
  unfolding labels
  are_labels x = (has_labelling net sound level x).1

  operands_same : (g : GateLine) → Contains net.gates g → (x bits : List Bool) → IsLabelling (circuit net) level x bits → map (bit_of (labels x)) g.operands ≡ map (bit_of bits) g.operands
  operands_same g among x bits l =
      map_same (bit_of (labels x)) (bit_of bits) g.operands
      (λ s there. same_labelling net sound level x (labels x) bits (are_labels x) l s
      (at_contained (λ t. t < length net.names) g.operands s
      (at_contained (λ (h : GateLine). All (λ t. t < length net.names) h.operands × (0 < length h.operands) × (IsTrue (takes_one h.kind) → length h.operands ≡ 1)) net.gates g sound.operands among).0 there))

  -- the value of a gate after so many operands
  fold_value : GateLine → ℕ → List Bool → Bool
  fold_value g i x = value_so_far g.kind (map (bit_of (labels x)) g.operands) i

  -- the function of a signal
  signal : ℕ → List Bool → Bool
  signal s x = bit_of (labels x) s

  signal_function : (n s : ℕ) → IsFunctionOf (circuit net) level n s (signal s)
  unfolding signal
  signal_function n s x len = (labels x, are_labels x, refl)

  signal_one : (n s : ℕ) → s < length net.names → (f : List Bool → Bool) → IsFunctionOf (circuit net) level n s f → Agree n f (signal s)
  signal_one n s lt f h = one_function net sound level level (λ i z low. refl) n s lt f (signal s) h (signal_function n s)

  module _ (n limit : ℕ) (Values : (List Bool → Bool) → Type 0) (more : (f : List Bool → Bool) → IsFoldValue (circuit net) level n f → Values f) where
    -- f is the value of a gate after so many operands
    abbrev IsValueAt : GateLine → ℕ → (List Bool → Bool) → Type 0
    IsValueAt g i f = (x : List Bool) → length x ≡ n → (bits : List Bool) × IsLabelling (circuit net) level x bits × (f x ≡ value_so_far g.kind (map (bit_of bits) g.operands) i)

    covers_value : (g : GateLine) → Contains net.gates g → (i : ℕ) → i < length g.operands → Covers n limit Values (IsValueAt g (suc i))
    unfolding fold_value
    covers_value g among i lt =
        covers_one n limit Values (IsValueAt g (suc i)) (fold_value g (suc i))
        (more (fold_value g (suc i)) (g, among, (suc i, omega arith, omega (arith, lt), λ x len. (labels x, are_labels x, refl))))
        (λ f h x len.
        let l = h x len in
        ap (λ bs. value_so_far g.kind bs (suc i)) (operands_same g among x l.0 l.1) ∙ sym l.2)

    covers_gate : (g : GateLine) → Contains net.gates g → Covers n limit Values (λ f. (i : ℕ) × (1 ≤ i) × (i ≤ length g.operands) × IsValueAt g i f)
    covers_gate g among =
        covers_less n limit Values (λ f. (i : ℕ) × (1 ≤ i) × (i ≤ length g.operands) × IsValueAt g i f) (λ f. (i : ℕ) × (i < length g.operands) × IsValueAt g (suc i) f) below
        (covers_below n limit Values (length g.operands) (λ i. IsValueAt g (suc i)) (covers_value g among))
      where
        below : (f : List Bool → Bool) → (i : ℕ) × (1 ≤ i) × (i ≤ length g.operands) × IsValueAt g i f → (i : ℕ) × (i < length g.operands) × IsValueAt g (suc i) f
        below f (zero, pos, le, h) = absurd (omega (arith, pos))
        below f (suc i, pos, le, h) = (i, omega (arith, le), h)

    pub covers_folds : Covers n limit Values (IsFoldValue (circuit net) level n)
    covers_folds = covers_list n limit Values net.gates (λ g f. (i : ℕ) × (1 ≤ i) × (i ≤ length g.operands) × IsValueAt g i f) covers_gate

-- ---- the variables

variable : ℕ → List Bool → Bool
variable v x = bit x v

pub covers_variables : (n limit : ℕ) (Values : (List Bool → Bool) → Type 0) → ((f : List Bool → Bool) → IsVariable n f → Values f) → Covers n limit Values (IsVariable n)
unfolding variable
covers_variables n limit Values more =
    covers_below n limit Values n (λ v f. (x : List Bool) → length x ≡ n → f x ≡ bit_of x v)
    (λ v lt. covers_one n limit Values (λ f. (x : List Bool) → length x ≡ n → f x ≡ bit_of x v) (variable v) (more (variable v) (v, lt, λ x len. refl)) (λ f h x len. sym (h x len)))

-- ---- what is built for a pairing

-- a netlist that was read
abbrev IsRead : Levelled → Type 0
IsRead one = (net : Net) × IsNet net × (circuit net ≡ one.netlist)

covers_read : (n limit : ℕ) (Values : (List Bool → Bool) → Type 0) (one : Levelled) → IsRead one → ((f : List Bool → Bool) → IsFoldValue one.netlist one.level n f → Values f) →
    Covers n limit Values (IsFoldValue one.netlist one.level n)
covers_read n limit Values one (net, sound, e) more =
    subst (λ c. Covers n limit Values (IsFoldValue c one.level n)) e
    (covers_folds net sound one.level n limit Values (λ f h. more f (subst (λ c. IsFoldValue c one.level n f) e h)))

pub covers_built : (n limit : ℕ) (Values : (List Bool → Bool) → Type 0) (netlists : List Levelled) → ((one : Levelled) → Contains netlists one → IsRead one) → ((f : List Bool → Bool) → IsValueOf n netlists f → Values f) →
    Covers n limit Values (IsValueOf n netlists)
covers_built n limit Values netlists read more =
    covers_both n limit Values (IsValueOf n netlists) (IsVariable n) (λ f. (one : Levelled) × Contains netlists one × IsFoldValue one.netlist one.level n f) (λ f k. k)
    (covers_variables n limit Values (λ f k. more f (inl k)))
    (covers_list n limit Values netlists (λ one. IsFoldValue one.netlist one.level n)
    (λ one among. covers_read n limit Values one (read one among) (λ f h. more f (inr (one, among, h)))))

-- the netlists of a pairing were read
pub all_read : (a b : Net) → IsNet a → IsNet b → (p : NamingModel) → (one : Levelled) → Contains (levelled (circuit a) (circuit b) None p) one → IsRead one
all_read a b sound sound' p one (zero, lt, e) = (a, sound, ap (λ (l : Levelled). l.netlist) e)
all_read a b sound sound' p one (suc zero, lt, e) = (b, sound', ap (λ (l : Levelled). l.netlist) e)
all_read a b sound sound' p one (suc (suc k), lt, e) = absurd (omega (arith, lt))

pub all_read_with : (a b c : Net) → IsNet a → IsNet b → IsNet c → (p : NamingModel) → (one : Levelled) → Contains (levelled (circuit a) (circuit b) (Some (circuit c)) p) one → IsRead one
all_read_with a b c sound sound' sound'' p one (zero, lt, e) = (a, sound, ap (λ (l : Levelled). l.netlist) e)
all_read_with a b c sound sound' sound'' p one (suc zero, lt, e) = (b, sound', ap (λ (l : Levelled). l.netlist) e)
all_read_with a b c sound sound' sound'' p one (suc (suc zero), lt, e) = (c, sound'', ap (λ (l : Levelled). l.netlist) e)
all_read_with a b c sound sound' sound'' p one (suc (suc (suc k)), lt, e) = absurd (omega (arith, lt))

-- ---- what is compared if there is a condition

module _ (a b c : Net) (sound : IsNet a) (sound' : IsNet b) (sound'' : IsNet c) (one_output : HasOneOutput (circuit c)) (p : NamingModel) (inside : All (IsInside (circuit a) (circuit b)) (subjects (circuit a) (circuit b) p))
    (limit : ℕ) (Values : (List Bool → Bool) → Type 0) (more : (f : List Bool → Bool) → IsComparedValue (circuit a) (circuit b) (Some (circuit c)) p f → Values f) where
  abbrev n : ℕ
  n = length p.names

  -- whether the condition holds
  holds : List Bool → Bool
  holds = signal c sound'' (slice_index p.given) (output_of (circuit c))

  condition : HoldsWhere (Some (circuit c)) p holds
  unfolding holds
  condition = signal_function c sound'' (slice_index p.given) n (output_of (circuit c))

  holds_one : (h : List Bool → Bool) → HoldsWhere (Some (circuit c)) p h → Agree n h holds
  unfolding holds
  holds_one h is = signal_one c sound'' (slice_index p.given) n (output_of (circuit c)) (output_inside c sound'' one_output) h is

  -- f is the function of a signal of one of the netlists, restricted to where the condition holds
  abbrev IsRestricted : Net → (ℕ → ℕ) → ℕ → (List Bool → Bool) → Type 0
  IsRestricted net level s f =
      (h : List Bool → Bool) × HoldsWhere (Some (circuit c)) p h × ((whole : List Bool → Bool) × IsFunctionOf (circuit net) level n s whole × Agree n f (restricted h whole))

  restricted_same : (h h' f f' : List Bool → Bool) (x : List Bool) → h x ≡ h' x → f x ≡ f' x → restricted h f x ≡ restricted h' f' x
  restricted_same h h' f f' x e g = ap (λ z. z && f x) e ∙ ap (λ z. h' x && z) g

  covers_signal : (net : Net) (own : IsNet net) (level : ℕ → ℕ) (s : ℕ) → s < length net.names → Values (restricted holds (signal net own level s)) → Covers n limit Values (IsRestricted net level s)
  covers_signal net own level s lt value =
      covers_one n limit Values (IsRestricted net level s) (restricted holds (signal net own level s)) value
      (λ f (h, is, (whole, function, agree)) x len.
      sym (restricted_same h holds whole (signal net own level s) x (holds_one h is x len) (signal_one net own level n s lt whole function x len)) ∙ sym (agree x len))

  compared : (subject : Subject) → Contains (subjects (circuit a) (circuit b) p) subject → (whole : List Bool → Bool) → IsFunctionIn (circuit a) (circuit b) p subject whole → Values (restricted holds whole)
  compared subject among whole function =
      more (restricted holds whole) (record { holds = holds; condition = condition; subject = subject; among = among; whole = whole; function = function; restriction = λ x len. refl })

  covers_subject : (subject : Subject) → Contains (subjects (circuit a) (circuit b) p) subject →
      Covers n limit Values (λ f. IsRestricted a (slice_index p.first) subject.first f ⊎ IsRestricted b (slice_index p.second) subject.second f)
  covers_subject subject among =
      let low : IsInside (circuit a) (circuit b) subject = at_contained (IsInside (circuit a) (circuit b)) (subjects (circuit a) (circuit b) p) subject inside among in
      covers_both n limit Values (λ f. IsRestricted a (slice_index p.first) subject.first f ⊎ IsRestricted b (slice_index p.second) subject.second f)
      (IsRestricted a (slice_index p.first) subject.first) (IsRestricted b (slice_index p.second) subject.second) (λ f k. k)
      (covers_signal a sound (slice_index p.first) subject.first low.1
      (compared subject among (signal a sound (slice_index p.first) subject.first) (inl (signal_function a sound (slice_index p.first) n subject.first))))
      (covers_signal b sound' (slice_index p.second) subject.second low.2
      (compared subject among (signal b sound' (slice_index p.second) subject.second) (inr (signal_function b sound' (slice_index p.second) n subject.second))))

  pub covers_compared : Covers n limit Values (IsComparedValue (circuit a) (circuit b) (Some (circuit c)) p)
  covers_compared =
      covers_less n limit Values (IsComparedValue (circuit a) (circuit b) (Some (circuit c)) p)
      (λ f. (subject : Subject) × Contains (subjects (circuit a) (circuit b) p) subject × (IsRestricted a (slice_index p.first) subject.first f ⊎ IsRestricted b (slice_index p.second) subject.second f))
      (λ f k. (k.subject, k.among, side f k k.function))
      (covers_list n limit Values (subjects (circuit a) (circuit b) p) (λ subject f. IsRestricted a (slice_index p.first) subject.first f ⊎ IsRestricted b (slice_index p.second) subject.second f) covers_subject)
    where
      side : (f : List Bool → Bool) (k : IsComparedValue (circuit a) (circuit b) (Some (circuit c)) p f) → IsFunctionIn (circuit a) (circuit b) p k.subject k.whole →
          IsRestricted a (slice_index p.first) k.subject.first f ⊎ IsRestricted b (slice_index p.second) k.subject.second f
      side f k (inl function) = inl (k.holds, k.condition, (k.whole, function, k.restriction))
      side f k (inr function) = inr (k.holds, k.condition, (k.whole, function, k.restriction))
