-- The signals of pairs are signals of the two netlists.
use Rattle.std.proofs.Common.{◌≡◌, ◌≢◌, ◌∙◌, ap, sym, refl, subst, ℕ, suc, ◌+◌, ◌<◌, ◌≤◌, true, false, cond, List, [], ◌∷◌, ◌++◌, map, length, get_or, drop, append_assoc, arith, eq-eqb, length-append, Option, Some, None, All}
use Rattle.std.specs.Prelude.{◌==◌, ◌||◌, find, slice_get, slice_index}
use Rattle.std.proofs.lemmas.Grind.{get_or_default_zero}
use Rattle.std.proofs.lemmas.List.{drop_more, get_or-append-add, get_or-map, get_or_append_left, length-map}
use Rattle.std.proofs.lemmas.List.Folds.{find_at}
use Rattle.std.proofs.lemmas.List.Sums.{position_or_len_is}
use Rattle.std.proofs.lemmas.Option.{slice_get_within, get_or_from_slice_get}
use Rattle.std.proofs.lemmas.List.Elements.{All-append, All-map}
use Rattle.net_bench.specs.declared.netlist.GateLine.{GateLine}
use Rattle.net_bench.specs.declared.netlist.Role.{Role}
use Rattle.net_bench.specs.declared.netlist.Role.TheVariants.{Undefined, Input, Gate, Register}
use Rattle.net_bench.specs.Circuit.{Circuit, HasRole, Net, IsNet, circuit, variables_of}
use Rattle.net_names.specs.declared.order.Match.{Match}
use Rattle.net_names.specs.declared.order.Order.{Order}
use Rattle.net_order.specs.Order.{NamingModel, IsNaming, gate_operands, is_member, registers_of}
use Rattle.net_order.proofs.Matching.{pairs_inside, only_first_inside, only_second_inside, register_pairs_in, register_pairs_inside, only_first_next_inside, only_second_next_inside}
use Rattle.compare_built.specs.Report.{next_of, next_subject, output_subject, subjects}
use Rattle.compare_built.specs.Comparing.{AreSignals, IsInside}

-- ---- the next state of a register

differs : (a b : ℕ) → a ≢ b → (a == b) ≡ false
differs a b h = grind arith

-- the first register of this signal
record FirstOf (s : ℕ) (gates : List GateLine) : Type 0 where
  gate : GateLine
  place : ℕ
  low : place < length gates
  at : get_or gates place gate ≡ gate
  found : find (λ g. g.out == s) gates ≡ Some gate

first_here : (s : ℕ) (g : GateLine) (gates : List GateLine) → (g.out == s) ≡ true → FirstOf s (g ∷ gates)
first_here s g gates e = record { gate = g; place = 0; low = omega arith; at = refl; found = ap (λ b. cond b (Some g) (find (λ h. h.out == s) gates)) e }

first_later : (s : ℕ) (g : GateLine) (gates : List GateLine) → (g.out == s) ≡ false → FirstOf s gates → FirstOf s (g ∷ gates)
first_later s g gates e h = record {
  gate = h.gate;
  place = suc h.place;
  low = let k = h.low in omega arith;
  at = h.at;
  found = ap (λ b. cond b (Some g) (find (λ x. x.out == s) gates)) e ∙ h.found;
}

first_of : (s : ℕ) (gates : List GateLine) → is_member s (map (λ g. g.out) gates) ≡ true → FirstOf s gates
first_of s [] e = cc
first_of s (g ∷ gates) e =
    elim (g.out == s) as (λ b. (g.out == s) ≡ b → (b || is_member s (map (λ h. h.out) gates)) ≡ true → FirstOf s (g ∷ gates)) [
      | true ↦ λ same k. first_here s g gates same
      | false ↦ λ other k. first_later s g gates other (first_of s gates k)
    ] refl e

-- the next state of a register is a signal
next_low : (n : Net) → IsNet n → (s : ℕ) → is_member s (registers_of (circuit n)) ≡ true → next_of (circuit n) s < length n.names
next_low n sound s e =
    let first = first_of s n.registers e in
    let its = subst (λ (g : GateLine). All (λ o. o < length n.names) g.operands × (length g.operands ≡ 1)) first.at (sound.next first.place first.gate first.low) in
    let one : length first.gate.operands ≡ 1 = its.1 in
    subst (λ (o : Option GateLine). slice_index (gate_operands o) 0 < length n.names) (sym first.found) (its.0 0 0 (omega arith))

-- no register has this signal
none_of : (s : ℕ) (gates : List GateLine) → All (λ g. g.out ≢ s) gates → find (λ g. g.out == s) gates ≡ None
none_of s [] h = refl
none_of s (g ∷ gates) h = ap (λ b. cond b (Some g) (find (λ x. x.out == s) gates)) (differs g.out s (h 0 g (omega arith))) ∙ none_of s gates (λ k d low. h (suc k) d (omega arith))

module _ (n : Net) (sound : IsNet n) where
  -- a register's signal is the variable at its place after the inputs
  register_at : (k : ℕ) (d : GateLine) → k < length n.registers → slice_index (variables_of (circuit n)) (length n.inputs + k) ≡ (get_or n.registers k d).out
  register_at k d low = get_or-append-add n.inputs (map (λ (g : GateLine). g.out) n.registers) k 0 ∙ get_or-map (λ (g : GateLine). g.out) n.registers k d 0 low

  variables_length : length (variables_of (circuit n)) ≡ length n.inputs + length n.registers
  variables_length = length-append n.inputs (map (λ (g : GateLine). g.out) n.registers) ∙ ap (λ k. length n.inputs + k) (length-map n.registers (λ (g : GateLine). g.out))

  -- the register at a place is the only one of its signal
  pub next_of_register : (s p : ℕ) (g : GateLine) → slice_get n.registers p ≡ Some g → g.out ≡ s → next_of (circuit n) s ≡ slice_index g.operands 0
  next_of_register s p g at out =
      let low : p < length n.registers = slice_get_within n.registers p g at in
      let here : get_or n.registers p g ≡ g = get_or_from_slice_get n.registers p g g at in
      let its : (get_or n.registers p g).out ≡ s = ap (λ (h : GateLine). h.out) here ∙ out in
      let before : (k : ℕ) → k < p → (get_or n.registers k g).out ≢ s = λ k less same.
      sound.variables_once (length n.inputs + k) (length n.inputs + p) (omega (arith, less)) (omega (arith, low, variables_length))
      (register_at k g (omega (arith, less, low)) ∙ same ∙ sym its ∙ sym (register_at p g low)) in
      let place = position_or_len_is (λ (h : GateLine). h.out == s) n.registers p g (omega (arith, low)) (λ k less. differs _ s (before k less)) (λ _. eq-eqb _ s its) in
      ap (λ o. slice_index (gate_operands o) 0) (find_at (λ (h : GateLine). h.out == s) n.registers ∙ ap (slice_get n.registers) place ∙ at)

  -- a signal that is no register has signal 0 as its next state
  next_of_other : (s : ℕ) → All (λ g. g.out ≢ s) n.registers → next_of (circuit n) s ≡ 0
  next_of_other s none = ap (λ o. slice_index (gate_operands o) 0) (none_of s n.registers none)

  -- so has a number that is no signal
  pub next_of_nothing : (s : ℕ) → length n.names ≤ s → next_of (circuit n) s ≡ 0
  next_of_nothing s past = next_of_other s (λ k d low same.
      let its : slice_index (variables_of (circuit n)) (length n.inputs + k) ≡ s = register_at k d low ∙ same in
      let inside : slice_index (variables_of (circuit n)) (length n.inputs + k) < length n.names = sound.variables (length n.inputs + k) 0 (omega (arith, low, variables_length)) in
      omega (arith, its, inside, past))

  -- so have an input and the signal of a gate
  pub next_by_role : (s : ℕ) (r : Role) → HasRole n s r → ((p : ℕ) → r ≡ Register p → ⊥) → next_of (circuit n) s ≡ 0
  next_by_role s Undefined role none = absurd role
  next_by_role s Input (i, less, at) none = next_of_other s (λ k d low same.
      sound.variables_once i (length n.inputs + k) (omega (arith, less)) (omega (arith, low, variables_length))
      (get_or_append_left n.inputs (map (λ (g : GateLine). g.out) n.registers) 0 i less ∙ sym (get_or_default_zero n.inputs i s less) ∙ at ∙ sym same ∙ sym (register_at k d low)))
  next_by_role s (Gate p) (g, at, out) none = next_of_other s (λ k d low same.
      let its : slice_index (variables_of (circuit n)) (length n.inputs + k) ≡ s = register_at k d low ∙ same in
      let apart = sound.apart (length n.inputs + k) 0 (omega (arith, low, variables_length)) p g (slice_get_within n.gates p g at) in
      apart (ap (λ (h : GateLine). h.out) (get_or_from_slice_get n.gates p g g at) ∙ out ∙ sym its))
  next_by_role s (Register p) role none = absurd (none p refl)

-- ---- lists that grow

pub listed_more : {A B : Type 0} (f : A → B) (xs : List A) (i : ℕ) (x : A) (y : B) (old new whole : List B) → i < length xs → get_or xs i x ≡ x → y ≡ f x → new ≡ old ++ y ∷ [] →
    old ++ map f (drop i xs) ≡ whole → new ++ map f (drop (i + 1) xs) ≡ whole
listed_more f xs i x y old new whole lt here is grown done =
    ap (λ z. z ++ map f (drop (i + 1) xs)) grown ∙ append_assoc old (y ∷ []) (map f (drop (i + 1) xs)) ∙
    ap (λ z. old ++ z) (ap (λ w. w ∷ map f (drop (i + 1) xs)) is ∙ sym (ap (map f) (drop_more xs i x lt ∙ ap (λ z. z ∷ drop (i + 1) xs) here))) ∙ done

-- ---- a pairing's signals

module _ (how : Match) (n m : Net) (given : Option Circuit) (order : Order) (p : NamingModel) (first : IsNet n) (second : IsNet m) (h : IsNaming how (circuit n) (circuit m) given order p) where
  pub subjects_inside : All (IsInside (circuit n) (circuit m)) (subjects (circuit n) (circuit m) p)
  subjects_inside =
      let outputs = pairs_inside how n m given order p first second h in
      let registers = register_pairs_inside how n m given order p first second h in
      let among = register_pairs_in how n m given order p first second h in
      All-append (IsInside (circuit n) (circuit m)) (map output_subject p.outputs.pairs) (map (next_subject (circuit n) (circuit m)) p.registers.pairs)
      (All-map (IsInside (circuit n) (circuit m)) output_subject p.outputs.pairs (λ i d low. let k = outputs i d low in (k.0, k.0, k.1)))
      (All-map (IsInside (circuit n) (circuit m)) (next_subject (circuit n) (circuit m)) p.registers.pairs
      (λ i d low. let k = registers i d low in let w = among i d low in (k.0, next_low n first _ w.0, next_low m second _ w.1)))

  pub all_signals : AreSignals (circuit n) (circuit m) p
  all_signals = record {
    compared = subjects_inside;
    only_first = only_first_inside how n m given order p first second h;
    only_second = only_second_inside how n m given order p first second h;
    only_first_next = only_first_next_inside how n m given order p first second h;
    only_second_next = only_second_next_inside how n m given order p first second h;
  }
