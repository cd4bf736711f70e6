-- One fold of a rank takes each gate's value so far to the next, and the copies and folds of a rank make its gates right.
use Rattle.std.proofs.Common.{◌≡◌, ◌≢◌, ℕ, zero, suc, ◌+◌, ◌<◌, ◌≤◌, ◌==◌, ◌⊎◌, inl, inr, Bool, true, false, cond, min, List, [], ◌∷◌, ◌++◌, length, map, get_or, Some, None, refl, sym, ◌∙◌, ap, subst, arith, eq-eqb}
use Rattle.std.specs.Prelude.{Contains, All, slice_index, unwrap_or}
use Rattle.std.proofs.lemmas.List.{length-map, get_or_past, get_or_default}
use Rattle.std.proofs.lemmas.Bool.{ne_eqb}
use Rattle.dd_store.specs.declared.reference.Ref.{Ref}
use Rattle.dd_store.specs.declared.reference.Reference.TheVariants.{False}
use Rattle.dd_store.specs.Graph.{bit}
use Rattle.dd_store.specs.Complements.{complemented}
use Rattle.dd_store.specs.Nodes.{Nodes, node, den, IsSound, IsDiagram}
use Rattle.dd_store.specs.View.{Has, Keeps}
use Rattle.dd_store.proofs.Complements.{den-complement_by, IsRef-complement_by}
use Rattle.dd_store.proofs.View.{kept_den}
use Rattle.net_bench.specs.declared.netlist.Kind.{Kind}
use Rattle.net_bench.specs.declared.netlist.Kind.TheVariants.{And, Nand, Or, Nor, Xor, Xnor, Not, Buff, Dff}
use Rattle.net_bench.specs.declared.netlist.GateLine.{GateLine}
use Rattle.net_bench.specs.Circuit.{Net, IsNet, circuit, greatest, IsDefined, variables_of, rank_of}
use Rattle.net_bench.specs.Labels.{bit_of, is_complemented, value_of, IsLabelling}
use Rattle.net_bench.proofs.OneLabelling.{at_contained}
use Rattle.net_bench.proofs.Built.{has_labelling}
use Rattle.req_table.specs.declared.Op.{Op}
use Rattle.req_table.specs.TerminalCase.{op_value}
use Rattle.reduce_up.specs.Waves.{entry_value, IsEntry, AnswersEach}
use Rattle.gate_plan.specs.declared.steps.Step.{Step}
use Rattle.gate_plan.specs.declared.steps.CopyStep.{CopyStep}
use Rattle.gate_plan.specs.Folds.{IsFoldValue, plain_step, last_step, step_at as bit_step}
use Rattle.gate_plan.specs.Plans.{plain_op, last_op, op_at, operand_at, folds_of, step_of, step_at, copy_of, plan_steps, plan_copies, plan_folds, IsPlan}
use Rattle.gate_plan.specs.Building.{PlannedNet, input_level, reference_of, first_operand, entry_of, copied_all, answered_all, Denotes, IsDenoted, value_after, AreRight, HasValueAfter, AreFolded, AreVariables, AreInputs, AreDiagrams, AllRight, AllFolded, AreCopied, IsCopyBelow, IsStepBelow, asked, levelled_of}
use Rattle.gate_plan.specs.Needing.{IsPlannedValue}
use Rattle.gate_plan.proofs.Folding.{fold_step, fold_start, one_operand, so_far_last}
use Rattle.gate_plan.proofs.Lists.{same_number, lt_or_le, at_end, before_end}
use Rattle.gate_plan.proofs.Ranks.{above_none, input_rank, operand_lower, some_operand, operand_below, one_gate, rank_top}
use Rattle.gate_plan.proofs.Picking.{in_picks, has_pick, folds_within, step_is, has_step_of, copied_of, copy_is, is_copy, among_operands, copies_below, steps_below, all_of}
use Rattle.gate_plan.proofs.Together.{asked_holds, image, of_map, refs_there}
use Rattle.gate_plan.proofs.Writing.{IsCopiedTo, IsNotCopied, copied_at, length-copied_all, IsAnsweredTo, IsNoStep, answered_at, length-answered_all, zip_at, zip_length}

-- ---- operations as functions of bits

plain_right : (kind : Kind) (a b : Bool) → op_value (plain_op kind) a b ≡ plain_step kind a b
plain_right And a b = refl
plain_right Nand a b = refl
plain_right Not a b = refl
plain_right Buff a b = refl
plain_right Dff a b = refl
plain_right Or a b = refl
plain_right Nor a b = refl
plain_right Xor true b = refl
plain_right Xor false b = refl
plain_right Xnor true b = refl
plain_right Xnor false b = refl

last_right : (kind : Kind) (a b : Bool) → op_value (last_op kind) a b ≡ last_step kind a b
last_right And a b = refl
last_right Nand a b = refl
last_right Not a b = refl
last_right Buff a b = refl
last_right Dff a b = refl
last_right Or a b = refl
last_right Nor a b = refl
last_right Xor true b = refl
last_right Xor false b = refl
last_right Xnor true true = refl
last_right Xnor true false = refl
last_right Xnor false b = refl

op_right : (kind : Kind) (k i : ℕ) (a b : Bool) → op_value (op_at kind k i) a b ≡ bit_step kind k i a b
op_right kind k i a b = by (i + 1 == k)
  where
    by : (t : Bool) → op_value (cond t (last_op kind) (plain_op kind)) a b ≡ cond t (last_step kind a b) (plain_step kind a b)
    by true = last_right kind a b
    by false = plain_right kind a b

map_bit : (f : ℕ → Bool) (xs : List ℕ) (i : ℕ) → i < length xs → get_or (map f xs) i false ≡ f (get_or xs i 0)
map_bit f [] i lt = absurd (omega arith)
map_bit f (x ∷ xs) zero lt = refl
map_bit f (x ∷ xs) (suc i) lt = map_bit f xs i (omega arith)

single : (bs : List Bool) → length bs ≡ 1 → bs ≡ get_or bs 0 false ∷ []
single [] e = absurd (omega arith)
single (b ∷ []) e = refl
single (b ∷ c ∷ bs) e = absurd (omega arith)

-- the value of a gate with one operand, after it
after_one : (g : GateLine) (bits : List Bool) → length g.operands ≡ 1 → value_after g 1 bits ≡ complemented (is_complemented g.kind) (bit_of bits (operand_at g 0))
after_one g bits e =
    let n : length (map (bit_of bits) g.operands) ≡ 1 = length-map g.operands (bit_of bits) ∙ e in
    so_far_last g.kind (map (bit_of bits) g.operands) 1 (sym n)
    ∙ ap (value_of g.kind) (single (map (bit_of bits) g.operands) n)
    ∙ ap (λ b. value_of g.kind (b ∷ [])) (map_bit (bit_of bits) g.operands 0 (omega arith))
    ∙ one_operand g.kind (bit_of bits (operand_at g 0))

-- the value of a gate with two or more operands, after one more
after_next : (g : GateLine) (bits : List Bool) (i : ℕ) → i < length g.operands → value_after g (i + 1) bits ≡ bit_step g.kind (length g.operands) i (value_after g i bits) (bit_of bits (operand_at g i))
after_next g bits i lt =
    let n : length (map (bit_of bits) g.operands) ≡ length g.operands = length-map g.operands (bit_of bits) in
    fold_step g.kind (map (bit_of bits) g.operands) i (omega arith)
    ∙ ap (λ k. bit_step g.kind k i (value_after g i bits) (get_or (map (bit_of bits) g.operands) i false)) n
    ∙ ap (bit_step g.kind (length g.operands) i (value_after g i bits)) (map_bit (bit_of bits) g.operands i lt)

after_first : (g : GateLine) (bits : List Bool) → 1 < length g.operands → value_after g 1 bits ≡ bit_of bits (operand_at g 0)
after_first g bits lt =
    let n : length (map (bit_of bits) g.operands) ≡ length g.operands = length-map g.operands (bit_of bits) in
    fold_start g.kind (map (bit_of bits) g.operands) (omega arith) ∙ map_bit (bit_of bits) g.operands 0 (omega arith)

-- ---- one netlist

module _ (net : Net) (h : IsNet net) (level : ℕ → ℕ) where
  -- no copy of a rank has a gate of the same rank as its operand
  apart : (r : ℕ) (c d : CopyStep) → Contains (plan_copies net net.gates r) c → Contains (plan_copies net net.gates r) d → c.of ≢ d.out
  apart r c d a b same =
      let p = in_picks net r copy_of net.gates c a in
      let q = in_picks net r copy_of net.gates d b in
      let u = copy_is p.0 c p.3 in
      let v = copy_is q.0 d q.3 in
      let low : slice_index net.ranks (operand_at p.0 0) < rank_of net p.0 = operand_lower net h p.0 (operand_at p.0 0) p.1 (among_operands p.0 0 (some_operand net h p.0 p.1)) in
      let at : operand_at p.0 0 ≡ q.0.out = ap (λ z. z.of) (sym u.1) ∙ same ∙ ap (λ z. z.out) v.1 in
      let e : slice_index net.ranks (operand_at p.0 0) ≡ rank_of net q.0 = ap (slice_index net.ranks) at in
      let f = p.2 in let g = q.2 in
      omega arith

  pub copies_right : (S : Nodes) (refs : List Ref) (r : ℕ) → AreRight net level S refs r → AreFolded net level S (copied_all refs (plan_copies net net.gates r)) r 0
  copies_right S refs r w = record {
    right = record {
      each = length-copied_all refs cs ∙ w.each;
      known = λ s. known s (at s);
      below = λ s lt low. below s lt low (at s);
      values = w.values;
    };
    here = λ g among rank begun. here g among rank begun;
    values = λ g among rank begun i pos le. values g among rank begun i pos le;
  }
    where
      cs : List CopyStep
      cs = plan_copies net net.gates r

      at : (s : ℕ) → IsCopiedTo refs cs s (reference_of (copied_all refs cs) s) ⊎ (IsNotCopied cs s × (reference_of (copied_all refs cs) s ≡ reference_of refs s))
      at s = copied_at refs cs s (subst (λ n. All (IsCopyBelow n) cs) (sym w.each) (copies_below net h r)) (apart r)

      known : (s : ℕ) → IsCopiedTo refs cs s (reference_of (copied_all refs cs) s) ⊎ (IsNotCopied cs s × (reference_of (copied_all refs cs) s ≡ reference_of refs s)) → Has S (reference_of (copied_all refs cs) s)
      known s (inl u) = subst (Has S) (sym u.value) (IsRef-complement_by (node S) u.copied.complement (reference_of refs u.copied.of) (w.known u.copied.of))
      known s (inr u) = subst (Has S) (sym u.1) (w.known s)

      below : (s : ℕ) → s < length net.names → slice_index net.ranks s < r →
          IsCopiedTo refs cs s (reference_of (copied_all refs cs) s) ⊎ (IsNotCopied cs s × (reference_of (copied_all refs cs) s ≡ reference_of refs s)) → Denotes (circuit net) level S (reference_of (copied_all refs cs) s) (λ bits. bit_of bits s)
      below s lt low (inr u) = subst (λ z. Denotes (circuit net) level S z (λ bits. bit_of bits s)) (sym u.1) (w.below s lt low)
      below s lt low (inl u) =
          let p = in_picks net r copy_of net.gates u.copied u.among in
          let q = copy_is p.0 u.copied p.3 in
          let e : rank_of net p.0 ≡ slice_index net.ranks s = ap (slice_index net.ranks) (ap (λ z. z.out) (sym q.1) ∙ u.out) in
          let f = p.2 in absurd (omega arith)

      here : (g : GateLine) → Contains net.gates g → rank_of net g ≡ r → HasValueAfter g 0 → Denotes (circuit net) level S (reference_of (copied_all refs cs) g.out) (value_after g (min (0 + 1) (length g.operands)))
      here g among rank (inl lt) = absurd (omega arith)
      here g among rank (inr one) = by (at g.out)
        where
          there : Contains cs (copied_of g)
          there = has_pick net r copy_of net.gates g (copied_of g) among rank (is_copy g one)

          by : IsCopiedTo refs cs g.out (reference_of (copied_all refs cs) g.out) ⊎ (IsNotCopied cs g.out × (reference_of (copied_all refs cs) g.out ≡ reference_of refs g.out)) →
              Denotes (circuit net) level S (reference_of (copied_all refs cs) g.out) (value_after g (min (0 + 1) (length g.operands)))
          by (inr u) = absurd (u.0 (copied_of g) there refl)
          by (inl u) = λ x bits hx l.
              let p = in_picks net r copy_of net.gates u.copied u.among in
              let q = copy_is p.0 u.copied p.3 in
              let same : p.0 ≡ g = one_gate net h p.0 g p.1 among (ap (λ z. z.out) (sym q.1) ∙ u.out) in
              let of : u.copied.of ≡ operand_at g 0 = ap (λ z. z.of) q.1 ∙ ap (λ z. operand_at z 0) same in
              let complement : u.copied.complement ≡ is_complemented g.kind = ap (λ z. z.complement) q.1 ∙ ap (λ z. is_complemented z.kind) same in
              let lower : slice_index net.ranks (operand_at g 0) < rank_of net g = operand_lower net h g (operand_at g 0) among (among_operands g 0 (some_operand net h g among)) in
              ap (λ z. den S z x) u.value
              ∙ den-complement_by S u.copied.complement (reference_of refs u.copied.of) x
              ∙ ap (λ b. complemented b (den S (reference_of refs u.copied.of) x)) complement
              ∙ ap (λ s. complemented (is_complemented g.kind) (den S (reference_of refs s) x)) of
              ∙ ap (complemented (is_complemented g.kind)) (w.below (operand_at g 0) (operand_below net h g (operand_at g 0) among (among_operands g 0 (some_operand net h g among))) (omega arith) x bits hx l)
              ∙ sym (after_one g bits one)
              ∙ ap (λ k. value_after g k bits) (let k : 1 ≡ min (0 + 1) (length g.operands) = omega arith in k)

      values : (g : GateLine) → Contains net.gates g → rank_of net g ≡ r → HasValueAfter g 0 → (i : ℕ) → 0 < i → i ≤ min (0 + 1) (length g.operands) → IsDenoted (circuit net) level S (value_after g i)
      values g among rank begun i pos le = (
        reference_of (copied_all refs cs) g.out,
        known g.out (at g.out),
        λ x bits hx l. here g among rank begun x bits hx l ∙ ap (λ k. value_after g k bits) (let k : min (0 + 1) (length g.operands) ≡ i = omega arith in k),
      )

  -- the value of a gate's step
  step_value : (S : Nodes) (refs : List Ref) (r j : ℕ) → AreFolded net level S refs r j → (g : GateLine) → Contains net.gates g → rank_of net g ≡ r → j < folds_of g →
      (x bits : List Bool) → length x ≡ S.levels → IsLabelling (circuit net) level x bits →
      entry_value S (entry_of refs (step_at g j)) x ≡ value_after g (min (j + 1 + 1) (length g.operands)) bits
  step_value S refs r j w g among rank lt x bits hx l =
      ap (λ c. op_value (op_at g.kind (length g.operands) (j + 1)) c (den S (reference_of refs (operand_at g (j + 1))) x)) (so_far (same_number j 0))
      ∙ ap (op_value (op_at g.kind (length g.operands) (j + 1)) (value_after g (j + 1) bits)) (operand (j + 1) (omega arith))
      ∙ op_right g.kind (length g.operands) (j + 1) (value_after g (j + 1) bits) (bit_of bits (operand_at g (j + 1)))
      ∙ sym (after_next g bits (j + 1) (omega arith))
      ∙ ap (λ k. value_after g k bits) (let k : j + 1 + 1 ≡ min (j + 1 + 1) (length g.operands) = omega arith in k)
    where
      operand : (i : ℕ) → i < length g.operands → den S (reference_of refs (operand_at g i)) x ≡ bit_of bits (operand_at g i)
      operand i lt =
          let lower : slice_index net.ranks (operand_at g i) < rank_of net g = operand_lower net h g (operand_at g i) among (among_operands g i lt) in
          w.right.below (operand_at g i) (operand_below net h g (operand_at g i) among (among_operands g i lt)) (omega arith) x bits hx l

      so_far : Dec (j ≡ 0) → den S (reference_of refs (first_operand (step_at g j))) x ≡ value_after g (j + 1) bits
      so_far (yes z) =
          ap (λ b. den S (reference_of refs (unwrap_or (cond b (Some (operand_at g 0)) None) g.out)) x) (eq-eqb j 0 z)
          ∙ operand 0 (omega arith) ∙ sym (after_first g bits (omega arith)) ∙ ap (λ k. value_after g k bits) (let k : 1 ≡ j + 1 = omega arith in k)
      so_far (no nz) =
          ap (λ b. den S (reference_of refs (unwrap_or (cond b (Some (operand_at g 0)) None) g.out)) x) (ne_eqb j 0 nz)
          ∙ w.here g among rank (inl (omega arith)) x bits hx l ∙ ap (λ k. value_after g k bits) (let k : min (j + 1) (length g.operands) ≡ j + 1 = omega arith in k)

  -- a gate whose folds are all done has a value
  begun_after : (g : GateLine) (j : ℕ) → 0 < length g.operands → folds_of g ≤ j → HasValueAfter g j
  begun_after g j some le = by (same_number (length g.operands) 1)
    where
      by : Dec (length g.operands ≡ 1) → HasValueAfter g j
      by (yes e) = inr e
      by (no ne) = inl (omega arith)

  -- if all folds of a gate are done, all its operands are taken
  all_taken : (g : GateLine) (j : ℕ) → folds_of g ≤ j → min (j + 1) (length g.operands) ≡ length g.operands
  all_taken g j le = omega arith

  pub fold_right : (S T : Nodes) (refs : List Ref) (r j : ℕ) (answers : List Ref) → IsSound S → Keeps S T → AreFolded net level S refs r j →
      AnswersEach S (map (entry_of refs) (plan_steps net net.gates r j)) T answers →
      AreFolded net level T (answered_all refs (plan_steps net net.gates r j) answers) r (j + 1)
  fold_right S T refs r j answers sound kept w z = record {
    right = record {
      each = length-answered_all refs ss answers ∙ w.right.each;
      known = λ s. known s (at s);
      below = λ s lt low. below s lt low (at s);
      values = λ g among low i pos le. still (value_after g i) (w.right.values g among low i pos le);
    };
    here = λ g among rank begun. here g among rank (at g.out) (lt_or_le j (folds_of g));
    values = λ g among rank begun i pos le. values g among rank i pos le (same_number i (min (j + 1 + 1) (length g.operands))) (lt_or_le 0 j);
  }
    where
      ss : List Step
      ss = plan_steps net net.gates r j

      new : List Ref
      new = answered_all refs ss answers

      at : (s : ℕ) → IsAnsweredTo ss answers s (reference_of new s) ⊎ (IsNoStep ss s × (reference_of new s ≡ reference_of refs s))
      at s = answered_at refs ss answers s (subst (λ n. All (IsStepBelow n) ss) (sym w.right.each) (steps_below net h r j)) (zip_length (λ e r. IsDiagram T r (entry_value S e)) (entry_of refs) ss answers z)

      -- the step that gave the answer is the gate's
      answer : (s : ℕ) (u : IsAnsweredTo ss answers s (reference_of new s)) → (g : GateLine) × Contains net.gates g × (rank_of net g ≡ r) × (g.out ≡ s) × (j < folds_of g) × IsDiagram T (reference_of new s) (entry_value S (entry_of refs (step_at g j)))
      answer s u =
          let d : Step = record { out = 0; op = plain_op And; first = None; second = 0 } in
          let t : Step = get_or ss u.place d in
          let p = in_picks net r (λ g. step_of g j) net.gates t (u.place, u.low, get_or_default ss u.place t d u.low) in
          let q = step_is p.0 j t p.3 in
          let dia : IsDiagram T (get_or answers u.place False) (entry_value S (entry_of refs t)) = zip_at (λ e r. IsDiagram T r (entry_value S e)) (entry_of refs) ss answers u.place d False z u.low in (
            p.0,
            p.1,
            p.2,
            ap (λ z. z.out) (sym q.1) ∙ u.out d,
            q.0,
            subst (λ v. IsDiagram T v (entry_value S (entry_of refs (step_at p.0 j)))) (sym (u.value False)) (subst (λ v. IsDiagram T (get_or answers u.place False) (entry_value S (entry_of refs v))) q.1 dia),
          )

      known : (s : ℕ) → IsAnsweredTo ss answers s (reference_of new s) ⊎ (IsNoStep ss s × (reference_of new s ≡ reference_of refs s)) → Has T (reference_of new s)
      known s (inl u) = (answer s u).5.0
      known s (inr u) = subst (Has T) (sym u.1) (kept.has (reference_of refs s) (w.right.known s))

      same_den : (s : ℕ) → reference_of new s ≡ reference_of refs s → (x : List Bool) → den T (reference_of new s) x ≡ den S (reference_of refs s) x
      same_den s e x = ap (λ z. den T z x) e ∙ kept_den S T sound kept (reference_of refs s) (w.right.known s) x

      below : (s : ℕ) → s < length net.names → slice_index net.ranks s < r → IsAnsweredTo ss answers s (reference_of new s) ⊎ (IsNoStep ss s × (reference_of new s ≡ reference_of refs s)) →
          Denotes (circuit net) level T (reference_of new s) (λ bits. bit_of bits s)
      below s lt low (inl u) =
          let p = answer s u in
          let e : rank_of net p.0 ≡ slice_index net.ranks s = ap (slice_index net.ranks) p.3 in
          let f = p.2 in absurd (omega arith)
      below s lt low (inr u) = λ x bits hx l. same_den s u.1 x ∙ w.right.below s lt low x bits (hx ∙ kept.levels) l

      here : (g : GateLine) → Contains net.gates g → rank_of net g ≡ r → IsAnsweredTo ss answers g.out (reference_of new g.out) ⊎ (IsNoStep ss g.out × (reference_of new g.out ≡ reference_of refs g.out)) →
          (j < folds_of g) ⊎ (folds_of g ≤ j) → Denotes (circuit net) level T (reference_of new g.out) (value_after g (min (j + 1 + 1) (length g.operands)))
      here g among rank (inl u) some = λ x bits hx l.
          let p = answer g.out u in
          let same : p.0 ≡ g = one_gate net h p.0 g p.1 among p.3 in
          let lt : j < folds_of g = subst (λ z. j < folds_of z) same p.4 in
          p.5.1 x hx ∙ ap (λ z. entry_value S (entry_of refs (step_at z j)) x) same ∙ step_value S refs r j w g among rank lt x bits (hx ∙ kept.levels) l
      here g among rank (inr u) (inl lt) = absurd (u.0 (step_at g j) (has_pick net r (λ g. step_of g j) net.gates g (step_at g j) among rank (has_step_of g j lt)) refl)
      here g among rank (inr u) (inr le) = λ x bits hx l.
          same_den g.out u.1 x ∙ w.here g among rank (begun_after g j (some_operand net h g among) le) x bits (hx ∙ kept.levels) l
          ∙ ap (λ k. value_after g k bits) (let k : min (j + 1) (length g.operands) ≡ min (j + 1 + 1) (length g.operands) = (let e = all_taken g j le in omega arith) in k)

      -- what the store has, a later one has too
      still : (value : List Bool → Bool) → IsDenoted (circuit net) level S value → IsDenoted (circuit net) level T value
      still value d = (d.0, kept.has d.0 d.1, λ x bits hx l. kept_den S T sound kept d.0 d.1 x ∙ d.2 x bits (hx ∙ kept.levels) l)

      values : (g : GateLine) → Contains net.gates g → rank_of net g ≡ r → (i : ℕ) → 0 < i → i ≤ min (j + 1 + 1) (length g.operands) → Dec (i ≡ min (j + 1 + 1) (length g.operands)) → (0 < j) ⊎ (j ≤ 0) →
          IsDenoted (circuit net) level T (value_after g i)
      values g among rank i pos le (yes e) first = (
        reference_of new g.out,
        known g.out (at g.out),
        λ x bits hx l. here g among rank (at g.out) (lt_or_le j (folds_of g)) x bits hx l ∙ ap (λ k. value_after g k bits) (sym e),
      )
      values g among rank i pos le (no ne) (inl lt) = still (value_after g i) (w.values g among rank (inl lt) i pos (omega arith))
      values g among rank i pos le (no ne) (inr none) =
          still (value_after g i) (
            reference_of refs (operand_at g 0),
            w.right.known (operand_at g 0),
            λ x bits hx l.
                let operand = among_operands g 0 (some_operand net h g among) in
                let lower : slice_index net.ranks (operand_at g 0) < rank_of net g = operand_lower net h g (operand_at g 0) among operand in
                w.right.below (operand_at g 0) (operand_below net h g (operand_at g 0) among operand) (omega arith) x bits hx l
                ∙ sym (after_first g bits (omega arith)) ∙ ap (λ k. value_after g k bits) (let k : 1 ≡ i = omega arith in k),
          )

  -- after all folds of a rank its gates denote their labels
  pub rank_right : (S : Nodes) (refs : List Ref) (r j : ℕ) → 0 < r → plan_folds net net.gates r ≤ j → AreFolded net level S refs r j → AreRight net level S refs (r + 1)
  rank_right S refs r j pos le w = record {
    each = w.right.each;
    known = w.right.known;
    below = λ s lt low. below s lt low (lt_or_le (slice_index net.ranks s) r);
    values = λ g among low i pos all. values g among low (lt_or_le (rank_of net g) r) i pos all;
  }
    where
      below : (s : ℕ) → s < length net.names → slice_index net.ranks s < r + 1 → (slice_index net.ranks s < r) ⊎ (r ≤ slice_index net.ranks s) → Denotes (circuit net) level S (reference_of refs s) (λ bits. bit_of bits s)
      below s lt low (inl deep) = w.right.below s lt deep
      below s lt low (inr here) = by (h.defined s lt)
        where
          by : IsDefined (circuit net) s → Denotes (circuit net) level S (reference_of refs s) (λ bits. bit_of bits s)
          by (inl input) = absurd (let e = input_rank net h s input in omega arith)
          by (inr (g, among, out)) = λ x bits hx l.
              let rank : rank_of net g ≡ r = (let e : rank_of net g ≡ slice_index net.ranks s = ap (slice_index net.ranks) out in omega arith) in
              let few : folds_of g ≤ j = (let f : folds_of g ≤ plan_folds net net.gates r = folds_within net r net.gates g among rank in omega arith) in
              ap (λ z. den S (reference_of refs z) x) (sym out)
              ∙ w.here g among rank (begun_after g j (some_operand net h g among) few) x bits hx l
              ∙ ap (λ k. value_after g k bits) (all_taken g j few)
              ∙ so_far_last g.kind (map (bit_of bits) g.operands) (length g.operands) (sym (length-map g.operands (bit_of bits)))
              ∙ sym (at_contained (λ g. bit_of bits g.out ≡ value_of g.kind (map (bit_of bits) g.operands)) net.gates g l.gates among)
              ∙ ap (bit_of bits) out

      values : (g : GateLine) → Contains net.gates g → rank_of net g < r + 1 → (rank_of net g < r) ⊎ (r ≤ rank_of net g) → (i : ℕ) → 0 < i → i ≤ length g.operands → IsDenoted (circuit net) level S (value_after g i)
      values g among low (inl deep) i pos all = w.right.values g among deep i pos all
      values g among low (inr here) i pos all =
          let rank : rank_of net g ≡ r = omega arith in
          let few : folds_of g ≤ j = (let f : folds_of g ≤ plan_folds net net.gates r = folds_within net r net.gates g among rank in omega arith) in
          let most : min (j + 1) (length g.operands) ≡ length g.operands = all_taken g j few in
          w.values g among rank (begun_after g j (some_operand net h g among) few) i pos (omega arith)

  -- the inputs denote their labels
  pub inputs_right : (S : Nodes) (variables refs : List Ref) → AreVariables S variables → AreInputs net level variables refs → ((s : ℕ) → Contains (variables_of (circuit net)) s → level s < length variables) → AreRight net level S refs 1
  inputs_right S variables refs v w fit = record {
    each = w.each;
    known = λ s. known s;
    below = λ s lt low. below s lt low (h.defined s lt);
    values = λ g among low i pos all. absurd (let p = above_none net h g among in omega arith);
  }
    where
      input : (s : ℕ) → Contains (variables_of (circuit net)) s → level s < S.levels
      input s among = let f = fit s among in let e = v.each in omega arith

      known : (s : ℕ) → Has S (reference_of refs s)
      known s = by (lt_or_le s (length net.names))
        where
          inside : IsDefined (circuit net) s → Has S (reference_of refs s)
          inside (inl among) = subst (Has S) (sym (w.inputs s among)) (v.has (level s) (input s among))
          inside (inr (g, among, out)) = subst (Has S) (sym (w.others s (λ is_input. at_contained (λ g. g.out ≢ s) net.gates g (at_contained (λ s. All (λ g. g.out ≢ s) net.gates) (variables_of (circuit net)) s h.apart is_input) among out))) tt

          by : (s < length net.names) ⊎ (length net.names ≤ s) → Has S (reference_of refs s)
          by (inl lt) = inside (h.defined s lt)
          by (inr le) = subst (Has S) (sym (get_or_past refs s False (let e = w.each in omega arith))) tt

      below : (s : ℕ) → s < length net.names → slice_index net.ranks s < 1 → IsDefined (circuit net) s → Denotes (circuit net) level S (reference_of refs s) (λ bits. bit_of bits s)
      below s lt low (inr (g, among, out)) = absurd (let p = above_none net h g among in let e : rank_of net g ≡ slice_index net.ranks s = ap (slice_index net.ranks) out in omega arith)
      below s lt low (inl among) = λ x bits hx l.
          ap (λ z. den S z x) (w.inputs s among) ∙ v.bits (level s) (input s among) x
          ∙ sym (at_contained (λ s. bit_of bits s ≡ bit_of x (level s)) (variables_of (circuit net)) s l.variables among)

  -- after all ranks were done, each signal has the diagram of its function
  pub all_right : (S : Nodes) (refs : List Ref) (r : ℕ) → greatest (map (rank_of net) net.gates) < r → 0 < r → AreRight net level S refs r → AreDiagrams (circuit net) level S refs
  all_right S refs r past pos w = record {
    each = w.each;
    has = λ s lt. w.known s;
    functions = λ s lt x hx.
        let bits = has_labelling net h level x in
        (bits.0, bits.1, sym (w.below s lt (low s (h.defined s lt)) x bits.0 hx bits.1));
  }
    where
      low : (s : ℕ) → IsDefined (circuit net) s → slice_index net.ranks s < r
      low s (inl among) = let e = input_rank net h s among in omega arith
      low s (inr (g, among, out)) = let t = rank_top net g among in let e : rank_of net g ≡ slice_index net.ranks s = ap (slice_index net.ranks) out in omega arith

  -- after all ranks were done, the store has all values of all folds
  pub all_values : (S : Nodes) (refs : List Ref) (r : ℕ) → greatest (map (rank_of net) net.gates) < r → AreRight net level S refs r →
      (g : GateLine) → Contains net.gates g → (i : ℕ) → 0 < i → i ≤ length g.operands → IsDenoted (circuit net) level S (value_after g i)
  all_values S refs r past w g among i pos all = w.values g among (let t = rank_top net g among in omega arith) i pos all

  -- the entry of a step has a value of its gate's fold
  pub asked_value : (S : Nodes) (refs : List Ref) (r j : ℕ) → AreFolded net level S refs r j → (e : Op × Ref × Ref) → Contains (map (entry_of refs) (plan_steps net net.gates r j)) e →
      IsFoldValue (circuit net) level S.levels (entry_value S e)
  asked_value S refs r j w e among =
      let m = of_map (entry_of refs) (plan_steps net net.gates r j) e among in
      let p = in_picks net r (λ g. step_of g j) net.gates m.0 m.1 in
      let q = step_is p.0 j m.0 p.3 in
      let same : entry_of refs (step_at p.0 j) ≡ e = ap (entry_of refs) (sym q.1) ∙ m.2 in
      let some = some_operand net h p.0 p.1 in (
        p.0,
        p.1,
        (
          min (j + 1 + 1) (length p.0.operands),
          omega arith,
          omega arith,
          λ x hx.
              let bits = has_labelling net h level x in
              (bits.0, bits.1, ap (λ z. entry_value S z x) (sym same) ∙ step_value S refs r j w p.0 p.1 p.2 q.0 x bits.0 hx bits.1),
        ),
      )

  -- ---- the same in the form that the code needs

  pub steps_fit : (S : Nodes) (refs given : List Ref) (r j : ℕ) (steps : List Step) → AreFolded net level S refs r j → given ≡ refs → steps ≡ plan_steps net net.gates r j → All (IsStepBelow (length given)) steps
  steps_fit S refs given r j steps w e f = subst (λ ss. All (IsStepBelow (length given)) ss) (sym f) (subst (λ n. All (IsStepBelow n) (plan_steps net net.gates r j)) (sym (ap length e ∙ w.right.each)) (steps_below net h r j))

  pub copies_fit : (S : Nodes) (refs given : List Ref) (r : ℕ) (cs : List CopyStep) → AreRight net level S refs r → given ≡ refs → cs ≡ plan_copies net net.gates r → All (IsCopyBelow (length given)) cs
  copies_fit S refs given r cs w e f = subst (λ ss. All (IsCopyBelow (length given)) ss) (sym f) (subst (λ n. All (IsCopyBelow n) (plan_copies net net.gates r)) (sym (ap length e ∙ w.each)) (copies_below net h r))

  pub copies_next : (S : Nodes) (refs given out : List Ref) (r : ℕ) (cs : List CopyStep) → AreRight net level S refs r → given ≡ refs → cs ≡ plan_copies net net.gates r → out ≡ copied_all given cs → AreFolded net level S out r 0
  copies_next S refs given out r cs w e f o =
      subst (λ z. AreFolded net level S z r 0) (sym (o ∙ ap (λ z. copied_all z cs) e ∙ ap (copied_all refs) f)) (copies_right S refs r w)

  pub fold_next : (S T : Nodes) (refs given out : List Ref) (r j : ℕ) (steps : List Step) (answers : List Ref) → IsSound S → Keeps S T → AreFolded net level S refs r j → given ≡ refs → steps ≡ plan_steps net net.gates r j →
      AnswersEach S (map (entry_of refs) steps) T answers → out ≡ answered_all given steps answers → AreFolded net level T out r (j + 1)
  fold_next S T refs given out r j steps answers sound kept w e f z o =
      subst (λ y. AreFolded net level T y r (j + 1)) (sym (o ∙ ap (λ y. answered_all y steps answers) e ∙ ap (λ y. answered_all refs y answers) f))
      (fold_right S T refs r j answers sound kept w (subst (λ y. AnswersEach S (map (entry_of refs) y) T answers) f z))

-- the copies of a rank in all netlists
pub all_copied : (sides : List PlannedNet) → ((one : PlannedNet) → Contains sides one → IsPlan one.net one.plan) → (S : Nodes) (built new : List (List Ref)) (r : ℕ) → AllRight sides S built r → AreCopied sides built new r → AllFolded sides S new r 0
all_copied sides plans S built new r right copied = (
  copied.0 ∙ right.0,
  λ k one refs lt at there.
      let n = right.0 in
      let m = copied.0 in
      let old = get_or built k [] in
      let was = refs_there built k (omega arith) in
      let is : refs ≡ copied_all old (plan_copies one.net one.net.gates r) = sym there ∙ get_or_default new k refs [] (omega arith) ∙ copied.1 k one old lt at was in
      copies_next one.net (plans one (k, lt, at)).sound (input_level one) S old old refs r (plan_copies one.net one.net.gates r) (right.1 k one old lt at was) refl refl is,
)

-- ---- entries

known_entries : (S : Nodes) (refs : List Ref) (steps : List Step) → ((s : ℕ) → Has S (reference_of refs s)) → (e : Op × Ref × Ref) → Contains (map (entry_of refs) steps) e → IsEntry S e
known_entries S refs [] known e (k, lt, f) = absurd (omega arith)
known_entries S refs (s ∷ steps) known e (zero, lt, f) = subst (IsEntry S) f (known (first_operand s), known s.second)
known_entries S refs (s ∷ steps) known e (suc k, lt, f) = known_entries S refs steps known e (k, omega arith, f)

-- the entries of all netlists have references of the store
pub all_entries : (sides : List PlannedNet) (S : Nodes) (built : List (List Ref)) (r j : ℕ) (entries : List (Op × Ref × Ref)) → AllFolded sides S built r j → entries ≡ asked sides built r j → All (IsEntry S) entries
all_entries sides S built r j entries h e =
    all_of (IsEntry S) entries
    (λ x among. asked_holds (IsEntry S) r j sides built (h.0, λ k one refs lt a b. known_entries S refs (plan_steps one.net one.net.gates r j) (h.1 k one refs lt a b).right.known) x (subst (λ z. Contains z x) e among))

-- the entries of all netlists are values of the folds of one of them
pub all_asked : (sides : List PlannedNet) → ((one : PlannedNet) → Contains sides one → IsPlan one.net one.plan) → (S : Nodes) (built : List (List Ref)) (r j : ℕ) (entries : List (Op × Ref × Ref)) →
    AllFolded sides S built r j → entries ≡ asked sides built r j → (e : Op × Ref × Ref) → Contains entries e → IsPlannedValue S.levels sides (entry_value S e)
all_asked sides plans S built r j entries h e x among =
    asked_holds (λ y. IsPlannedValue S.levels sides (entry_value S y)) r j sides built
    (h.0, λ k one refs lt a b y c. inr (levelled_of one, image levelled_of sides one (k, lt, a), asked_value one.net (plans one (k, lt, a)).sound (input_level one) S refs r j (h.1 k one refs lt a b) y c))
    x (subst (λ z. Contains z x) e among)

-- ---- variables and inputs

-- one more variable
pub variable_next : (S T : Nodes) (vs new : List Ref) (level : ℕ) (r : Ref) → IsSound S → Keeps S T → length vs ≡ level → new ≡ vs ++ r ∷ [] → Has T r → ((x : List Bool) → den T r x ≡ bit x level) →
    ((v : ℕ) → v < level → Has S (reference_of vs v)) → ((v : ℕ) → v < level → (x : List Bool) → den S (reference_of vs v) x ≡ bit x v) →
    (v : ℕ) → v < level + 1 → Has T (reference_of new v) × ((x : List Bool) → den T (reference_of new v) x ≡ bit x v)
variable_next S T vs new level r sound kept n e has value had bits v lt = by (lt_or_le v level)
  where
    by : (v < level) ⊎ (level ≤ v) → Has T (reference_of new v) × ((x : List Bool) → den T (reference_of new v) x ≡ bit x v)
    by (inl low) =
        let at : reference_of new v ≡ reference_of vs v = ap (λ z. get_or z v False) e ∙ before_end vs r False v (omega arith) in (
          subst (Has T) (sym at) (kept.has (reference_of vs v) (had v low)),
          λ x. ap (λ z. den T z x) at ∙ kept_den S T sound kept (reference_of vs v) (had v low) x ∙ bits v low x,
        )
    by (inr le) =
        let same : v ≡ level = omega arith in
        let at : reference_of new v ≡ r = ap (λ z. get_or z v False) e ∙ ap (λ z. get_or (vs ++ r ∷ []) z False) (same ∙ sym n) ∙ at_end vs r False in
        (subst (Has T) (sym at) has, λ x. ap (λ z. den T z x) at ∙ value x ∙ ap (bit x) (sym same))

-- a store that keeps the variables has them
pub variables_kept : (S T : Nodes) (vs : List Ref) → IsSound S → Keeps S T → AreVariables S vs → AreVariables T vs
variables_kept S T vs sound kept v = record {
  each = v.each ∙ sym kept.levels;
  has = λ w lt. kept.has (reference_of vs w) (v.has w (let e = kept.levels in omega arith));
  bits = λ w lt x. let low : w < S.levels = (let e = kept.levels in omega arith) in kept_den S T sound kept (reference_of vs w) (v.has w low) x ∙ v.bits w low x;
}

pub inputs_all : (net : Net) (level : ℕ → ℕ) (variables refs : List Ref) (items : List ℕ) (i : ℕ) → items ≡ variables_of (circuit net) → length items ≤ i → i ≤ length items → length refs ≡ length net.names →
    ((k : ℕ) → k < i → reference_of refs (get_or items k 0) ≡ reference_of variables (level (get_or items k 0))) →
    ((s : ℕ) → ((k : ℕ) → k < i → get_or items k 0 ≡ s → ⊥) → reference_of refs s ≡ False) → AreInputs net level variables refs
inputs_all net level variables refs items i e long short each ins others = record {
  each = each;
  inputs = λ s among.
      let a : Contains items s = subst (λ z. Contains z s) (sym e) among in
      let at : get_or items a.0 0 ≡ s = get_or_default items a.0 0 s a.1 ∙ a.2 in
      subst (λ z. reference_of refs z ≡ reference_of variables (level z)) at (ins a.0 (let lt = a.1 in omega arith));
  others = λ s none. others s (λ k lt at.
      let lt' : k < length items = omega arith in
      none (subst (λ z. Contains z s) e (k, lt', get_or_default items k s 0 lt' ∙ at)));
}
