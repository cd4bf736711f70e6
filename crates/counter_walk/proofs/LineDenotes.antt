-- Lines and their functions.
use Rattle.std.proofs.Common.{◌≡◌, ℕ, ◌+◌, ◌-◌, ◌<◌, ◌≤◌, Bool, true, false, cond, ◌||◌, List, [], ◌∷◌, ◌++◌, length, get_or, slice_get, replicate, Some, refl, sym, ◌∙◌, ap, subst, arith, inl, inr}
use Rattle.std.proofs.Math.ListN.{set, length-replicate}
use Rattle.std.proofs.lemmas.Bool.{cases_lt, cases_Bool, or_cases, or_left, or_right}
use Rattle.std.proofs.lemmas.List.{length-append, length-set, get_or-set_same, get_or-set_other, get_or_append_left, get_or_read, length_push, with_items_is}
use Rattle.std.proofs.lemmas.Option.{slice_get_within, slice_get-get_or, slice_get_past}
use Rattle.std.specs.Prelude.{Result, Ok, Err, IfOk, OnOk}
use Rattle.std.specs.Vec.{with_items}
use Rattle.std.specs.declared.vec.Vec.{Vec}
use Rattle.std.specs.HashMap.{get, Updates}
use Rattle.std.specs.declared.alloc.AllocError.{AllocError}
use Rattle.dd_store.specs.Functions.{Agree}
use Rattle.dd_store.specs.Nodes.{Nodes}
use Rattle.dd_store.proofs.Places.{slice_get-push, slice_get-append, slice_get_cases-push}
use Rattle.counter_walk.specs.contracts.least.DiffPairPartialEq.TheImpl.{eq-value as pair_eq}
use Rattle.counter_walk.specs.declared.least.DiffLine.{DiffLine}
use Rattle.counter_walk.specs.declared.least.DiffLine.TheVariants.{Terminal, Branch}
use Rattle.counter_walk.specs.declared.least.DiffPair.{DiffPair}
use Rattle.counter_walk.specs.declared.least.DiffTable.{DiffTable}
use Rattle.counter_walk.specs.Lines.{differs, IsIndependentOf, LineDenotes, AreInOrder, ReadVariablesBelow, IsDiffTable, AreSatisfiable, AreRead, line_satisfiable, either}
use Rattle.counter_walk.specs.Lines.LineDenotes.{terminal, branch}
use Rattle.counter_walk.proofs.Choosing.{IsChoice}
use Rattle.counter_walk.proofs.Fixing.{Can, IsFixed, fixed_free, fixed_zero, fixed_one}
use Rattle.counter_walk.proofs.Pairing.{pair_same}

-- ---- one more line

pub LineDenotes-push : (n : ℕ) (lines : List DiffLine) (l : DiffLine) (p : ℕ) (h : List Bool → Bool) → LineDenotes n lines p h → LineDenotes n (lines ++ l ∷ []) p h
LineDenotes-push n lines l _ _ (terminal p h b e q) = terminal p h b (slice_get-append lines (l ∷ []) p (Terminal b) e) q
LineDenotes-push n lines l _ _ (branch p h d low high lo hi e s t f g q) =
    branch p h d low high lo hi (slice_get-append lines (l ∷ []) p (Branch d low high) e) (LineDenotes-push n lines l low lo s) (LineDenotes-push n lines l high hi t) f g q

-- a place with a function is that of a line
pub LineDenotes-within : (n : ℕ) (lines : List DiffLine) (p : ℕ) (h : List Bool → Bool) → LineDenotes n lines p h → p < length lines
LineDenotes-within n lines _ _ (terminal p h b e q) = slice_get_within lines p (Terminal b) e
LineDenotes-within n lines _ _ (branch p h d low high lo hi e s t f g q) = slice_get_within lines p (Branch d low high) e

-- a line that has a function has each function that agrees with it
pub LineDenotes-agree : (n : ℕ) (lines : List DiffLine) (p : ℕ) (h k : List Bool → Bool) → Agree n k h → LineDenotes n lines p h → LineDenotes n lines p k
LineDenotes-agree n lines _ _ k same (terminal p h b e q) = terminal p k b e (λ x len. same x len ∙ q x len)
LineDenotes-agree n lines _ _ k same (branch p h d low high lo hi e s t f g q) =
    branch p k d low high lo hi e s t f g (λ x len. same x len ∙ q x len)

-- a line that may be added for a function
pub data IsLineFor (n : ℕ) (lines : List DiffLine) (h : List Bool → Bool) : DiffLine → Type 0 where
  for_constant : (b : Bool) → Agree n h (λ x. b) → IsLineFor n lines h (Terminal b)
  for_choice : (d low high : ℕ) (lo hi : List Bool → Bool) → LineDenotes n lines low lo → LineDenotes n lines high hi → IsChoice n d h lo hi
      → IsLineFor n lines h (Branch d low high)

LineDenotes-last : (n : ℕ) (lines : List DiffLine) (h : List Bool → Bool) (l : DiffLine) → IsLineFor n lines h l
    → LineDenotes n (lines ++ l ∷ []) (length lines) h
LineDenotes-last n lines h _ (for_constant b q) = terminal (length lines) h b (slice_get-push lines (Terminal b)) q
LineDenotes-last n lines h _ (for_choice d low high lo hi s t k) =
    let l : DiffLine = Branch d low high in
    branch (length lines) h d low high lo hi (slice_get-push lines l) (LineDenotes-push n lines l low lo s) (LineDenotes-push n lines l high hi t) k.low k.high k.chosen

-- the places in a line for a function
named : (n : ℕ) (lines : List DiffLine) (h : List Bool → Bool) (l : DiffLine) → IsLineFor n lines h l
    → (d low high : ℕ) → l ≡ Branch d low high → (d < n) × (low < length lines) × (high < length lines)
named n lines h _ (for_constant b q) d low high e = absurd (cc)
named n lines h _ (for_choice v lw hg lo hi s t k) d low high e =
    let lt : v < n = k.variable in
    let a : lw < length lines = LineDenotes-within n lines lw lo s in
    let b : hg < length lines = LineDenotes-within n lines hg hi t in
    let same : v ≡ d = cc in
    let same_low : lw ≡ low = cc in
    let same_high : hg ≡ high = cc in
    (omega arith, omega arith, omega arith)

-- a function has a line at a place, and all lines before are kept
pub record IsAdded (S : Nodes) (order : List ℕ) (h : List Bool → Bool) (old new : DiffTable) (at : ℕ) : Type 0 where
  pub table : IsDiffTable S order new
  pub keeps : (p : ℕ) (k : List Bool → Bool) → LineDenotes S.levels old.lines.items p k → LineDenotes S.levels new.lines.items p k
  pub place : LineDenotes S.levels new.lines.items at h

pub added : (S : Nodes) (order : List ℕ) (old new : DiffTable) (k : DiffPair) (l : DiffLine) → IsDiffTable S order old
    → IsLineFor S.levels old.lines.items (differs S order k.first k.second) l → new.lines.items ≡ old.lines.items ++ l ∷ []
    → Updates pair_eq.it old.places new.places k (Some (length old.lines.items))
    → IsAdded S order (differs S order k.first k.second) old new (length old.lines.items)
added S order old new k l t is grown u =
    let n : ℕ = S.levels in
    let lines : List DiffLine = old.lines.items in
    let h : List Bool → Bool = differs S order k.first k.second in
    let more : (p : ℕ) (z : List Bool → Bool) → LineDenotes n lines p z → LineDenotes n new.lines.items p z =
    (λ p z s. subst (λ ls. LineDenotes n ls p z) (sym grown) (LineDenotes-push n lines l p z s)) in
    let last : LineDenotes n new.lines.items (length lines) h = subst (λ ls. LineDenotes n ls (length lines) h) (sym grown) (LineDenotes-last n lines h l is) in
    let names = named n lines h l is in
    record {
      table = record {
        in_order = λ p d low high e. elim (slice_get_cases-push lines l p (Branch d low high) (ap (λ ls. slice_get ls p) (sym grown) ∙ e)) [
          | inl a ↦ t.in_order p d low high a
          | inr a ↦ let m = names d low high (sym a.1) in let at = a.0 in let x = m.1 in let y = m.2 in (omega arith, omega arith)
        ];
        variables = λ p d low high e. elim (slice_get_cases-push lines l p (Branch d low high) (ap (λ ls. slice_get ls p) (sym grown) ∙ e)) [
          | inl a ↦ t.variables p d low high a
          | inr a ↦ (names d low high (sym a.1)).0
        ];
        found = λ z p e. elim (cases_Bool (pair_eq.it k z)) [
          | inl same ↦
              let f : Some (length lines) ≡ Some p = sym (u.0 z ∙ ap (λ b. cond b (Some (length lines)) (get pair_eq.it old.places z)) same) ∙ e in
              let at : length lines ≡ p = cc in
              subst (λ i. LineDenotes n new.lines.items i (differs S order z.first z.second)) at
              (subst (λ (q : DiffPair). LineDenotes n new.lines.items (length lines) (differs S order q.first q.second)) (pair_same k z same) last)
          | inr other ↦ more p (differs S order z.first z.second) (t.found z p (sym (u.2 z other) ∙ e))
        ];
      };
      keeps = more;
      place = last;
    }

-- the line of a function, before it is added
pub record IsReady (S : Nodes) (order : List ℕ) (h : List Bool → Bool) (old t : DiffTable) (l : DiffLine) : Type 0 where
  pub table : IsDiffTable S order t
  pub keeps : (p : ℕ) (k : List Bool → Bool) → LineDenotes S.levels old.lines.items p k → LineDenotes S.levels t.lines.items p k
  pub line : IsLineFor S.levels t.lines.items h l

pub ready_constant : (S : Nodes) (order : List ℕ) (h : List Bool → Bool) (old t : DiffTable) (l : DiffLine) (b : Bool) → IsDiffTable S order old
    → Agree S.levels h (λ x. b) → t ≡ old → l ≡ Terminal b → IsReady S order h old t l
ready_constant S order h old t l b i q e f =
    subst (λ x. IsReady S order h old x l) (sym e)
    (subst (λ x. IsReady S order h old old x) (sym f) (record { table = i; keeps = λ p z s. s; line = for_constant b q }))

pub ready_choice : (S : Nodes) (order : List ℕ) (h lo hi : List Bool → Bool) (old first second t : DiffTable) (l : DiffLine) (d low high : ℕ)
    → IsChoice S.levels d h lo hi
    → ((q : ℕ) (z : List Bool → Bool) → LineDenotes S.levels old.lines.items q z → LineDenotes S.levels first.lines.items q z)
    → LineDenotes S.levels first.lines.items low lo
    → IsDiffTable S order second
    → ((q : ℕ) (z : List Bool → Bool) → LineDenotes S.levels first.lines.items q z → LineDenotes S.levels second.lines.items q z)
    → LineDenotes S.levels second.lines.items high hi
    → t ≡ second → l ≡ Branch d low high → IsReady S order h old t l
ready_choice S order h lo hi old one two t l d low high k keep at_low i keep_on at_high e f =
    subst (λ x. IsReady S order h old x l) (sym e)
    (subst (λ x. IsReady S order h old two x) (sym f) (record {
      table = i;
      keeps = λ q z s. keep_on q z (keep q z s);
      line = for_choice d low high lo hi (keep_on low lo at_low) at_high k;
    }))

pub placed : (S : Nodes) (order : List ℕ) (old t new : DiffTable) (k : DiffPair) (l : DiffLine) (answer : Result ℕ AllocError)
    → IsReady S order (differs S order k.first k.second) old t l
    → IfOk answer (λ p. p ≡ length t.lines.items) → OnOk answer (new.lines.items ≡ t.lines.items ++ l ∷ [])
    → IfOk answer (λ p. Updates pair_eq.it t.places new.places k (Some p))
    → IfOk answer (λ p. IsAdded S order (differs S order k.first k.second) old new p)
placed S order old t new k l (Err e) i at grown u = tt
placed S order old t new k l (Ok p) i at grown u =
    let h : List Bool → Bool = differs S order k.first k.second in
    let m : IsAdded S order h t new (length t.lines.items) =
    added S order t new k l i.table i.line grown (subst (λ n. Updates pair_eq.it t.places new.places k (Some n)) at u) in
    record { table = m.table; keeps = λ q z s. m.keeps q z (i.keeps q z s); place = subst (λ n. LineDenotes S.levels new.lines.items n h) (sym at) m.place }

-- ---- which functions can be 1

-- a later bit does not change what an earlier one says
line_satisfiable-set : (lines : List DiffLine) (bits satisfiable : List Bool) (i p : ℕ) (v : Bool) (l : DiffLine) → AreInOrder lines → slice_get lines p ≡ Some l
    → p ≤ i
    → line_satisfiable bits (set satisfiable i v) l ≡ line_satisfiable bits satisfiable l
line_satisfiable-set lines bits satisfiable i p v (Terminal b) o e le = refl
line_satisfiable-set lines bits satisfiable i p v (Branch d low high) o e le =
    let k = o p d low high e in
    let x = k.0 in
    let y = k.1 in
    ap (λ z. either (slice_get bits d) z (get_or (set satisfiable i v) high false)) (get_or-set_other satisfiable i low v false (λ same. absurd (omega arith)))
    ∙ ap (λ z. either (slice_get bits d) (get_or satisfiable low false) z) (get_or-set_other satisfiable i high v false (λ same. absurd (omega arith)))

pub marked_more : (lines : List DiffLine) (bits satisfiable : List Bool) (i : ℕ) (v : Bool) (x : DiffLine) → AreInOrder lines
    → slice_get lines i ≡ Some x → i < length satisfiable
    → v ≡ line_satisfiable bits satisfiable x → ((p : ℕ) (l : DiffLine) → p < i → slice_get lines p ≡ Some l → get_or satisfiable p false ≡ line_satisfiable bits satisfiable l)
    → (p : ℕ) (l : DiffLine) → p < i + 1 → slice_get lines p ≡ Some l → get_or (set satisfiable i v) p false ≡ line_satisfiable bits (set satisfiable i v) l
marked_more lines bits satisfiable i v x o at within is done p l lt e =
    elim (cases_lt p i) [
      | inl before ↦
          get_or-set_other satisfiable i p v false (λ same. absurd (omega arith)) ∙ done p l before e ∙ sym (line_satisfiable-set lines bits satisfiable i p v l o e (omega arith))
      | inr here ↦
          let same : i ≡ p = omega arith in
          let one : Some x ≡ Some l = sym at ∙ ap (slice_get lines) same ∙ e in
          let line : x ≡ l = cc in
          ap (λ k. get_or (set satisfiable i v) k false) (sym same) ∙ get_or-set_same satisfiable i v false within ∙ is ∙ ap (line_satisfiable bits satisfiable) line
          ∙ sym (line_satisfiable-set lines bits satisfiable i p v l o e (omega arith))
    ]

-- ---- what the bits say

-- the function of a line does not depend on a variable that no line reads
lines_free : (n : ℕ) (lines : List DiffLine) (reads : List Bool) (d : ℕ) → AreRead lines reads → get_or reads d false ≡ false
    → (p : ℕ) (h : List Bool → Bool) → LineDenotes n lines p h → IsIndependentOf n d h
lines_free n lines reads d all off _ _ (terminal p h c e q) b x len = q (set x d b) (length-set x d b ∙ len) ∙ sym (q x len)
lines_free n lines reads d all off _ _ (branch p h v low high lo hi e s t f g q) b x len =
    q (set x d b) (length-set x d b ∙ len)
    ∙ ap (λ c. cond c (hi (set x d b)) (lo (set x d b))) (get_or-set_other x d v b false (λ same. other same))
    ∙ ap (λ z. cond (get_or x v false) z (lo (set x d b))) (lines_free n lines reads d all off high hi t b x len)
    ∙ ap (λ z. cond (get_or x v false) (hi x) z) (lines_free n lines reads d all off low lo s b x len)
    ∙ sym (q x len)
  where
    other : v ≡ d → ⊥
    other same =
        let on : get_or reads v false ≡ true = all p v low high e in
        let f : get_or reads d false ≡ true = subst (λ k. get_or reads k false ≡ true) same on in
        let g : true ≡ false = sym f ∙ off in
        cc

-- the bit of a place says whether its function can be 1
IsAbleIff : (n : ℕ) (bits satisfiable : List Bool) → ℕ → (List Bool → Bool) → Type 0
IsAbleIff n bits satisfiable p h = (get_or satisfiable p false ≡ true → Can n h bits) × (Can n h bits → get_or satisfiable p false ≡ true)

module _ (n : ℕ) (lines : List DiffLine) (bits satisfiable : List Bool) (terminal_case : length bits ≤ n) (a : AreSatisfiable lines bits satisfiable) where
  -- some assignment has the bits
  some : List Bool
  some = bits ++ replicate (n - length bits) false

  of_constant : (h : List Bool → Bool) → Agree n h (λ x. true) → Can n h bits
  unfolding some
  of_constant h q =
      let full : length some ≡ n =
      length-append bits (replicate (n - length bits) false) ∙ ap (λ k. length bits + k) (length-replicate (n - length bits) false) ∙ omega arith in
      record {
        at = some;
        size = full;
        begins = λ k lt. get_or_append_left bits (replicate (n - length bits) false) false k lt;
        one = q some full;
      }

  -- an assignment at which the function is 1 is one at which the function chosen by its bit is 1
  to_chosen : (d : ℕ) (h lo hi : List Bool → Bool) → IsChoice n d h lo hi → (z : Can n h bits) (b : Bool) → get_or z.at d false ≡ b
      → Can n (cond b hi lo) bits
  to_chosen d h lo hi k z true is = record {
    at = z.at;
    size = z.size;
    begins = z.begins;
    one = ap (λ c. cond c (hi z.at) (lo z.at)) (sym is) ∙ sym (k.chosen z.at z.size) ∙ z.one;
  }
  to_chosen d h lo hi k z false is = record {
    at = z.at;
    size = z.size;
    begins = z.begins;
    one = ap (λ c. cond c (hi z.at) (lo z.at)) (sym is) ∙ sym (k.chosen z.at z.size) ∙ z.one;
  }

  from_chosen : (d : ℕ) (h lo hi : List Bool → Bool) → IsChoice n d h lo hi → (b : Bool) (z : Can n (cond b hi lo) bits)
      → get_or z.at d false ≡ b → Can n h bits
  from_chosen d h lo hi k true z is = record {
    at = z.at;
    size = z.size;
    begins = z.begins;
    one = k.chosen z.at z.size ∙ ap (λ c. cond c (hi z.at) (lo z.at)) is ∙ z.one;
  }
  from_chosen d h lo hi k false z is = record {
    at = z.at;
    size = z.size;
    begins = z.begins;
    one = k.chosen z.at z.size ∙ ap (λ c. cond c (hi z.at) (lo z.at)) is ∙ z.one;
  }

  -- any assignment, if the bit is not fixed
  set_bit : (d : ℕ) (g : List Bool → Bool) → IsIndependentOf n d g → length bits ≤ d → (b : Bool) → Can n g bits → Can n g bits
  set_bit d g f past b z = record {
    at = set z.at d b;
    size = length-set z.at d b ∙ z.size;
    begins = λ k lt. get_or-set_other z.at d k b false (λ same. absurd (omega arith)) ∙ z.begins k lt;
    one = f b z.at z.size ∙ z.one;
  }

  free_low : (d : ℕ) (h lo hi : List Bool → Bool) → IsChoice n d h lo hi → length bits ≤ d → Can n lo bits → Can n h bits
  unfolding set_bit
  free_low d h lo hi k past z =
      let lt : d < n = k.variable in
      let wide : length z.at ≡ n = z.size in
      from_chosen d h lo hi k false (set_bit d lo k.low past false z) (get_or-set_same z.at d false false (omega arith))

  free_high : (d : ℕ) (h lo hi : List Bool → Bool) → IsChoice n d h lo hi → length bits ≤ d → Can n hi bits → Can n h bits
  unfolding set_bit
  free_high d h lo hi k past z =
      let lt : d < n = k.variable in
      let wide : length z.at ≡ n = z.size in
      from_chosen d h lo hi k true (set_bit d hi k.high past true z) (get_or-set_same z.at d true false (omega arith))

  choice_able : (p d low high : ℕ) (h lo hi : List Bool → Bool) → slice_get lines p ≡ Some (Branch d low high) → IsChoice n d h lo hi
      → IsAbleIff n bits satisfiable low lo → IsAbleIff n bits satisfiable high hi → IsAbleIff n bits satisfiable p h
  unfolding IsAbleIff
  choice_able p d low high h lo hi e k l m =
      let line : get_or satisfiable p false ≡ either (slice_get bits d) (get_or satisfiable low false) (get_or satisfiable high false) = a p (Branch d low high) e in
      elim (cases_lt d (length bits)) [
        | inl lt ↦
            let is : get_or satisfiable p false ≡ cond (get_or bits d false) (get_or satisfiable high false) (get_or satisfiable low false) =
            line ∙ ap (λ z. either z (get_or satisfiable low false) (get_or satisfiable high false)) (slice_get-get_or bits d false lt) in
            fixed lt (get_or bits d false) refl is
        | inr past ↦
            let is : get_or satisfiable p false ≡ (get_or satisfiable low false || get_or satisfiable high false) =
            line ∙ ap (λ z. either z (get_or satisfiable low false) (get_or satisfiable high false)) (slice_get_past bits d past) in (
              λ t. elim (or_cases (get_or satisfiable low false) (get_or satisfiable high false) (sym is ∙ t)) [
                | inl x ↦ free_low d h lo hi k past (l.0 x)
                | inr x ↦ free_high d h lo hi k past (m.0 x)
              ],
              λ z. elim (cases_Bool (get_or z.at d false)) [
                | inl t ↦ is ∙ or_right (get_or satisfiable low false) (get_or satisfiable high false) (m.1 (to_chosen d h lo hi k z true t))
                | inr t ↦ is ∙ or_left (get_or satisfiable low false) (get_or satisfiable high false) (l.1 (to_chosen d h lo hi k z false t))
              ],
            )
      ]
    where
      fixed : d < length bits → (b : Bool) → get_or bits d false ≡ b
          → get_or satisfiable p false ≡ cond b (get_or satisfiable high false) (get_or satisfiable low false)
          → IsAbleIff n bits satisfiable p h
      fixed lt true at is = (
        λ t. let z : Can n hi bits = m.0 (sym is ∙ t) in from_chosen d h lo hi k true z (z.begins d lt ∙ at),
        λ z. is ∙ m.1 (to_chosen d h lo hi k z true (z.begins d lt ∙ at)),
      )
      fixed lt false at is = (
        λ t. let z : Can n lo bits = l.0 (sym is ∙ t) in from_chosen d h lo hi k false z (z.begins d lt ∙ at),
        λ z. is ∙ l.1 (to_chosen d h lo hi k z false (z.begins d lt ∙ at)),
      )

  module _ (of : ReadVariablesBelow n lines) where
    able_iff : (p : ℕ) (h : List Bool → Bool) → LineDenotes n lines p h → IsAbleIff n bits satisfiable p h
    unfolding IsAbleIff
    able_iff _ _ (terminal p h b e q) =
        let is : get_or satisfiable p false ≡ b = a p (Terminal b) e in
        (λ t. of_constant h (λ x len. q x len ∙ sym is ∙ t), λ z. is ∙ sym (q z.at z.size) ∙ z.one)
    able_iff _ _ (branch p h d low high lo hi e s t f g q) =
        choice_able p d low high h lo hi e (record { variable = of p d low high e; low = f; high = g; chosen = q }) (able_iff low lo s) (able_iff high hi t)

    pub able_can : (p : ℕ) (h : List Bool → Bool) → LineDenotes n lines p h → get_or satisfiable p false ≡ true → Can n h bits
    unfolding IsAbleIff
    able_can p h s t = (able_iff p h s).0 t

    pub unable_cannot : (p : ℕ) (h : List Bool → Bool) → LineDenotes n lines p h → get_or satisfiable p false ≡ false → Can n h bits → ⊥
    unfolding IsAbleIff
    unable_cannot p h s f z = let t : get_or satisfiable p false ≡ true = (able_iff p h s).1 z in let g : true ≡ false = sym t ∙ f in cc

-- ---- one more variable

module _ (n : ℕ) (lines : List DiffLine) (of : ReadVariablesBelow n lines) (root : ℕ) (h : List Bool → Bool) (stands : LineDenotes n lines root h) where
  pub turn_free : (reads bits more : List Bool) → length bits < n → AreRead lines reads → get_or reads (length bits) false ≡ false
      → more ≡ bits ++ false ∷ []
      → IsFixed n h bits → IsFixed n h more
  turn_free reads bits more lt all off is g =
      subst (IsFixed n h) (sym is) (fixed_free n h bits lt (lines_free n lines reads (length bits) all off root h stands) g)

  pub turn_zero : (satisfiable bits tried more : List Bool) → length bits < n → tried ≡ bits ++ false ∷ [] → AreSatisfiable lines tried satisfiable
      → get_or satisfiable root false ≡ true
      → more ≡ bits ++ false ∷ [] → IsFixed n h bits → IsFixed n h more
  turn_zero satisfiable bits tried more lt is marks on last g =
      let long : length (bits ++ false ∷ []) ≡ length bits + 1 = length_push bits false in
      let marks' : AreSatisfiable lines (bits ++ false ∷ []) satisfiable = subst (λ z. AreSatisfiable lines z satisfiable) is marks in
      subst (IsFixed n h) (sym last) (fixed_zero n h bits (able_can n lines (bits ++ false ∷ []) satisfiable (omega arith) marks' of root h stands on) g)

  pub turn_one : (satisfiable bits tried more : List Bool) → length bits < n → tried ≡ bits ++ false ∷ [] → AreSatisfiable lines tried satisfiable
      → get_or satisfiable root false ≡ false
      → more ≡ bits ++ true ∷ [] → IsFixed n h bits → IsFixed n h more
  turn_one satisfiable bits tried more lt is marks off last g =
      let long : length (bits ++ false ∷ []) ≡ length bits + 1 = length_push bits false in
      let marks' : AreSatisfiable lines (bits ++ false ∷ []) satisfiable = subst (λ z. AreSatisfiable lines z satisfiable) is marks in
      subst (IsFixed n h) (sym last) (fixed_one n h bits (unable_cannot n lines (bits ++ false ∷ []) satisfiable (omega arith) marks' of root h stands off) g)

-- what is read of a vector that was written through a slice
pub read_back : {Z : Type 0} (v : Vec Bool Z) (ws : List Bool) (i : ℕ) (x b : Bool) → length ws ≡ v.len → i < length ws
    → x ≡ get_or (with_items v ws).items i x → x ≡ b → get_or ws i false ≡ b
read_back v ws i x b len lt e is =
    let same : (with_items v ws).items ≡ ws = with_items_is v ws len in
    let read : x ≡ get_or ws i x = e ∙ ap (λ z. get_or z i x) same in
    sym (get_or_read ws i x lt read false) ∙ is
