-- The answer of a record from those of its children.
use Rattle.std.proofs.Common.{◌≡◌, ◌≢◌, ℕ, suc, ◌+◌, ◌<◌, ◌≤◌, ◌⊎◌, inl, inr, Bool, true, false, cond, List, [], ◌∷◌, ◌++◌, length, get_or, take, drop, refl, sym, ◌∙◌, ap, subst, arith, Contains}
use Rattle.std.specs.Prelude.{min, Result, Ok, Err, IfOk, OnErr}
use Rattle.dd_store.specs.declared.StoreFault.{StoreFault}
use Rattle.dd_store.specs.declared.StoreFault.TheVariants.{Full, OutOfMemory}
use Rattle.expand_work.specs.declared.fault.WaveFault.{WaveFault}
use Rattle.expand_work.specs.declared.fault.WaveFault.TheVariants as wave_faults
use Rattle.std.proofs.Math.Seq.{get_or-append_seam}
use Rattle.std.proofs.lemmas.List.{length-append, take-append-drop}
use Rattle.std.proofs.Math.ListN.{length-take, length-drop}
use Rattle.dd_store.specs.declared.reference.Ref.{Ref}
use Rattle.req_table.specs.declared.Key.{Key}
use Rattle.req_table.specs.declared.Child.{Child}
use Rattle.req_table.specs.declared.Child.TheVariants.{Done, Ask}
use Rattle.req_table.specs.declared.Record.{Record}
use Rattle.dd_store.specs.Functions.{Agree, OfEither}
use Rattle.dd_store.specs.Nodes.{node as node_at}
use Rattle.dd_store.specs.Complements.{complement_by, complemented}
use Rattle.dd_store.proofs.Complements.{top-complement_by, IsRef-complement_by, den-complement_by}
use Rattle.dd_store.specs.Parts.Part.{node}
use Rattle.dd_store.specs.Nodes.{Nodes, den, IsSound, IsDiagram, count_of}
use Rattle.dd_store.specs.View.{part, Has, top, Keeps, IsOneNode, IsMade}
use Rattle.reduce_up.specs.Reducing.{IsKeyAt, IsAnswer, IsAnswerAt, IsChild, IsRecordAt, AreAnswers, IsResolved, AddsDescribed, AskedBy, IsRowReduced, IsRecordFault, IsRowFault, ReducesRow, wave_fault}
use Rattle.req_table.specs.Keys.{meaning}
use Rattle.req_table.specs.TerminalCase.{op_value}
use Rattle.std.proofs.Math.Nat.{eq-or-lt_of_le}
use Rattle.reduce_up.proofs.Noting.{head_in}
use Rattle.reduce_up.proofs.Opposite.{one_node_either, one_node_part}
use Rattle.dd_store.proofs.View.{by_bit, kept_den, kept_top, top-node, keeps-refl}

-- the diagram of a child
pub resolved : (s : Nodes) (v : ℕ) (k : Key) (b : Bool) (child : Child) (pairs : List (Key × Ref)) (r : Ref) → IsChild s v k b child → AreAnswers s pairs → IsResolved pairs child r → IsAnswerAt s v k b r
resolved s v k b (Done d) pairs r i a e = subst (IsAnswerAt s v k b) (sym e) i
resolved s v k b (Ask l c m) pairs r i a (t, h, e) =
    let answer : IsAnswer s c t = a c t h in
    let lt : v < l = i.0 in
    let level : min (top s c.f) (top s c.g) ≡ l = i.1.level in
    let above : min (top s c.f) (top s c.g) ≤ top s t = answer.not_above in
    let same : top s (complement_by m t) ≡ top s t = top-complement_by s.levels m t in
    subst (IsAnswerAt s v k b) (sym e) (record {
      has = IsRef-complement_by (node_at s) m t answer.has;
      below = omega arith;
      denotes = λ q x hq hx. den-complement_by s m t (q ++ b ∷ x) ∙ ap (complemented m) (answer.denotes (q ++ b ∷ x) (simp length-append (omega arith))) ∙ i.2 q x hq hx;
    })

pub kept_meaning : (old new : Nodes) → IsSound old → Keeps old new → (k : Key) → Has old k.f → Has old k.g → (x : List Bool) → meaning new k x ≡ meaning old k x
kept_meaning old new S i k hf hg x = ap (λ b. op_value k.op b (den new k.g x)) (kept_den old new S i k.f hf x) ∙ ap (op_value k.op (den old k.f x)) (kept_den old new S i k.g hg x)

-- a diagram stays one
pub diagram_kept : (s u : Nodes) → IsSound s → Keeps s u → (f : List Bool → Bool) (r : Ref) → IsDiagram s r f → IsDiagram u r f
diagram_kept s u S K f r d = (K.has r d.0, λ x hx. kept_den s u S K r d.0 x ∙ d.1 x (hx ∙ K.levels))

-- functions that agree at both values of a bit agree
either : (n v : ℕ) (f g : List Bool → Bool) → v < n → ((b : Bool) (q x : List Bool) → length q ≡ v → v + suc (length x) ≡ n → f (q ++ b ∷ x) ≡ g (q ++ b ∷ x)) → Agree n f g
either n v f g lt h y hy = split (take v y) (drop v y) (simp length-take (omega arith)) (simp length-drop (omega arith)) (take-append-drop v y)
  where
    split : (q x : List Bool) → length q ≡ v → v + length x ≡ n → q ++ x ≡ y → f y ≡ g y
    split q [] hq hx e = absurd (omega arith)
    split q (b ∷ x) hq hx e = subst (λ z. f z ≡ g z) e (h b q x hq (omega arith))

-- in the new store the reference for the two children is the answer
pub made_answer : (old new : Nodes) (v : ℕ) (k : Key) (lo hi r : Ref) → IsSound old → IsSound new → IsKeyAt old v k → IsAnswerAt old v k false lo → IsAnswerAt old v k true hi → Keeps old new → Has new r → ((lo ≡ hi) × (r ≡ lo)) ⊎ ((lo ≢ hi) × (part new r ≡ node v lo hi)) → IsAnswer new k r
made_answer old new v k lo hi r S T key zero_side one_side K here is =
    by is
  where
    mean : (x : List Bool) → meaning new k x ≡ meaning old k x
    mean = kept_meaning old new S K k key.first key.second

    fit : v < new.levels
    fit = let a : v < old.levels = key.bounded in let b : new.levels ≡ old.levels = K.levels in omega arith

    level_is : min (top new k.f) (top new k.g) ≡ v
    level_is = ap (λ t. min t (top new k.g)) (kept_top old new K k.f) ∙ ap (min (top old k.f)) (kept_top old new K k.g) ∙ key.level

    zero_den : (q x : List Bool) → length q ≡ v → v + suc (length x) ≡ new.levels → den new lo (q ++ false ∷ x) ≡ meaning new k (q ++ false ∷ x)
    zero_den q x hq hx = kept_den old new S K lo zero_side.has (q ++ false ∷ x) ∙ zero_side.denotes q x hq (hx ∙ K.levels) ∙ sym (mean (q ++ false ∷ x))

    one_den : (q x : List Bool) → length q ≡ v → v + suc (length x) ≡ new.levels → den new hi (q ++ true ∷ x) ≡ meaning new k (q ++ true ∷ x)
    one_den q x hq hx = kept_den old new S K hi one_side.has (q ++ true ∷ x) ∙ one_side.denotes q x hq (hx ∙ K.levels) ∙ sym (mean (q ++ true ∷ x))

    equal_case : lo ≡ hi → (b : Bool) (q x : List Bool) → length q ≡ v → v + suc (length x) ≡ new.levels → den new lo (q ++ b ∷ x) ≡ meaning new k (q ++ b ∷ x)
    equal_case e true q x hq hx = ap (λ z. den new z (q ++ true ∷ x)) e ∙ one_den q x hq hx
    equal_case e false q x hq hx = zero_den q x hq hx

    node_case : part new r ≡ node v lo hi → (b : Bool) (q x : List Bool) → length q ≡ v → v + suc (length x) ≡ new.levels → den new r (q ++ b ∷ x) ≡ meaning new k (q ++ b ∷ x)
    node_case e b q x hq hx =
        let bit : get_or (q ++ b ∷ x) v false ≡ b = ap (λ i. get_or (q ++ b ∷ x) i false) (sym hq) ∙ get_or-append_seam q b x false in
        by_bit new T r v lo hi here e (q ++ b ∷ x) ∙ ap (λ c. den new (cond c hi lo) (q ++ b ∷ x)) bit ∙ side b
      where
        side : (b : Bool) → den new (cond b hi lo) (q ++ b ∷ x) ≡ meaning new k (q ++ b ∷ x)
        side true = one_den q x hq hx
        side false = zero_den q x hq hx

    by : ((lo ≡ hi) × (r ≡ lo)) ⊎ ((lo ≢ hi) × (part new r ≡ node v lo hi)) → IsAnswer new k r
    by (inl e) = record {
      first = K.has k.f key.first;
      second = K.has k.g key.second;
      has = here;
      not_above = let b : v < top old lo = zero_side.below in let t : top new lo ≡ top old lo = kept_top old new K lo in let u : top new r ≡ top new lo = ap (top new) e.1 in omega (arith, level_is);
      denotes = either new.levels v (den new r) (meaning new k) fit (λ b q x hq hx. ap (λ z. den new z (q ++ b ∷ x)) e.1 ∙ equal_case e.0 b q x hq hx);
    }
    by (inr e) = record {
      first = K.has k.f key.first;
      second = K.has k.g key.second;
      has = here;
      not_above = let t : top new r ≡ v = top-node new r v lo hi here e.1 in omega (arith, level_is);
      denotes = either new.levels v (den new r) (meaning new k) fit (node_case e.1);
    }

-- a function that agrees with one of a row's keys is one of a row's keys
pub asked_as : (s : Nodes) (v : ℕ) (row : List Record) (w : ℕ) (f g : List Bool → Bool) → Agree s.levels f g → AskedBy s v row w g → AskedBy s v row w f
asked_as s v row w f g a (at, (r, c, e)) = (at, (r, c, λ x hx. a x hx ∙ e x hx))

-- the only new node denotes the key's function, or its complement
pub made_adds : (old new : Nodes) (v : ℕ) (entry : Record) (lo hi r : Ref) → IsSound old → IsSound new → IsKeyAt old v entry.key → IsMade old new v lo hi r → IsAnswer new entry.key r → AddsDescribed old new (AskedBy old v (entry ∷ []))
made_adds old new v entry lo hi r S T key m a = record { keeps = m.keeps; described = λ n h. place n h (m.no_other n h) m.is }
  where
    asked : AskedBy old v (entry ∷ []) v (den new r)
    asked = (refl, (entry, (0, omega arith, refl), λ x hx. a.denotes x (hx ∙ sym (m.keeps.levels)) ∙ kept_meaning old new S m.keeps entry.key key.first key.second x))

    place : (n : Ref) → Has new n → Has old n ⊎ ((lo ≢ hi) × IsOneNode new n r) → ((lo ≡ hi) × (r ≡ lo)) ⊎ ((lo ≢ hi) × (part new r ≡ node v lo hi)) →
        Has old n ⊎ ((w : ℕ) × (lo : Ref) × (hi : Ref) × (part new n ≡ node w lo hi) × OfEither (AskedBy old v (entry ∷ []) w) (den new n))
    place n h (inl k) c = inl k
    place n h (inr e) (inl c) = absurd (e.0 c.0)
    place n h (inr e) (inr c) =
        let p = one_node_part new T n r v lo hi h m.has c.1 e.1 in
        inr (v, p.0, p.1, p.2, one_node_either new n r (AskedBy old v (entry ∷ []) v) (λ f g z. asked_as old v (entry ∷ []) v f g (λ x hx. z x (hx ∙ sym (m.keeps.levels)))) e.1 asked)

pub adds_none : (old new : Nodes) (Described : ℕ → (List Bool → Bool) → Type 0) → new ≡ old → AddsDescribed old new Described
adds_none old new Described e = subst (λ z. AddsDescribed old z Described) (sym e) (record { keeps = keeps-refl old; described = λ m h. inl h })

pub record_done : (old new : Nodes) (v : ℕ) (entry : Record) (lo hi : Ref) (result : Result Ref StoreFault) → IsSound old → IsSound new → IsKeyAt old v entry.key → IsAnswerAt old v entry.key false lo → IsAnswerAt old v entry.key true hi →
    IfOk result (λ r. IsMade old new v lo hi r) → OnErr result (new ≡ old) →
    IfOk result (λ r. IsAnswer new entry.key r) × AddsDescribed old new (AskedBy old v (entry ∷ []))
record_done old new v entry lo hi (Ok r) S T key zero_side one_side m e =
    let a : IsAnswer new entry.key r = made_answer old new v entry.key lo hi r S T key zero_side one_side m.keeps m.has m.is in
    (a, made_adds old new v entry lo hi r S T key m a)
record_done old new v entry lo hi (Err f) S T key zero_side one_side m e = (tt, adds_none old new (AskedBy old v (entry ∷ [])) e)

-- an answer stays one
pub answer_kept : (a b : Nodes) → IsSound a → Keeps a b → (k : Key) (r : Ref) → IsAnswer a k r → IsAnswer b k r
answer_kept a b S K k r i = record {
  first = K.has k.f i.first;
  second = K.has k.g i.second;
  has = K.has r i.has;
  not_above =
      let f : top b k.f ≡ top a k.f = kept_top a b K k.f in
      let g : top b k.g ≡ top a k.g = kept_top a b K k.g in
      let h : top b r ≡ top a r = kept_top a b K r in
      let z : min (top a k.f) (top a k.g) ≤ top a r = i.not_above in
      omega arith;
  denotes = λ x hx. kept_den a b S K r i.has x ∙ i.denotes x (hx ∙ K.levels) ∙ sym (kept_meaning a b S K k i.first i.second x);
}

key_kept : (a b : Nodes) → Keeps a b → (v : ℕ) (k : Key) → IsKeyAt a v k → IsKeyAt b v k
key_kept a b K v k i = record {
  first = K.has k.f i.first;
  second = K.has k.g i.second;
  level = let f : top b k.f ≡ top a k.f = kept_top a b K k.f in let g : top b k.g ≡ top a k.g = kept_top a b K k.g in let h : min (top a k.f) (top a k.g) ≡ v = i.level in ap (λ t. min t (top b k.g)) f ∙ ap (min (top a k.f)) g ∙ h;
  bounded = let l : b.levels ≡ a.levels = K.levels in let h : v < a.levels = i.bounded in omega arith;
}

child_kept : (a b : Nodes) → IsSound a → Keeps a b → (v : ℕ) (k : Key) (bit : Bool) (c : Child) → IsKeyAt a v k → IsChild a v k bit c → IsChild b v k bit c
child_kept a b S K v k bit (Done r) key i = record {
  has = K.has r i.has;
  below = let t : top b r ≡ top a r = kept_top a b K r in let z : v < top a r = i.below in omega arith;
  denotes = λ q x hq hx. kept_den a b S K r i.has (q ++ bit ∷ x) ∙ i.denotes q x hq (hx ∙ K.levels) ∙ sym (kept_meaning a b S K k key.first key.second (q ++ bit ∷ x));
}
child_kept a b S K v k bit (Ask l c m) key i =
    (i.0, key_kept a b K l c i.1, λ q x hq hx. ap (complemented m) (kept_meaning a b S K c i.1.first i.1.second (q ++ bit ∷ x)) ∙ i.2 q x hq (hx ∙ K.levels) ∙ sym (kept_meaning a b S K k key.first key.second (q ++ bit ∷ x)))

pub record_kept : (a b : Nodes) → IsSound a → Keeps a b → (v : ℕ) (r : Record) → IsRecordAt a v r → IsRecordAt b v r
record_kept a b S K v r i = record {
  key = key_kept a b K v r.key i.key;
  low = child_kept a b S K v r.key false r.low i.key i.low;
  high = child_kept a b S K v r.key true r.high i.key i.high;
}

pub none_past : (start : Nodes) (before : List (Key × Ref)) (v : ℕ) (row : List Record) (i : ℕ) (s : Nodes) (pairs : List (Key × Ref)) → IsRowReduced start before v row i s pairs → IsRowReduced start before v row 0 s pairs
none_past start before v row i s pairs so = record { held = so.held; adds = so.adds; answers = so.answers; more = so.more; done = λ j d lt. absurd (omega arith) }

-- the cause of a row's fault if a record is refused
pub row_fault : (s : Nodes) (v : ℕ) (row : List Record) (entry : Record) (e : StoreFault) → Contains row entry → IsRecordFault s v entry.key e → IsRowFault s v row (wave_fault e)
row_fault s v row entry OutOfMemory c f = tt
row_fault s v row entry Full c f = (entry, c, elim (eq-or-lt_of_le f.0) [ inl e ↦ inr (sym e, f.1) | inr lt ↦ inl lt ])

-- the cause of a row's fault if the store has more nodes than its limit
pub row_over : (s : Nodes) (v : ℕ) (row : List Record) → 0 < length row → s.limit < count_of s → IsRowFault s v row wave_faults.Full
row_over s v [] some over = absurd (omega arith)
row_over s v (r ∷ row) some over = (r, head_in r row, inl over)

-- a row of which some records have no answer
pub row_given_up : (start : Nodes) (before : List (Key × Ref)) (v : ℕ) (row : List Record) (i : ℕ) (s : Nodes) (pairs : List (Key × Ref)) (e : WaveFault) → IsRowReduced start before v row i s pairs → IsRowFault s v row e → ReducesRow start before v row (Err e) s pairs
row_given_up start before v row i s pairs e so f = record { left = none_past start before v row i s pairs so; whole = tt; fault = f }

-- a row whose records all have answers
pub row_whole : (start : Nodes) (before : List (Key × Ref)) (v : ℕ) (row : List Record) (s : Nodes) (pairs : List (Key × Ref)) → IsRowReduced start before v row (length row) s pairs → ReducesRow start before v row (Ok tt) s pairs
row_whole start before v row s pairs so = record { left = none_past start before v row (length row) s pairs so; whole = so; fault = tt }
