-- Level by level, from the last.
use Rattle.std.proofs.Common.{◌≡◌, ℕ, ◌+◌, ◌<◌, ◌≤◌, ◌⊎◌, inl, inr, Bool, List, [], length, ap, sym, ◌∙◌, subst, arith, Contains}
use Rattle.std.proofs.Math.Nat.{eq-or-lt_of_le}
use Rattle.std.proofs.Math.ListN.{get_or-eq_default}
use Rattle.std.proofs.lemmas.Bool.{cases_lt}
use Rattle.dd_store.specs.declared.reference.Ref.{Ref}
use Rattle.req_table.specs.declared.Key.{Key}
use Rattle.req_table.specs.declared.Child.{Child}
use Rattle.req_table.specs.declared.Child.TheVariants.{Done, Ask}
use Rattle.req_table.specs.declared.Record.{Record}
use Rattle.dd_store.specs.Nodes.{Nodes, IsSound, count_of}
use Rattle.reduce_up.specs.Reducing.{IsRecordAt, IsChild, HasAnswer, IsReady, AddsDescribed, AskedBy, IsRow, IsRowReduced, IsRowWithin}
use Rattle.req_table.specs.Tables.{row_at}
use Rattle.reduce_up.specs.Levels.{IsAsked, AreRecords, AskedInRows, AreReducedFrom, AreReduced, IsWithinFrom}
use Rattle.reduce_up.proofs.Reduction.{record_kept, kept_meaning}
use Rattle.reduce_up.proofs.Noting.{nothing}
use Rattle.reduce_up.proofs.Adding.{adds_either, adds_then}

ready : (start : Nodes) (rows : List (List Record)) (v : ℕ) (s : Nodes) (pairs : List (Key × Ref)) (k : Key) (bit : Bool) (c : Child) → AreReducedFrom start rows (v + 1) s pairs → IsChild start v k bit c → IsAsked rows c → IsReady pairs c
ready start rows v s pairs k bit (Done r) d i a = tt
ready start rows v s pairs k bit (Ask l m b) d i a =
    let lt : v < l = i.0 in
    let fit : l < start.levels = i.1.bounded in
    subst (HasAnswer pairs) a.2 (d.done l a.0 (omega arith) fit a.1)

pub level_ready : (start : Nodes) (rows : List (List Record)) (v : ℕ) (s : Nodes) (pairs : List (Key × Ref)) → IsSound start → AreRecords start rows → v < start.levels → AreReducedFrom start rows (v + 1) s pairs → IsRow s pairs v (row_at rows v)
level_ready start rows v s pairs S R lt d = record {
  records = λ r c. record_kept start s S d.adds.keeps v r (R.records v r lt c);
  low_ready = λ r c. ready start rows v s pairs r.key Bool.false r.low d (R.records v r lt c).low (R.low_asked v r lt c);
  high_ready = λ r c. ready start rows v s pairs r.key Bool.true r.high d (R.records v r lt c).high (R.high_asked v r lt c);
}

-- what a row adds is described for the rows
pub level_adds : (start : Nodes) (rows : List (List Record)) (v : ℕ) (s u : Nodes) → IsSound start → IsSound s → AreRecords start rows → v < start.levels →
    AddsDescribed start s (AskedInRows start rows) → AddsDescribed s u (AskedBy s v (row_at rows v)) → AddsDescribed start u (AskedInRows start rows)
level_adds start rows v s u S T R lt i j = adds_then start s u T (AskedInRows start rows) i (adds_either s u (AskedBy s v (row_at rows v)) (AskedInRows start rows) (λ w f a. inl (of_rows w f a)) j)
  where
    of_rows : (w : ℕ) (f : List Bool → Bool) → AskedBy s v (row_at rows v) w f → AskedInRows start rows w f
    of_rows w f (at, (r, c, e)) =
        let key : IsRecordAt start v r = R.records v r lt c in
        (r, subst (λ w. Contains (row_at rows w) r) (sym at) c, λ x hx. e x (hx ∙ sym i.keeps.levels) ∙ kept_meaning start s S i.keeps r.key key.key.first key.key.second x)

level_within : (start : Nodes) (rows : List (List Record)) (v : ℕ) (s u : Nodes) → IsWithinFrom start rows (v + 1) s → IsRowWithin s (row_at rows v) u → IsWithinFrom start rows v u
level_within start rows v s u h (inl le) = inl le
level_within start rows v s u (inl le) (inr e) = inl (subst (λ z. count_of z ≤ z.limit) (sym e.1) le)
level_within start rows v s u (inr n) (inr e) = inr (λ w r le c. by w r (eq-or-lt_of_le le) c, e.1 ∙ n.1)
  where
    by : (w : ℕ) (r : Record) → (v ≡ w) ⊎ (v < w) → Contains (row_at rows w) r → ⊥
    by w r (inl same) c = nothing r (subst (λ z. Contains z r) (ap (row_at rows) (sym same) ∙ e.0) c)
    by w r (inr lt) c = n.0 w r (omega arith) c

pub level_next : (start : Nodes) (rows : List (List Record)) (v : ℕ) (s : Nodes) (pairs : List (Key × Ref)) (u : Nodes) (pairs' : List (Key × Ref)) → IsSound start → AreRecords start rows → v < start.levels →
    AreReducedFrom start rows (v + 1) s pairs → IsRowReduced s pairs v (row_at rows v) (length (row_at rows v)) u pairs' → IsRowWithin s (row_at rows v) u → AreReducedFrom start rows v u pairs'
level_next start rows v s pairs u pairs' S R lt d so within = record {
  held = so.held;
  adds = level_adds start rows v s u S d.held R lt d.adds so.adds;
  answers = so.answers;
  done = λ w r le fit c. by w r (eq-or-lt_of_le le) fit c;
  within = level_within start rows v s u d.within within;
}
  where
    by : (w : ℕ) (r : Record) → (v ≡ w) ⊎ (v < w) → w < start.levels → Contains (row_at rows w) r → HasAnswer pairs' r.key
    by w r (inl e) fit c =
        let c' : Contains (row_at rows v) r = subst (λ z. Contains (row_at rows z) r) (sym e) c in
        subst (λ z. HasAnswer pairs' z.key) c'.2 (so.done c'.0 r c'.1)
    by w r (inr l) fit c = so.more r.key (d.done w r (omega arith) fit c)

-- there is no row after the last level
pub past_rows : (rows : List (List Record)) (w : ℕ) (r : Record) → length rows ≤ w → Contains (row_at rows w) r → ⊥
past_rows rows w r le c = nothing r (subst (λ z. Contains z r) (get_or-eq_default rows [] le) c)

pub all_reduced : (start : Nodes) (rows : List (List Record)) (s : Nodes) (pairs : List (Key × Ref)) → AreRecords start rows → AreReducedFrom start rows 0 s pairs → AreReduced rows s pairs
all_reduced start rows s pairs R d = record { answers = d.answers; done = λ v r c. d.done v r (omega arith) (within v r c) c }
  where
    within : (v : ℕ) (r : Record) → Contains (row_at rows v) r → v < start.levels
    within v r c =
        let e : length rows ≡ start.levels = R.levels in
        elim (cases_lt v start.levels) [ inl lt ↦ lt | inr le ↦ absurd (past_rows rows v r (omega arith) c) ]
