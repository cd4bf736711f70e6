-- Reading out what is left, lane by lane.
use Rattle.std.proofs.Common.{◌≡◌, ℕ, ◌+◌, ◌<◌, List, [], ◌∷◌, ◌++◌, map, length, get_or, set, sym, refl, ap, ◌∙◌, subst, arith}
use Rattle.std.specs.Prelude.{slice_index_or}
use Rattle.std.proofs.lemmas.List.{length-append, map-append, get_or_append_left}
use Rattle.std.proofs.Math.Seq.{get_or-append_seam}
use mathlib.Core.Logic.{dite}
use native.Mathlib.Decide.{ℕ_discrete}
use Rattle.crossbeam_queue.specs.SegTies.{IsSegPassOf}
use Rattle.req_table.specs.declared.Item.{Item}
use Rattle.req_table.specs.declared.Sizes.{Sizes}
use Rattle.lane_queue.specs.declared.load.Load.{Load}
use Rattle.lane_queue.specs.Loads.{flat}
use Rattle.lane_queue.specs.declared.rule.View.{View}
use Rattle.lane_queue.specs.declared.rule.Lane.{Lane}
use Rattle.lane_queue.specs.declared.make.RootPass.{RootPass}
use Rattle.req_table.specs.Sizes.{scope_of}
use Rattle.req_table.specs.Lanes.{LaneLaw}
use Rattle.lane_queue.specs.Lists.{FairLane}
use Rattle.lane_queue.specs.Rule.{scope, joined}
use Rattle.lane_queue.specs.PortView.{PortView, passed_to}
use Rattle.lane_queue.specs.Joining.{root_pass_view, retired, all_ports_view, ArePassesOfAll, AreRetired, passed_from, popped_by}
use Rattle.lane_queue.proofs.Rounds.{Turned, turned-more, still}
use Rattle.lane_queue.proofs.Settling.{map-alike}

pub record Read (workers : ℕ) (sizes : Sizes) (k : ℕ) (ports : List PortView) (roots roots' : List RootPass) (left : List (List Load)) : Type 0 where
  pub turned : Turned k roots roots'
  pub lengths : length left ≡ k
  pub law : (i : ℕ) → i < k → LaneLaw (scope_of workers sizes) (passed_from ports i) (popped_by ports i) (flat (slice_index_or left i [])) × FairLane (scope_of workers sizes) (passed_from ports i)

-- a lane's read, if the other lanes' passes are as before
pub as-joined : (workers : ℕ) (sizes : Sizes) (k : ℕ) (lanes : List Lane) (ports : List PortView) (roots roots' : List RootPass) (lane : Lane) (root : RootPass) → ArePassesOfAll workers sizes ports lanes roots → Turned k roots roots' → k < workers → length lanes ≡ workers
    → lane ≡ get_or lanes k lane → root ≡ get_or roots' k root → IsSegPassOf lane.queue root.pass × (root_pass_view root ≡ all_ports_view workers sizes ports k)
as-joined workers sizes k lanes ports roots roots' lane root h t lt lengths at is = let z = h.0 in let r = h.1 k lane root lt in let s = still k roots roots' root root t (omega arith) is in
    (subst (λ (y : Lane × RootPass). IsSegPassOf y.0.queue y.1.pass) (λ j. (sym at j, s j)) r.0, ap root_pass_view (sym s) ∙ r.1)

pub read-more : {X : Type 0} (items : X → List Load) (workers : ℕ) (sizes : Sizes) (k : ℕ) (ports : List PortView) (roots roots' : List RootPass) (left left' : List X) (x : X) (v : View) (root : RootPass)
    → Read workers sizes k ports roots roots' (map items left) → v ≡ all_ports_view workers sizes ports k
    → LaneLaw (scope v.terms) (λ s. slice_index_or v.sent s []) v.taken (flat (items x)) × FairLane (scope v.terms) (λ s. slice_index_or v.sent s [])
    → left' ≡ left ++ x ∷ [] → Read workers sizes (k + 1) ports roots (set roots' k root) (map items left')
read-more items workers sizes k ports roots roots' left left' x v root h e law is =
    let m : map items left' ≡ map items left ++ items x ∷ [] = ap (λ l. map items l) is ∙ map-append items left (x ∷ []) in
    let here = subst (λ (u : View). LaneLaw (scope u.terms) (λ s. slice_index_or u.sent s []) u.taken (flat (items x)) × FairLane (scope u.terms) (λ s. slice_index_or u.sent s [])) e law in
    subst (λ l. Read workers sizes (k + 1) ports roots (set roots' k root) l) (sym m) (record {
      turned = turned-more k roots roots' root h.turned;
      lengths = length-append (map items left) (items x ∷ []) ∙ ap (λ n. n + 1) h.lengths;
      law = λ i less. dite (ℕ_discrete i k)
          (λ q. let b : items x ≡ slice_index_or (map items left ++ items x ∷ []) i [] = sym (get_or-append_seam (map items left) (items x) [] []) ∙ ap (λ n. slice_index_or (map items left ++ items x ∷ []) n []) (h.lengths ∙ sym q) in
          subst (λ (y : ℕ × List Load). LaneLaw (scope_of workers sizes) (passed_from ports y.0) (popped_by ports y.0) (flat y.1) × FairLane (scope_of workers sizes) (passed_from ports y.0)) (λ j. (sym q j, b j)) here)
          (λ q. let z = h.lengths in subst (λ l. LaneLaw (scope_of workers sizes) (passed_from ports i) (popped_by ports i) (flat l) × FairLane (scope_of workers sizes) (passed_from ports i)) (sym (get_or_append_left (map items left) (items x ∷ []) [] i (omega arith))) (h.law i (omega arith)));
    })

-- ---- a port that has given its passes away still has its lists
pub have-retired : (workers : ℕ) (sizes : Sizes) (ports ports' : List PortView) (lanes : List Lane) (roots : List RootPass) → length ports ≡ workers → AreRetired workers ports ports' → ArePassesOfAll workers sizes ports lanes roots → ArePassesOfAll workers sizes ports' lanes roots
have-retired workers sizes ports ports' lanes roots lengths h r = (
  r.0,
  λ i d e lt. let a = r.1 i d e lt in
      let n : length ports ≡ length ports' = lengths ∙ sym h.0 in
      let same : (f : PortView → List Item) → ((p : PortView) → f (retired p) ≡ f p) → map f ports ≡ map f ports' = λ f g. map-alike f f ports ports' n (λ j p less. let z = h.0 in sym (ap f (h.1 j p (omega arith)) ∙ g (get_or ports j p))) in
      (a.0, a.1 ∙ (λ j. joined (all_ports_view workers sizes ports i).terms (n j) (same (λ p. passed_to p i) (λ p. refl) j) (slice_index_or (same (λ p. p.popped) (λ p. refl) j) i []) [])),
)
