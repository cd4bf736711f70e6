-- What each step on a queue requires, for a view of the kind that the step is for.
use Rattle.std.proofs.Common.{◌≡◌, ◌≢◌, ℕ, ◌+◌, ◌<◌, [], ◌++◌, sym, ap, ◌∙◌, subst, ⊎_elim}
use Rattle.crossbeam_queue.specs.Fifo.{Pushes, Pops, Forks, Merges, Learns}
use Rattle.lane_queue.specs.declared.rule.Terms.{Terms}
use Rattle.lane_queue.specs.declared.rule.View.{View}
use Rattle.req_table.specs.Lanes.{ends}
use Rattle.lane_queue.specs.declared.load.Load.{Load}
use Rattle.lane_queue.specs.Loads.{load_from, IsNonEmpty, MayFollowAll}
use Rattle.lane_queue.specs.Rule.{scope, blank, spent, issuer, joined, port, Holds, Sends, Takes, OwnSentInOrder, Reads, AllPortsLawful, own_sent, IsPort, IsJoined, IsOfAllPorts, MayIssue}
use Rattle.lane_queue.proofs.Moves.{pushes, pops, owns}
use Rattle.lane_queue.proofs.Passes.{issues_first, issues, merges, reads, all_ports_lawful}

pub issuing : (i : ℕ) (c : Terms) (v : View) → MayIssue c v → Forks Holds i v (issuer c (v.low + 1)) (port c v.low [] [])
issuing i c v h = let P : View → Type 0 = λ u. Forks Holds i u (issuer c (u.low + 1)) (port c u.low [] []) in
    ⊎_elim (λ (e : v ≡ blank). subst P (sym e) (issues_first i c (subst (λ (u : View). u.low < c.workers) e h.1) h.2))
    (λ (e : v ≡ issuer c v.low). subst P (sym e) (issues i c v.low h.1)) h.0

pub sending : (n i : ℕ) (v : View) (x : Load) → IsPort v → IsNonEmpty x → load_from x ≡ v.low → MayFollowAll (scope v.terms) (ends (own_sent v)) x → Pushes Holds n i v x (Sends v x)
sending n i v x h carries from may = subst (λ (u : View). Pushes Holds n i u x (Sends u x)) (sym h) (pushes n i v.terms v.low (own_sent v) v.taken x carries from may)

pub taking : (i : ℕ) (v : View) → IsPort v → v.low ≡ v.terms.owner → Pops Holds i v (Takes v)
taking i v h mine = subst (λ (u : View). Pops Holds i u (Takes u)) (sym h) (pops i v.terms v.low (own_sent v) v.taken mine)

pub owning : (i : ℕ) (v : View) → IsPort v → v.low ≡ v.terms.owner → Learns Holds i v (OwnSentInOrder v)
owning i v h mine = subst (λ (u : View). Learns Holds i u (OwnSentInOrder u)) (sym h) (owns i v.terms v.low (own_sent v) v.taken mine)

abbrev pub Joins : View → View → View
Joins v w = joined v.terms (v.high + 1) (v.sent ++ w.sent) (v.taken ++ w.taken) []

pub joining : (i : ℕ) (v : View) (other : ℕ) (w : View) → IsJoined v → v.left ≡ [] → IsPort w → w.terms ≡ v.terms → w.low ≡ v.high
    → (v.high ≢ v.terms.owner → w.taken ≡ []) → ((v.terms.owner < v.high → ⊥) → v.taken ≡ [])
    → Merges Holds i v other w (Joins v w) spent
joining i v other w h none k terms low theirs mine =
    let e : v ≡ joined v.terms v.high v.sent v.taken [] = h.0 ∙ ap (λ l. joined v.terms v.high v.sent v.taken l) none in
    let f : w ≡ port v.terms v.high (own_sent w) w.taken = k ∙ (λ t. port (terms t) (low t) (own_sent w) w.taken) in
    subst (λ (u : View × View). Merges Holds i u.0 other u.1 (Joins u.0 u.1) spent) (λ t. (sym e t, sym f t))
    (merges i v.terms v.high v.sent v.taken other (own_sent w) w.taken h.1 theirs mine)

pub reading : (i : ℕ) (v : View) → IsOfAllPorts v → Pops Holds i v (Reads v)
reading i v h = subst (λ (u : View). Pops Holds i u (Reads u)) (sym h.0) (reads i v.terms v.sent v.taken v.left h.1)

pub knowing : (i : ℕ) (v : View) → IsOfAllPorts v → Learns Holds i v (AllPortsLawful v)
knowing i v h = subst (λ (u : View). Learns Holds i u (AllPortsLawful u)) (sym h.0) (all_ports_lawful i v.terms v.sent v.taken v.left h.1)
