-- Fair lists, lists by sender and numbers of Ends, of lists that are joined.
use Rattle.std.proofs.Common.{◌≡◌, ℕ, ◌+◌, ◌<◌, ◌≤◌, List, [], ◌∷◌, ◌++◌, refl, ap, subst, arith}
use Rattle.req_table.specs.declared.Key.{Key}
use Rattle.req_table.specs.declared.Item.{Item}
use Rattle.req_table.specs.declared.Item.TheVariants.{Ask, End}
use Rattle.req_table.specs.Wave.{Scope}
use Rattle.req_table.specs.Lanes.{sent_by, ends, asks, IsFairFrom, IsFair, LaneLaw, IsClosed}
use Rattle.req_table.proofs.Lists.{has_of}
use Rattle.req_table.proofs.Items.{sent_by_of}
use Rattle.req_table.proofs.Fair.{fair_back, fair_end, fair_front, sent_by-self, taken_prefix}

pub asks-append : (xs ys : List Item) → asks (xs ++ ys) ≡ asks xs ++ asks ys
asks-append [] ys = refl
asks-append (Ask s l x ∷ xs) ys = ap (λ k. x ∷ k) (asks-append xs ys)
asks-append (End s l ∷ xs) ys = asks-append xs ys

pub fair_ends : (w : Scope) (e : ℕ) (xs : List Item) → IsFairFrom w e xs → e ≤ w.levels → e + ends xs ≤ w.levels
fair_ends w e [] f l = omega arith
fair_ends w e (Ask t m y ∷ xs) f l = fair_ends w e xs f.1 l
fair_ends w e (End t m ∷ xs) f l = let a = f.0.0 in let b = f.0.1 in let i = fair_ends w (e + 1) xs f.1 (omega arith) in omega arith

-- an Ask at the front of a lane is of no closed level
pub front_open : (w : Scope) (sent : ℕ → List Item) (taken rest : List Item) (s l : ℕ) (x : Key)
    → LaneLaw w sent taken (Ask s l x ∷ rest) → s < w.workers → IsFair w (sent s) → ¬ IsClosed w l taken
front_open w sent taken rest s l x law sb fair closed =
    let f = subst (λ m. IsFairFrom w 0 m) (taken_prefix w sent taken (Ask s l x ∷ rest) s law sb) fair in
    let g = subst (λ m. IsFairFrom w (0 + ends (sent_by s taken)) m) (sent_by-self (Ask s l x) rest) (fair_back w 0 (sent_by s taken) (sent_by s (Ask s l x ∷ rest)) f) in
    let a = fair_end w 0 (sent_by s taken) s l (fair_front w 0 (sent_by s taken) (sent_by s (Ask s l x ∷ rest)) f) (sent_by_of s taken (End s l) (has_of taken (End s l) (closed s sb)) refl) in
    let b = g.0.0 in omega arith
