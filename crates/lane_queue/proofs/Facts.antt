-- Lists of items: those of one sender, and what keeps a list fair.
use Rattle.std.proofs.Common.{◌≡◌, ◌≢◌, ℕ, zero, suc, ◌+◌, ◌<◌, cond, List, [], ◌∷◌, ◌++◌, refl, sym, ap, ◌∙◌, subst, arith, eq-eqb, ne_eqb, append_assoc, map, length}
use Rattle.std.specs.Prelude.{All}
use Rattle.std.proofs.lemmas.List.{append-nil, length-append, get_or_append_left}
use Rattle.req_table.specs.declared.Item.{Item}
use Rattle.req_table.specs.declared.Item.TheVariants.{End}
use Rattle.req_table.specs.declared.Key.{Key}
use Rattle.req_table.specs.Wave.{Scope}
use Rattle.req_table.specs.Lanes.{sender_of, sent_by, ends, MayFollow, IsFairFrom, IsFair, HasSenders, LaneLaw}
use Rattle.lane_queue.specs.declared.load.Load.{Load}
use Rattle.lane_queue.specs.declared.load.Load.TheVariants.{Bundle, End as load_end}
use Rattle.lane_queue.specs.Loads.{load_from, ask_of, items_in, flat, IsNonEmpty, MayFollowAll}
use Rattle.req_table.proofs.Lists.{all_of, map_has}
use Rattle.req_table.proofs.Fair.{fair_join, fair_front}
use Rattle.lane_queue.specs.Lists.{IsPrefix}

-- ---- All
pub all-one : {X : Type 0} (P : X → Type 0) (x : X) → P x → All P (x ∷ [])
all-one P x h zero d lt = h
all-one P x h (suc k) d lt = absurd (omega arith)

pub all-front : {X : Type 0} (P : X → Type 0) (xs ys : List X) → All P (xs ++ ys) → All P xs
all-front P xs ys h k d lt = let n = length-append xs ys in subst P (get_or_append_left xs ys d k lt) (h k d (omega (arith, lt, n)))

pub all-back : {X : Type 0} (P : X → Type 0) (xs ys : List X) → All P (xs ++ ys) → All P ys
all-back P [] ys h = h
all-back P (x ∷ xs) ys h = all-back P xs ys (λ k d lt. h (suc k) d (omega arith))

-- a fair list stays fair if an item is added that may follow all its Ends
pub fair-push : (w : Scope) (xs : List Item) (y : Item) → IsFair w xs → MayFollow w (ends xs) y → IsFair w (xs ++ y ∷ [])
fair-push w xs y h m = let z : 0 + ends xs ≡ ends xs = omega arith in fair_join w 0 xs (y ∷ []) h (subst (λ n. MayFollow w n y) (sym z) m, tt)

-- the requests of a load that may follow e Ends are fair after e Ends
fair-asks : (w : Scope) (e from : ℕ) (asks : List (ℕ × Key)) → All (MayFollow w e) (map (ask_of from) asks) → IsFairFrom w e (map (ask_of from) asks)
fair-asks w e from [] h = tt
fair-asks w e from (a ∷ more) h = (h 0 (ask_of from a) (omega arith), fair-asks w e from more (λ k d lt. h (suc k) d (omega arith)))

fair-load : (w : Scope) (e : ℕ) (x : Load) → MayFollowAll w e x → IsFairFrom w e (items_in x)
fair-load w e (Bundle from asks) h = fair-asks w e from asks h
fair-load w e (load_end from level) h = (h 0 (End from level) (omega arith), tt)

pub fair-more : (w : Scope) (xs : List Item) (x : Load) → IsFair w xs → MayFollowAll w (ends xs) x → IsFair w (xs ++ items_in x)
fair-more w xs x h m = let z : 0 + ends xs ≡ ends xs = omega arith in fair_join w 0 xs (items_in x) h (subst (λ n. IsFairFrom w n (items_in x)) (sym z) (fair-load w (ends xs) x m))

-- ---- lists of one sender
pub of-mine : (s : ℕ) (x : Item) (xs : List Item) → sender_of x ≡ s → sent_by s (x ∷ xs) ≡ x ∷ sent_by s xs
of-mine s x xs e = ap (λ b. cond b (x ∷ sent_by s xs) (sent_by s xs)) (eq-eqb (sender_of x) s e)

pub of-other : (s : ℕ) (x : Item) (xs : List Item) → sender_of x ≢ s → sent_by s (x ∷ xs) ≡ sent_by s xs
of-other s x xs n = ap (λ b. cond b (x ∷ sent_by s xs) (sent_by s xs)) (ne_eqb (sender_of x) s n)

-- ---- the items of a load are its sender's
mine-asks : (s from : ℕ) (asks : List (ℕ × Key)) → from ≡ s → sent_by s (map (ask_of from) asks) ≡ map (ask_of from) asks
mine-asks s from [] e = refl
mine-asks s from (a ∷ more) e = of-mine s (ask_of from a) (map (ask_of from) more) e ∙ ap (λ l. ask_of from a ∷ l) (mine-asks s from more e)

pub load-mine : (s : ℕ) (x : Load) → load_from x ≡ s → sent_by s (items_in x) ≡ items_in x
load-mine s (Bundle from asks) e = mine-asks s from asks e
load-mine s (load_end from level) e = of-mine s (End from level) [] e

other-asks : (s from : ℕ) (asks : List (ℕ × Key)) → from ≢ s → sent_by s (map (ask_of from) asks) ≡ []
other-asks s from [] n = refl
other-asks s from (a ∷ more) n = of-other s (ask_of from a) (map (ask_of from) more) n ∙ other-asks s from more n

pub load-other : (s : ℕ) (x : Load) → load_from x ≢ s → sent_by s (items_in x) ≡ []
load-other s (Bundle from asks) n = other-asks s from asks n
load-other s (load_end from level) n = of-other s (End from level) [] n

pub from-load : (n : ℕ) (x : Load) → load_from x < n → All (λ y. sender_of y < n) (items_in x)
from-load n (Bundle from asks) lt = all_of (λ y. sender_of y < n) (map (ask_of from) asks) (λ y h. let t = map_has (ask_of from) asks y h in subst (λ z. sender_of z < n) t.2 lt)
from-load n (load_end from level) lt = all-one (λ y. sender_of y < n) (End from level) lt

pub load-from : (n : ℕ) (x : Load) → IsNonEmpty x → All (λ y. sender_of y < n) (items_in x) → load_from x < n
load-from n (Bundle from []) c h = absurd (omega (arith, c))
load-from n (Bundle from (a ∷ more)) c h = h 0 (ask_of from a) (omega arith)
load-from n (load_end from level) c h = h 0 (End from level) (omega arith)

-- ---- loads, one after the other
pub flat-append : (xs ys : List Load) → flat (xs ++ ys) ≡ flat xs ++ flat ys
flat-append [] ys = refl
flat-append (x ∷ xs) ys = ap (λ l. items_in x ++ l) (flat-append xs ys) ∙ sym (append_assoc (items_in x) (flat xs) (flat ys))

pub flat-push : (xs : List Load) (x : Load) → flat (xs ++ x ∷ []) ≡ flat xs ++ items_in x
flat-push xs x = flat-append xs (x ∷ []) ∙ ap (λ l. flat xs ++ l) (append-nil (items_in x))

-- loads that are not empty carry no items only if there are none
pub flat-none : (xs : List Load) → All IsNonEmpty xs → flat xs ≡ [] → xs ≡ []
flat-none [] h e = refl
flat-none (x ∷ xs) h e = absurd (let c = h 0 x (omega arith) in let n = ap (λ l. length l) e in let m = length-append (items_in x) (flat xs) in omega (arith, c, n, m))

-- a prefix of a fair list is fair
pub fair-begins : (w : Scope) (xs ys : List Item) → IsPrefix xs ys → IsFair w ys → IsFair w xs
fair-begins w xs ys b h = fair_front w 0 xs b.0 (subst (IsFair w) b.1 h)

-- ---- the law
-- it depends only on what was taken followed by what waits
pub law-along : (w : Scope) (sent : ℕ → List Item) (taken waits taken' waits' : List Item) → taken ++ waits ≡ taken' ++ waits' → LaneLaw w sent taken waits → LaneLaw w sent taken' waits'
law-along w sent taken waits taken' waits' e h = record {
  senders = subst (HasSenders w) e h.senders;
  in_order = λ s lt. ap (sent_by s) (sym e) ∙ h.in_order s lt;
}
