-- The threads of a wave, by the ports that they work with.
use Rattle.std.proofs.Common.{◌≡◌, ◌≢◌, ℕ, ◌+◌, ◌<◌, ◌≤◌, Bool, true, false, if◌then◌else◌, IfOk, IfErr, Ok, Err, List, length, slice_index_or, [], ◌∷◌, ◌++◌, refl, sym, ap, ◌∙◌, subst, arith, length-append, append-nil}
use Rattle.std.specs.declared.thread.PromisedHandle.{PromisedHandle}
use Rattle.std.specs.declared.result.Result.{Result}
use Rattle.std.specs.List.{AllZip}
use Rattle.dd_store.specs.Nodes.{Nodes}
use Rattle.req_table.specs.declared.Key.{Key}
use Rattle.std.proofs.lemmas.List.{get_or_append_left}
use Rattle.std.proofs.Math.Seq.{get_or-append_seam}
use mathlib.Core.Logic.{dite}
use native.Mathlib.Decide.{ℕ_discrete}
use Rattle.lane_queue.specs.PortView.{LanesView, PortView}
use Rattle.expand_work.specs.declared.part.Part.{Part}
use Rattle.expand_work.specs.declared.fault.WorkFault.{WorkFault}
use Rattle.expand_work.specs.declared.fault.WaveFault.{WaveFault}
use Rattle.expand_work.specs.declared.fault.WaveFault.TheVariants.{OutOfMemory, NoWorker, Full, TooManyRequests, Stopped}
use Rattle.expand_work.specs.declared.team.PartPromise.{PartPromise}
use Rattle.expand_work.specs.WorkerResult.{IsWorked}
use Rattle.expand_work.specs.Team.{AreNew, AreStarted, AreWorked, IsPromised, WorksFor}
use Rattle.expand_work.proofs.Zips.{zip_at, zip_long}

-- the part of the thread that works with port i
part_of : (l : LanesView) (s : Nodes) (roots : List Key) (i : ℕ) (h : PromisedHandle (Result Part WorkFault) PartPromise) (q : PortView) (p : Part) → q.number ≡ i → WorksFor l s roots h q → IsPromised h p → IsWorked l s roots i p
part_of l s roots i h q p at w k =
    subst (λ (n : ℕ). IsWorked l s roots n p) (w.number ∙ at)
    (subst (λ (r : List Key). IsWorked l s r h.promise.number p) w.keys
    (subst (λ (t : Nodes). IsWorked l t h.promise.roots.now h.promise.number p) w.store
    (subst (λ (m : LanesView). IsWorked m h.promise.store.now h.promise.roots.now h.promise.number p) w.lanes k)))

-- the first element of a list that is not empty
pub first_of : {A : Type 0} (xs : List A) → 0 < length xs → A
first_of [] l = absurd (omega (arith, l))
first_of (x ∷ xs) l = x

no_more : {A : Type 0} (xs : List A) → length xs ≡ 0 → xs ≡ []
no_more [] e = refl
no_more (x ∷ xs) e = absurd (omega (arith, e))

-- threads that were started for the first of the ports: there are no more of them than ports, and if there are as many,
-- each port has its thread
module _ (l : LanesView) (s : Nodes) (roots : List Key) (children : List (PromisedHandle (Result Part WorkFault) PartPromise)) (ports : List PortView) (t : AreStarted l s roots children ports) where
  many : length children + length t.rest ≡ length ports
  many = let n = zip_long (WorksFor l s roots) children t.first t.works in let a = length-append t.first t.rest in let b = ap (λ xs. length xs) t.all in omega (arith, n, a, b)

  pub no_more_threads : length children ≤ length ports
  no_more_threads = let n = many in omega (arith, n)

  pub each_has_its : length children ≡ length ports → AllZip (WorksFor l s roots) children ports
  each_has_its e =
      let none : t.rest ≡ [] = no_more t.rest (let n = many in omega (arith, n, e)) in
      subst (AllZip (WorksFor l s roots) children) (sym (append-nil t.first) ∙ ap (λ xs. t.first ++ xs) (sym none) ∙ t.all) t.works

-- the ports before the last
module _ (l : LanesView) (ports rest : List PortView) (own : PortView) (new : AreNew l ports) (is : ports ≡ rest ++ own ∷ []) where
  pub one_less : length rest + 1 ≡ length l.lanes
  one_less = let n = ap (λ xs. length xs) is in let m = length-append rest (own ∷ []) in let k = new.long in omega (arith, n, m, k)

  before : (i : ℕ) (d : PortView) → i < length rest → slice_index_or ports i d ≡ slice_index_or rest i d
  before i d b = ap (λ (z : List PortView). slice_index_or z i d) is ∙ get_or_append_left rest (own ∷ []) d i b

  last : (d : PortView) → slice_index_or ports (length rest) d ≡ own
  last d = ap (λ (z : List PortView). slice_index_or z (length rest) d) is ∙ get_or-append_seam rest own [] d

  -- if each of these ports has its thread and each thread its part, then these parts and the last worker's are those of
  -- all workers, by number
  pub all_worked : (s : Nodes) (roots : List Key) (children : List (PromisedHandle (Result Part WorkFault) PartPromise)) (parts all : List Part) (part : Part)
      → AllZip (WorksFor l s roots) children rest → AllZip IsPromised children parts → IsWorked l s roots own.number part → all ≡ parts ++ part ∷ [] → AreWorked l s roots all
  all_worked s roots children parts all part works kept own-part all-is =
      let n = zip_long (WorksFor l s roots) children rest works in
      let m = zip_long IsPromised children parts kept in
      let k = one_less in
      let long : length all ≡ length parts + 1 = ap (λ xs. length xs) all-is ∙ length-append parts (part ∷ []) in
      record {
        long = omega (arith, long, n, m, k);
        each = λ i d b. dite (ℕ_discrete i (length parts))
            (λ (e : i ≡ length parts).
            let at : slice_index_or all i d ≡ part = ap (λ (z : List Part). slice_index_or z i d) all-is ∙ ap (λ z. slice_index_or (parts ++ part ∷ []) z d) e ∙ get_or-append_seam parts part [] d in
            let here : i ≡ length rest = omega (arith, e, n, m) in
            let number : own.number ≡ i = ap (λ (q : PortView). q.number) (sym (last own)) ∙ new.numbered (length rest) own (omega (arith, k)) ∙ sym here in
            subst (IsWorked l s roots i) (sym at) (subst (λ z. IsWorked l s roots z part) number own-part))
            (λ (e : i ≢ length parts).
            let lt : i < length parts = grind (arith, b, e, n, m, k) in
            let within : i < length children = omega (arith, lt, m) in
            let in-rest : i < length rest = omega (arith, lt, n, m) in
            let h = first_of children (omega (arith, within)) in
            let q = first_of rest (omega (arith, in-rest)) in
            let at : slice_index_or all i d ≡ slice_index_or parts i d = ap (λ (z : List Part). slice_index_or z i d) all-is ∙ get_or_append_left parts (part ∷ []) d i lt in
            let number = ap (λ (z : PortView). z.number) (sym (before i q in-rest)) ∙ new.numbered i q (omega (arith, in-rest, k)) in
            subst (IsWorked l s roots i) (sym at) (part_of l s roots i (slice_index_or children i h) (slice_index_or rest i q) (slice_index_or parts i d) number (zip_at (WorksFor l s roots) children rest i h q works within) (zip_at IsPromised children parts i h d kept within)));
      }

-- a cause that is neither a full store nor too many requests
abbrev pub IsOther : WaveFault → Type 0
IsOther f = (f ≢ Full) × (f ≢ TooManyRequests)

-- the outcome of the threads: that the run has stopped comes first, and then that they have not done the whole wave
module _ {T : Type 0} (stopped done : Bool) (joined result : Result T WaveFault) (is : result ≡ (if stopped then Err Stopped else (if done then joined else Err NoWorker))) where
  -- there are parts only if the run has not stopped and the threads have done the whole wave, and then they are those
  -- of the threads
  pub judged : (P : T → Type 0) → (done ≡ true → IfOk joined P) → IfOk result P
  judged P h = by stopped done is h
    where
      by : (s d : Bool) → result ≡ (if s then Err Stopped else (if d then joined else Err NoWorker)) → (d ≡ true → IfOk joined P) → IfOk result P
      by true d e k = subst (λ r. IfOk r P) (sym e) tt
      by false true e k = subst (λ r. IfOk r P) (sym e) (k refl)
      by false false e k = subst (λ r. IfOk r P) (sym e) tt

  -- the only other cause is want of memory
  pub never_others : IfErr joined (λ f. f ≡ OutOfMemory) → IfErr result IsOther
  never_others out = by stopped done joined is out
    where
      by : (s d : Bool) (j : Result T WaveFault) → result ≡ (if s then Err Stopped else (if d then j else Err NoWorker)) → IfErr j (λ f. f ≡ OutOfMemory) → IfErr result IsOther
      by true d j e k = subst (λ r. IfErr r IsOther) (sym e) (λ h. absurd (cc), λ h. absurd (cc))
      by false true (Ok v) e k = subst (λ r. IfErr r IsOther) (sym e) tt
      by false true (Err f) e k = subst (λ r. IfErr r IsOther) (sym e) (subst IsOther (sym k) (λ h. absurd (cc), λ h. absurd (cc)))
      by false false j e k = subst (λ r. IfErr r IsOther) (sym e) (λ h. absurd (cc), λ h. absurd (cc))

  -- Stopped is reported only if the run has stopped
  pub run_stopped : IfErr joined (λ f. f ≡ OutOfMemory) → result ≡ Err Stopped → stopped ≡ true
  run_stopped out h = by stopped done joined is out
    where
      by : (s d : Bool) (j : Result T WaveFault) → result ≡ (if s then Err Stopped else (if d then j else Err NoWorker)) → IfErr j (λ f. f ≡ OutOfMemory) → s ≡ true
      by true d j e k = refl
      by false true (Ok v) e k = let both : Ok v ≡ Err Stopped = sym e ∙ h in absurd (cc)
      by false true (Err f) e k = let both : Err f ≡ Err Stopped = sym e ∙ h in let other : f ≡ OutOfMemory = k in absurd (cc)
      by false false j e k = let both : Err NoWorker ≡ Err Stopped = sym e ∙ h in absurd (cc)
