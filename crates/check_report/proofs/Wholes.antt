-- The budgets of attempts at the whole netlists up to the first limit and up to the second, and the attempts that were
-- given up within them.
use Rattle.std.proofs.Common.{◌≡◌, ◌⊎◌, inl, inr, sym, subst, refl, arith, ℕ, zero, suc, ◌*◌, ◌^◌, ◌<◌, ◌≤◌, Bool, List, Option, Result, Ok, Err}
use Rattle.std.specs.Prelude.{IfOk}
use Rattle.std.specs.Borrow.{Bor}
use Rattle.std.proofs.Math.Nat.{pow-suc, pow-le-pow_right}
use Rattle.std.proofs.lemmas.Bool.{cases_lt}
use Rattle.expand_work.specs.Bounds.{WaveBound}
use Rattle.net_order.specs.Order.{NamingModel}
use Rattle.compare_built.specs.Attempts.{IsBudget, first_budget, first_whole_limit, whole_limit}
use Rattle.compare_built.specs.declared.fault.CheckFault.{CheckFault}
use Rattle.compare_built.specs.declared.strategy.Attempt.{Attempt}
use Rattle.compare_built.specs.declared.task.Task.{Task}
use Rattle.order_search.specs.declared.attempts.Decided.{Decided as DecidedValue}
use Rattle.order_search.specs.declared.trials.Trial.{Trial}
use Rattle.order_search.specs.Trials.{AreAllGivenUp, AreCandidatesGivenUp, AreEarlierGivenUp, Decides, IsCandidateGivenUp, IsDecided, IsFoundWithin}
use Rattle.order_search.proofs.Budgets.{first_is_one}
use Rattle.order_search.proofs.Rounds.{before_any}
use Rattle.check_report.specs.Wholes.{AreGivenUpToLimit, IsDecidedWhole, IsSearched, IsTriedAgain, attempt_of}
use Rattle.check_report.specs.declared.whole.WholeEnd.{WholeEnd}
use Rattle.check_report.specs.declared.whole.WholeEnd.TheVariants.{Decided, GivenUp}

-- ---- budgets

within_limit : (limit b : ℕ) → IsBudget limit b → b ≤ limit
within_limit limit b (inl (k, power, less)) = omega (arith, less)
within_limit limit b (inr same) = omega (arith, same)

second_power : 16384 * 32 ^ 1 ≡ 524288
second_power = refl

-- a budget up to the first limit is a budget up to the second
pub first_in_whole : (limit b : ℕ) → IsBudget (first_whole_limit limit) b → IsBudget (whole_limit limit) b
first_in_whole limit b (inl (k, power, less)) = inl (k, power, omega (arith, less))
first_in_whole limit b (inr same) = by (cases_lt 524288 limit)
  where
    by : (524288 < limit) ⊎ (limit ≤ 524288) → IsBudget (whole_limit limit) b
    by (inl lt) = inl (1, (let p = second_power in let e : b ≡ 16384 * 32 ^ 1 = omega (arith, same, lt, p) in e), (let e : b < whole_limit limit = omega (arith, same, lt) in e))
    by (inr le) = inr (omega (arith, same, le))

-- a budget that is below one up to the first limit is a budget up to the first limit
pub whole_in_first : (limit top b : ℕ) → top ≤ first_whole_limit limit → IsBudget (whole_limit limit) b → b < top → IsBudget (first_whole_limit limit) b
whole_in_first limit top b most (inl (k, power, less)) lt = inl (k, power, omega (arith, most, lt))
whole_in_first limit top b most (inr same) lt = absurd (omega (arith, most, same, lt))

large_power : (k : ℕ) → 4194304 ≤ 16384 * 32 ^ suc (suc k)
large_power k =
    let one : 32 ^ 0 ≤ 32 ^ k = pow-le-pow_right {n = 32} (omega arith) {i = 0} {j = k} (omega arith) in
    let first : 32 ^ 0 ≡ 1 = refl in
    let more = pow-suc 32 k in
    let most = pow-suc 32 (suc k) in
    omega (arith, one, first, more, most)

-- the same of a budget below the second limit, if the limit of the run is larger than the first
pub below_whole : (limit b : ℕ) → 524288 < limit → IsBudget (whole_limit limit) b → b < whole_limit limit → IsBudget (first_whole_limit limit) b
below_whole limit b more (inr same) lt = absurd (omega (arith, same, lt))
below_whole limit b more (inl (zero, power, less)) lt = inl (0, power, (let one : 16384 * 32 ^ 0 ≡ 16384 = refl in omega (arith, power, one, more)))
below_whole limit b more (inl (suc zero, power, less)) lt = inr (let p = second_power in omega (arith, power, p, more))
below_whole limit b more (inl (suc (suc k), power, less)) lt = absurd (let large = large_power k in omega (arith, power, less, large))

-- ---- attempts that were given up

module _ {H : Type 0} (task : Task H) (bound : WaveBound) where
  abbrev run_limit : ℕ
  run_limit = task.settings.now.limit

  -- if all attempts up to the second limit were given up, all up to the first were
  pub all_first : AreAllGivenUp task (whole_limit task.settings.now.limit) bound → AreAllGivenUp task (first_whole_limit task.settings.now.limit) bound
  all_first all b is c = all b (first_in_whole run_limit b is) c

  -- if the limit of the run is small, both limits are equal to it
  pub small_all : task.settings.now.limit ≤ 524288 → AreAllGivenUp task (first_whole_limit task.settings.now.limit) bound → AreAllGivenUp task (whole_limit task.settings.now.limit) bound
  small_all few all = subst (λ n. AreAllGivenUp task n bound) (let e : first_whole_limit run_limit ≡ whole_limit run_limit = omega (arith, few) in e) all

  -- if the limit of the run is at most the second limit, the candidates were tried within it
  pub small_limit : task.settings.now.limit ≤ 4194304 → AreAllGivenUp task (whole_limit task.settings.now.limit) bound → AreGivenUpToLimit task bound
  small_limit few all c = all run_limit (inr (let e : run_limit ≡ whole_limit run_limit = omega (arith, few) in e)) c

  -- the attempts within the second limit were given up as well
  pub all_again : (full : Bool) (trials : List Trial) → 524288 < task.settings.now.limit → AreCandidatesGivenUp task (whole_limit task.settings.now.limit) bound full trials →
      AreAllGivenUp task (first_whole_limit task.settings.now.limit) bound → AreAllGivenUp task (whole_limit task.settings.now.limit) bound
  all_again full trials more last all b is c = by (cases_lt b (whole_limit run_limit))
    where
      by : (b < whole_limit run_limit) ⊎ (whole_limit run_limit ≤ b) → IsCandidateGivenUp task b bound c
      by (inl lt) = all b (below_whole run_limit b more is lt) c
      by (inr le) = let most = within_limit (whole_limit run_limit) b is in subst (λ n. IsCandidateGivenUp task n bound c) (let e : whole_limit run_limit ≡ b = omega (arith, le, most) in e) (last.each c)

-- if each attempt of a search was given up, all attempts before any other one were
pub after_all : {H : Type 0} (task : Task H) (limit : ℕ) (bound : WaveBound) (t : Attempt) → AreAllGivenUp task (whole_limit limit) bound → AreEarlierGivenUp task (whole_limit limit) bound t
after_all task limit bound t all = record {
  smaller = λ budget within lt c. all budget within c;
  first = λ first. before_any (IsCandidateGivenUp task t.budget bound) t.order (all t.budget (first_is_one (whole_limit limit) t.budget first));
}

-- ---- attempts that succeed

module _ {H : Type 0} (task : Task H) (declared : Option (Bor NamingModel)) (bound : WaveBound) where
  abbrev its_limit : ℕ
  its_limit = task.settings.now.limit

  -- a search up to the first limit
  pub decided_first : (d : DecidedValue) → IsFoundWithin task declared (first_whole_limit task.settings.now.limit) bound d → IsDecidedWhole task declared bound d
  decided_first d h =
      let most = within_limit (first_whole_limit its_limit) d.budget h.budget in
      record {
        decided = h.decided;
        budget = inl (first_in_whole its_limit d.budget h.budget);
        earlier_given_up = record {
          smaller = λ b is lt c. h.earlier_given_up.smaller b (whole_in_first its_limit d.budget b most is lt) lt c;
          first = λ e. h.earlier_given_up.first (let same : d.budget ≡ first_budget (first_whole_limit its_limit) = omega (arith, e) in same);
        };
      }

  -- a search up to the second limit
  pub decided_whole : (d : DecidedValue) → IsFoundWithin task declared (whole_limit task.settings.now.limit) bound d → IsDecidedWhole task declared bound d
  decided_whole d h = record { decided = h.decided; budget = inl h.budget; earlier_given_up = h.earlier_given_up }

  -- attempts within the second limit, after those up to the first were given up
  pub decided_again : (d : DecidedValue) → 524288 < task.settings.now.limit → Decides task declared (whole_limit task.settings.now.limit) d → AreAllGivenUp task (first_whole_limit task.settings.now.limit) bound → IsDecidedWhole task declared bound d
  decided_again d more decides all =
      let same = decides.1 in
      record {
        decided = subst (λ n. IsDecided task declared n d.trial d.verdicts.items) (sym same) decides.0;
        budget = inl (inr same);
        earlier_given_up = record {
          smaller = λ b is lt c. all b (below_whole its_limit b more is (omega (arith, same, lt))) c;
          first = λ e. absurd (omega (arith, e, same, more));
        };
      }

  -- an attempt within the limit of the run, after those up to the second limit were given up
  pub decided_last : (d : DecidedValue) → Decides task declared task.settings.now.limit d → AreAllGivenUp task (whole_limit task.settings.now.limit) bound → IsDecidedWhole task declared bound d
  decided_last d decides all =
      let same = decides.1 in
      record {
        decided = subst (λ n. IsDecided task declared n d.trial d.verdicts.items) (sym same) decides.0;
        budget = inr same;
        earlier_given_up = after_all task task.settings.now.limit bound (attempt_of d) all;
      }

  -- the result of a search up to the second limit is that of the attempts up to it
  pub searched_again : (r : Result WholeEnd CheckFault) → IfOk r (IsSearched task declared (whole_limit task.settings.now.limit) bound) → IfOk r (IsTriedAgain task declared bound)
  searched_again (Ok (Decided d)) h = decided_whole d h
  searched_again (Ok (GivenUp trials)) h = h
  searched_again (Err fault) h = tt
