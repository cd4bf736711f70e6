use Rattle.std.proofs.Common.{◌≡◌, ◌∙◌, ◌<◌, ℕ, List, Option, None, All, ap, get_or, length, subst, sym}
use Rattle.std.specs.Prelude.{⊤}
use Rattle.std.specs.List.{AllZip}
use Rattle.net_bench.specs.Circuit.{circuit}
use Rattle.report_text.specs.declared.verdict.Verdict.{Verdict}
use Rattle.compare_built.specs.declared.subject.Subject.{Subject}
use Rattle.compare_built.specs.Cones.{cone_limit}
use Rattle.cone_check.specs.ConeRounds.{AreKnownAtOnce, IsDecidedIn, IsInContext, IsKnown, StaysUndecided}
use Rattle.cone_check.specs.EqualCones.{AreVerdictsFor, HasNumber, verdict_for}
use Rattle.cone_check.proofs.EqualCones.{all_renamed, numbers_low}
use Rattle.cone_check.proofs.Filling.{length_known, zip_size}
use Rattle.cone_check.proofs.Keeping.{known_renamed}
use Rattle.cone_check.proofs.cone_comparison.judge_distinct.Goals as goal

pub distinct_pairs-requires-clause-one_for_each : goal.distinct_pairs-requires-clause-one_for_each
distinct_pairs-requires-clause-one_for_each g c =
    let w = c.args.context.now in
    ap length c.as_slice.ensures.value ∙
    length_known (IsDecidedIn w (cone_limit w.task.now.settings.now.limit)) (λ s. ⊤) c.args.subjects.now c.args.known.items c.requires.at_once

pub distinct_pairs-requires-clause-at_once : goal.distinct_pairs-requires-clause-at_once
distinct_pairs-requires-clause-at_once g c = subst (AreKnownAtOnce c.args.context.now c.args.subjects.now) (sym c.as_slice.ensures.value) c.requires.at_once

pub shown_flags-requires : goal.shown_flags-requires
shown_flags-requires g c =
    let d = c.in_ok-distinct.distinct in
    c.requires.shown ∙
    sym (ap length c.as_slice-2.ensures.value ∙ zip_size (HasNumber c.args.context.now d.subjects.items) c.args.subjects.now d.numbers.items c.in_ok-distinct.ensures.numbers)

pub judge_all-requires-clause-in_range : goal.judge_all-requires-clause-in_range
judge_all-requires-clause-in_range g c κs within =
    subst (All (IsInContext c.args.context.now)) (sym c.as_slice-3.ensures.value) c.in_ok-distinct.ensures.in_range

pub judge_all-requires-clause-at_once : goal.judge_all-requires-clause-at_once
judge_all-requires-clause-at_once g c κs within =
    subst (λ (ss : List Subject). AreKnownAtOnce c.args.context.now ss c.in_ok-distinct.distinct.known.items) (sym c.as_slice-3.ensures.value) c.in_ok-distinct.ensures.at_once

pub verdicts_for-requires-clause-one_for_each : goal.verdicts_for-requires-clause-one_for_each
verdicts_for-requires-clause-one_for_each g c =
    let d = c.in_ok-distinct.distinct in
    ap length c.as_slice-5.ensures.value ∙ zip_size (HasNumber c.args.context.now d.subjects.items) c.args.subjects.now d.numbers.items c.in_ok-distinct.ensures.numbers

pub verdicts_for-requires-clause-judged : goal.verdicts_for-requires-clause-judged
verdicts_for-requires-clause-judged g c =
    let w = c.args.context.now in
    let d = c.in_ok-distinct.distinct in
    let known = subst (λ (ss : List Subject). AllZip (IsKnown (IsDecidedIn w (cone_limit w.task.now.settings.now.limit)) (StaysUndecided w (g.G.Monitor.bound c.args.monitor.now))) ss c.in_ok-found.found.items) c.as_slice-3.ensures.value c.in_ok-found.ensures.known in
    let many : length c.as_slice-6.result.now ≡ length d.subjects.items =
    ap length c.as_slice-6.ensures.value ∙ length_known (IsDecidedIn w (cone_limit w.task.now.settings.now.limit)) (StaysUndecided w (g.G.Monitor.bound c.args.monitor.now)) d.subjects.items c.in_ok-found.found.items known in
    subst (λ k. All (λ n. n < k) c.as_slice-5.result.now) (sym many)
    (subst (All (λ n. n < length d.subjects.items)) (sym c.as_slice-5.ensures.value) (numbers_low w d.subjects.items c.args.subjects.now d.numbers.items c.in_ok-distinct.ensures.numbers))

pub returns-clause-known : goal.returns-clause-known
returns-clause-known g c =
    let w = c.args.context.now in
    let a = circuit w.task.now.first.now in
    let limit = cone_limit w.task.now.settings.now.limit in
    let bound = g.G.Monitor.bound c.args.monitor.now in
    let d = c.in_ok-distinct.distinct in
    let known = subst (λ (ss : List Subject). AllZip (IsKnown (IsDecidedIn w limit) (StaysUndecided w bound)) ss c.in_ok-found.found.items) c.as_slice-3.ensures.value c.in_ok-found.ensures.known in
    let renamed : AreVerdictsFor a c.in_ok-found.found.items c.args.subjects.now d.numbers.items c.in_ok-all.all.items =
    subst (λ (ns : List ℕ). AreVerdictsFor a c.in_ok-found.found.items c.args.subjects.now ns c.in_ok-all.all.items) c.as_slice-5.ensures.value
    (subst (λ (os : List (Option Verdict)). AreVerdictsFor a os c.args.subjects.now c.as_slice-5.result.now c.in_ok-all.all.items) c.as_slice-6.ensures.value c.in_ok-all.ensures) in
    all_renamed w c.requires.ready c.inputs.ensures.sound c.inputs-2.ensures.sound limit bound d.subjects.items c.args.subjects.now c.in_ok-found.found.items d.numbers.items c.in_ok-all.all.items known
    c.in_ok-distinct.ensures.numbers renamed

pub returns-clause-kept : goal.returns-clause-kept
returns-clause-kept g c =
    let w = c.args.context.now in
    let a = circuit w.task.now.first.now in
    let d = c.in_ok-distinct.distinct in
    let given : c.as_slice.result.now ≡ c.args.known.items = c.as_slice.ensures.value in
    let renamed : AreVerdictsFor a c.in_ok-found.found.items c.args.subjects.now d.numbers.items c.in_ok-all.all.items =
    subst (λ (ns : List ℕ). AreVerdictsFor a c.in_ok-found.found.items c.args.subjects.now ns c.in_ok-all.all.items) c.as_slice-5.ensures.value
    (subst (λ (os : List (Option Verdict)). AreVerdictsFor a os c.args.subjects.now c.as_slice-5.result.now c.in_ok-all.all.items) c.as_slice-6.ensures.value c.in_ok-all.ensures) in
    known_renamed a c.args.subjects.now c.args.known.items d.known.items c.in_ok-found.found.items d.numbers.items c.in_ok-all.all.items
    (λ i s lt. subst (λ (os : List (Option Verdict)). get_or d.known.items (get_or d.numbers.items i 0) None ≡ verdict_for a (get_or c.args.subjects.now i s) (get_or os i None)) given (c.in_ok-distinct.ensures.kept i s lt))
    c.in_ok-found.ensures.kept renamed
