use Rattle.std.proofs.Common.{◌≡◌, ◌∙◌, ◌<◌, ◌++◌, ◌∷◌, [], List, Option, length, not, append-nil, ap, sym, arith}
use Rattle.dd_store.specs.declared.reference.Ref.{Ref}
use Rattle.wave_engine.specs.declared.cache_probe.CacheProbe.TheInside.{Inside}
use Rattle.reduce_up.specs.Waves.{Entry}
use Rattle.wave_engine.specs.CacheProbe.{known_entry, unless_known}
use Rattle.wave_engine.proofs.Probing.{is_request, known_next, no_request, unknown_next}
use Rattle.wave_engine.proofs.cache_probe.CacheProbe.probe.Goals as goal
use Rattle.wave_engine.proofs.cache_probe.CacheProbe.probe.Goals.{then-is_none+in_ok-push-2, else-is_none}

pub loop-entry-preserved : goal.loop-entry-preserved
loop-entry-preserved c =
    let m = c.args.computed.now in
    let es = c.args.entries.now in
    let i = c.loop-entry.entry-index in
    let e : Entry = c.entry-item.result in
    let lt : i < length es = omega arith in
    let known : List (Option Ref) = c.loop-entry.self-inside.known.items in
    let requests : List Entry = c.loop-entry.self-inside.requests.items in
    let done = c.loop-entry.invariant in
    let answer : c.terminal_or_computed-answer.result ≡ known_entry m e = c.terminal_or_computed-answer.ensures.value in
    let noted = c.in_ok-push.ensures.items ∙ ap (λ o. known ++ o ∷ []) answer in
    elim c.if-is_none.branch [
      | then-is_none+in_ok-push-2 w ↦
          let own : unless_known (known_entry m e) e ≡ e ∷ [] = ap (λ o. unless_known o e) (sym answer) ∙ is_request c.terminal_or_computed-answer.result e (c.is_none.ensures ∙ ap not w.if-is_none.true) in
          record {
            known = known_next m es i e known _ lt c.entry-item.is done.known (ap (λ (s : Inside). s.known.items) w.self-inside-is ∙ noted);
            requests = unknown_next m es i e requests _ lt c.entry-item.is done.requests
                (ap (λ (s : Inside). s.requests.items) w.self-inside-is ∙ w.in_ok-push-2.ensures.items ∙ ap (λ z. requests ++ z) (sym own));
          }
      | else-is_none w ↦
          let none : unless_known (known_entry m e) e ≡ [] = ap (λ o. unless_known o e) (sym answer) ∙ no_request c.terminal_or_computed-answer.result e (c.is_none.ensures ∙ ap not w.if-is_none.false) in
          let same : requests ≡ requests ++ [] = sym (append-nil requests) in
          record {
            known = known_next m es i e known _ lt c.entry-item.is done.known (ap (λ (s : Inside). s.known.items) w.self-inside-is ∙ noted);
            requests = unknown_next m es i e requests _ lt c.entry-item.is done.requests
                (ap (λ (s : Inside). s.requests.items) w.self-inside-is ∙ same ∙ ap (λ z. requests ++ z) (sym none));
          }
    ]
