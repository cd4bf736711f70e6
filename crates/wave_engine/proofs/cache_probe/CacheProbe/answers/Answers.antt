use Rattle.std.proofs.Common.{rules, ◌≡◌, ◌∙◌, ◌+◌, ◌<◌, ◌≤◌, Vec, length, drop, get_or, ap, subst, arith}
use Rattle.std.specs.declared.alloc.Global.{Global}
use Rattle.dd_store.specs.declared.reference.Ref.{Ref}
use Rattle.wave_engine.specs.CacheProbe.{missing, merged}
use Rattle.wave_engine.proofs.Probing.{left_found, left_known, merged_found, merged_known}
use Rattle.wave_engine.proofs.cache_probe.CacheProbe.answers.Goals as goal
use Rattle.wave_engine.proofs.cache_probe.CacheProbe.answers.Goals.{in-Some+in_ok-push-in-Some, in-None+in_ok-push-in-None}

pub bounds-found-next : goal.bounds-found-next
bounds-found-next c =
    let ks = c.args.self.now.known in
    let i = c.loop-known.known-index in
    let items = c.deref-known-items.result.now in
    let same : items ≡ ks = search rules in
    let lt : i < length ks = (let low : i < length items = omega arith in subst (λ z. i < length z) same low) in
    let is : c.known-item.result ≡ get_or ks i c.known-item.result = subst (λ z. c.known-item.result ≡ get_or z i c.known-item.result) same c.known-item.is in
    let more : (c.loop-known.next + 1) + missing (drop (i + 1) ks) ≤ length c.args.found.now = left_found ks i c.known-item.result c.loop-known.next (length c.args.found.now) lt is c.in-None.is c.loop-known.invariant.left in
    omega (arith, more)

pub loop-known-preserved : goal.loop-known-preserved
loop-known-preserved c =
    let ks = c.args.self.now.known in
    let found = c.args.found.now in
    let i = c.loop-known.known-index in
    let k = c.known-item.result in
    let next = c.loop-known.next in
    let whole = merged ks found in
    let items = c.deref-known-items.result.now in
    let same : items ≡ ks = search rules in
    let lt : i < length ks = (let low : i < length items = omega arith in subst (λ z. i < length z) same low) in
    let is : k ≡ get_or ks i k = subst (λ z. k ≡ get_or z i k) same c.known-item.is in
    let done = c.loop-known.invariant in
    elim c.match-known.branch [
      | in-Some+in_ok-push-in-Some w ↦ rw w.next-is (record {
        rest = merged_known ks i k w.in-Some.answer next found c.loop-known.answers.items _ whole lt is w.in-Some.is done.rest
            (ap (λ (v : Vec Ref Global). v.items) w.answers-is ∙ w.in_ok-push-in-Some.ensures.items);
        left = left_known ks i k w.in-Some.answer next (length found) lt is w.in-Some.is done.left;
      })
      | in-None+in_ok-push-in-None w ↦
          let left : (next + 1) + missing (drop (i + 1) ks) ≤ length found = left_found ks i k next (length found) lt is w.in-None.is done.left in
          rw w.next-is (record {
            rest = merged_found ks i k w.index-found-next.result next found c.loop-known.answers.items _ whole lt is w.in-None.is (omega (arith, left)) w.index-found-next.is done.rest
                (ap (λ (v : Vec Ref Global). v.items) w.answers-is ∙ w.in_ok-push-in-None.ensures.items);
            left = left;
          })
    ]
