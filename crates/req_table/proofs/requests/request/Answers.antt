use Rattle.std.proofs.Common.{◌≡◌, ◌∙◌, ap, sym, true, false, cond}
use Rattle.std.specs.Ordering.{is_lt, is_some_and}
use Rattle.dd_store.specs.Order.{ref_lt, ref_cmp}
use Rattle.dd_store.specs.contracts.reference.ReferenceOrd.TheImpl.Laws.{matches_partial_cmp-law}
use Rattle.dd_store.proofs.Order.{ref_lt-cmp}
use Rattle.req_table.specs.TerminalCase.{key}
use Rattle.req_table.proofs.requests.request.Goals as goal

pub returns-then-lt : goal.returns-then-lt
returns-then-lt c =
    let e : c.lt.result ≡ is_lt (ref_cmp c.args.g c.args.f) =
    c.lt.ensures ∙ ap (is_some_and is_lt) (matches_partial_cmp-law c.args.g c.args.f) in
    let lt : ref_lt c.args.g c.args.f ≡ true = ref_lt-cmp c.args.g c.args.f ∙ sym e ∙ c.if-lt.true in
    c.of.ensures ∙ sym (ap (λ b. cond b (key c.args.op c.args.g c.args.f) (key c.args.op c.args.f c.args.g)) lt)

pub returns-else-lt : goal.returns-else-lt
returns-else-lt c =
    let e : c.lt.result ≡ is_lt (ref_cmp c.args.g c.args.f) =
    c.lt.ensures ∙ ap (is_some_and is_lt) (matches_partial_cmp-law c.args.g c.args.f) in
    let lt : ref_lt c.args.g c.args.f ≡ false = ref_lt-cmp c.args.g c.args.f ∙ sym e ∙ c.if-lt.false in
    c.of-else-lt.ensures ∙ sym (ap (λ b. cond b (key c.args.op c.args.g c.args.f) (key c.args.op c.args.f c.args.g)) lt)
