use Rattle.std.proofs.Common.{◌≡◌, ◌+◌, ◌*◌, ◌<◌, ◌∙◌, ap, length, length-set, arith}
use Rattle.net_patterns.specs.Patterns.{pattern_bit}
use Rattle.net_patterns.proofs.WordBits.{words_more}
use Rattle.net_patterns.proofs.patterns.Patterns.level_block.Goals as goal

pub loop-place-preserved : goal.loop-place-preserved
loop-place-preserved c =
    let p = c.args.self.now in
    let place = c.loop-place.place in
    let inside : place < length c.loop-place.words = omega (arith, c.loop-place.invariant.each) in
    record {
      each = length-set c.loop-place.words place c.word.result ∙ c.loop-place.invariant.each;
      bits = words_more (λ i. pattern_bit p (512 * c.args.block + i) c.args.level) c.loop-place.words place c.word.result inside c.loop-place.invariant.bits
          (λ r low. let e : 64 * (8 * c.args.block + place) + r ≡ 512 * c.args.block + (64 * place + r) = omega arith in c.word.ensures r low ∙ ap (λ n. pattern_bit p n c.args.level) e);
    }
