use Rattle.std.proofs.Common.{◌≡◌, ◌≢◌, true}
use Rattle.std.specs.Prelude.{bit_and, bit_xor}
use Rattle.net_simulate.specs.Columns.{bit_in}
use Rattle.net_patterns.proofs.Firsts.{apart_word, map_first, word_apart}
use Rattle.net_patterns.proofs.apart.first_in_word.Goals as goal

pub returns : goal.returns
returns c =
    let a = c.args.first in
    let b = c.args.second in
    let h = c.args.holds in
    map_first (λ i. bit_in i (bit_and (bit_xor a b) h) ≡ true) (λ i. (bit_in i h ≡ true) × (bit_in i a ≢ bit_in i b)) 64 c.first_one.result (λ k low. word_apart a b h k) (λ k low. apart_word a b h k) c.first_one.ensures
