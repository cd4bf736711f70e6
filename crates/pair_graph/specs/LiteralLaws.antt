-- A word determines the parts of its literal, and they determine the word.
use Rattle.std.proofs.Common.{◌≡◌, ℕ, ◌+◌, ◌*◌, ◌/◌, ◌%◌, ◌==◌, Bool, true, false, if◌then◌else◌, arith, sym, ap, ◌∙◌}
use Rattle.std.proofs.lemmas.Bool.Decides.{nat_tests}
use Rattle.pair_graph.specs.Literals.{Parts, word_of, parts_of}

pub word_of-parts_of : (w : ℕ) → word_of (parts_of w) ≡ w
word_of-parts_of w = grind (arith, nat_tests)

node_back : (n : ℕ) (b : Bool) → (n * 2 + (if b then 1 else 0)) / 2 ≡ n
node_back n true = omega arith
node_back n false = omega arith

complement_back : (n : ℕ) (b : Bool) → ((n * 2 + (if b then 1 else 0)) % 2 == 1) ≡ b
complement_back n true = grind (arith, nat_tests)
complement_back n false = grind (arith, nat_tests)

pub parts_of-word_of : (l : Parts) → parts_of (word_of l) ≡ l
parts_of-word_of l =
    let n = node_back l.node l.complemented in
    let m = complement_back l.node l.complemented in
    λ i. record { node = n i; complemented = m i }

-- literals that have the same word are equal
pub one_word : (l m : Parts) → word_of l ≡ word_of m → l ≡ m
one_word l m e = sym (parts_of-word_of l) ∙ ap parts_of e ∙ parts_of-word_of m
