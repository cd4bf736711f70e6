use Rattle.std.proofs.Common.{◌≡◌, ◌∙◌, ◌<◌, ◌*◌, ◌^◌, ◌/◌, ◌%◌, ℕ, List, length, get_or, ap, sym, subst, arith, w64}
use Rattle.std.specs.Prelude.{bit_and}
use Rattle.std.specs.Int.{bit_not}
use Rattle.std.proofs.lemmas.List.{get_or_default}
use Rattle.std.proofs.lemmas.Nat.Bits.{bit_at_clear_same, bit_at_clear_other}
use Rattle.req_table.specs.LevelSet.{member_of}
use Rattle.req_table.proofs.LevelSets.{member_own, member_other}
use Rattle.req_table.proofs.level_set.LevelSet.remove.Goals as goal

pub returns-clause-own : goal.returns-clause-own
returns-clause-own c =
    let ws : List ℕ = c.self.inside.words.items in
    let v : ℕ = c.args.level in
    let room : v < 64 * length ws = subst (λ (z : List ℕ). v < 64 * length z) (sym c.self.view_is) c.requires in
    member_own ws v (bit_and c.index_mut.result.now (bit_not w64 (1 * 2 ^ (v % 64) % 2 ^ 64))) room ∙ bit_at_clear_same w64 c.index_mut.result.now (v % 64) (omega arith)

pub returns-clause-others : goal.returns-clause-others
returns-clause-others c w ne =
    let ws : List ℕ = c.self.inside.words.items in
    let v : ℕ = c.args.level in
    let x : ℕ = c.index_mut.result.now in
    let room : v < 64 * length ws = subst (λ (z : List ℕ). v < 64 * length z) (sym c.self.view_is) c.requires in
    let read : x ≡ get_or ws (v / 64) 0 = c.index_mut.ensures.value ∙ get_or_default ws (v / 64) x 0 (omega arith) in
    member_other ws v (bit_and x (bit_not w64 (1 * 2 ^ (v % 64) % 2 ^ 64))) room (λ i lt d. bit_at_clear_other w64 x (v % 64) (omega arith) i lt d ∙ ap (λ z. z / 2 ^ i % 2) read) w ne
    ∙ ap (λ (z : List ℕ). member_of z w) c.self.view_is
