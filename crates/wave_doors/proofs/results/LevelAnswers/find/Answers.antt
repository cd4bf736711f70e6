use Rattle.std.proofs.Common.{Contains, sym, subst}
use Rattle.dd_store.specs.declared.reference.Ref.{Ref}
use Rattle.req_table.specs.declared.Key.{Key}
use Rattle.reduce_up.specs.Reducing.{HasAnswer}
use Rattle.reduce_up.specs.AnswersByLevel.{paired}
use Rattle.reduce_up.proofs.Placing.{paired_at}
use Rattle.wave_doors.proofs.Placing.{none_paired}
use Rattle.wave_doors.proofs.results.LevelAnswers.find.Goals as goal

pub returns-in-Some : goal.returns-in-Some
returns-in-Some c =
    let ks = c.self.inside.keys in
    let rs = c.self.inside.answers.items in
    let m = paired_at ks rs c.in-Some.place c.args.key c.index.result.now c.self.invariant c.in-Some.ensures in
    subst (λ l. Contains {X = Key × Ref} l (c.args.key, c.index.result.now)) c.self.view_is (subst (λ r. Contains {X = Key × Ref} (paired ks rs) (c.args.key, r)) (sym c.index.ensures) m.1)

pub returns-in-None : goal.returns-in-None
returns-in-None c = subst (λ l. HasAnswer l c.args.key → ⊥) c.self.view_is (none_paired c.self.inside.keys c.self.inside.answers.items c.args.key c.in-None.ensures)
