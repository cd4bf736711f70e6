use Rattle.std.proofs.Common.{◌≡◌, true, false, List, [], ◌∷◌, ◌++◌, get_or, slice_get, Some, sym, ap, ◌∙◌, subst}
use Rattle.req_table.specs.declared.Key.{Key}
use Rattle.req_table.specs.Tables.{AdmitsKey}
use Rattle.reduce_up.specs.Reducing.{NotesAnswer, HasAnswer}
use Rattle.reduce_up.specs.AnswersByLevel.{paired}
use Rattle.reduce_up.proofs.Placing.{paired_at}
use Rattle.wave_doors.proofs.Placing.{paired_more, notes_last, notes_known}
use Rattle.wave_doors.proofs.results.LevelAnswers.note.Goals as goal

pub returns-then-new-clause-noted : goal.returns-then-new-clause-noted
returns-then-new-clause-noted c =
    let ks = c.self.inside.keys in
    let rs = c.self.inside.answers.items in
    let k = c.args.key in
    let r = c.args.answer in
    let admits_key : AdmitsKey ks k true c.admit.new.self = subst (λ b. AdmitsKey ks k b c.admit.new.self) c.if-new.true c.in_ok-new.ensures.admits_key in
    let keys : c.admit.new.self ≡ ks ++ k ∷ [] = admits_key.1 in
    let answers : c.push_reserved.new.self.items ≡ rs ++ r ∷ [] = c.push_reserved.ensures.items ∙ ap (λ l. l ++ r ∷ []) c.reserve.ensures.items in
    let whole : paired c.admit.new.self c.push_reserved.new.self.items ≡ c.args.self.now ++ (k, r) ∷ [] =
    (λ i. paired (keys i) (answers i)) ∙ paired_more ks rs k r c.self.invariant ∙ ap (λ l. l ++ (k, r) ∷ []) c.self.view_is in
    subst (NotesAnswer c.args.self.now k r) (sym whole) (notes_last c.args.self.now k r)

pub returns-else-new-clause-noted : goal.returns-else-new-clause-noted
returns-else-new-clause-noted c =
    let ks = c.self.inside.keys in
    let rs = c.self.inside.answers.items in
    let k = c.args.key in
    let p = c.in_ok-new.field-0-0 in
    let admits_key : AdmitsKey ks k false c.admit.new.self = subst (λ b. AdmitsKey ks k b c.admit.new.self) c.if-new.false c.in_ok-new.ensures.admits_key in
    let keys : c.admit.new.self ≡ ks = admits_key.1 in
    let m = paired_at ks rs p k c.args.answer c.self.invariant (subst (λ (l : List Key). slice_get l p ≡ Some k) keys c.in_ok-new.ensures.at_place) in
    let known : HasAnswer c.args.self.now k = subst (λ l. HasAnswer l k) c.self.view_is (get_or rs p c.args.answer, m.1) in
    let answers : c.reserve.new.self.items ≡ rs = c.reserve.ensures.items in
    let whole : paired c.admit.new.self c.reserve.new.self.items ≡ c.args.self.now = (λ i. paired (keys i) (answers i)) ∙ c.self.view_is in
    subst (NotesAnswer c.args.self.now k c.args.answer) (sym whole) (notes_known c.args.self.now k c.args.answer known)
