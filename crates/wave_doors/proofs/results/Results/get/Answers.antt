use Rattle.std.proofs.Common.{◌≡◌, ◌<◌, rules, [], Contains, length, get_or, sym, subst, ◌∙◌}
use Rattle.std.specs.Vec.{vec_len}
use Rattle.std.proofs.lemmas.List.{get_or_default}
use Rattle.dd_store.specs.declared.reference.Ref.{Ref}
use Rattle.req_table.specs.declared.Key.{Key}
use Rattle.reduce_up.specs.Reducing.{HasAnswer}
use Rattle.reduce_up.specs.AnswersByLevel.{place_of}
use Rattle.reduce_up.proofs.Placing.{joined_in}
use Rattle.wave_doors.proofs.Placing.{row_of_key, some_found, found_in}
use Rattle.wave_doors.proofs.results.Results.get.Goals as goal

pub index-requires : goal.index-requires
index-requires c =
    let rows = c.self.inside.rows.items in
    let long : length rows ≡ vec_len c.self.inside.rows = search rules in
    let h = row_of_key rows c.self.invariant c.args.key.now (subst (λ l. HasAnswer l c.args.key.now) (sym c.self.view_is) c.requires) in
    subst (λ n. n < vec_len c.self.inside.rows) (sym c.level_of_request-place.ensures) (subst (λ n. place_of c.args.key.now < n) long h.0)

pub unwrap-requires : goal.unwrap-requires
unwrap-requires c =
    let rows = c.self.inside.rows.items in
    let h = row_of_key rows c.self.invariant c.args.key.now (subst (λ l. HasAnswer l c.args.key.now) (sym c.self.view_is) c.requires) in
    let p = c.level_of_request-place.result in
    let inside : p < length rows = subst (λ n. n < length rows) (sym c.level_of_request-place.ensures) h.0 in
    let row : get_or rows p [] ≡ c.index.result.now = get_or_default rows p [] c.index.result.now inside ∙ sym c.index.ensures in
    let has : HasAnswer c.index.result.now c.args.key.now = subst (λ l. HasAnswer l c.args.key.now) row (subst (λ n. HasAnswer (get_or rows n []) c.args.key.now) (sym c.level_of_request-place.ensures) h.1) in
    some_found c.find.result c.index.result.now c.args.key.now has c.find.ensures

pub returns : goal.returns
returns c =
    let rows = c.self.inside.rows.items in
    let h = row_of_key rows c.self.invariant c.args.key.now (subst (λ l. HasAnswer l c.args.key.now) (sym c.self.view_is) c.requires) in
    let p = c.level_of_request-place.result in
    let inside : p < length rows = subst (λ n. n < length rows) (sym c.level_of_request-place.ensures) h.0 in
    let row : get_or rows p [] ≡ c.index.result.now = get_or_default rows p [] c.index.result.now inside ∙ sym c.index.ensures in
    let found = found_in c.find.result c.index.result.now c.args.key.now c.unwrap.result c.unwrap.ensures c.find.ensures in
    subst (λ l. Contains {X = Key × Ref} l (c.args.key.now, c.unwrap.result)) c.self.view_is
    (joined_in rows p (c.args.key.now, c.unwrap.result) (subst (λ l. Contains {X = Key × Ref} l (c.args.key.now, c.unwrap.result)) (sym row) found))
