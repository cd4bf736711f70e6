-- The text of an order file, line by line.
use Rattle.std.proofs.Common.{◌≡◌, ◌∙◌, ap, sym, ℕ, ◌+◌, ◌<◌, List, [], ◌∷◌, ◌++◌, length, drop, append_assoc, Some}
use Rattle.std.specs.Prelude.{slice_get}
use Rattle.std.proofs.lemmas.List.{drop_more}
use Rattle.std.proofs.lemmas.Option.{get_or_from_slice_get}
use Rattle.net_names.specs.OrderText.{order_text}

-- the name at a place has its line, and the names after it remain
pub line_more : (names : List (List ℕ)) (place : ℕ) (name text more : List ℕ) → place < length names → slice_get names place ≡ Some name →
    text ++ order_text (drop place names) ≡ order_text names → more ≡ text ++ (name ++ 10 ∷ []) → more ++ order_text (drop (place + 1) names) ≡ order_text names
line_more names place name text more lt here done added =
    ap (λ z. z ++ order_text (drop (place + 1) names)) added
    ∙ append_assoc text (name ++ 10 ∷ []) (order_text (drop (place + 1) names))
    ∙ ap (λ z. text ++ z) (append_assoc name (10 ∷ []) (order_text (drop (place + 1) names)))
    ∙ sym (ap (λ z. text ++ order_text z) (drop_more names place name lt ∙ ap (λ n. n ∷ drop (place + 1) names) (get_or_from_slice_get names place name name here)))
    ∙ done
