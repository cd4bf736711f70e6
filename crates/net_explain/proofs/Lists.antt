-- Texts to which parts are appended.
use Rattle.std.proofs.Common.{◌≡◌, List, [], ◌++◌, sym, ap, ◌∙◌, append_assoc}

-- a part that was appended no longer belongs to the rest
pub moved : {A : Type 0} (whole text more part rest all : List A) → text ++ all ≡ whole → all ≡ part ++ rest → more ≡ text ++ part → more ++ rest ≡ whole
moved whole text more part rest all done split added =
    ap (λ z. z ++ rest) added ∙ append_assoc text part rest ∙ ap (λ z. text ++ z) (sym split) ∙ done

pub three_parts : {A : Type 0} (before after second whole p q r : List A) → before ≡ [] → after ≡ before ++ p → second ≡ after ++ q → whole ≡ second ++ r → whole ≡ p ++ (q ++ r)
three_parts before after second whole p q r none e f g =
    g ∙ ap (λ z. z ++ r) (f ∙ ap (λ z. z ++ q) (e ∙ ap (λ z. z ++ p) none)) ∙ append_assoc p q r
