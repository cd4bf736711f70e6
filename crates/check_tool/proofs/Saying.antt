-- A text that is printed in parts.
use Rattle.std.proofs.Common.{◌≡◌, ◌≢◌, ◌∙◌, ◌⊎◌, inl, inr, ℕ, zero, suc, ◌+◌, ◌<◌, Bool, List, [], ◌∷◌, ◌++◌, length, get_or, take, Option, Some, None, refl, sym, ap, subst, arith}
use Rattle.std.specs.Prelude.{flat_map}
use Rattle.std.specs.Borrow.{Bor}
use Rattle.std.specs.Io.KnownBytes.{Appends}
use Rattle.std.proofs.lemmas.List.{append-nil, append_assoc, flat_map_more, take_more}
use Rattle.report_text.specs.Writing.{AppendsFront}

-- the parts of a fault's line make its line
pub line_of_parts : (a p b n c z : List ℕ) → a ++ (p ++ (b ++ (n ++ (c ++ (z ++ []))))) ≡ a ++ ((p ++ (b ++ (n ++ c))) ++ z)
line_of_parts a p b n c z =
    ap (λ l. a ++ (p ++ (b ++ (n ++ (c ++ l))))) (append-nil z)
    ∙ ap (λ l. a ++ l) (sym (append_assoc p (b ++ (n ++ c)) z ∙ ap (λ l. p ++ l) (append_assoc b (n ++ c) z ∙ ap (λ l. b ++ l) (append_assoc n c z))))

-- the device has taken both texts
pub appends_both : (held middle now : Option (List ℕ)) (front part : List ℕ) → Appends held middle front → Appends middle now part → Appends held now (front ++ part)
appends_both None middle now front part a b = tt
appends_both (Some held) None now front part a b = absurd a
appends_both (Some held) (Some middle) None front part a b = absurd b
appends_both (Some held) (Some middle) (Some now) front part a b = b ∙ ap (λ l. l ++ part) a ∙ append_assoc held front part

still_some : (back rest : List ℕ) → back ≢ [] → back ++ rest ≢ []
still_some [] rest some e = some refl
still_some (x ∷ back) rest some e = cc

why_more : {F S : Type 0} (back rest : List ℕ) → F ⊎ (S × (back ≢ [])) → F ⊎ (S × (back ++ rest ≢ []))
why_more back rest (inl f) = inl f
why_more back rest (inr s) = inr (s.0, still_some back rest s.1)

-- the device has taken the whole of one text, and a front part of the next
pub front_following : (held middle now : Option (List ℕ)) (has_failed has_stopped : Bool) (front part rest : List ℕ) → Appends held middle front → AppendsFront middle now has_failed has_stopped part
    → AppendsFront held now has_failed has_stopped (front ++ (part ++ rest))
front_following held middle now has_failed has_stopped front part rest a f = record {
  front = front ++ f.front;
  back = f.back ++ rest;
  parts = ap (λ l. front ++ (l ++ rest)) f.parts ∙ ap (λ l. front ++ l) (append_assoc f.front f.back rest) ∙ sym (append_assoc front f.front (f.back ++ rest));
  appends = appends_both held middle now front f.front a f.appends;
  why = why_more f.back rest f.why;
}

-- the text of the parts before one of them, and of those from it on
text_at : (parts : List (Bor (List ℕ))) (i : ℕ) (p : Bor (List ℕ)) → i < length parts → p ≡ get_or parts i p
    → (rest : List ℕ) × (flat_map (λ q. q.now) parts ≡ flat_map (λ q. q.now) (take i parts) ++ (p.now ++ rest))
text_at [] i p low at = absurd (omega (arith, low))
text_at (x ∷ parts) zero p low at = (flat_map (λ q. q.now) parts, ap (λ q. q.now ++ flat_map (λ q. q.now) parts) (sym at))
text_at (x ∷ parts) (suc i) p low at =
    let lower : i < length parts = omega (arith, low) in
    let r = text_at parts i p lower at in
    (r.0, ap (λ l. x.now ++ l) r.1 ∙ sym (append_assoc x.now (flat_map (λ q. q.now) (take i parts)) (p.now ++ r.0)))

module _ (held middle now : Option (List ℕ)) (parts : List (Bor (List ℕ))) (i : ℕ) (p : Bor (List ℕ)) (low : i < length parts) (at : p ≡ get_or parts i p) where
  pub taken_more : Appends held middle (flat_map (λ q. q.now) (take i parts)) → Appends middle now p.now → Appends held now (flat_map (λ q. q.now) (take (i + 1) parts))
  taken_more a b =
      let more : flat_map (λ q. q.now) (take i parts) ++ p.now ≡ flat_map (λ q. q.now) (take (i + 1) parts) =
      flat_map_more (λ q. q.now) [] (take i parts) p ∙ ap (flat_map (λ q. q.now)) (sym (take_more parts i p low ∙ ap (λ y. take i parts ++ y ∷ []) (sym at))) in
      subst (Appends held now) more (appends_both held middle now (flat_map (λ q. q.now) (take i parts)) p.now a b)

  pub front_taken : (has_failed has_stopped : Bool) → Appends held middle (flat_map (λ q. q.now) (take i parts)) → AppendsFront middle now has_failed has_stopped p.now
      → AppendsFront held now has_failed has_stopped (flat_map (λ q. q.now) parts)
  front_taken has_failed has_stopped a f =
      let r = text_at parts i p low at in
      subst (AppendsFront held now has_failed has_stopped) (sym r.1) (front_following held middle now has_failed has_stopped (flat_map (λ q. q.now) (take i parts)) p.now r.0 a f)
