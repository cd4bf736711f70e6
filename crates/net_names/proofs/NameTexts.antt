-- The tokens of an order file, which are taken one after the other.
use Rattle.std.proofs.Common.{◌≡◌, ◌≢◌, ℕ, ◌+◌, ◌≤◌, List, [], ◌∷◌, ◌++◌, refl, sym, ap, ◌∙◌, subst, map, length, arith, length-append, append_assoc}
use Rattle.std.specs.Prelude.{flat_map, Some, None}
use Rattle.std.proofs.lemmas.List.{map-append, length-map}
use Rattle.net_bench.specs.Text.{Piece, Blank, Comment, Mark, Run, Stray, bytes_of, ArePieces, Token, Open, Close, Comma, Equals, Name, Unknown, End, Tokens, HasTokens, tokens_from}
use Rattle.net_bench.specs.declared.scan.Token.{Token as Scanned}
use Rattle.net_bench.specs.declared.scan.Token.TheVariants.{Open as open_paren, Close as close_paren, Comma as comma, Equals as equals, Name as name, Unknown as unknown, End as end}
use Rattle.net_bench.specs.Pieces.{tokens_at}
use Rattle.net_bench.specs.Scan.{Takes, seen}
use Rattle.net_bench.proofs.PiecesOf.{has_tokens}
use Rattle.net_names.specs.OrderText.{AreNames, IsOrderText, HasBadName, listed_name}

-- ---- there are no more names than bytes

tokens_few : (ps : List Piece) (line : ℕ) → ArePieces ps → length (tokens_from line ps) ≤ length (flat_map bytes_of ps) + 1
tokens_few [] line h = omega arith
tokens_few (Blank b ∷ ps) line h = omega (arith, tokens_few ps (Rattle.std.specs.Prelude.cond (Rattle.std.specs.Prelude.nat_eq b 10) (line + 1) line) h.2, length-append (b ∷ []) (flat_map bytes_of ps))
tokens_few (Comment body ∷ ps) line h = omega (arith, tokens_few ps line h.2, length-append (35 ∷ body) (flat_map bytes_of ps))
tokens_few (Mark b ∷ ps) line h = omega (arith, tokens_few ps line h.2, length-append (b ∷ []) (flat_map bytes_of ps))
tokens_few (Run text ∷ ps) line h = omega (arith, tokens_few ps line h.2, h.0.0, length-append text (flat_map bytes_of ps))
tokens_few (Stray b ∷ ps) line h = omega (arith, tokens_few ps line h.2, length-append (b ∷ []) (flat_map bytes_of ps))

names_length : (tokens : Tokens) (names : List (List ℕ)) → AreNames tokens names → length names ≡ length tokens
names_length tokens names h = sym (length-map names (λ n. Some n)) ∙ sym (ap length h) ∙ length-map tokens (λ t. listed_name t.1)

pub few_in_text : (text : List ℕ) (names : List (List ℕ)) → IsOrderText text names → length names ≤ length text
few_in_text text names (short, tokens, line, (ps, pieces, is_text, are_tokens), are_names) =
    let all : length (tokens ++ (line, End) ∷ []) ≤ length text + 1 =
    subst (λ t. length (tokens ++ (line, End) ∷ []) ≤ length t + 1) (sym is_text) (subst (λ ts. length ts ≤ length (flat_map bytes_of ps) + 1) (sym are_tokens) (tokens_few ps 1 pieces)) in
    omega (arith, all, length-append tokens ((line, End) ∷ []), names_length tokens names are_names)

-- ---- a token is taken

pub takes_first : (old new : Tokens) (line : ℕ) (t : Token) → t ≢ End → Takes old line t new → old ≡ (line, t) ∷ new
takes_first old new line Open h k = k
takes_first old new line Close h k = k
takes_first old new line Comma h k = k
takes_first old new line Equals h k = k
takes_first old new line (Name word) h k = k
takes_first old new line (Unknown byte) h k = k
takes_first old new line End h k = absurd (h refl)

name_added : (taken : Tokens) (line : ℕ) (t : Token) (names more : List (List ℕ)) (n : List ℕ) → AreNames taken names → listed_name t ≡ Some n → more ≡ names ++ n ∷ [] →
    AreNames (taken ++ (line, t) ∷ []) more
name_added taken line t names more n h e grown =
    map-append (λ x. listed_name x.1) taken ((line, t) ∷ []) ∙ ap (λ xs. xs ++ listed_name t ∷ []) h ∙ ap (λ x. map (λ m. Some m) names ++ x ∷ []) e ∙
    sym (ap (map (λ m. Some m)) grown ∙ map-append (λ m. Some m) names (n ∷ []))

not_end : (line : ℕ) (t : Scanned) → (t ≡ end → ⊥) → seen line t ≢ End
not_end line open_paren h e = cc
not_end line close_paren h e = cc
not_end line comma h e = cc
not_end line equals h e = cc
not_end line (name text) h e = cc
not_end line (unknown byte) h e = cc
not_end line end h e = h refl

module _ (text : List ℕ) (taken old new : Tokens) (names : List (List ℕ)) (line : ℕ) (t : Scanned)
    (all : tokens_at 1 text ≡ taken ++ old) (are : AreNames taken names) (takes : Takes old line (seen line t) new) where
  -- the end: all tokens are names
  pub all_names : length text ≤ 67108864 → t ≡ end → IsOrderText text names
  all_names short e =
      let last : Takes old line End new = subst (λ s. Takes old line (seen line s) new) e takes in
      (short, taken, line, subst (HasTokens text) (all ∙ ap (λ ts. taken ++ ts) last.0) (has_tokens text), are)

  -- a token that is no name
  pub bad_name : length text ≤ 67108864 → (t ≡ end → ⊥) → listed_name (seen line t) ≡ None → HasBadName text line
  bad_name short other none =
      let first : old ≡ (line, seen line t) ∷ new = takes_first old new line (seen line t) (not_end line t other) takes in
      (short, taken, new, names, seen line t, subst (HasTokens text) (all ∙ ap (λ ts. taken ++ ts) first) (has_tokens text), are, none, not_end line t other)

  -- one more name
  pub one_more_name : (more : List (List ℕ)) (n : List ℕ) → (t ≡ end → ⊥) → listed_name (seen line t) ≡ Some n → more ≡ names ++ n ∷ [] →
      (front : Tokens) × (tokens_at 1 text ≡ front ++ new) × AreNames front more
  one_more_name more n other some grown =
      let first : old ≡ (line, seen line t) ∷ new = takes_first old new line (seen line t) (not_end line t other) takes in (
        taken ++ (line, seen line t) ∷ [],
        all ∙ ap (λ ts. taken ++ ts) first ∙ sym (append_assoc taken ((line, seen line t) ∷ []) new),
        name_added taken line (seen line t) names more n are some grown,
      )
