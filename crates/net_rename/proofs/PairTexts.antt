-- The tokens of a file of pairs, as they are taken two by two.
use Rattle.std.proofs.Common.{◌≡◌, ◌≢◌, ◌⊎◌, inl, inr, ℕ, ◌≤◌, List, [], ◌∷◌, ◌++◌, refl, sym, ap, ◌∙◌, subst, length, append_assoc, append-nil}
use Rattle.std.specs.Prelude.{flat_map, Some, None}
use Rattle.std.proofs.lemmas.List.{map-append}
use Rattle.net_bench.specs.Text.{Token, Open, Close, Comma, Equals, Name, Unknown, End, Tokens, HasTokens}
use Rattle.net_bench.specs.declared.scan.Token.{Token as Scanned}
use Rattle.net_bench.specs.declared.scan.Token.TheVariants.{Open as open_paren, Close as close_paren, Comma as comma, Equals as equals, Name as name, Unknown as unknown, End as end}
use Rattle.net_bench.specs.Pieces.{tokens_at}
use Rattle.net_bench.specs.Scan.{Takes, seen}
use Rattle.net_bench.proofs.PiecesOf.{has_tokens}
use Rattle.net_names.specs.OrderText.{listed_name}
use Rattle.net_names.proofs.NameTexts.{takes_first}
use Rattle.net_rename.specs.declared.pair.NamePair.{NamePair}
use Rattle.net_rename.specs.PairText.{ArePairNames, HasBadLine, IsPairText, listed, names_of_pair}

-- the names of one more pair
names_more : (pairs : List NamePair) (p : NamePair) → flat_map names_of_pair (pairs ++ p ∷ []) ≡ flat_map names_of_pair pairs ++ names_of_pair p
names_more [] p = append-nil (names_of_pair p)
names_more (q ∷ pairs) p = ap (λ xs. names_of_pair q ++ xs) (names_more pairs p) ∙ sym (append_assoc (names_of_pair q) (flat_map names_of_pair pairs) (names_of_pair p))

-- two tokens that are the names of a pair
pair_added : (taken : Tokens) (line : ℕ) (t u : Token) (pairs more : List NamePair) (p : NamePair) → ArePairNames taken pairs → listed_name t ≡ Some p.first.items → listed_name u ≡ Some p.second.items → p.line ≡ line →
    more ≡ pairs ++ p ∷ [] → ArePairNames (taken ++ (line, t) ∷ (line, u) ∷ []) more
pair_added taken line t u pairs more p are first second on grown =
    map-append listed taken ((line, t) ∷ (line, u) ∷ []) ∙
    ap (λ xs. xs ++ (line, listed_name t) ∷ (line, listed_name u) ∷ []) are ∙
    ap (λ x. flat_map names_of_pair pairs ++ (line, x) ∷ (line, listed_name u) ∷ []) first ∙
    ap (λ x. flat_map names_of_pair pairs ++ (line, Some p.first.items) ∷ (line, x) ∷ []) second ∙
    ap (λ n. flat_map names_of_pair pairs ++ (n, Some p.first.items) ∷ (n, Some p.second.items) ∷ []) (sym on) ∙
    sym (ap (flat_map names_of_pair) grown ∙ names_more pairs p)

-- a name is not the end
name_not_end : (t : Token) (n : List ℕ) → listed_name t ≡ Some n → t ≢ End
name_not_end t n e is = let bad : None ≡ Some n = sym (ap listed_name is) ∙ e in cc

-- what the scanner does not call the end is none
not_end : (line : ℕ) (t : Scanned) → (t ≡ end → ⊥) → seen line t ≢ End
not_end line open_paren other e = cc
not_end line close_paren other e = cc
not_end line comma other e = cc
not_end line equals other e = cc
not_end line (name text) other e = cc
not_end line (unknown byte) other e = cc
not_end line end other e = other refl

-- what is taken is the first of what is left, also at the end
takes_one : (old new : Tokens) (line : ℕ) (t : Token) → Takes old line t new → (rest : Tokens) × (old ≡ (line, t) ∷ rest)
takes_one old new line Open takes = (new, takes)
takes_one old new line Close takes = (new, takes)
takes_one old new line Comma takes = (new, takes)
takes_one old new line Equals takes = (new, takes)
takes_one old new line (Name word) takes = (new, takes)
takes_one old new line (Unknown byte) takes = (new, takes)
takes_one old new line End takes = ([], takes.0)

module _ (text : List ℕ) (taken old mid : Tokens) (pairs : List NamePair) (line : ℕ) (t : Scanned)
    (all : tokens_at 1 text ≡ taken ++ old) (are : ArePairNames taken pairs) (takes : Takes old line (seen line t) mid) where
  -- the end: all tokens are names of pairs
  pub all_pairs : length text ≤ 67108864 → t ≡ end → IsPairText text pairs
  all_pairs short e =
      let last : Takes old line End mid = subst (λ s. Takes old line (seen line s) mid) e takes in
      (short, taken, line, subst (HasTokens text) (all ∙ ap (λ ts. taken ++ ts) last.0) (has_tokens text), are)

  -- a first token that is no name
  pub bad_first : length text ≤ 67108864 → (t ≡ end → ⊥) → listed_name (seen line t) ≡ None → HasBadLine text line
  bad_first short other none =
      let first : old ≡ (line, seen line t) ∷ mid = takes_first old mid line (seen line t) (not_end line t other) takes in
      (short, taken, mid, pairs, (line, seen line t), (line, seen line t), subst (HasTokens text) (all ∙ ap (λ ts. taken ++ ts) first) (has_tokens text), are, refl, not_end line t other, inl none)

  module _ (new : Tokens) (other_line : ℕ) (u : Scanned) (next : Takes mid other_line (seen other_line u) new) where
    -- a second token that is no name, or on another line
    pub bad_second : length text ≤ 67108864 → (t ≡ end → ⊥) → (other_line ≢ line) ⊎ (listed_name (seen other_line u) ≡ None) → HasBadLine text line
    bad_second short other bad =
        let first : old ≡ (line, seen line t) ∷ mid = takes_first old mid line (seen line t) (not_end line t other) takes in
        let second : (rest : Tokens) × (mid ≡ (other_line, seen other_line u) ∷ rest) = takes_one mid new other_line (seen other_line u) next in
        (short, taken, mid, pairs, (line, seen line t), (other_line, seen other_line u), subst (HasTokens text) (all ∙ ap (λ ts. taken ++ ts) first) (has_tokens text), are, refl, not_end line t other, inr (second.0, second.1, bad))

    -- two tokens that are the names of one more pair
    pub one_more_pair : (more : List NamePair) (p : NamePair) → other_line ≡ line → listed_name (seen line t) ≡ Some p.first.items → listed_name (seen other_line u) ≡ Some p.second.items →
        p.line ≡ line → more ≡ pairs ++ p ∷ [] → (front : Tokens) × (tokens_at 1 text ≡ front ++ new) × ArePairNames front more
    one_more_pair more p same one two on grown =
        let first : old ≡ (line, seen line t) ∷ mid = takes_first old mid line (seen line t) (name_not_end (seen line t) p.first.items one) takes in
        let second : mid ≡ (other_line, seen other_line u) ∷ new = takes_first mid new other_line (seen other_line u) (name_not_end (seen other_line u) p.second.items two) next in
        let both : old ≡ (line, seen line t) ∷ (line, seen other_line u) ∷ new = first ∙ ap (λ ts. (line, seen line t) ∷ ts) second ∙ ap (λ n. (line, seen line t) ∷ (n, seen other_line u) ∷ new) same in (
          taken ++ (line, seen line t) ∷ (line, seen other_line u) ∷ [],
          all ∙ ap (λ ts. taken ++ ts) both ∙ sym (append_assoc taken ((line, seen line t) ∷ (line, seen other_line u) ∷ []) new),
          pair_added taken line (seen line t) (seen other_line u) pairs more p are one two on grown,
        )
