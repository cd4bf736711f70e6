-- The renaming of a text, piece by piece.
use Rattle.std.proofs.Common.{◌≡◌, ◌≢◌, inl, inr, ◌∙◌, ◌+◌, ◌<◌, ◌++◌, ◌∷◌, [], ℕ, suc, List, Bool, refl, ap, sym, subst, true, false, arith, length, get_or, take, drop, append_assoc, append-nil}
use Rattle.std.specs.Prelude.{flat_map, cond, not, ◌==◌, ◌&&◌}
use Rattle.std.specs.List.{list_all, prefix_len}
use Rattle.std.proofs.Math.Numerals.{one-add}
use Rattle.std.proofs.lemmas.Bool.{cases_eq}
use Rattle.std.proofs.lemmas.List.{take-append-drop}
use Rattle.std.proofs.lemmas.List.Folds.{length-prefix_len}
use Rattle.net_bench.specs.Text.{Piece, Blank, Comment, Mark, Run, Stray, bytes_of, ArePieces, IsPiece, MayFollow, is_blank, is_mark, is_name_byte, is_stray, tokens_from}
use Rattle.net_bench.specs.Pieces.{Between, pieces_in, tokens_at, tokens_in}
use Rattle.net_bench.proofs.PiecesOf.{has_tokens, pieces_again}
use Rattle.net_rename.specs.declared.pair.NamePair.{NamePair}
use Rattle.net_rename.specs.Renaming.{is_open_first, renamed, renamed_pieces, renamed_text}

-- ---- the first piece of a text

-- a text that begins with the bytes of a piece, and goes on with what may follow it, begins with this piece
pub front_piece : (p : Piece) (rest : List ℕ) → IsPiece p → ((ps : List Piece) → ArePieces ps → flat_map bytes_of ps ≡ rest → MayFollow p ps) → pieces_in Between (bytes_of p ++ rest) ≡ p ∷ pieces_in Between rest
front_piece p rest is follows =
    let h = has_tokens rest in
    let e : pieces_in Between rest ≡ h.0 = ap (pieces_in Between) h.2 ∙ pieces_again h.0 h.1 in
    let all : ArePieces (p ∷ h.0) = (is, follows h.0 h.1 (sym h.2), h.1) in
    ap (λ t. pieces_in Between (bytes_of p ++ t)) h.2 ∙ pieces_again (p ∷ h.0) all ∙ ap (λ qs. p ∷ qs) (sym e)

-- the text is at its end, or goes on with a byte that is none of these
abbrev pub Stops : (ℕ → Bool) → List ℕ → Type 0
Stops test [] = Unit {0}
Stops test (b ∷ bs) = test b ≡ false

and_left : (s t : Bool) → (s && t) ≡ true → s ≡ true
and_left true t e = refl
and_left false t e = cc

pub run_follows : (name rest : List ℕ) → Stops is_name_byte rest → (ps : List Piece) → ArePieces ps → flat_map bytes_of ps ≡ rest → MayFollow (Run name) ps
run_follows name rest ends [] a e = tt
run_follows name rest ends (Run [] ∷ ps) a e = let bad : 0 < 0 = a.0.0 in absurd (omega arith)
run_follows name [] ends (Run (b ∷ bs) ∷ ps) a e = cc
run_follows name (c ∷ cs) ends (Run (b ∷ bs) ∷ ps) a e =
    let same : b ≡ c = cc in
    let is : is_name_byte b ≡ true = and_left (is_name_byte b) (list_all is_name_byte bs) a.0.1 in
    let bad : true ≡ false = sym is ∙ ap is_name_byte same ∙ ends in
    cc
run_follows name rest ends (Blank c ∷ ps) a e = tt
run_follows name rest ends (Comment c ∷ ps) a e = tt
run_follows name rest ends (Mark c ∷ ps) a e = tt
run_follows name rest ends (Stray c ∷ ps) a e = tt

-- the text is at its end, or at the end of a line
abbrev pub EndsLine : List ℕ → Type 0
EndsLine [] = Unit {0}
EndsLine (b ∷ bs) = b ≡ 10

pub comment_follows : (body rest : List ℕ) → EndsLine rest → (ps : List Piece) → ArePieces ps → flat_map bytes_of ps ≡ rest → MayFollow (Comment body) ps
comment_follows body rest ends [] a e = tt
comment_follows body [] ends (Blank b ∷ ps) a e = cc
comment_follows body (c ∷ cs) ends (Blank b ∷ ps) a e = let same : b ≡ c = cc in same ∙ ends
comment_follows body [] ends (Comment more ∷ ps) a e = cc
comment_follows body (c ∷ cs) ends (Comment more ∷ ps) a e = let same : 35 ≡ c = cc in let bad : 35 ≡ 10 = same ∙ ends in absurd (omega (arith, bad))
comment_follows body [] ends (Mark b ∷ ps) a e = cc
comment_follows body (c ∷ cs) ends (Mark b ∷ ps) a e = let same : b ≡ c = cc in let mark : is_mark 10 ≡ true = sym (ap is_mark (same ∙ ends)) ∙ a.0 in cc
comment_follows body rest ends (Run [] ∷ ps) a e = let bad : 0 < 0 = a.0.0 in absurd (omega arith)
comment_follows body [] ends (Run (b ∷ bs) ∷ ps) a e = cc
comment_follows body (c ∷ cs) ends (Run (b ∷ bs) ∷ ps) a e =
    let same : b ≡ c = cc in
    let is : is_name_byte 10 ≡ true = sym (ap is_name_byte (same ∙ ends)) ∙ and_left (is_name_byte b) (list_all is_name_byte bs) a.0.1 in
    cc
comment_follows body [] ends (Stray b ∷ ps) a e = cc
comment_follows body (c ∷ cs) ends (Stray b ∷ ps) a e = let same : b ≡ c = cc in let stray : is_stray 10 ≡ true = sym (ap is_stray (same ∙ ends)) ∙ a.0 in cc

-- ---- its renaming

-- a text that begins with one of these pieces is renamed piece by piece
pub blank_first : (pairs : List NamePair) (b : ℕ) (text : List ℕ) → pieces_in Between (b ∷ text) ≡ Blank b ∷ pieces_in Between text →
    renamed_text pairs (b ∷ text) ≡ b ∷ renamed_text pairs text
blank_first pairs b text is = ap (λ ps. flat_map bytes_of (renamed_pieces pairs ps)) is

pub mark_first : (pairs : List NamePair) (b : ℕ) (text : List ℕ) → pieces_in Between (b ∷ text) ≡ Mark b ∷ pieces_in Between text →
    renamed_text pairs (b ∷ text) ≡ b ∷ renamed_text pairs text
mark_first pairs b text is = ap (λ ps. flat_map bytes_of (renamed_pieces pairs ps)) is

pub stray_first : (pairs : List NamePair) (b : ℕ) (text : List ℕ) → pieces_in Between (b ∷ text) ≡ Stray b ∷ pieces_in Between text →
    renamed_text pairs (b ∷ text) ≡ b ∷ renamed_text pairs text
stray_first pairs b text is = ap (λ ps. flat_map bytes_of (renamed_pieces pairs ps)) is

pub comment_first : (pairs : List NamePair) (body text : List ℕ) → pieces_in Between (35 ∷ body ++ text) ≡ Comment body ∷ pieces_in Between text →
    renamed_text pairs (35 ∷ body ++ text) ≡ 35 ∷ body ++ renamed_text pairs text
comment_first pairs body text is = ap (λ ps. flat_map bytes_of (renamed_pieces pairs ps)) is

-- a name that a parenthesis follows is kept
pub keyword_first : (pairs : List NamePair) (name text : List ℕ) → pieces_in Between (name ++ text) ≡ Run name ∷ pieces_in Between text →
    is_open_first (tokens_from 1 (pieces_in Between text)) ≡ true → renamed_text pairs (name ++ text) ≡ name ++ renamed_text pairs text
keyword_first pairs name text is called =
    ap (λ ps. flat_map bytes_of (renamed_pieces pairs ps)) is
    ∙ ap (λ b. cond b name (renamed pairs name) ++ renamed_text pairs text) called

-- any other gets its new name
pub name_first : (pairs : List NamePair) (name text : List ℕ) → pieces_in Between (name ++ text) ≡ Run name ∷ pieces_in Between text →
    is_open_first (tokens_from 1 (pieces_in Between text)) ≡ false → renamed_text pairs (name ++ text) ≡ renamed pairs name ++ renamed_text pairs text
name_first pairs name text is other =
    ap (λ ps. flat_map bytes_of (renamed_pieces pairs ps)) is
    ∙ ap (λ b. cond b name (renamed pairs name) ++ renamed_text pairs text) other

-- ---- the front of a text

-- the bytes of the front pass
front_passes : (test : ℕ → Bool) (text : List ℕ) → list_all test (take (prefix_len test text) text) ≡ true
front_passes test [] = refl
front_passes test (b ∷ bs) =
    elim (test b) as (λ t. test b ≡ t → list_all test (take (cond t (1 + prefix_len test bs) 0) (b ∷ bs)) ≡ true) [
      | true ↦ λ e. subst (λ k. list_all test (take k (b ∷ bs)) ≡ true) (sym (one-add (prefix_len test bs))) (ap (λ t. t && list_all test (take (prefix_len test bs) bs)) e ∙ front_passes test bs)
      | false ↦ λ e. refl
    ] refl

-- and what follows them does not
back_stops : (test : ℕ → Bool) (text : List ℕ) → Stops test (drop (prefix_len test text) text)
back_stops test [] = tt
back_stops test (b ∷ bs) =
    elim (test b) as (λ t. test b ≡ t → Stops test (drop (cond t (1 + prefix_len test bs) 0) (b ∷ bs))) [
      | true ↦ λ e. subst (λ k. Stops test (drop k (b ∷ bs))) (sym (one-add (prefix_len test bs))) (back_stops test bs)
      | false ↦ λ e. e
    ] refl

-- what is written of a front, and what is left to be renamed
pub written : (pairs : List NamePair) (text front rest out more : List ℕ) → renamed_text pairs text ≡ front ++ renamed_text pairs rest → more ≡ out ++ front →
    more ++ renamed_text pairs rest ≡ out ++ renamed_text pairs text
written pairs text front rest out more is grown =
    ap (λ m. m ++ renamed_text pairs rest) grown ∙ append_assoc out front (renamed_text pairs rest) ∙ ap (λ t. out ++ t) (sym is)

module _ (pairs : List NamePair) (text name rest : List ℕ) (n : ℕ) (some : 0 < n) (count : n ≡ prefix_len is_name_byte text) (front : name ≡ take n text) (back : rest ≡ drop n text) where
  whole : text ≡ name ++ rest
  whole = sym (ap (λ t. t ++ rest) front ∙ ap (λ t. take n text ++ t) back ∙ take-append-drop n text)

  long : 0 < length name
  long = subst (λ k. 0 < k) (sym (ap length front ∙ ap (λ k. length (take k text)) count ∙ length-prefix_len is_name_byte text ∙ sym count)) some

  letters : list_all is_name_byte name ≡ true
  letters = ap (list_all is_name_byte) (front ∙ ap (λ k. take k text) count) ∙ front_passes is_name_byte text

  ends : Stops is_name_byte rest
  ends = subst (Stops is_name_byte) (sym (back ∙ ap (λ k. drop k text) count)) (back_stops is_name_byte text)

  is_run : pieces_in Between (name ++ rest) ≡ Run name ∷ pieces_in Between rest
  is_run = front_piece (Run name) rest (long, letters) (run_follows name rest ends)

  -- a name at the front of a text, which a parenthesis follows
  pub keyword_kept : is_open_first (tokens_at 1 rest) ≡ true → renamed_text pairs text ≡ name ++ renamed_text pairs rest
  unfolding tokens_in
  keyword_kept called = ap (renamed_text pairs) whole ∙ keyword_first pairs name rest is_run called

  -- and one that none follows
  pub name_changed : is_open_first (tokens_at 1 rest) ≡ false → renamed_text pairs text ≡ renamed pairs name ++ renamed_text pairs rest
  unfolding tokens_in
  name_changed other = ap (renamed_text pairs) whole ∙ name_first pairs name rest is_run other

-- ---- a front that is no name

abbrev in_line : ℕ → Bool
in_line b = not (b == 10)

newline_is : (b : ℕ) → in_line b ≡ false → b ≡ 10
newline_is b e = grind arith

ends_line : (rest : List ℕ) → Stops in_line rest → EndsLine rest
ends_line [] h = tt
ends_line (b ∷ bs) h = newline_is b h

comment_kept : (pairs : List NamePair) (bs : List ℕ) → renamed_text pairs (35 ∷ bs) ≡ (35 ∷ take (prefix_len in_line bs) bs) ++ renamed_text pairs (drop (prefix_len in_line bs) bs)
comment_kept pairs bs =
    let body = take (prefix_len in_line bs) bs in
    let rest = drop (prefix_len in_line bs) bs in
    ap (λ t. renamed_text pairs (35 ∷ t)) (sym (take-append-drop (prefix_len in_line bs) bs)) ∙
    comment_first pairs body rest (front_piece (Comment body) rest (front_passes in_line bs) (comment_follows body rest (ends_line rest (back_stops in_line bs))))

stray_is : (b : ℕ) → is_name_byte b ≡ false → (b == 35) ≡ false → is_blank b ≡ false → is_mark b ≡ false → is_stray b ≡ true
stray_is b letter hash blank mark = grind arith

byte_kept : (pairs : List NamePair) (b : ℕ) (bs : List ℕ) → is_name_byte b ≡ false → (b == 35) ≡ false → renamed_text pairs (b ∷ bs) ≡ b ∷ renamed_text pairs bs
byte_kept pairs b bs letter hash =
    elim (is_blank b) as (λ t. is_blank b ≡ t → renamed_text pairs (b ∷ bs) ≡ b ∷ renamed_text pairs bs) [
      | true ↦ λ blank. blank_first pairs b bs (front_piece (Blank b) bs blank (λ ps a e. tt))
      | false ↦ λ blank. elim (is_mark b) as (λ t. is_mark b ≡ t → renamed_text pairs (b ∷ bs) ≡ b ∷ renamed_text pairs bs) [
        | true ↦ λ mark. mark_first pairs b bs (front_piece (Mark b) bs mark (λ ps a e. tt))
        | false ↦ λ mark. stray_first pairs b bs (front_piece (Stray b) bs (stray_is b letter hash blank mark) (λ ps a e. tt))
      ] refl
    ] refl

no_letter : (t : Bool) (k : ℕ) → cond t (1 + k) 0 ≡ 0 → t ≡ false
no_letter true k e = absurd (omega arith)
no_letter false k e = refl

no_hash : (b : ℕ) → b ≢ 35 → (b == 35) ≡ false
no_hash b e = grind arith

-- what is no name is kept: a comment, or one byte
pub gap_kept : (pairs : List NamePair) (text gap rest : List ℕ) (n : ℕ) → 0 < length text → prefix_len is_name_byte text ≡ 0 →
    (get_or text 0 0 ≡ 35 → n ≡ prefix_len in_line text) → (get_or text 0 0 ≢ 35 → n ≡ 1) → gap ≡ take n text → rest ≡ drop n text → renamed_text pairs text ≡ gap ++ renamed_text pairs rest
gap_kept pairs [] gap rest n some none comment other front back = absurd (omega arith)
gap_kept pairs (b ∷ bs) gap rest n some none comment other front back =
    elim (cases_eq b 35) [
      | inl e ↦
          let k = prefix_len in_line bs in
          let count : n ≡ suc k = comment e ∙ ap (λ x. cond (in_line x) (1 + k) 0) e ∙ one-add k in
          let g : gap ≡ 35 ∷ take k bs = front ∙ ap (λ m. take m (b ∷ bs)) count ∙ ap (λ x. x ∷ take k bs) e in
          let r : rest ≡ drop k bs = back ∙ ap (λ m. drop m (b ∷ bs)) count in
          ap (λ x. renamed_text pairs (x ∷ bs)) e ∙ comment_kept pairs bs ∙
          sym (ap (λ x. x ++ renamed_text pairs rest) g ∙ ap (λ x. (35 ∷ take k bs) ++ renamed_text pairs x) r)
      | inr ne ↦
          let count : n ≡ 1 = other ne in
          let g : gap ≡ b ∷ [] = front ∙ ap (λ m. take m (b ∷ bs)) count in
          let r : rest ≡ bs = back ∙ ap (λ m. drop m (b ∷ bs)) count in
          byte_kept pairs b bs (no_letter (is_name_byte b) (prefix_len is_name_byte bs) none) (no_hash b ne) ∙
          sym (ap (λ x. x ++ renamed_text pairs rest) g ∙ ap (λ x. b ∷ renamed_text pairs x) r)
    ]

is_zero : (n : ℕ) → (n == 0) ≡ true → n ≡ 0
is_zero n e = grind arith

-- nothing is left of the text
pub all_written : (pairs : List NamePair) (text rest out : List ℕ) → (length rest == 0) ≡ true → out ++ renamed_text pairs rest ≡ renamed_text pairs text → out ≡ renamed_text pairs text
unfolding pieces_in
all_written pairs text [] out e h = sym (append-nil out) ∙ h
all_written pairs text (b ∷ bs) out e h = let none : length (b ∷ bs) ≡ 0 = is_zero (length (b ∷ bs)) e in absurd (omega arith)
