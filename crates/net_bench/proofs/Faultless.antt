-- The statements of a text without a faulty place are sound.
use Rattle.std.proofs.Common.{◌≡◌, inl, inr, ℕ, zero, suc, ◌+◌, ◌-◌, ◌<◌, ◌≤◌, List, [], ◌∷◌, ◌++◌, Bool, true, false, refl, sym, ap, ◌∙◌, subst, map, length, get_or, take, drop, arith, append_assoc, append-nil, length-append}
use Rattle.std.specs.Prelude.{flat_map, Option, Some, None, is_some}
use Rattle.std.proofs.lemmas.Bool.{cases_lt}
use Rattle.std.proofs.lemmas.List.{take-map}
use Rattle.std.proofs.lemmas.Option.{slice_get-get_or}
use Rattle.std.proofs.Math.Seq.{take-append_seam}
use Rattle.std.proofs.lemmas.Grind.{flat_map-append}
use Rattle.net_bench.specs.declared.netlist.Kind.{Kind}
use Rattle.net_bench.specs.Text.{Word, Token, Open, Close, Equals, Name, End, Tokens}
use Rattle.net_bench.specs.Statement.{Statement, Input, Output, Gate, spelled, after_comma, spelling, token_of, kind_of, interned, line_of, IsSpelledRight, AreSpelledRight}
use Rattle.net_bench.specs.Circuit.{distinct, names_of}
use Rattle.net_bench.specs.Fault.{NoGateWord, OperandCount, SecondDefinition, LimitExceeded, max_signals, interned_in, has_wrong_operands, redefines, up_to, IsFaultless, ReadsWell}
use Rattle.net_bench.specs.Sound.{IsSound, has_kind}
use Rattle.net_bench.proofs.Interning.{interned_all}

-- ---- places

-- the place at which these first tokens end
record Ends (ts : Tokens) (xs : List Token) (place : ℕ) : Type 0 where
  in_bounds : place < length ts
  whole : up_to ts place ≡ xs

len_map : (ts : Tokens) → length (map token_of ts) ≡ length ts
len_map [] = refl
len_map (t ∷ ts) = ap suc (len_map ts)

ends : (ts : Tokens) (xs ys : List Token) (place : ℕ) → map token_of ts ≡ xs ++ ys → place + 1 ≡ length xs → Ends ts xs place
ends ts xs ys place e n = record {
  in_bounds = omega (arith, len_map ts, ap length e, length-append xs ys);
  whole = sym (take-map token_of (place + 1) ts) ∙ ap (take (place + 1)) e ∙ ap (λ k. take k (xs ++ ys)) n ∙ take-append_seam xs ys;
}

-- ---- a statement among others

cut : (ss : List Statement) (k : ℕ) (d : Statement) → k < length ss → ss ≡ take k ss ++ get_or ss k d ∷ drop (suc k) ss
cut [] k d low = absurd (omega arith)
cut (s ∷ ss) zero d low = refl
cut (s ∷ ss) (suc k) d low = ap (λ l. s ∷ l) (cut ss k d (omega arith))

right_cut : (front back : List Statement) (x : Statement) → AreSpelledRight (front ++ x ∷ back) → AreSpelledRight front × IsSpelledRight x
right_cut [] back x h = (tt, h.0)
right_cut (s ∷ front) back x h = let rest : AreSpelledRight front × IsSpelledRight x = right_cut front back x h.1 in ((h.0, rest.0), rest.1)

some_tokens : (x : Statement) → 0 < length (spelled x)
some_tokens (Input word name) = omega arith
some_tokens (Output word name) = omega arith
some_tokens (Gate out word first others) = omega arith

not_true : (b : Bool) → (b ≡ true → ⊥) → b ≡ false
not_true true h = absurd (h refl)
not_true false h = refl

-- the tokens after a gate's word
abbrev after_word : Word → List Word → List Token
after_word first others = Open ∷ Name first ∷ (flat_map after_comma others ++ Close ∷ [])

module _ (ts : Tokens) (ss : List Statement) (right : AreSpelledRight ss) (reads : map token_of ts ≡ spelling ss) (clean : IsFaultless ts) where
  -- the tokens cut at the end of a statement
  tokens_cut : (front back : List Statement) (x : Statement) → ss ≡ front ++ x ∷ back →
      map token_of ts ≡ (flat_map spelled front ++ spelled x) ++ (flat_map spelled back ++ End ∷ [])
  tokens_cut front back x e =
      reads ∙ ap spelling e ∙ ap (λ l. l ++ End ∷ []) (flat_map-append spelled front (x ∷ back)) ∙
      append_assoc (flat_map spelled front) (spelled x ++ flat_map spelled back) (End ∷ []) ∙
      ap (λ l. flat_map spelled front ++ l) (append_assoc (spelled x) (flat_map spelled back) (End ∷ [])) ∙
      sym (append_assoc (flat_map spelled front) (spelled x) (flat_map spelled back ++ End ∷ []))

  module _ (front back : List Statement) (x : Statement) (e : ss ≡ front ++ x ∷ back) where
    parts : AreSpelledRight front × IsSpelledRight x
    parts = right_cut front back x (subst AreSpelledRight e right)

    last : ℕ
    last = length (flat_map spelled front ++ spelled x) - 1

    at_end : Ends ts (flat_map spelled front ++ spelled x) (length (flat_map spelled front ++ spelled x) - 1)
    at_end =
        ends ts (flat_map spelled front ++ spelled x) (flat_map spelled back ++ End ∷ []) (length (flat_map spelled front ++ spelled x) - 1) (tokens_cut front back x e)
        (omega (arith, length-append (flat_map spelled front) (spelled x), some_tokens x))

    good_count : has_wrong_operands x ≡ false
    good_count =
        not_true (has_wrong_operands x)
        (λ wrong. clean (length (flat_map spelled front ++ spelled x) - 1) (line_of x) OperandCount at_end.in_bounds (front, x, (parts.0, at_end.whole), parts.1, refl, wrong))

    good_definition : redefines front x ≡ false
    good_definition =
        not_true (redefines front x)
        (λ again. clean (length (flat_map spelled front ++ spelled x) - 1) (line_of x) SecondDefinition at_end.in_bounds (front, x, (parts.0, at_end.whole), parts.1, refl, again))

  -- a gate's word has a kind
  module _ (front back : List Statement) (out word first : Word) (others : List Word) (e : ss ≡ front ++ Gate out word first others ∷ back) where
    word_tokens : List Token
    word_tokens = Name out ∷ Equals ∷ Name word ∷ []

    at_word : Ends ts (flat_map spelled front ++ Name out ∷ Equals ∷ Name word ∷ []) (length (flat_map spelled front) + 2)
    at_word =
        ends ts (flat_map spelled front ++ Name out ∷ Equals ∷ Name word ∷ []) (after_word first others ++ (flat_map spelled back ++ End ∷ [])) (length (flat_map spelled front) + 2)
        (tokens_cut front back (Gate out word first others) e ∙
        append_assoc (flat_map spelled front) (spelled (Gate out word first others)) (flat_map spelled back ++ End ∷ []) ∙
        sym (append_assoc (flat_map spelled front) (Name out ∷ Equals ∷ Name word ∷ []) (after_word first others ++ (flat_map spelled back ++ End ∷ []))))
        (omega (arith, length-append (flat_map spelled front) (Name out ∷ Equals ∷ Name word ∷ [])))

    front_right : AreSpelledRight front
    front_right = (right_cut front back (Gate out word first others) (subst AreSpelledRight e right)).0

    no_kind : (o : Option Kind) → kind_of word.text ≡ o → is_some o ≡ true
    no_kind (Some kind) is = refl
    no_kind None is = absurd (clean (length (flat_map spelled front) + 2) out.line NoGateWord at_word.in_bounds (front, out, word, (front_right, at_word.whole), refl, is))

    good_word : is_some (kind_of word.text) ≡ true
    good_word = no_kind (kind_of word.text) refl

  good_kind : (front back : List Statement) (x : Statement) → ss ≡ front ++ x ∷ back → has_kind x ≡ true
  good_kind front back (Input word name) e = refl
  good_kind front back (Output word name) e = refl
  good_kind front back (Gate out word first others) e = good_word front back out word first others e

  -- the end of the text
  at_text_end : Ends ts (spelling ss) (length (flat_map spelled ss))
  at_text_end =
      ends ts (spelling ss) [] (length (flat_map spelled ss)) (reads ∙ sym (append-nil (spelling ss)))
      (omega (arith, length-append (flat_map spelled ss) (End ∷ [])))

  abbrev here : ℕ × Token
  here = get_or ts (length (flat_map spelled ss)) (0, End)

  all_interned : interned_in (up_to ts (length (flat_map spelled ss))) ≡ flat_map interned ss
  all_interned = ap interned_in at_text_end.whole ∙ interned_all ss (End ∷ []) ∙ append-nil (flat_map interned ss)

  good_number : length (names_of ss) ≤ max_signals
  good_number =
      elim (cases_lt max_signals (length (names_of ss))) [
        | inl many ↦ absurd (clean (length (flat_map spelled ss)) here.0 LimitExceeded at_text_end.in_bounds (
          here.1,
          slice_get-get_or ts (length (flat_map spelled ss)) (0, End) at_text_end.in_bounds,
          inl (subst (λ (ns : List (List ℕ)). max_signals < length (distinct ns)) (sym all_interned) many),
        ))
        | inr few ↦ few
      ]

  pub sound : IsSound ss
  sound = record {
    kinds = λ k d low. good_kind (take k ss) (drop (suc k) ss) (get_or ss k d) (cut ss k d low);
    counts = λ k d low. good_count (take k ss) (drop (suc k) ss) (get_or ss k d) (cut ss k d low);
    once = λ k d low. good_definition (take k ss) (drop (suc k) ss) (get_or ss k d) (cut ss k d low);
    signals = good_number;
  }

-- the statements of a text without a faulty place are sound
pub faultless_sound : (text : List ℕ) (ss : List Statement) → ReadsWell text ss → IsSound ss
faultless_sound text ss (short, (ts, has, right, reads), clean) = sound ts ss right reads (clean ts has)
