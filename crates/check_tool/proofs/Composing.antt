-- What a run does, from what its parts do.
use Rattle.std.proofs.Common.{◌≡◌, ◌∙◌, ◌++◌, ◌⊎◌, inl, inr, ℕ, Bool, true, false, List, [], ◌∷◌, Option, Some, None, refl, sym, ap, subst, append-nil}
use Rattle.std.specs.Prelude.{IfSome, option_map, ◌||◌}
use Rattle.std.specs.Borrow.{Bor}
use Rattle.std.specs.Io.KnownBytes.{Keeps}
use Rattle.std.proofs.lemmas.List.{append_assoc}
use Rattle.command_line.specs.declared.options.Options.{Options}
use Rattle.command_line.specs.declared.options.Texts.{Texts}
use Rattle.command_line.specs.declared.options.Texts.TheVariants.{Input, Files, InputAndFile, FileAndInput, InputTwice, One}
use Rattle.check_tool.specs.declared.fault.FileRole.TheVariants.{First, Second, Given as GivenFile, Pairs as PairsFile, Order as OrderFile}
use Rattle.check_tool.specs.declared.fault.ToolFault.{ToolFault}
use Rattle.check_tool.specs.declared.fault.ToolFault.TheVariants.{OneFile, InputTwice as DashTwice, CannotOpen, CannotSave, InputUnread, InputTooLong, InputUndivided, BadPairs, BadOrder, Check, OutOfMemory}
use Rattle.check_tool.specs.Splitting.{IsSplit}
use Rattle.check_tool.specs.Ending.{Written, IsSaidOf}
use Rattle.check_tool.specs.Faults.{fault_status}
use Rattle.check_tool.specs.Opening.{Try, Extends, opened, AreTried}
use Rattle.check_tool.specs.Running.{IsOpenFault, AreTwo, first_paths, second_paths, text_paths, order_paths, path_in, later_paths, IsReadOf, IsShort, AreTexts, HasTexts, IsLaterFault, IsToolFault}

-- ---- files that were tried

pub extends_none : {A : Type 0} (a : Option (List A)) → Extends a a []
extends_none None = tt
extends_none (Some xs) = sym (append-nil xs)

pub extends_more : (a b c : Option (List Try)) (ts us : List Try) → Extends a b ts → Extends b c us → Extends a c (ts ++ us)
extends_more None b c ts us e f = tt
extends_more (Some x) None c ts us e f = absurd e
extends_more (Some x) (Some y) None ts us e f = absurd f
extends_more (Some x) (Some y) (Some z) ts us e f = f ∙ ap (λ l. l ++ us) e ∙ append_assoc x ts us

pub opened_more : (ps qs : List (List ℕ)) → opened (ps ++ qs) ≡ opened ps ++ opened qs
opened_more [] qs = refl
opened_more (p ∷ ps) qs = ap (λ l. (p, true) ∷ l) (opened_more ps qs)

pub tried_more : (ps qs : List (List ℕ)) (ts : List Try) → AreTried qs ts → AreTried (ps ++ qs) (opened ps ++ ts)
tried_more [] qs ts t = t
tried_more (p ∷ ps) qs ts t = (refl, tried_more ps qs ts t)

-- what was tried of some paths was tried of these and more
pub tried_first : (ps qs : List (List ℕ)) (ts : List Try) → AreTried ps ts → AreTried (ps ++ qs) ts
tried_first ps qs [] t = tt
tried_first [] qs (t ∷ ts) a = absurd a
tried_first (p ∷ ps) qs ((asked, true) ∷ ts) a = (a.0, tried_first ps qs ts a.1)
tried_first (p ∷ ps) qs ((asked, false) ∷ ts) a = a

pub opened_twice : (ps qs : List (List ℕ)) (ts : List Try) → opened ps ++ (opened qs ++ ts) ≡ opened (ps ++ qs) ++ ts
opened_twice ps qs ts = sym (append_assoc (opened ps) (opened qs) ts) ∙ ap (λ l. l ++ ts) (sym (opened_more ps qs))

pub keeps_own : (a : Option (List ℕ)) → Keeps a a
keeps_own None = tt
keeps_own (Some xs) = refl

-- nothing more is printed if it is not asked for and there is no terminal
pub neither : (verbose on_terminal : Bool) → verbose ≡ false → on_terminal ≡ false → (verbose || on_terminal) ≡ false
neither verbose on_terminal e f = ap (λ v. v || on_terminal) e ∙ f

-- the status of a fault that is printed is the status of this fault
pub code_of : (bytes_at : List ℕ → Option (List ℕ)) (o : Options) (w : Written) (fault : ToolFault) (status : ℕ) → IsSaidOf bytes_at o w fault status → status ≡ fault_status fault
code_of bytes_at o w fault status said = said.1.code

-- more is asked for, or it is not
pub asked_or : {A B : Type 0} (verbose : Bool) → (verbose ≡ true → A) → (verbose ≡ false → B) → A ⊎ B
asked_or true f g = inl (f refl)
asked_or false f g = inr (g refl)

-- ---- the two texts

pub input_texts : (bytes_at : List ℕ → Option (List ℕ)) (input : Option (List ℕ)) (o : Options) → o.texts ≡ Input → (text one two : List ℕ) (first second : Option (List ℕ)) → first ≡ Some one → second ≡ Some two
    → IfSome input (λ t. text ≡ t) → IsShort text → IsSplit text (Some (one, two)) → AreTexts bytes_at input o.texts first second
input_texts bytes_at input o is text one two first second f g e short s = subst (λ t. AreTexts bytes_at input t first second) (sym is) (by input e)
  where
    by : (input : Option (List ℕ)) → IfSome input (λ t. text ≡ t) → AreTexts bytes_at input Input first second
    by None e = tt
    by (Some t) e = (subst IsShort e short, (one, two), subst (λ z. IsSplit z (Some (one, two))) e s, f, g)

pub files_texts : (bytes_at bytes_at' : List ℕ → Option (List ℕ)) → bytes_at' ≡ bytes_at → (input : Option (List ℕ)) (o : Options) (first second : Bor (List ℕ)) → o.texts ≡ Files first second → (one two : Option (List ℕ))
    → IfSome (bytes_at first.now) (λ text. one ≡ Some text) → IfSome (bytes_at' second.now) (λ text. two ≡ Some text) → AreTexts bytes_at input o.texts one two
files_texts bytes_at bytes_at' files_unchanged input o first second is one two e f =
    subst (λ t. AreTexts bytes_at input t one two) (sym is) (e, subst (λ t. IfSome (t second.now) (λ text. two ≡ Some text)) files_unchanged f)

-- a text that is known is the one that was read
pub read_itself : (text : Option (List ℕ)) → IsReadOf text text
read_itself None = tt
read_itself (Some bytes) = refl

pub file_and_input : (bytes_at : List ℕ → Option (List ℕ)) (input : Option (List ℕ)) (o : Options) (first : Bor (List ℕ)) → o.texts ≡ FileAndInput first → (one : Option (List ℕ)) → IfSome (bytes_at first.now) (λ text. one ≡ Some text)
    → AreTexts bytes_at input o.texts one input
file_and_input bytes_at input o first is one e = subst (λ t. AreTexts bytes_at input t one input) (sym is) (e, read_itself input)

pub input_and_file : (bytes_at : List ℕ → Option (List ℕ)) (input : Option (List ℕ)) (o : Options) (second : Bor (List ℕ)) → o.texts ≡ InputAndFile second → (two : Option (List ℕ)) → IfSome (bytes_at second.now) (λ text. two ≡ Some text)
    → AreTexts bytes_at input o.texts input two
input_and_file bytes_at input o second is two e = subst (λ t. AreTexts bytes_at input t input two) (sym is) (read_itself input, e)

pub split_parts : (text slice : List ℕ) (r : Option (Bor (List ℕ) × Bor (List ℕ))) (one two : Bor (List ℕ)) → slice ≡ text → r ≡ Some (one, two) → IsSplit slice (option_map (λ parts. (parts.0.now, parts.1.now)) r)
    → IsSplit text (Some (one.now, two.now))
split_parts text slice r one two e f s =
    subst (λ z. IsSplit text (option_map (λ parts. (parts.0.now, parts.1.now)) z)) f (subst (λ z. IsSplit z (option_map (λ parts. (parts.0.now, parts.1.now)) r)) e s)

pub split_none : (slice text : List ℕ) → slice ≡ text → IsSplit slice None → IsSplit text None
split_none slice text e s = subst (λ z. IsSplit z None) e s

pub undivided : (input : Option (List ℕ)) (text : List ℕ) → IfSome input (λ t. text ≡ t) → IsShort text → IsSplit text None → IfSome input (λ t. IsShort t × IsSplit t None)
undivided None text e short s = tt
undivided (Some t) text e short s = (subst IsShort e short, subst (λ z. IsSplit z None) e s)

pub has_texts : (bytes_at : List ℕ → Option (List ℕ)) (input : Option (List ℕ)) (t : Texts) (one two : Option (List ℕ)) → AreTexts bytes_at input t one two → HasTexts input t
has_texts bytes_at input (Files first second) one two a = tt
has_texts bytes_at None Input one two a = tt
has_texts bytes_at (Some text) Input one two a = (a.0, a.1, a.2)
has_texts bytes_at input (FileAndInput first) one two a = tt
has_texts bytes_at input (InputAndFile second) one two a = tt
has_texts bytes_at input InputTwice one two a = absurd a
has_texts bytes_at input One one two a = absurd a

are_two : (bytes_at : List ℕ → Option (List ℕ)) (input : Option (List ℕ)) (t : Texts) (one two : Option (List ℕ)) → AreTexts bytes_at input t one two → AreTwo t
are_two bytes_at input (Files first second) one two a = tt
are_two bytes_at input Input one two a = tt
are_two bytes_at input (FileAndInput first) one two a = tt
are_two bytes_at input (InputAndFile second) one two a = tt
are_two bytes_at input InputTwice one two a = absurd a
are_two bytes_at input One one two a = absurd a

two_from_first : (t : Texts) (path : List ℕ) → first_paths t ≡ path ∷ [] → AreTwo t
two_from_first (Files first second) path e = tt
two_from_first Input path e = tt
two_from_first (FileAndInput first) path e = tt
two_from_first (InputAndFile second) path e = tt
two_from_first InputTwice path e = cc
two_from_first One path e = cc

-- ---- a file after those of the texts

module _ (bytes_at : List ℕ → Option (List ℕ)) (broken : List ℕ → Type 0) (input_broken : Type 0) (input : Option (List ℕ)) (o : Options) (one two : Option (List ℕ)) (texts : AreTexts bytes_at input o.texts one two) where
  -- a fault of the files after those of the texts, with the tries of these before it
  pub later_fault : (tries : List Try) (fault : ToolFault) → IsLaterFault bytes_at broken o tries fault → IsToolFault bytes_at broken input_broken input o (opened (text_paths o.texts) ++ tries) fault
  later_fault tries OneFile (inl f) = absurd f
  later_fault tries OneFile (inr (inl f)) = absurd f.2
  later_fault tries OneFile (inr (inr f)) = absurd f.2.2
  later_fault tries DashTwice (inl f) = absurd f
  later_fault tries DashTwice (inr (inl f)) = absurd f.2
  later_fault tries DashTwice (inr (inr f)) = absurd f.2.2
  later_fault tries (CannotSave obstacle) (inl f) = absurd f
  later_fault tries (CannotSave obstacle) (inr (inl f)) = absurd f.2
  later_fault tries (CannotSave obstacle) (inr (inr f)) = absurd f.2.2
  later_fault tries InputUnread (inl f) = absurd f
  later_fault tries InputUnread (inr (inl f)) = absurd f.2
  later_fault tries InputUnread (inr (inr f)) = absurd f.2.2
  later_fault tries InputTooLong (inl f) = absurd f
  later_fault tries InputTooLong (inr (inl f)) = absurd f.2
  later_fault tries InputTooLong (inr (inr f)) = absurd f.2.2
  later_fault tries InputUndivided (inl f) = absurd f
  later_fault tries InputUndivided (inr (inl f)) = absurd f.2
  later_fault tries InputUndivided (inr (inr f)) = absurd f.2.2
  later_fault tries (Check fault) (inl f) = absurd f
  later_fault tries (Check fault) (inr (inl f)) = absurd f.2
  later_fault tries (Check fault) (inr (inr f)) = absurd f.2.2
  later_fault tries (CannotOpen First obstacle) (inl f) = absurd f
  later_fault tries (CannotOpen First obstacle) (inr (inl f)) = absurd f.2
  later_fault tries (CannotOpen First obstacle) (inr (inr f)) = absurd f.2.2
  later_fault tries (CannotOpen Second obstacle) (inl f) = absurd f
  later_fault tries (CannotOpen Second obstacle) (inr (inl f)) = absurd f.2
  later_fault tries (CannotOpen Second obstacle) (inr (inr f)) = absurd f.2.2
  later_fault tries (CannotOpen GivenFile obstacle) (inl f) =
      (f.0, f.1, has_texts bytes_at input o.texts one two texts, ap (λ l. opened (text_paths o.texts) ++ l) f.2)
  later_fault tries (CannotOpen GivenFile obstacle) (inr (inl f)) = absurd f.2
  later_fault tries (CannotOpen GivenFile obstacle) (inr (inr f)) = absurd f.2.2
  later_fault tries (CannotOpen PairsFile obstacle) (inl f) = absurd f
  later_fault tries (CannotOpen PairsFile obstacle) (inr (inl f)) =
      (f.2.0, f.2.1, has_texts bytes_at input o.texts one two texts, ap (λ l. opened (text_paths o.texts) ++ l) (f.1 ∙ ap (λ l. opened (path_in o.given) ++ l) f.2.2) ∙ opened_twice (text_paths o.texts) (path_in o.given) ((f.2.0.now, false) ∷ []))
  later_fault tries (CannotOpen PairsFile obstacle) (inr (inr f)) = absurd f.2.2
  later_fault tries (CannotOpen OrderFile obstacle) (inl f) = absurd f
  later_fault tries (CannotOpen OrderFile obstacle) (inr (inl f)) = absurd f.2
  later_fault tries (CannotOpen OrderFile obstacle) (inr (inr f)) =
      (f.2.0, f.2.1, has_texts bytes_at input o.texts one two texts, ap (λ l. opened (text_paths o.texts) ++ l) (f.1 ∙ ap (λ l. opened (path_in o.given ++ path_in o.pairs) ++ l) f.2.2) ∙ opened_twice (text_paths o.texts) (path_in o.given ++ path_in o.pairs) ((f.2.0, false) ∷ []), f.3)
  later_fault tries (BadPairs fault) (inl f) = absurd f
  later_fault tries (BadPairs fault) (inr (inl f)) = (
    f.2.0,
    f.2.1,
    has_texts bytes_at input o.texts one two texts,
    inl (
      ap (λ l. opened (text_paths o.texts) ++ l) (f.1 ∙ ap (λ l. opened (path_in o.given) ++ l) f.2.2 ∙ sym (opened_more (path_in o.given) (f.2.0.now ∷ []))) ∙ sym (opened_more (text_paths o.texts) (path_in o.given ++ f.2.0.now ∷ [])),
      f.2.3,
    ),
  )
  later_fault tries (BadPairs fault) (inr (inr f)) = absurd f.2.2
  later_fault tries (BadOrder fault) (inl f) = absurd f
  later_fault tries (BadOrder fault) (inr (inl f)) = absurd f.2
  later_fault tries (BadOrder fault) (inr (inr f)) =
      (f.2.0, f.2.1, has_texts bytes_at input o.texts one two texts, ap (λ l. opened (text_paths o.texts) ++ l) (f.1 ∙ ap (λ l. opened (path_in o.given ++ path_in o.pairs) ++ l) (f.2.2.0 ∙ ap opened (sym f.2.1)) ∙ sym (opened_more (path_in o.given ++ path_in o.pairs) (order_paths o.order)) ∙ ap opened (append_assoc (path_in o.given) (path_in o.pairs) (order_paths o.order))) ∙ sym (opened_more (text_paths o.texts) (later_paths o)), f.2.2.1, f.3)
  later_fault tries OutOfMemory (inl f) =
      (are_two bytes_at input o.texts one two texts, tried_more (text_paths o.texts) (later_paths o) tries (tried_first (path_in o.given) (path_in o.pairs ++ order_paths o.order) tries f))
  later_fault tries OutOfMemory (inr (inl f)) = (
    are_two bytes_at input o.texts one two texts,
    tried_more (text_paths o.texts) (later_paths o) tries (subst (λ l. AreTried (later_paths o) l) (sym f.1) (tried_more (path_in o.given) (path_in o.pairs ++ order_paths o.order) f.0 (tried_first (path_in o.pairs) (order_paths o.order) f.0 f.2))),
  )
  later_fault tries OutOfMemory (inr (inr f)) = (
    are_two bytes_at input o.texts one two texts,
    tried_more (text_paths o.texts) (later_paths o) tries (subst (λ l. AreTried (later_paths o) l) (sym f.1)
        (subst (λ ps. AreTried ps (opened (path_in o.given ++ path_in o.pairs) ++ f.0)) (append_assoc (path_in o.given) (path_in o.pairs) (order_paths o.order))
        (tried_more (path_in o.given ++ path_in o.pairs) (order_paths o.order) f.0 (subst (λ p. AreTried p f.0) (sym f.2.1) f.2.2)))),
  )

-- ---- two files

module _ (o : Options) (first second : Bor (List ℕ)) (files : o.texts ≡ Files first second) where
  pub both_opened : (a b c : Option (List Try)) → Extends a b ((first.now, true) ∷ []) → Extends b c ((second.now, true) ∷ []) → Extends a c (opened (text_paths o.texts))
  both_opened a b c e f = subst (λ t. Extends a c (opened (text_paths t))) (sym files) (extends_more a b c ((first.now, true) ∷ []) ((second.now, true) ∷ []) e f)

  pub second_unopened : (bytes_at : List ℕ → Option (List ℕ)) (broken : List ℕ → Type 0) (input_broken : Type 0) (input : Option (List ℕ)) (fault : ToolFault) (a b c : Option (List Try)) → IsOpenFault Second fault
      → Extends a b ((first.now, true) ∷ []) → Extends b c ((second.now, false) ∷ []) → (tries : List Try) × Extends a c tries × IsToolFault bytes_at broken input_broken input o tries fault
  second_unopened bytes_at broken input_broken input fault a b c (inl (obstacle, is)) e f = (
    (first.now, true) ∷ (second.now, false) ∷ [],
    extends_more a b c ((first.now, true) ∷ []) ((second.now, false) ∷ []) e f,
    subst (λ x. IsToolFault bytes_at broken input_broken input o ((first.now, true) ∷ (second.now, false) ∷ []) x) (sym is) (second.now, ap second_paths files, sym (ap (λ t. opened (first_paths t) ++ (second.now, false) ∷ []) files)),
  )
  second_unopened bytes_at broken input_broken input fault a b c (inr is) e f = (
    (first.now, true) ∷ (second.now, false) ∷ [],
    extends_more a b c ((first.now, true) ∷ []) ((second.now, false) ∷ []) e f,
    subst (λ x. IsToolFault bytes_at broken input_broken input o ((first.now, true) ∷ (second.now, false) ∷ []) x) (sym is)
        (subst (λ t. AreTwo t × AreTried (text_paths t ++ later_paths o) ((first.now, true) ∷ (second.now, false) ∷ [])) (sym files) (tt, (refl, (refl, refl)))),
  )

-- ---- the first file could not be opened

pub first_unopened : (o : Options) (path : List ℕ) → first_paths o.texts ≡ path ∷ [] → (bytes_at : List ℕ → Option (List ℕ)) (broken : List ℕ → Type 0) (input_broken : Type 0) (input : Option (List ℕ)) (fault : ToolFault) (a b : Option (List Try))
    → IsOpenFault First fault → Extends a b ((path, false) ∷ []) → (tries : List Try) × Extends a b tries × IsToolFault bytes_at broken input_broken input o tries fault
first_unopened o path named bytes_at broken input_broken input fault a b (inl (obstacle, is)) e =
    ((path, false) ∷ [], e, subst (λ x. IsToolFault bytes_at broken input_broken input o ((path, false) ∷ []) x) (sym is) (path, named, refl))
first_unopened o path named bytes_at broken input_broken input fault a b (inr is) e = (
  (path, false) ∷ [],
  e,
  subst (λ x. IsToolFault bytes_at broken input_broken input o ((path, false) ∷ []) x) (sym is)
      (two_from_first o.texts path named, subst (λ ps. AreTried ((ps ++ second_paths o.texts) ++ later_paths o) ((path, false) ∷ [])) (sym named) (refl, refl)),
)

-- ---- one file and the input

module _ (o : Options) (path : List ℕ) (named : text_paths o.texts ≡ path ∷ []) where
  pub one_opened : (a b : Option (List Try)) → Extends a b ((path, true) ∷ []) → Extends a b (opened (text_paths o.texts))
  one_opened a b e = subst (λ ps. Extends a b (opened ps)) (sym named) e

pub second_unopened_beside : (o : Options) (second : Bor (List ℕ)) → o.texts ≡ InputAndFile second → (bytes_at : List ℕ → Option (List ℕ)) (broken : List ℕ → Type 0) (input_broken : Type 0) (input : Option (List ℕ)) (fault : ToolFault) (a b : Option (List Try))
    → IsOpenFault Second fault → Extends a b ((second.now, false) ∷ []) → (tries : List Try) × Extends a b tries × IsToolFault bytes_at broken input_broken input o tries fault
second_unopened_beside o second beside bytes_at broken input_broken input fault a b (inl (obstacle, is)) e = (
  (second.now, false) ∷ [],
  e,
  subst (λ x. IsToolFault bytes_at broken input_broken input o ((second.now, false) ∷ []) x) (sym is) (second.now, ap second_paths beside, sym (ap (λ t. opened (first_paths t) ++ (second.now, false) ∷ []) beside)),
)
second_unopened_beside o second beside bytes_at broken input_broken input fault a b (inr is) e = (
  (second.now, false) ∷ [],
  e,
  subst (λ x. IsToolFault bytes_at broken input_broken input o ((second.now, false) ∷ []) x) (sym is)
      (subst (λ t. AreTwo t × AreTried (text_paths t ++ later_paths o) ((second.now, false) ∷ [])) (sym beside) (tt, (refl, refl))),
)
