-- The check of one pair after the other.
use Rattle.std.proofs.Common.{◌≡◌, ◌+◌, ◌<◌, ◌≤◌, ℕ, List, subst, length, take, drop, get_or}
use Rattle.std.specs.Prelude.{All, Some}
use Rattle.std.proofs.lemmas.List.{take_all}
use Rattle.std.proofs.lemmas.List.Elements.{All-more}
use Rattle.net_bench.specs.Circuit.{Circuit}
use Rattle.net_rename.specs.declared.pair.NamePair.{NamePair}
use Rattle.net_rename.specs.declared.fault.PairsFault.{PairsFault}
use Rattle.net_rename.specs.declared.fault.PairsFault.TheVariants.{BadLine, TooLong, Read, UnknownFirst, UnknownSecond, Repeated, Taken, OutOfMemory}
use Rattle.net_rename.specs.Renaming.{AreBadPairs, AreOnce, IsPairFault, IsRightPair}
use Rattle.net_rename.proofs.Columns.{parted}

module _ (a b : Circuit) (pairs : List NamePair) (i : ℕ) (p : NamePair) (once : AreOnce pairs) (low : i < length pairs)
    (at : p ≡ get_or pairs i p) (right : All (IsRightPair a b pairs) (take i pairs)) where
  -- the fault of the first pair of which something is wrong is that of the list
  pub bad_pair : (fault : PairsFault) → IsPairFault a b pairs p (Some fault) → AreBadPairs a b pairs fault
  bad_pair (UnknownFirst line) wrong = (take i pairs, drop (i + 1) pairs, p, parted pairs i p low at, wrong.0, once, right, wrong.1)
  bad_pair (UnknownSecond line) wrong =
      (take i pairs, drop (i + 1) pairs, p, parted pairs i p low at, wrong.0, once, right, (wrong.1, wrong.2))
  bad_pair (Taken line) wrong =
      (take i pairs, drop (i + 1) pairs, p, parted pairs i p low at, wrong.0, once, right, (wrong.1, wrong.2, wrong.3))
  bad_pair (Repeated line) wrong = absurd wrong
  bad_pair (BadLine line) wrong = absurd wrong
  bad_pair TooLong wrong = absurd wrong
  bad_pair Read wrong = absurd wrong
  bad_pair OutOfMemory wrong = absurd wrong

module _ (P : NamePair → Type 0) (pairs : List NamePair) (i : ℕ) where
  -- it holds of one more pair
  pub pair_more : (p : NamePair) → i < length pairs → p ≡ get_or pairs i p → All P (take i pairs) → P p → All P (take (i + 1) pairs)
  pair_more p low at all this = All-more P pairs i p low all (subst P at this)

  -- and at the end of each
  pub each_pair : length pairs ≤ i → All P (take i pairs) → All P pairs
  each_pair past all = subst (All P) (take_all i pairs past) all
