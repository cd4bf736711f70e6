use Rattle.std.proofs.Common.{◌≡◌, length}
use Rattle.std.specs.List.{list_any}
use Rattle.compare_built.specs.NamePatterns.{matches, rests}
use Rattle.compare_built.proofs.name_pattern.+fit_of.Given as goal

-- each call has a shorter pattern
abbrev pub decreases-fit_of : goal.decreases-fit_of
decreases-fit_of l = length l.pattern.now

-- no end of the name that was tried so far matches
abbrev pub invariant-rests : goal.invariant-rests
invariant-rests l = list_any (matches l.following) (rests l.name) ≡ list_any (matches l.following) (rests l.rest)

abbrev pub decreases-rests : goal.decreases-rests
decreases-rests l = length l.rest
