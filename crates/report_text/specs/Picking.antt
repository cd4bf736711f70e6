-- What a choice of pairs says of a report.
use Rattle.std.specs.Prelude.{Option, Some, None}
use Rattle.report_text.specs.declared.outcome.Share.{Share}
use Rattle.report_text.specs.declared.pair_filter.PairFilter.{PairFilter}
use Rattle.report_text.specs.declared.pair_filter.PairFilter.TheVariants.{All, Only, Share as InShare}

-- the share that a report is of, if it is of one
abbrev pub share_of : {P : Type 0} → PairFilter P → Option Share
share_of All = None
share_of (Only patterns) = None
share_of (InShare share) = Some share
