use Rattle.limit_law.proofs.Deciding.{within_or_beyond}
use Rattle.limit_law.proofs.fits_or_exceeds.Goals as goal

pub returns : goal.returns
returns c = within_or_beyond
