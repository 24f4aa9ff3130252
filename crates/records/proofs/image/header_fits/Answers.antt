use Rattle.records.specs.Frame.{header_fits}
use Rattle.records.proofs.image.header_fits.Goals as goal

pub returns : goal.returns
unfolding header_fits
returns c = cc
