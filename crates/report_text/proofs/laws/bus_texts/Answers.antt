use Rattle.report_text.proofs.BusNumbers.{text_number}
use Rattle.report_text.proofs.laws.bus_texts.Goals as goal

pub returns : goal.returns
returns c = λ bus at. text_number bus at
