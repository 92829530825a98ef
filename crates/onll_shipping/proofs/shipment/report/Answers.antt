use Rattle.onll_shipping.proofs.Written.{ship_in_words}
use Rattle.onll_shipping.proofs.shipment.report.Goals as goal

pub line-requires-clause-words : goal.line-requires-clause-words
line-requires-clause-words c = ship_in_words c.args.entries c.args.bytes
