use Rattle.onll_log.proofs.Append.{FillsLines-written_front}
use Rattle.onll_log.proofs.Torn.{TornOrWhole-Mixed, TornOrWhole-Among, TornOrWhole-steps, Among-front}
use Rattle.onll_log.proofs.laws.torn_laws.Goals as goal

pub returns : goal.returns
returns c = record { torn = TornOrWhole-Mixed; part = TornOrWhole-Among; crash = TornOrWhole-steps; front = Among-front; append = FillsLines-written_front }
