use Rattle.onll_merge.proofs.Backs.{stands_at, node_among-lies, held_once}
use Rattle.onll_merge.proofs.place_laws.Goals as goal

pub returns : goal.returns
returns c = record { stands = stands_at; no_other = node_among-lies; once = held_once 0 }
