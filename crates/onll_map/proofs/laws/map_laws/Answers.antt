use Rattle.onll_map.proofs.Lookups.{put_law, del_law, others_law, full_law, next_law, no_next_law, kept_law}
use Rattle.onll_map.proofs.laws.map_laws.Goals as goal

pub returns-clause-put : goal.returns-clause-put
returns-clause-put c = put_law

pub returns-clause-del : goal.returns-clause-del
returns-clause-del c = del_law

pub returns-clause-others : goal.returns-clause-others
returns-clause-others c = others_law

pub returns-clause-full : goal.returns-clause-full
returns-clause-full c = full_law

pub returns-clause-next : goal.returns-clause-next
returns-clause-next c = next_law

pub returns-clause-no_next : goal.returns-clause-no_next
returns-clause-no_next c = no_next_law

pub returns-clause-kept : goal.returns-clause-kept
returns-clause-kept c = kept_law
