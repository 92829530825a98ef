use Rattle.std.proofs.Common.{ap}
use Rattle.onll_pmem.specs.Pmem.{words_of}
use Rattle.onll_outside.specs.MemStore.{FilesHeld}
use Rattle.onll_outside.proofs.Devices.{others-reopened, wipes-reopened}
use Rattle.onll_outside.proofs.mem_store.MemStoreStore.reopen.Goals as goal

pub returns-in-Ok-clause-file : goal.returns-in-Ok-clause-file
returns-in-Ok-clause-file c tells = let d = c.device_of.ensures in
    wipes-reopened c.device_of.result c.args.self.now c.begin_call.new.self c.device_of.new.self c.args.name.now (words_of c.in-Ok.image.items)
    (ap (λ (s : FilesHeld). s.files) c.begin_call.ensures.called) d.file d.refused (words_of c.args.front.now) c.args.lines c.in-Ok.ensures c.requires.begins

pub returns-in-Ok-clause-others : goal.returns-in-Ok-clause-others
returns-in-Ok-clause-others c = let d = c.device_of.ensures in
    others-reopened c.device_of.result c.args.self.now c.begin_call.new.self c.device_of.new.self c.args.name.now (words_of c.in-Ok.image.items)
    (ap (λ (s : FilesHeld). s.files) c.begin_call.ensures.called) d.file d.refused
