use Rattle.onll_log.proofs.Writing.{Puts-one}
use Rattle.onll_log.proofs.log.put.Goals as goal

pub returns : goal.returns
returns g c = let w = c.write.ensures in let b = c.write_back.ensures in
    Puts-one (g.P.Pmem.means c.args.device.now) (g.P.Pmem.means c.write.new.self) (g.P.Pmem.means c.write_back.new.self) c.args.line c.args.value.w c.requires.within
    w.read w.fences w.faults w.told b.read b.fences b.faults b.told
