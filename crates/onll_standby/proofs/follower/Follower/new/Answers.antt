use Rattle.std.proofs.Common.{refl, subst, sym, arith}
use Rattle.onll_standby.specs.Follower.{EntryHasBegun}
use Rattle.onll_standby.proofs.Stepping.{begins_at}
use Rattle.onll_standby.proofs.follower.Follower.new.Goals as goal

pub returns-clause-ready : goal.returns-clause-ready
returns-clause-ready g c = record {
  heads = c.requires.heads;
  entry = subst (EntryHasBegun c.args.heads.items c.new.result.logs) (sym c.new-2.ensures) tt;
  few = (let h = c.new.ensures.none in omega arith);
  room = (let h = c.new.ensures.places in let r = c.requires.room in (cc));
}

pub returns-clause-at : goal.returns-clause-at
returns-clause-at g c = begins_at g.O.Object.means c.args.object c.args.heads.items _ c.requires.heads refl refl c.new-2.ensures refl (c.new.ensures.keeps _ c.requires.room)
