use Rattle.std.proofs.Common.{◌-◌, ◌∙◌, length, arith, ap, sym}
use Rattle.std.proofs.lemmas.Bool.{ltb-true}
use Rattle.onll_log.specs.declared.decoded.Entry.{Entry}
use Rattle.onll_log.proofs.Kept.{last_place-last}
use Rattle.onll_log.proofs.log.last_of.Goals as goal

pub returns-in-Some : goal.returns-in-Some
returns-in-Some c = let entry : Entry = c.in-Some.entry.now in let there = c.in-Some.ensures.item in
    ap (λ (e : Entry). e.place) there.1 ∙ sym (last_place-last c.args.entries.now 0 (length c.args.entries.now - 1) entry (let some_entries = ltb-true 0 (length c.args.entries.now) (sym there.0) in omega arith))
