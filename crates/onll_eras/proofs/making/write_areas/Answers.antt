use Rattle.std.proofs.Common.{ℕ, ◌≡◌, ◌∷◌, [], List, rules}
use Rattle.onll_open.specs.Names.{log_names}
use Rattle.onll_task.specs.Doing.{Stage, write_stage}
use Rattle.onll_task.proofs.Sequences.{Named, both_begin, first_stops, cut_between, none_begun}
use Rattle.onll_eras.specs.Names.{area_name}
use Rattle.onll_eras.specs.EraJob.{empty_stage}
use Rattle.onll_eras.proofs.making.write_areas.Goals as goal

first_named : (ckpt : List ℕ) → Named (area_name ckpt 0 ∷ []) (log_names ckpt 0 2)
first_named ckpt other d = (d.0, tt)

last_named : (ckpt : List ℕ) → Named (area_name ckpt 1 ∷ []) (log_names ckpt 0 2)
last_named ckpt other d = d.1

-- an area is made an empty file
abbrev emptied : List ℕ → ℕ → Stage (Unit {0})
emptied ckpt area = write_stage (area_name ckpt area) []

pub returns-in_err-even : goal.returns-in_err-even
returns-in_err-even g c = let a = c.args.ckpt.now in
    none_begun (log_names a 0 2) (g.S.Store.seen c.args.store.now) (empty_stage a) c.from_residual.ensures.1

pub returns-in-Err : goal.returns-in-Err
returns-in-Err g c = let a = c.args.ckpt.now in
    let n : c.deref.result.now ≡ area_name a 0 = search rules in
    first_stops (emptied a 0) (emptied a 1) (first_named a) (rw n at c.in-Err.ensures)

pub returns-in_err-odd : goal.returns-in_err-odd
returns-in_err-odd g c = let a = c.args.ckpt.now in
    let n : c.deref.result.now ≡ area_name a 0 = search rules in
    cut_between (emptied a 0) (emptied a 1) (first_named a) (rw n at c.in-Ok.ensures) c.from_residual-in_err-odd.ensures.1

pub returns : goal.returns
returns g c = let a = c.args.ckpt.now in
    let n : c.deref.result.now ≡ area_name a 0 = search rules in
    let m : c.deref-2.result.now ≡ area_name a 1 = search rules in
    both_begin (emptied a 0) (emptied a 1) (first_named a) (last_named a) (rw n at c.in-Ok.ensures) (rw m at c.write_bytes-2.ensures)
