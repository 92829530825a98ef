use Rattle.onll_eras.proofs.Asking.{areas_begin, even_stops, odd_stops}
use Rattle.onll_eras.proofs.walk.newest_area.Goals as goal

pub returns-in-Err : goal.returns-in-Err
returns-in-Err g c = even_stops c.args.ckpt.now c.in-Err.stop c.in-Err.ensures

pub returns-in-Ok-area_of : goal.returns-in-Ok-area_of
returns-in-Ok-area_of g c = rw c.newest.ensures (areas_begin c.args.ckpt.now c.in-Ok.found c.in-Ok-area_of.odd c.in-Ok.ensures c.in-Ok-area_of.ensures)

pub returns-in-Err-area_of : goal.returns-in-Err-area_of
returns-in-Err-area_of g c = odd_stops c.args.ckpt.now c.in-Ok.found c.in-Err-area_of.stop c.in-Ok.ensures c.in-Err-area_of.ensures
