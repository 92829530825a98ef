use Rattle.std.proofs.Common.{ℕ, List, [], ◌∷◌, sym, ap, subst}
use Rattle.std.specs.List.{AllByRecursion}
use Rattle.onll_task.specs.Doing.{Fulfils}
use Rattle.onll_task.proofs.Stages.{read_does, unread_does, by_given, by_begins, by_stops}
use Rattle.onll_shipping.specs.ShipJob.{ready, shippable, ship_logs_task}
use Rattle.onll_shipping.specs.Turns.{IsUsedUp}
use Rattle.onll_shipping.proofs.Written.{contents_stand, used_up}
use Rattle.onll_shipping.proofs.shipment.ship.Goals as goal

pub ship_images-requires-after_bounds : goal.ship_images-requires-after_bounds
ship_images-requires-after_bounds g c κs within =
    let given = by_given c.in-Ok.ensures.begins in
    subst (AllByRecursion IsUsedUp) (sym c.deref.ensures.value) (used_up c.in-Ok.kept.images.items given.value given.fits.stand)

pub returns-in-Ok : goal.returns-in-Ok
returns-in-Ok g c =
    let out = c.args.out.now in
    let mid = g.S.Store.seen c.read_images.new.store in
    let after = g.S.Store.seen c.ship_images.new.store in
    let given = by_given c.in-Ok.ensures.begins in
    let same = ap shippable (contents_stand c.in-Ok.kept.images.items given.value given.fits.stand) in
    read_does (λ (images : List (List (List ℕ))). ship_logs_task out (ready images)) (by_begins c.in-Ok.ensures.begins)
    (subst (λ logs. Fulfils (out ∷ []) mid after (ship_logs_task out logs) c.ship_images.result) same (rw (sym c.deref.ensures.value) c.ship_images.ensures))

pub returns-in-Err : goal.returns-in-Err
returns-in-Err g c =
    unread_does (c.args.out.now ∷ []) (λ (images : List (List (List ℕ))). ship_logs_task c.args.out.now (ready images))
    (by_stops {value = λ (images : List (List (List ℕ))). images} c.in-Err.ensures.begins)
