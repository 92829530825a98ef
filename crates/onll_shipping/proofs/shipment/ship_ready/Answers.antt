use Rattle.std.proofs.Common.{ℕ, List, ◌≡◌, None, length, refl, sym, ap, subst, ◌∙◌, arith}
use Rattle.std.specs.List.{flat_map}
use Rattle.onll_words.specs.Texts.{line_text}
use Rattle.onll_shipping.specs.ShipJob.{ShipData, ShipReads, ship_data_lines, headed_logs, contents_of}
use Rattle.onll_shipping.proofs.Written.{ready_where, shipped, unsaid, unwritten}
use Rattle.onll_shipping.proofs.shipment.ship_ready.Goals as goal

pub returns-in_err-report-in-Ok : goal.returns-in_err-report-in-Ok
returns-in_err-report-in-Ok g c =
    let images : List (List (List ℕ)) = c.args.images.now in let store = g.S.Store.seen c.args.store.now in
    let both = c.in_ok-stream.ensures (headed_logs (contents_of images)) (ready_where images c.args.out.now store None (sym c.requires.ready) refl) in
    unsaid images c.args.out.now store None (sym c.requires.ready) refl c.deref.result.now c.in_ok-stream.stream.entries (c.deref.ensures.value ∙ both.0) both.1 c.in-Ok.ensures c.from_residual-in_err-report-in-Ok.ensures.1

pub returns-in-Ok : goal.returns-in-Ok
returns-in-Ok g c =
    let images : List (List (List ℕ)) = c.args.images.now in let store = g.S.Store.seen c.args.store.now in
    let both = c.in_ok-stream.ensures (headed_logs (contents_of images)) (ready_where images c.args.out.now store None (sym c.requires.ready) refl) in
    let bytes : List ℕ = c.deref.result.now in
    let same : c.len.result ≡ length bytes = (let e = c.len.ensures in let v = ap (λ (z : List ℕ). length z) c.deref.ensures.value in omega (arith, e, v)) in
    let said : ℕ → ShipData = λ n. record { entries = c.in_ok-stream.stream.entries; bytes = n } in
    shipped images c.args.out.now store None (sym c.requires.ready) refl bytes c.in_ok-stream.stream.entries (c.deref.ensures.value ∙ both.0) both.1 c.in_ok-report-in-Ok.field-0 c.in-Ok.ensures
    (c.in_ok-report-in-Ok.ensures.report ∙ ap (λ (n : ℕ). flat_map line_text (ship_data_lines (said n))) same) (subst (λ (n : ℕ). ShipReads (said n)) same c.in_ok-report-in-Ok.ensures.reads)

pub returns : goal.returns
returns g c =
    let images : List (List (List ℕ)) = c.args.images.now in let store = g.S.Store.seen c.args.store.now in
    let both = c.in_ok-stream.ensures (headed_logs (contents_of images)) (ready_where images c.args.out.now store None (sym c.requires.ready) refl) in
    unwritten images c.args.out.now store None (sym c.requires.ready) refl c.deref.result.now c.in_ok-stream.stream.entries (c.deref.ensures.value ∙ both.0) both.1 c.in-Err.ensures
