use Rattle.std.proofs.Common.{◌≡◌, rules}
use Rattle.onll_task.proofs.Sequences.{none_begun}
use Rattle.onll_eras.specs.Names.{area_name, text_name, area_files}
use Rattle.onll_eras.specs.EraJob.{area_of, begun_stage}
use Rattle.onll_eras.proofs.Beginnings.{era_stops, era_cut, text_stops, era_begins}
use Rattle.onll_eras.proofs.beginning.begin_era.Goals as goal

pub returns-in_err-logs : goal.returns-in_err-logs
returns-in_err-logs g c = let a = c.args in let this = a.checkpoint.now in
    none_begun (area_files a.ckpt.now (area_of this) a.threads) (g.S.Store.seen a.store.now) (begun_stage a.ckpt.now a.code a.threads this) c.from_residual.ensures.1

pub returns-in-Err : goal.returns-in-Err
returns-in-Err g c = let a = c.args in let this = a.checkpoint.now in
    let l : c.deref.result.now ≡ area_name a.ckpt.now (area_of this) = search rules in
    let t : c.text.result.now ≡ this.text = search rules in
    era_stops a.ckpt.now a.code a.threads this (g.S.Store.seen a.store.now) (g.S.Store.seen c.begin_logs.new.store) c.in-Err.stop
    (rw t at (rw l at c.in-Err.ensures))

pub returns-in_err-text : goal.returns-in_err-text
returns-in_err-text g c = let a = c.args in let this = a.checkpoint.now in
    let l : c.deref.result.now ≡ area_name a.ckpt.now (area_of this) = search rules in
    let t : c.text.result.now ≡ this.text = search rules in
    era_cut a.ckpt.now a.code a.threads this (g.S.Store.seen a.store.now) (g.S.Store.seen c.begin_logs.new.store) c.from_residual-in_err-text.result
    (rw t at (rw l at c.in-Ok.ensures)) c.from_residual-in_err-text.ensures.1

pub returns-in-Ok-write_bytes : goal.returns-in-Ok-write_bytes
returns-in-Ok-write_bytes g c = let a = c.args in let this = a.checkpoint.now in
    let l : c.deref.result.now ≡ area_name a.ckpt.now (area_of this) = search rules in
    let t : c.text.result.now ≡ this.text = search rules in
    let n : c.deref-3.result.now ≡ text_name a.ckpt.now (area_of this) = search rules in
    let u : c.text-2.result.now ≡ this.text = search rules in
    let m : c.deref-in-Ok-write_bytes.result.now ≡ area_name a.ckpt.now (area_of this) = search rules in
    era_begins a.ckpt.now a.code a.threads this (g.S.Store.seen a.store.now) (g.S.Store.seen c.begin_logs.new.store) (g.S.Store.seen c.write_bytes.new.store) (g.S.Store.seen c.keep_area.new.store) c.keep_area.result
    (rw t at (rw l at c.in-Ok.ensures))
    (rw u at (rw n at (c.in-Ok-write_bytes.ensures)))
    (rw c.number-area.ensures at (rw m at c.keep_area.ensures))

pub returns : goal.returns
returns g c = let a = c.args in let this = a.checkpoint.now in
    let l : c.deref.result.now ≡ area_name a.ckpt.now (area_of this) = search rules in
    let t : c.text.result.now ≡ this.text = search rules in
    let n : c.deref-3.result.now ≡ text_name a.ckpt.now (area_of this) = search rules in
    let u : c.text-2.result.now ≡ this.text = search rules in
    text_stops a.ckpt.now a.code a.threads this (g.S.Store.seen a.store.now) (g.S.Store.seen c.begin_logs.new.store) (g.S.Store.seen c.write_bytes.new.store) c.in-Err-write_bytes.stop
    (rw t at (rw l at c.in-Ok.ensures))
    (rw u at (rw n at (c.in-Err-write_bytes.ensures)))
