use Rattle.std.proofs.Common.{rules, ℕ, List, ◌≡◌, ◌∙◌, ap, subst, refl, inl}
use Rattle.std.specs.Prelude.{Ok}
use Rattle.onll_model.specs.declared.node.Node.{Node}
use Rattle.onll_log.specs.declared.head.LogHead.{LogHead}
use Rattle.onll_merge.specs.Recovered.{recovered_in}
use Rattle.onll_open.specs.Opening.{FilesGive}
use Rattle.onll_open.specs.Rooms.{first_empty, rooms_left}
use Rattle.onll_open.proofs.GivenLogs.{gives_found}
use Rattle.onll_live.specs.Eras.{era_heads, era_logs}
use Rattle.onll_live.proofs.LiveCauses.{full_so, room_so}
use Rattle.onll_live.proofs.beginning.logs_that_end.Goals as goal

pub returns-in-Some-clause-ends : goal.returns-in-Some-clause-ends
returns-in-Some-clause-ends g c =
    let name = c.args.name.now in let era = c.args.era.now in let old = g.S.Store.seen c.args.store.now in let new = g.S.Store.seen c.find.new.store in
    let logs : c.deref.result.now ≡ era_logs name era.number = c.deref.ensures ∙ c.in_ok-logs.ensures in
    let means = g.O.Object.means in let found = recovered_in c.in-Ok.found.recovery in
    let heads = era_heads g.O.Object.CODE g.O.Described.description c.args.threads era.state in
    let has = subst (λ (hs : List LogHead). FilesGive means old c.deref.result.now hs (Ok found)) c.in-Ok.ensures.heads
    (gives_found means old c.deref.result.now c.in-Ok.found.heads.items c.args.threads c.in-Ok.found.images.items found c.in-Ok.ensures.found) in
    let given = subst (λ (n : List ℕ). FilesGive means old n heads (Ok found)) logs has in
    let rooms : c.deref-4.result.now ≡ rooms_left c.args.threads found.nodes 0 found.logs = c.deref-4.ensures.value ∙ (c.in_ok-rooms.ensures.rooms
    ∙ (ap (λ (ns : List Node). rooms_left c.args.threads ns 0 c.deref-3.result.now) c.deref-2.ensures.value ∙ ap (rooms_left c.args.threads found.nodes 0) c.deref-3.ensures.value)) in (
      inl (refl, full_so means g.O.Object.CODE g.O.Described.description name c.args.threads old era found given c.in-Some.field-0 (c.in-Some.ensures ∙ ap (first_empty 0) rooms)),
      (search rules),
      (c.in-Ok.ensures.faults, c.find.ensures.devices),
    )

pub returns-clause-ends : goal.returns-clause-ends
returns-clause-ends g c =
    let name = c.args.name.now in let era = c.args.era.now in let old = g.S.Store.seen c.args.store.now in let new = g.S.Store.seen c.find.new.store in
    let logs : c.deref.result.now ≡ era_logs name era.number = c.deref.ensures ∙ c.in_ok-logs.ensures in
    let means = g.O.Object.means in let found = recovered_in c.in-Ok.found.recovery in
    let heads = era_heads g.O.Object.CODE g.O.Described.description c.args.threads era.state in
    let has = subst (λ (hs : List LogHead). FilesGive means old c.deref.result.now hs (Ok found)) c.in-Ok.ensures.heads
    (gives_found means old c.deref.result.now c.in-Ok.found.heads.items c.args.threads c.in-Ok.found.images.items found c.in-Ok.ensures.found) in
    let given = subst (λ (n : List ℕ). FilesGive means old n heads (Ok found)) logs has in
    let rooms : c.deref-4.result.now ≡ rooms_left c.args.threads found.nodes 0 found.logs = c.deref-4.ensures.value ∙ (c.in_ok-rooms.ensures.rooms
    ∙ (ap (λ (ns : List Node). rooms_left c.args.threads ns 0 c.deref-3.result.now) c.deref-2.ensures.value ∙ ap (rooms_left c.args.threads found.nodes 0) c.deref-3.ensures.value)) in
    inl (room_so means g.O.Object.CODE g.O.Described.description name c.args.threads old era found given (c.in-None.ensures ∙ ap (first_empty 0) rooms))
