use Rattle.std.proofs.Common.{◌≡◌, ◌<◌, length, map, sym, ap, ◌∙◌, subst, slice_index_or}
use Rattle.std.proofs.lemmas.List.{length-map}
use Rattle.onll_core.proofs.Created.{created_threads}
use Rattle.onll_recovery.proofs.Replays.{played_operations}
use Rattle.onll_recovery.proofs.replay.played.Goals as goal

pub play-requires-clause-there : goal.play-requires-clause-there
play-requires-clause-there g c κs within = λ k d h.
    let scripts = map (λ script. script.items) c.args.scripts.items in
    let threads : length c.in_ok-core.core.threads ≡ length c.args.scripts.items = ap (λ core. length core.threads) c.in_ok-core.ensures ∙ created_threads c.args.object g.O.Object.CODE c.args.init.now scripts ∙ length-map c.args.scripts.items (λ script. script.items) in
    let turn = c.requires.playable.turns k d (subst (λ turns. k < length turns) c.as_slice.ensures h) in
    subst (λ n. (slice_index_or c.as_slice.result.now k d).thread < n) (sym threads)
    (subst (λ turns. (slice_index_or turns k d).thread < length c.args.scripts.items) (sym c.as_slice.ensures) turn.thread)

pub returns-clause-threads : goal.returns-clause-threads
returns-clause-threads g c =
    let scripts = map (λ script. script.items) c.args.scripts.items in
    c.play.ensures.threads ∙ ap (λ core. length core.threads) c.in_ok-core.ensures ∙ created_threads c.args.object g.O.Object.CODE c.args.init.now scripts ∙ length-map c.args.scripts.items (λ script. script.items)

pub returns-clause-operations : goal.returns-clause-operations
returns-clause-operations g c =
    played_operations g.O.Object.means g.O.Object.CODE c.args.init.now c.args.object (map (λ script. script.items) c.args.scripts.items) c.as_slice.result.now c.in_ok-core.core c.play.new.self c.in_ok-core.ensures c.play.ensures.steps
