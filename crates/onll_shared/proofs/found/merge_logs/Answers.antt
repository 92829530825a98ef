use Rattle.std.proofs.Common.{map, ◌∙◌}
use Rattle.std.proofs.lemmas.List.{map-id}
use Rattle.onll_shared.specs.Found.{content_held, head_held}
use Rattle.onll_merge.proofs.Images.{merged_nodes, merged_fault, each_merged}
use Rattle.onll_shared.proofs.found.merge_logs.Goals as goal

pub returns-in-Ok-merge_images : goal.returns-in-Ok-merge_images
returns-in-Ok-merge_images g c =
    let heads = c.deref.ensures.value ∙ c.in-Ok.ensures in
    let images = c.args.images.now in
    let logs = c.args.logs.now in
    merged_nodes (map content_held logs) (map head_held logs) images c.requires.held c.in-Ok-merge_images.nodes.items
    (rw heads at rw (map-id images) at c.in-Ok-merge_images.ensures)

pub returns-in-Err-Recover : goal.returns-in-Err-Recover
returns-in-Err-Recover g c =
    let heads = c.deref.ensures.value ∙ c.in-Ok.ensures in
    let images = c.args.images.now in
    let logs = c.args.logs.now in
    merged_fault (map content_held logs) (map head_held logs) images c.requires.held c.in-Err-Recover.fault
    (rw heads at rw (map-id images) at rw c.in-Err-Recover.field-0-is at c.in-Err-Recover.ensures)

pub unreachable-requires : goal.unreachable-requires
unreachable-requires g c =
    let images = c.args.images.now in
    each_merged (map content_held c.args.logs.now) c.deref.result.now images c.requires.held c.in-Err-NotLog.field-0-0
    (rw (map-id images) at rw c.in-Err-NotLog.field-0-is at c.in-Err-NotLog.ensures)
