use Rattle.std.proofs.Common.{◌≡◌, ◌∙◌, length, map, ap, sym}
use Rattle.std.proofs.lemmas.List.{length-map}
use Rattle.onll_merge.specs.Recovered.{recovered_in}
use Rattle.onll_start.proofs.Based.{counts_many}
use Rattle.onll_start.proofs.found.find_start.Goals as goal

pub check_room-requires-clause-logs : goal.check_room-requires-clause-logs
check_room-requires-clause-logs g c κs within =
    let S = map (λ script. script.items) c.args.scripts.now in
    let I = map g.I.LogImage.lines_of c.args.images.now in
    let many : length S ≡ length c.args.scripts.now = length-map c.args.scripts.now (λ script. script.items) in
    let as_many : length I ≡ length S = length-map c.args.images.now g.I.LogImage.lines_of ∙ (c.requires.images ∙ sym many) in
    ap length c.deref-2.ensures.value ∙ (counts_many g.O.Object.means c.args.heads.now S I as_many (c.requires.heads ∙ sym many) (recovered_in c.in_ok-found.found) c.in_ok-found.ensures.found ∙ many)
