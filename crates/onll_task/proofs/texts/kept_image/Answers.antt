use Rattle.std.proofs.Common.{ℕ, sym}
use Rattle.onll_pmem.specs.Pmem.{words_of}
use Rattle.onll_pmem.specs.Device.{zero_line}
use Rattle.onll_pmem.proofs.Fronts.{length-followed}
use Rattle.onll_log.specs.ImageFile.{longest_image}
use Rattle.onll_outside.specs.Views.{with_zeros}
use Rattle.onll_task.proofs.Cuts.{lines_held}
use Rattle.onll_task.proofs.FileFronts.{file_begins}
use Rattle.onll_task.proofs.ImageFiles.{KeepsImage}
use Rattle.onll_task.proofs.Stages.{lines_begins, begins_by}
use Rattle.onll_task.proofs.Staying.{stands_front}
use Rattle.onll_task.proofs.texts.kept_image.Goals as goal

pub returns-clause-begins : goal.returns-clause-begins
returns-clause-begins g c =
    let store = g.S.Store.seen c.args.store.now in
    let front = words_of c.in-Ok.read.front.items in
    let count = c.in-Ok.read.count in
    let f = c.in-Ok.ensures.front in
    let image = c.of_lines-image.result in
    let stands = stands_front image front count f.empty c.of_lines-image.ensures in
    begins_by {Fits = KeepsImage} (record { image = image; count = count }) (with_zeros front count) (record { stands = stands; many = sym (length-followed zero_line front count f.within) })
    (lines_begins {value = λ (v : ℕ). with_zeros front count} count (lines_held store c.args.name.now front count f c.in-Ok.ensures.few c.in-Ok.ensures.lines) c.in-Ok.ensures.same c.in-Ok.ensures.counts)

pub returns-clause-front : goal.returns-clause-front
returns-clause-front g c =
    file_begins c.of_lines-image.result (words_of c.in-Ok.read.front.items) _ c.in-Ok.read.count longest_image c.args.name.now (g.S.Store.seen c.args.store.now) (g.S.Store.seen c.read_lines.new.store)
    c.of_lines-image.ensures c.in-Ok.ensures.lines c.in-Ok.ensures.same
