use Rattle.std.proofs.Common.{List, ℕ, sym, subst}
use Rattle.onll_standby.specs.Stream.{lines_course}
use Rattle.onll_standby.specs.Laws.{FollowsMerge}
use Rattle.onll_standby.proofs.Recovered.{follows_merge}
use Rattle.onll_standby.proofs.laws.recovered_stream_law.Goals as goal

pub returns : goal.returns
returns g c count f heads logs es bytes sound many are updates left all is =
    subst (λ (ls : List (List ℕ)). FollowsMerge g.O.Object.means heads logs (lines_course g.O.Object.means heads ls)) (sym is) (follows_merge g.O.Object.means count f heads logs es sound many are updates left all)
