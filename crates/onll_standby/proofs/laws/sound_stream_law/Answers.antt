use Rattle.std.proofs.Common.{List, ℕ, sym, subst}
use Rattle.onll_standby.specs.Stream.{lines_course}
use Rattle.onll_standby.specs.Laws.{FollowsTrace}
use Rattle.onll_standby.proofs.Followed.{follows_trace}
use Rattle.onll_standby.proofs.laws.sound_stream_law.Goals as goal

pub returns : goal.returns
returns g c count f heads es bytes sound many are updates fronts is =
    subst (λ (ls : List (List ℕ)). FollowsTrace g.O.Object.means f es (lines_course g.O.Object.means heads ls)) (sym is) (follows_trace g.O.Object.means count f heads sound many are updates es fronts)
