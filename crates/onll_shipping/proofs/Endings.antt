-- How following ends: never with the usage text, a verdict or the fault of a fence.

use Rattle.std.proofs.Common.{ℕ, List, length, take, Option, Some, None, sym, subst}
use Rattle.onll_model.specs.Object.{Behaviour}
use Rattle.onll_log.specs.Head.{heads_from}
use Rattle.onll_standby.specs.Stream.{Course, Shown, course}
use Rattle.onll_text.specs.Kinds.{ObjectKind}
use Rattle.onll_text.specs.Wording.{Wording}
use Rattle.onll_task.specs.declared.ending.Ending.{Ending}
use Rattle.onll_task.proofs.Jobs.{Never, IsRare}
use Rattle.onll_shipping.specs.FollowJob.{longest_stream, course_task, follow_task}

module _ {State Op Query Reply : Type 0} (b : Behaviour State Op Query Reply) (w : Wording State Op Query Reply) (s : State) (taken : ℕ) (c : Course) where
  course_never : (ending : Ending) → IsRare ending → (o : Option Shown) → Never ending (course_task b w s taken c o).job
  course_never ending rare None = λ e. subst IsRare (sym e) rare
  course_never ending rare (Some shown) = λ e. subst IsRare (sym e) rare

pub follow_never : (ending : Ending) → IsRare ending → (k : ObjectKind) (init stream : List ℕ) (threads : ℕ) (s : k.State) → Never ending (follow_task k init stream threads s).job
follow_never ending rare k init stream threads s bytes =
    let front : List ℕ = take longest_stream bytes in
    let c : Course = course k.means (heads_from threads k.code init 0 threads) front in
    course_never k.means k.wording s (length front) c ending rare c.shown
