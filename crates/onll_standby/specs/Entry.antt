-- How a follower stands to the lines that it took.
use Rattle.std.specs.Prelude.{ℕ, ◌≡◌, ◌+◌, true, List, [], length, get_or, Some, None, Result, MatchResult}
use Rattle.onll_model.specs.Object.{Behaviour}
use Rattle.onll_log.specs.declared.head.LogHead.{LogHead}
use Rattle.onll_log.specs.Head.{word}
use Rattle.onll_standby.specs.declared.fault.FeedFault.{FeedFault}
use Rattle.onll_standby.specs.declared.holdings.LogTail.{LogTail}
use Rattle.onll_standby.specs.declared.holdings.Holdings.{Holdings}
use Rattle.onll_standby.specs.Held.{nodes_followed}
use Rattle.onll_standby.specs.Applied.{StandsAfter}
use Rattle.onll_standby.specs.Holdings.{KeepsEntries}
use Rattle.onll_standby.specs.Stream.{Course, opens, head_named}

-- the header line can begin the next entry of its log
abbrev pub EntryBegins : List LogHead → List LogTail → List ℕ → Type 0
EntryBegins heads logs line = (d : LogTail) → opens (head_named heads line) (get_or logs (word line 1) d).entries line ≡ true

-- it stands at this course, which shows no fault
pub record FollowsCourse {State Op Query Reply : Type 0} (b : Behaviour State Op Query Reply) (start : State) (heads : List LogHead)
    (c : Course) (h : Holdings State Op Query Reply) : Type 0 where
  pub shown : c.shown ≡ None
  pub nodes : c.nodes ≡ nodes_followed b (length heads) c.entries
  pub keeps : KeepsEntries b start (length heads) c.entries h

-- it stands at this course, which shows this fault at the end of so many lines
pub record StopsAtCourse {State Op Query Reply : Type 0} (b : Behaviour State Op Query Reply) (start : State) (lines : ℕ)
    (c : Course) (f : FeedFault) (h : Holdings State Op Query Reply) : Type 0 where
  pub shown : c.shown ≡ Some (record { fault = f; lines = lines })
  pub held : h.held ≡ length c.entries
  pub applied : StandsAfter b start c.nodes h.applied

-- a whole entry was taken, which begins after so many lines
abbrev pub TookEntry : {State Op Query Reply : Type 0} → Behaviour State Op Query Reply → State → List LogHead → ℕ → List (List ℕ)
    → Course → Result (Unit {0}) FeedFault → Holdings State Op Query Reply → Type 0
TookEntry b start heads at lines c result h =
    MatchResult result (λ _. FollowsCourse b start heads c h × (c.rest ≡ [])) (λ f. StopsAtCourse b start (at + length lines) c f h)
