-- How a follower stands to the lines that it took.
use Rattle.std.specs.Prelude.{ℕ, ◌≡◌, ◌+◌, ◌-◌, ◌<◌, ◌≤◌, List, [], ◌∷◌, length, Some, None, Result, MatchResult}
use Rattle.onll_model.specs.Object.{Behaviour}
use Rattle.onll_log.specs.declared.head.LogHead.{LogHead}
use Rattle.onll_log.specs.Head.{word}
use Rattle.onll_standby.specs.declared.fault.FeedFault.{FeedFault}
use Rattle.onll_standby.specs.declared.holdings.LogTail.{LogTail}
use Rattle.onll_standby.specs.declared.follower.Follower.{Follower}
use Rattle.onll_standby.specs.Held.{greatest_place}
use Rattle.onll_standby.specs.Stream.{AreStreamHeads, byte_at, lines_course}
use Rattle.onll_standby.specs.Entry.{EntryBegins, FollowsCourse, StopsAtCourse}

-- an unfinished entry has begun, and is not whole
abbrev pub EntryHasBegun : List LogHead → List LogTail → List (List ℕ) → Type 0
EntryHasBegun heads logs [] = Unit {0}
EntryHasBegun heads logs (l ∷ ls) = EntryBegins heads logs l × (length ls < word l 4)

-- a whole one
abbrev pub IsWholeEntry : List LogHead → List LogTail → List (List ℕ) → Type 0
IsWholeEntry heads logs [] = ⊥
IsWholeEntry heads logs (l ∷ ls) = EntryBegins heads logs l × (length ls ≡ word l 4)

-- what holds of every follower
pub record IsFollower {State Op Query Reply : Type 0} (f : Follower State Op Query Reply) : Type 0 where
  pub heads : AreStreamHeads f.heads.items
  pub entry : EntryHasBegun f.heads.items f.holdings.logs f.entry
  pub few : f.holdings.held ≤ f.lines
  pub room : length f.holdings.places ≡ greatest_place (length f.heads.items)

-- it took these lines, which show no fault
pub record FollowsLines {State Op Query Reply : Type 0} (b : Behaviour State Op Query Reply) (start : State) (heads : List LogHead)
    (ls : List (List ℕ)) (f : Follower State Op Query Reply) : Type 0 where
  pub same : f.heads.items ≡ heads
  pub lines : f.lines ≡ length ls
  pub held : FollowsCourse b start heads (lines_course b heads ls) f.holdings
  pub entry : f.entry ≡ (lines_course b heads ls).rest
  pub begins : (l : List ℕ) (r : List (List ℕ)) → f.entry ≡ l ∷ r → f.begins ≡ byte_at (length ls - length f.entry)
  pub within : length f.entry ≤ length ls
  pub fault : f.fault ≡ None

-- it took these lines, the last of which shows this fault
pub record StopsAtLine {State Op Query Reply : Type 0} (b : Behaviour State Op Query Reply) (start : State) (heads : List LogHead)
    (ls : List (List ℕ)) (e : FeedFault) (f : Follower State Op Query Reply) : Type 0 where
  pub shown : StopsAtCourse b start (length ls) (lines_course b heads ls) e f.holdings
  pub fault : f.fault ≡ Some e

-- what comes of the last of these lines
abbrev pub LineTaken : {State Op Query Reply : Type 0} → Behaviour State Op Query Reply → State → List LogHead
    → List (List ℕ) → Result (Unit {0}) FeedFault → Follower State Op Query Reply → Type 0
LineTaken b start heads ls result f = MatchResult result (λ _. FollowsLines b start heads ls f) (λ e. StopsAtLine b start heads ls e f)

-- the same before the line is counted and the fault is kept
abbrev pub LineUncounted : {State Op Query Reply : Type 0} → Behaviour State Op Query Reply → State → List LogHead
    → List (List ℕ) → Result (Unit {0}) FeedFault → Follower State Op Query Reply → Type 0
LineUncounted b start heads ls result f = MatchResult result (λ _. FollowsLines b start heads ls (record f { lines = f.lines + 1 }))
    (λ e. StopsAtCourse b start (length ls) (lines_course b heads ls) e f.holdings)
