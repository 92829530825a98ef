-- How a standby stands to the bytes that it took.
use Rattle.std.specs.Prelude.{ℕ, ◌≡◌, ◌+◌, ◌*◌, ◌≤◌, List, [], ◌++◌, length, take, drop, Some, Result, MatchResult}
use Rattle.onll_model.specs.Object.{Behaviour}
use Rattle.onll_log.specs.declared.head.LogHead.{LogHead}
use Rattle.onll_log.specs.ImageFile.{whole_lines}
use Rattle.onll_standby.specs.declared.fault.FeedFault.{FeedFault}
use Rattle.onll_standby.specs.declared.follower.Follower.{Follower}
use Rattle.onll_standby.specs.Stream.{course}
use Rattle.onll_standby.specs.Applied.{StandsAfter}
use Rattle.onll_standby.specs.Follower.{IsFollower, FollowsLines}

-- the bytes after the last whole line
abbrev pub part_of : List ℕ → List ℕ
part_of bytes = drop (64 * length (whole_lines bytes)) bytes

-- what a standby is: its follower, the bytes of an unfinished line, and how many bytes were taken
pub record StandbyState (State Op Query Reply : Type 0) : Type 0 where
  pub follower : Follower State Op Query Reply
  pub part : List ℕ
  pub taken : ℕ

-- what holds of every standby
pub record IsCounted {State Op Query Reply : Type 0} (f : Follower State Op Query Reply) (part : List ℕ) (taken : ℕ) : Type 0 where
  pub ready : IsFollower f
  pub taken_is : taken ≡ 64 * f.lines + length part

-- It took these bytes, with or without a fault: what it holds and follows is what they come to.
pub record HasFollowed {State Op Query Reply : Type 0} (b : Behaviour State Op Query Reply) (start : State) (heads : List LogHead)
    (bytes : List ℕ) (s : StandbyState State Op Query Reply) : Type 0 where
  pub taken : s.taken ≡ length bytes
  pub held : s.follower.holdings.held ≡ length (course b heads bytes).entries
  pub applied : StandsAfter b start (course b heads bytes).nodes s.follower.holdings.applied

-- it took these bytes, which show no fault
pub record IsFed {State Op Query Reply : Type 0} (b : Behaviour State Op Query Reply) (start : State) (heads : List LogHead)
    (bytes : List ℕ) (s : StandbyState State Op Query Reply) : Type 0 where
  pub lines : FollowsLines b start heads (whole_lines bytes) s.follower
  pub part : s.part ≡ part_of bytes
  pub so : HasFollowed b start heads bytes s

-- it took these bytes, whose last line shows this fault, which it keeps
pub record HasFault {State Op Query Reply : Type 0} (b : Behaviour State Op Query Reply) (start : State) (heads : List LogHead)
    (bytes : List ℕ) (e : FeedFault) (s : StandbyState State Op Query Reply) : Type 0 where
  pub shown : (course b heads bytes).shown ≡ Some (record { fault = e; lines = length (whole_lines bytes) })
  pub nothing_left : part_of bytes ≡ []
  pub so : HasFollowed b start heads bytes s
  pub kept : s.follower.fault ≡ Some e

-- it stopped after a front of a piece, which shows a fault
pub record StopsInPiece {State Op Query Reply : Type 0} (b : Behaviour State Op Query Reply) (start : State) (heads : List LogHead)
    (bytes piece : List ℕ) (e : FeedFault) (s : StandbyState State Op Query Reply) : Type 0 where
  pub count : ℕ
  pub within : count ≤ length piece
  pub fault : HasFault b start heads (bytes ++ take count piece) e s

-- what comes of a piece after these bytes
abbrev pub TakesPiece : {State Op Query Reply : Type 0} → Behaviour State Op Query Reply → State → List LogHead
    → (bytes piece : List ℕ) → Result (Unit {0}) FeedFault → StandbyState State Op Query Reply → Type 0
TakesPiece b start heads bytes piece result s =
    MatchResult result (λ _. IsFed b start heads (bytes ++ piece) s) (λ e. StopsInPiece b start heads bytes piece e s)

-- what comes of the bytes that complete a line
abbrev pub TakesBytes : {State Op Query Reply : Type 0} → Behaviour State Op Query Reply → State → List LogHead
    → (bytes first : List ℕ) → Result ℕ FeedFault → StandbyState State Op Query Reply → Type 0
TakesBytes b start heads bytes first result s =
    MatchResult result (λ _. IsFed b start heads (bytes ++ first) s) (λ e. HasFault b start heads (bytes ++ first) e s)
