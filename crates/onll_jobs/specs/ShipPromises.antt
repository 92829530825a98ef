-- What `ship` and `follow` promise beside.

use Rattle.std.specs.Prelude.{ℕ, ◌≡◌, List, length, Some, None, Ok, Err}
use Rattle.std.specs.List.{AllByRecursion, flat_map}
use Rattle.onll_words.specs.Texts.{line_text}
use Rattle.onll_log.specs.Head.{heads_from}
use Rattle.onll_merge.specs.Recovered.{Recovered, expected_heads, state_recovered}
use Rattle.onll_model.specs.Object.{Behaviour}
use Rattle.onll_model.specs.Trace.{state_after}
use Rattle.onll_outside.specs.Views.{StoreView, FileHolds, Puts}
use Rattle.onll_standby.specs.Stream.{Course, Shown, course}
use Rattle.onll_text.specs.declared.any_object.AnyObject.{AnyObject}
use Rattle.onll_text.specs.Init.{init_of}
use Rattle.onll_text.specs.Kinds.{ObjectKind, on_object}
use Rattle.onll_task.specs.declared.ending.Ending.TheVariants.{Done}
use Rattle.onll_task.specs.FileLines.{FitFile}
use Rattle.onll_task.specs.Images.{images_stage}
use Rattle.onll_task.specs.Reading.{FileIsTold, Reads}
use Rattle.onll_task.specs.Writing.{FilesStay, written}
use Rattle.onll_shipping.specs.declared.ship_fault.ShipFault.{ShipFault}
use Rattle.onll_shipping.specs.FollowJob.{FollowData, follow_data, follow_data_lines, stream_fault_line, stream_in}
use Rattle.onll_shipping.specs.ShipJob.{HeadedLog, ready, ship_data, ship_data_lines, ship_fault_line, shipped_bytes, shipped_entries}
use Rattle.onll_jobs.specs.Command.{Ship, Follow, form_of}
use Rattle.onll_jobs.specs.Says.{NoneRose, PutOverInit, SaysThis}
use Rattle.onll_jobs.specs.Seen.{Seen}

-- ---- ship
-- The files of the logs hold these images, which can be shipped. How many entries and bytes their stream has was put; the file OUT was
-- made that stream, and no other changed.
pub record HasShipped (seen : Seen) (logs : List ℕ) (threads : ℕ) (out : List ℕ) : Type 0 where
  pub images : List (List (List ℕ))
  pub held : (images_stage logs threads).known seen.store images
  pub shipped : List HeadedLog
  pub ready_to_ship : ready images ≡ Ok shipped
  pub put : Puts seen.sink seen.sink_after (flat_map line_text (ship_data_lines (ship_data shipped)))
  pub files : FilesStay (written seen.store out (shipped_bytes shipped)) seen.store_after
  pub stream : FileHolds seen.store_after out (shipped_bytes shipped)

-- they hold images that can't be shipped, and why was put; no file changed
pub record HasRefusedLogs (seen : Seen) (logs : List ℕ) (threads : ℕ) : Type 0 where
  pub images : List (List (List ℕ))
  pub held : (images_stage logs threads).known seen.store images
  pub fault : ShipFault
  pub refused : ready images ≡ Err fault
  pub put : Puts seen.sink seen.sink_after (ship_fault_line fault)
  pub files : FilesStay seen.store seen.store_after

pub record ShipPromises (seen : Seen) (status : ℕ) : Type 0 where
  pub done : (logs out : List ℕ) (threads : ℕ) → form_of seen.words ≡ Some (Ship logs threads out) → status ≡ 0
      → HasShipped seen logs threads out
  pub bad_log : (logs out : List ℕ) (threads : ℕ) → form_of seen.words ≡ Some (Ship logs threads out) → status ≡ 4
      → HasRefusedLogs seen logs threads

-- ---- follow
-- the course of a stream's bytes, over this kind of object and the initial state that these bytes say
abbrev pub course_over : (k : ObjectKind) → (init : List ℕ) → (threads : ℕ) → (bytes : List ℕ) → Course
course_over k init threads bytes = course k.means (heads_from threads k.code init 0 threads) bytes

-- The first bytes of a file are a stream with no fault. The text says how long it is, how many entries it has, up to which place they are
-- followed, and the state that the followed nodes make of the initial one.
pub record FollowsStream (stream : List ℕ) (threads : ℕ) (k : ObjectKind) (init : List ℕ) (s : k.State) (store after : StoreView)
    (text : List ℕ) : Type 0 where
  pub bytes : List ℕ
  pub read : Reads store stream_in stream bytes
  pub no_fault : (course_over k init threads bytes).shown ≡ None
  pub says : text ≡ flat_map line_text (follow_data_lines k.wording
      (follow_data k.means s (length bytes) (course_over k init threads bytes)))

-- they show a fault, and the text says which
pub record ShowsFaulty (stream : List ℕ) (threads : ℕ) (k : ObjectKind) (init : List ℕ) (s : k.State) (store after : StoreView)
    (text : List ℕ) : Type 0 where
  pub bytes : List ℕ
  pub read : Reads store stream_in stream bytes
  pub shown : Shown
  pub fault : (course_over k init threads bytes).shown ≡ Some shown
  pub says : text ≡ stream_fault_line shown.fault

-- what is said of a whole stream of these logs, which recover so
abbrev pub shipped_data : {State Op Query Reply : Type 0} → Behaviour State Op Query Reply → State → List HeadedLog → Recovered
    → FollowData State
shipped_data b s shipped r = record {
  taken = length (shipped_bytes shipped);
  held = length (shipped_entries shipped);
  followed = length r.nodes;
  state = state_after b s r.nodes;
}

-- The stream that `ship` makes of these images, lines as files of logs have them, of which `recover` has a state: this state is what
-- `follow` prints, up to the place up to which it is recovered, with all entries; or memory could not be had.
abbrev pub FollowsShipped : Seen → ℕ → Type 0
FollowsShipped seen status = (init stream bytes : List ℕ) (threads piece : ℕ) (object : AnyObject)
    (images : List (List (List ℕ))) (shipped : List HeadedLog)
    → form_of seen.words ≡ Some (Follow init threads stream piece) → FileIsTold seen.store init bytes → init_of bytes ≡ Ok object
    → length images ≡ threads → AllByRecursion FitFile images → ready images ≡ Ok shipped
    → FileIsTold seen.store stream (shipped_bytes shipped) → NoneRose seen
    → on_object (λ k s. (r : Recovered) → state_recovered k.means (expected_heads k.code bytes images) images ≡ Ok r
    → SaysThis seen status Done (flat_map line_text (follow_data_lines k.wording (shipped_data k.means s shipped r)))) object

pub record FollowPromises (seen : Seen) (status : ℕ) : Type 0 where
  pub done : (init stream : List ℕ) (threads piece : ℕ) → form_of seen.words ≡ Some (Follow init threads stream piece) → status ≡ 0
      → PutOverInit seen init (FollowsStream stream threads)
  pub bad_log : (init stream : List ℕ) (threads piece : ℕ) → form_of seen.words ≡ Some (Follow init threads stream piece) → status ≡ 4
      → PutOverInit seen init (ShowsFaulty stream threads)
  pub shipped : FollowsShipped seen status
