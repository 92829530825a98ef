-- What `areas`, `restore` and `checkpoint` print.

use Rattle.std.specs.Prelude.{ℕ, ◌+◌, ◌^◌, ◌<◌, List, [], ◌∷◌, ◌++◌, length, Option, Some, None, codes, decimal}
use Rattle.std.specs.List.{flat_map}
use Rattle.onll_words.specs.Texts.{line_text}
use Rattle.onll_model.specs.Object.{Behaviour}
use Rattle.onll_text.specs.Wording.{Wording}
use Rattle.onll_text.specs.Lines.{node_lines, state_lines, recovered_line}
use Rattle.onll_text.specs.Reports.{StateReads}
use Rattle.onll_checkpoint.specs.Checkpoint.{CheckpointState}
use Rattle.onll_merge.specs.Recovered.{Recovered}
use Rattle.onll_task.specs.RecoverySaid.{RecoverData, RecoverReads, held_lines, log_lines}

-- areas that were made
abbrev pub areas_text : List ℕ → List ℕ
areas_text ckpt = codes "areas " ++ ckpt ++ codes "\n"

-- ---- lines
-- a checkpoint, by its number and its place
abbrev pub era_line : (number place : ℕ) → List (List ℕ)
era_line number place = codes "checkpoint" ∷ decimal number ∷ codes "place" ∷ decimal place ∷ []

-- how many updates there are in all eras
abbrev pub place_line : ℕ → List (List ℕ)
place_line place = codes "place" ∷ decimal place ∷ []

-- what is said where no number, or no place, is left
abbrev pub at_end_text : List ℕ
at_end_text = line_text (codes "checkpoint" ∷ codes "at" ∷ codes "its" ∷ codes "end" ∷ [])

-- a fence of an area failed
abbrev pub area_fault_line : ℕ → List (List ℕ)
area_fault_line area = codes "fault" ∷ codes "area" ∷ decimal area ∷ []

-- ---- restore
-- a checkpoint as it is said: its number and its place
pub record Newest : Type 0 where
  pub number : ℕ
  pub place : ℕ

-- what is said of the newest checkpoint, if there is one
abbrev pub newest_in : Option CheckpointState → Option Newest
newest_in None = None
newest_in (Some c) = Some (record { number = c.number; place = c.place })

abbrev pub newest_line : Option Newest → List (List ℕ)
newest_line None = codes "no" ∷ codes "checkpoint" ∷ []
newest_line (Some n) = era_line n.number n.place

-- its number, and 0 where there is none
abbrev pub number_in : Option Newest → ℕ
number_in None = 0
number_in (Some n) = n.number

-- the place of the era's beginning
abbrev pub place_in : Option Newest → ℕ
place_in None = 0
place_in (Some n) = n.place

-- the lines of what logs hold, and of their nodes
abbrev pub logs_with_nodes : {State Op Query Reply : Type 0} → Behaviour State Op Query Reply → Wording State Op Query Reply
    → Recovered → List (List (List ℕ))
logs_with_nodes b w r = log_lines 0 r.logs ++ (recovered_line (length r.nodes) ∷ node_lines b w 0 r.nodes)

-- what the report of a restoration says: the newest checkpoint; and of its logs what a recovery says
pub record RestoreData (State : Type 0) : Type 0 where
  pub from : Option Newest
  pub logs : RecoverData State

-- what stands before the place: the checkpoint, the logs, and the nodes, which are numbered in their era
abbrev pub found_lines : {State Op Query Reply : Type 0} → Behaviour State Op Query Reply → Wording State Op Query Reply
    → RestoreData State → List (List (List ℕ))
found_lines b w said = newest_line said.from
    ∷ (held_lines 0 said.logs.logs ++ (recovered_line (length said.logs.nodes) ∷ node_lines b w 0 said.logs.nodes))

abbrev pub restore_lines : {State Op Query Reply : Type 0} → Behaviour State Op Query Reply → Wording State Op Query Reply
    → RestoreData State → List (List (List ℕ))
restore_lines b w said = found_lines b w said
    ++ (place_line (place_in said.from + length said.logs.nodes) ∷ state_lines w said.logs.state)

-- the numbers of a checkpoint are of 64 bits
abbrev pub NewestReads : Option Newest → Type 0
NewestReads None = Unit {0}
NewestReads (Some n) = (n.number < 2 ^ 64) × (n.place < 2 ^ 64)

-- all that is said reads back
pub record RestoreReads {State Op Query Reply : Type 0} (b : Behaviour State Op Query Reply) (w : Wording State Op Query Reply)
    (said : RestoreData State) : Type 0 where
  pub from : NewestReads said.from
  pub place : place_in said.from + length said.logs.nodes < 2 ^ 64
  pub logs : RecoverReads b w said.logs

-- the report of a restoration, by its lines before the place, its place, and the state as it is printed
abbrev pub restored_text : (front : List (List (List ℕ))) (place : ℕ) (text : List ℕ) → List ℕ
restored_text front place text =
    flat_map line_text front ++ (line_text (place_line place) ++ (line_text (codes "state" ∷ []) ++ text))

-- ---- checkpoint
-- what the report of a checkpoint says: its number, its place, and the state there
pub record CheckpointData (State : Type 0) : Type 0 where
  pub number : ℕ
  pub place : ℕ
  pub state : State

abbrev pub checkpoint_lines : {State Op Query Reply : Type 0} → Wording State Op Query Reply → CheckpointData State
    → List (List (List ℕ))
checkpoint_lines w said = era_line said.number said.place ∷ state_lines w said.state

pub record CheckpointReads {State Op Query Reply : Type 0} (w : Wording State Op Query Reply) (said : CheckpointData State) : Type 0 where
  pub number : said.number < 2 ^ 64
  pub place : said.place < 2 ^ 64
  pub state : StateReads w said.state

-- the report of a checkpoint, by its number, its place, and the state as it is printed
abbrev pub checkpoint_text : (number place : ℕ) (text : List ℕ) → List ℕ
checkpoint_text number place text = line_text (era_line number place) ++ (line_text (codes "state" ∷ []) ++ text)
