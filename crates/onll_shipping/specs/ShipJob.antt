-- What `ship LOGS T OUT` does: it writes the stream of the logs of so many threads, and says how many entries and bytes it has.

use Rattle.std.specs.Prelude.{ℕ, zero, suc, ◌+◌, ◌<◌, ◌^◌, if◌then◌else◌, Bool, true, false, List, [], ◌∷◌, ◌++◌, Option, Some, None, Result, Ok, Err, codes, decimal, length, map, max}
use Rattle.std.specs.List.{flat_map, slice_get}
use Rattle.onll_words.specs.Texts.{line_text}
use Rattle.onll_model.specs.Segment.{Segment}
use Rattle.onll_log.specs.declared.head.LogHead.{LogHead}
use Rattle.onll_log.specs.Grammar.{Content, content_of}
use Rattle.onll_start.specs.Found.{is_old_log}
use Rattle.onll_standby.specs.Held.{HeldEntry}
use Rattle.onll_standby.specs.Shipped.{stream_lines}
use Rattle.onll_outside.specs.Views.{image_bytes}
use Rattle.onll_text.specs.Reports.{SaysOnly}
use Rattle.onll_task.specs.declared.ending.Ending.TheVariants.{BadLog}
use Rattle.onll_task.specs.Doing.{Task, after_stage, write_stage, report_task, say_task}
use Rattle.onll_task.specs.Images.{images_stage}
use Rattle.onll_shipping.specs.declared.ship_fault.Flaw.{Flaw}
use Rattle.onll_shipping.specs.declared.ship_fault.Flaw.TheVariants as flaws
use Rattle.onll_shipping.specs.declared.ship_fault.ShipFault.{ShipFault}
use Rattle.onll_shipping.specs.declared.ship_fault.ShipFault.TheVariants.{NotLog, OldFormat, Empty}

-- ---- the order of the entries
-- an entry, if there is one, of the log of this number before others
abbrev pub entry_then : ℕ → Option Segment → List HeldEntry → List HeldEntry
entry_then t None rest = rest
entry_then t (Some s) rest = record { thread = t; segment = s } ∷ rest

-- of each log that has so many entries the one at index k; the logs are numbered from t
abbrev pub turn_from : ℕ → ℕ → List (List Segment) → List HeldEntry
turn_from k t [] = []
turn_from k t (ss ∷ logs) = entry_then t (slice_get ss k) (turn_from k (t + 1) logs)

-- so many turns, from index k on
abbrev pub turns_from : ℕ → ℕ → List (List Segment) → List HeldEntry
turns_from k zero logs = []
turns_from k (suc more) logs = turn_from k 0 logs ++ turns_from (k + 1) more logs

-- how many entries the longest log has
abbrev pub most_entries : List (List Segment) → ℕ
most_entries [] = 0
most_entries (ss ∷ logs) = max (length ss) (most_entries logs)

-- entry 1 of each log in the order of the logs, then entry 2 of each that has one, and so on
abbrev pub in_turns : List (List Segment) → List HeldEntry
in_turns logs = turns_from 0 (most_entries logs) logs

-- ---- the logs
-- a log that has a head
pub record HeadedLog : Type 0 where
  pub head : LogHead
  pub entries : List Segment

abbrev pub log_before : Option LogHead → List Segment → List HeadedLog → List HeadedLog
log_before None ss rest = rest
log_before (Some head) ss rest = record { head = head; entries = ss } ∷ rest

-- those of these contents that have a head
abbrev pub headed_logs : List (Option Content) → List HeadedLog
headed_logs [] = []
headed_logs (None ∷ contents) = headed_logs contents
headed_logs (Some content ∷ contents) = log_before content.head content.entries (headed_logs contents)

-- ---- the refusals
abbrev pub is_no_log : Option Content → Bool
is_no_log None = true
is_no_log (Some content) = false

abbrev pub is_no_head : Option LogHead → Bool
is_no_head None = true
is_no_head (Some head) = false

abbrev pub is_empty_log : Option Content → Bool
is_empty_log None = false
is_empty_log (Some content) = is_no_head content.head

-- whether a log that holds this is not shipped for this reason; of which format it is, its head says, and zeros have none
abbrev pub has_flaw : Flaw → Option Content → Bool
has_flaw flaws.NotLog content = is_no_log content
has_flaw flaws.OldFormat content = is_old_log content
has_flaw flaws.Empty content = is_empty_log content

-- the least number, from t on, of a log with this flaw
abbrev pub least_log : Flaw → ℕ → List (Option Content) → Option ℕ
least_log flaw t [] = None
least_log flaw t (content ∷ contents) = if has_flaw flaw content then Some t else least_log flaw (t + 1) contents

-- one of the images is no log, else one is of format 1, else one is empty
abbrev pub fault_by : (not_log old_format empty : Option ℕ) → Option ShipFault
fault_by (Some log) old_format empty = Some (NotLog log)
fault_by None (Some log) empty = Some (OldFormat log)
fault_by None None (Some log) = Some (Empty log)
fault_by None None None = None

abbrev pub ship_fault : List (Option Content) → Option ShipFault
ship_fault contents =
    fault_by (least_log flaws.NotLog 0 contents) (least_log flaws.OldFormat 0 contents) (least_log flaws.Empty 0 contents)

abbrev pub logs_unless : Option ShipFault → List HeadedLog → Result (List HeadedLog) ShipFault
logs_unless (Some fault) logs = Err fault
logs_unless None logs = Ok logs

-- the logs of which a stream is made, or why there is none
abbrev pub shippable : List (Option Content) → Result (List HeadedLog) ShipFault
shippable contents = logs_unless (ship_fault contents) (headed_logs contents)

abbrev pub contents_of : List (List (List ℕ)) → List (Option Content)
contents_of images = map content_of images

abbrev pub ready : List (List (List ℕ)) → Result (List HeadedLog) ShipFault
ready images = shippable (contents_of images)

-- the line that says why logs are not shipped
abbrev pub ship_fault_line : ShipFault → List ℕ
ship_fault_line (NotLog log) = line_text (codes "log" ∷ decimal log ∷ codes "not" ∷ codes "a" ∷ codes "log" ∷ [])
ship_fault_line (OldFormat log) = line_text (codes "log" ∷ decimal log ∷ codes "of" ∷ codes "format" ∷ decimal 1 ∷ [])
ship_fault_line (Empty log) = line_text (codes "log" ∷ decimal log ∷ codes "empty" ∷ [])

-- ---- the stream
abbrev pub heads_in : List HeadedLog → List LogHead
heads_in logs = map (λ (log : HeadedLog). log.head) logs

abbrev pub entries_in : List HeadedLog → List (List Segment)
entries_in logs = map (λ (log : HeadedLog). log.entries) logs

-- the entries that are shipped, and the lines and bytes of their stream
abbrev pub shipped_entries : List HeadedLog → List HeldEntry
shipped_entries logs = in_turns (entries_in logs)

abbrev pub shipped_lines : List HeadedLog → List (List ℕ)
shipped_lines logs = stream_lines (heads_in logs) (shipped_entries logs)

abbrev pub shipped_bytes : List HeadedLog → List ℕ
shipped_bytes logs = image_bytes (shipped_lines logs)

-- ---- the report
-- what it says: how many entries were shipped, and how many bytes were written
pub record ShipData : Type 0 where
  pub entries : ℕ
  pub bytes : ℕ

abbrev pub ship_data_lines : ShipData → List (List (List ℕ))
ship_data_lines said =
    (codes "shipped" ∷ codes "entries" ∷ decimal said.entries ∷ codes "bytes" ∷ decimal said.bytes ∷ []) ∷ []

-- all that is said reads back
pub record ShipReads (said : ShipData) : Type 0 where
  pub entries : said.entries < 2 ^ 64
  pub bytes : said.bytes < 2 ^ 64

-- of the stream of these logs
abbrev pub ship_data : List HeadedLog → ShipData
ship_data logs = record { entries = length (shipped_entries logs); bytes = length (shipped_bytes logs) }

-- ---- the work
-- how long the stream is, is reported: the report says that, and nothing else
abbrev pub ship_report_task : List HeadedLog → Task
ship_report_task logs = report_task (flat_map line_text (ship_data_lines (ship_data logs)))
    (λ text. SaysOnly ship_data_lines ShipReads text (ship_data logs))

-- the stream of these logs is made the file of this name
abbrev pub ship_logs_task : List ℕ → Result (List HeadedLog) ShipFault → Task
ship_logs_task out (Ok logs) = after_stage (write_stage out (shipped_bytes logs)) (λ _. ship_report_task logs)
ship_logs_task out (Err fault) = say_task BadLog (ship_fault_line fault)

-- all images are read first
abbrev pub ship_task : (logs : List ℕ) (threads : ℕ) (out : List ℕ) → Task
ship_task logs threads out = after_stage (images_stage logs threads) (λ images. ship_logs_task out (ready images))
