-- What is shipped, as the command does it: images that were read, a stream that is written, and what is said of it.

use Rattle.std.proofs.Common.{Vec, ℕ, ◌≤◌, ◌≡◌, List, [], ◌∷◌, length, drop, codes, decimal, Option, None, Result, Ok, Err, refl, sym, ap, subst, ◌∙◌}
use Rattle.std.specs.List.{AllByRecursion, flat_map}
use Rattle.std.proofs.lemmas.Fmt.{decimal_injective}
use Rattle.onll_words.specs.Texts.{line_text, AreWords, AreMeaningful}
use Rattle.onll_words.proofs.Decimals.{IsWord-decimal}
use Rattle.onll_log.specs.Grammar.{Content}
use Rattle.onll_log.specs.Tested.{used_in}
use Rattle.onll_outside.specs.Views.{StoreView}
use Rattle.onll_text.specs.Reports.{SaysOnly}
use Rattle.onll_text.proofs.Determined.{says_only}
use Rattle.onll_task.specs.declared.answer.Stop.{Stop}
use Rattle.onll_task.specs.Images.{AllDecide}
use Rattle.onll_task.specs.Doing.{Fulfils, DoesStage, write_stage}
use Rattle.onll_task.proofs.Stages.{wrote_does, stop_does, report_does, none_does}
use Rattle.std.specs.Result.{IsErrAnd}
use Rattle.onll_words.proofs.Joined.{text_determined, line_same}
use Rattle.onll_task.specs.declared.answer.Stop.TheVariants.{NoMemory}
use Rattle.onll_shipping.specs.declared.ship_fault.ShipFault.{ShipFault}
use Rattle.onll_shipping.specs.ShipJob.{HeadedLog, ShipData, ShipReads, ship_data, ship_data_lines, ship_fault, logs_unless, headed_logs, contents_of, ready, shipped_bytes, shipped_entries, ship_report_task, ship_logs_task}
use Rattle.onll_shipping.specs.Turns.{IsUsedUp}

-- ---- images that were read
pub contents_stand : (lines images : List (List (List ℕ))) → AllDecide lines images → contents_of lines ≡ contents_of images
contents_stand [] [] h = refl
contents_stand [] (i ∷ images) h = absurd h
contents_stand (l ∷ lines) [] h = absurd h
contents_stand (l ∷ lines) (i ∷ images) h = let one = h.0.content in let rest = contents_stand lines images h.1 in λ j. one j ∷ rest j

pub used_up : (lines images : List (List (List ℕ))) → AllDecide lines images → AllByRecursion IsUsedUp lines
used_up [] [] h = tt
used_up [] (i ∷ images) h = absurd h
used_up (l ∷ lines) [] h = absurd h
used_up (l ∷ lines) (i ∷ images) h = (subst (λ (o : Option Content). length l ≤ used_in o) (sym h.0.content) h.0.few, used_up lines images h.1)

-- ---- the report
ship_words : ShipData → List (List ℕ)
ship_words said = codes "shipped" ∷ codes "entries" ∷ decimal said.entries ∷ codes "bytes" ∷ decimal said.bytes ∷ []

pub ship_in_words : (entries bytes : ℕ) → AreWords (codes "shipped" ∷ codes "entries" ∷ decimal entries ∷ codes "bytes" ∷ decimal bytes ∷ [])
ship_in_words entries bytes =
    (record { some = refl; bytes = refl }, (record { some = refl; bytes = refl }, (IsWord-decimal entries, (record { some = refl; bytes = refl }, (IsWord-decimal bytes, tt)))))

meaningful : (said : ShipData) → AreMeaningful (ship_data_lines said)
meaningful said = (ship_in_words said.entries said.bytes, refl, tt)

determined : (said other : ShipData) → ShipReads said → ShipReads other → flat_map line_text (ship_data_lines said) ≡ flat_map line_text (ship_data_lines other) → said ≡ other
unfolding ship_words
determined said other g h e =
    let lines = text_determined (ship_data_lines said) (ship_data_lines other) (meaningful said) (meaningful other) e in
    let words : ship_words said ≡ ship_words other = (line_same (ship_words said) (ship_words other) [] [] lines).0 in
    let tail : ShipData → List (List ℕ) = λ x. codes "bytes" ∷ decimal x.bytes ∷ [] in
    let entries = decimal_injective said.entries other.entries g.entries h.entries (line_same (decimal said.entries) (decimal other.entries) (tail said) (tail other) (ap (drop 2) words)).0 in
    let bytes = decimal_injective said.bytes other.bytes g.bytes h.bytes (line_same (decimal said.bytes) (decimal other.bytes) [] [] (ap (drop 4) words)).0 in
    λ i. record { entries = entries i; bytes = bytes i }

ship_says : (text : List ℕ) (said : ShipData) → text ≡ flat_map line_text (ship_data_lines said) → ShipReads said → SaysOnly ship_data_lines ShipReads text said
ship_says text said e h = says_only ship_data_lines ShipReads determined text said e h

-- ---- the command
module _ (images : List (List (List ℕ))) (out : List ℕ) (store : StoreView) (fault : Option ShipFault) (is : fault ≡ ship_fault (contents_of images)) where
  ready_as : (f : Option ShipFault) → fault ≡ f → ready images ≡ logs_unless f (headed_logs (contents_of images))
  ready_as f e = ap (λ (o : Option ShipFault). logs_unless o (headed_logs (contents_of images))) (sym is ∙ e)

  pub ready_where : fault ≡ None → ready images ≡ Ok (headed_logs (contents_of images))
  ready_where e = ready_as None e

  -- the stream was made
  module _ (e : fault ≡ None) (bytes : List ℕ) (entries : ℕ) (bytes_are : bytes ≡ shipped_bytes (headed_logs (contents_of images))) (entries_are : entries ≡ length (shipped_entries (headed_logs (contents_of images)))) where
    said_is : record { entries = entries; bytes = length bytes } ≡ ship_data (headed_logs (contents_of images))
    said_is = λ i. record { entries = entries_are i; bytes = length (bytes_are i) }

    begins : {V : Type 0} {mid : StoreView} {value : V → Unit {0}} {r : Result V Stop} → DoesStage (out ∷ []) store mid (write_stage out bytes) value r
        → DoesStage (out ∷ []) store mid (write_stage out (shipped_bytes (headed_logs (contents_of images)))) value r
    begins {mid = mid} {value} {r} first = subst (λ (z : List ℕ). DoesStage (out ∷ []) store mid (write_stage out z) value r) bytes_are first

    to_ready : {A : Type 0} {mid : StoreView} {r : Result (Vec ℕ A) Stop} → Fulfils (out ∷ []) store mid (ship_logs_task out (Ok (headed_logs (contents_of images)))) r → Fulfils (out ∷ []) store mid (ship_logs_task out (ready images)) r
    to_ready {A} {mid} {r} d = subst (λ (x : Result (List HeadedLog) ShipFault). Fulfils (out ∷ []) store mid (ship_logs_task out x) r) (sym (ready_as None e)) d

    pub shipped : {A V : Type 0} {mid : StoreView} {value : V → Unit {0}} {v : V} (text : Vec ℕ A) → DoesStage (out ∷ []) store mid (write_stage out bytes) value (Ok v)
        → text.items ≡ flat_map line_text (ship_data_lines (record { entries = entries; bytes = length bytes })) → ShipReads (record { entries = entries; bytes = length bytes })
        → Fulfils (out ∷ []) store mid (ship_logs_task out (ready images)) (Ok text)
    shipped text first printed reads =
        let all = headed_logs (contents_of images) in
        let text_is : text.items ≡ flat_map line_text (ship_data_lines (ship_data all)) = printed ∙ ap (λ (x : ShipData). flat_map line_text (ship_data_lines x)) said_is in
        let holds = ship_says text.items (ship_data all) text_is (subst ShipReads said_is reads) in
        to_ready (wrote_does (λ _. ship_report_task all) (begins first) (λ any. report_does any text text_is holds))

    pub unsaid : {A V : Type 0} {mid : StoreView} {value : V → Unit {0}} {v : V} {r : Result (Vec ℕ A) Stop} → DoesStage (out ∷ []) store mid (write_stage out bytes) value (Ok v) → IsErrAnd r (λ stop. stop ≡ NoMemory)
        → Fulfils (out ∷ []) store mid (ship_logs_task out (ready images)) r
    unsaid first none = let all = headed_logs (contents_of images) in to_ready (wrote_does (λ _. ship_report_task all) (begins first) (λ any. none_does [] any (ship_report_task all) none))

    pub unwritten : {A V : Type 0} {mid : StoreView} {value : V → Unit {0}} {s : Stop} → DoesStage (out ∷ []) store mid (write_stage out bytes) value (Err s) → Fulfils {A = A} (out ∷ []) store mid (ship_logs_task out (ready images)) (Err s)
    unwritten first = to_ready (stop_does (λ _. ship_report_task (headed_logs (contents_of images))) (begins first))
