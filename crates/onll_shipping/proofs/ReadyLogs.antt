-- Logs that are ready to be shipped: their images are the lines of their heads and entries, and of these a stream is made.

use Rattle.std.proofs.Common.{ℕ, ◌+◌, ◌≤◌, ◌≡◌, Bool, true, false, List, [], ◌∷◌, ◌++◌, length, take, drop, map, Option, Some, None, Ok, refl, sym, ap, subst, ◌∙◌, arith, true≢false, cond, ◌==◌}
use Rattle.std.specs.List.{AllByRecursion, flat_map, slice_get}
use Rattle.std.specs.Option.{option_map}
use Rattle.std.proofs.lemmas.Grind.{flat_map-append}
use Rattle.std.proofs.lemmas.List.{take_all}
use Rattle.std.proofs.lemmas.Option.{slice_get-map}
use Rattle.onll_words.specs.Lines.{bytes_of_words}
use Rattle.onll_model.specs.Segment.{Segment}
use Rattle.onll_log.specs.declared.head.LogHead.{LogHead}
use Rattle.onll_log.specs.Head.{head_line}
use Rattle.onll_log.specs.Encoding.{log_lines}
use Rattle.onll_log.specs.Grammar.{Content, content_of, used_with}
use Rattle.onll_log.specs.Tested.{used_in}
use Rattle.onll_log.specs.Torn.{AreLines}
use Rattle.onll_log.proofs.Written.{take-used}
use Rattle.onll_start.specs.Start.{is_old}
use Rattle.onll_standby.specs.Held.{HeldEntry}
use Rattle.onll_standby.specs.Shipped.{head_lines, lines_of_entries}
use Rattle.onll_outside.specs.Views.{image_bytes}
use Rattle.onll_shipping.specs.declared.ship_fault.Flaw.{Flaw}
use Rattle.onll_shipping.specs.declared.ship_fault.Flaw.TheVariants as flaws
use Rattle.onll_shipping.specs.ShipJob.{HeadedLog, headed_logs, is_no_head, has_flaw, least_log, fault_by, logs_unless, contents_of, ready, heads_in, entries_in, most_entries, turns_from, shipped_entries, shipped_bytes}
use Rattle.onll_shipping.specs.Turns.{IsUsedUp, entries_held, put_in_turns}
use Rattle.onll_shipping.proofs.StreamLines.{entry_lists, entry_lists-bytes, entry_lists-many, lines_left, HaveHeads, HaveFirst, turns_lists}

-- ---- no log is refused
pub record AreReady (contents : List (Option Content)) (logs : List HeadedLog) : Type 0 where
  pub are_logs : least_log flaws.NotLog 0 contents ≡ None
  pub new_format : least_log flaws.OldFormat 0 contents ≡ None
  pub some_head : least_log flaws.Empty 0 contents ≡ None
  pub are : headed_logs contents ≡ logs

pub are_ready : (images : List (List (List ℕ))) (logs : List HeadedLog) → ready images ≡ Ok logs → AreReady (contents_of images) logs
are_ready images logs e = by_faults (least_log flaws.NotLog 0 contents) (least_log flaws.OldFormat 0 contents) (least_log flaws.Empty 0 contents) refl refl refl e
  where
    contents : List (Option Content)
    contents = contents_of images

    by_faults : (a b c : Option ℕ) → least_log flaws.NotLog 0 contents ≡ a → least_log flaws.OldFormat 0 contents ≡ b → least_log flaws.Empty 0 contents ≡ c → logs_unless (fault_by a b c) (headed_logs contents) ≡ Ok logs
        → AreReady contents logs
    by_faults (Some a) b c x y z e = absurd (cc)
    by_faults None (Some b) c x y z e = absurd (cc)
    by_faults None None (Some c) x y z e = absurd (cc)
    by_faults None None None x y z e = record { are_logs = x; new_format = y; some_head = z; are = (cc) }

passed_over : (b : Bool) (t : ℕ) (rest : Option ℕ) → cond {A = Option ℕ} b (Some t) rest ≡ None → (b ≡ false) × (rest ≡ None)
passed_over true t rest e = absurd (cc)
passed_over false t rest e = (refl, e)

pub without : (flaw : Flaw) (t : ℕ) (content : Option Content) (contents : List (Option Content)) → least_log flaw t (content ∷ contents) ≡ None
    → (has_flaw flaw content ≡ false) × (least_log flaw (t + 1) contents ≡ None)
without flaw t content contents e = passed_over (has_flaw flaw content) t (least_log flaw (t + 1) contents) e

-- ---- one image
abbrev pub content_with : HeadedLog → Content
content_with log = record { head = Some log.head; entries = log.entries }

-- the image holds this log, which is not of format 1
pub record HoldsLog (image : List (List ℕ)) (log : HeadedLog) : Type 0 where
  pub content : content_of image ≡ Some (content_with log)
  pub format : log.head.format == 1 ≡ false

abbrev FoundIn : Option Content → Type 0
FoundIn o = (log : HeadedLog) × (o ≡ Some (content_with log)) × (log.head.format == 1 ≡ false)

found_in : (o : Option Content) → has_flaw flaws.NotLog o ≡ false → has_flaw flaws.OldFormat o ≡ false → has_flaw flaws.Empty o ≡ false → FoundIn o
found_in None a b e = absurd (true≢false a)
found_in (Some c) a b e = by_head c.head c.entries refl refl b e
  where
    by_head : (h : Option LogHead) (ss : List Segment) → c.head ≡ h → c.entries ≡ ss → has_flaw flaws.OldFormat (Some c) ≡ false → has_flaw flaws.Empty (Some c) ≡ false → FoundIn (Some c)
    by_head None ss x y b e = absurd (true≢false (ap is_no_head (sym x) ∙ e))
    by_head (Some head) ss x y b e = (record { head = head; entries = ss }, (λ i. Some (record { head = x i; entries = y i })), ap is_old (sym x) ∙ b)

-- each image holds the log at its place
abbrev pub HoldLogs : List (List (List ℕ)) → List HeadedLog → Type 0
HoldLogs [] [] = Unit {0}
HoldLogs (image ∷ images) (log ∷ logs) = HoldsLog image log × HoldLogs images logs
HoldLogs images logs = ⊥

hold_headed : (t : ℕ) (images : List (List (List ℕ))) → least_log flaws.NotLog t (contents_of images) ≡ None → least_log flaws.OldFormat t (contents_of images) ≡ None → least_log flaws.Empty t (contents_of images) ≡ None
    → HoldLogs images (headed_logs (contents_of images))
hold_headed t [] a b e = tt
hold_headed t (image ∷ images) a b e =
    let contents : List (Option Content) = contents_of images in
    let x = without flaws.NotLog t (content_of image) contents a in let y = without flaws.OldFormat t (content_of image) contents b in let z = without flaws.Empty t (content_of image) contents e in
    let found = found_in (content_of image) x.0 y.0 z.0 in
    let all : headed_logs (content_of image ∷ contents) ≡ found.0 ∷ headed_logs contents = ap (λ (o : Option Content). headed_logs (o ∷ contents)) found.1 in
    subst (HoldLogs (image ∷ images)) (sym all) (record { content = found.1; format = found.2 }, hold_headed (t + 1) images x.1 y.1 z.1)

pub hold_logs : (images : List (List (List ℕ))) (logs : List HeadedLog) → ready images ≡ Ok logs → HoldLogs images logs
hold_logs images logs is = let r = are_ready images logs is in subst (HoldLogs images) r.are (hold_headed 0 images r.are_logs r.new_format r.some_head)

lines_are : (image : List (List ℕ)) (log : HeadedLog) → AreLines image → IsUsedUp image → HoldsLog image log → image ≡ log_lines log.head log.entries
lines_are image log eight used is =
    let n : ℕ = used_with (Some log.head) log.entries in
    let few : length image ≤ n = (let k = subst (λ (o : Option Content). length image ≤ used_in o) is.content used in omega (arith, k)) in
    sym (take_all n image few) ∙ take-used image log.head log.entries eight is.content

-- ---- all images
record AreMadeOf (images : List (List (List ℕ))) (logs : List HeadedLog) : Type 0 where
  heads_are : flat_map (take 1) images ≡ head_lines (heads_in logs)
  left_are : map (drop 1) images ≡ map (lines_left 0) logs
  entries_are : map entries_held (contents_of images) ≡ entries_in logs

made_of : (images : List (List (List ℕ))) (logs : List HeadedLog) → AllByRecursion AreLines images → AllByRecursion IsUsedUp images → HoldLogs images logs → AreMadeOf images logs
made_of [] [] eights used is = record { heads_are = refl; left_are = refl; entries_are = refl }
made_of [] (log ∷ logs) eights used is = absurd is
made_of (image ∷ images) [] eights used is = absurd is
made_of (image ∷ images) (log ∷ logs) eights used is =
    let rest = made_of images logs eights.1 used.1 is.1 in
    let lines = lines_are image log eights.0 used.0 is.0 in
    let one : List (List ℕ) = head_line log.head ∷ [] in
    record {
      heads_are = ap (λ (l : List (List ℕ)). take 1 l ++ flat_map (take 1) images) lines ∙ ap (λ (l : List (List ℕ)). one ++ l) rest.heads_are;
      left_are = (let here : drop 1 image ≡ lines_left 0 log = ap (drop 1) lines in let more = rest.left_are in λ i. here i ∷ more i);
      entries_are = (let here : entries_held (content_of image) ≡ log.entries = ap entries_held is.0.content in let more = rest.entries_are in λ i. here i ∷ more i);
    }

pub have_heads : (logs : List HeadedLog) → HaveHeads (heads_in logs) 0 logs
have_heads logs i log at = let z : 0 + i ≡ i = omega arith in ap (slice_get (heads_in logs)) z ∙ (slice_get-map (λ (l : HeadedLog). l.head) logs i ∙ ap (option_map (λ (l : HeadedLog). l.head)) at)

pub have_none : (logs : List HeadedLog) → HaveFirst [] 0 0 logs
have_none logs i log at = refl

-- ---- the stream
module _ (images : List (List (List ℕ))) (logs : List HeadedLog) (eights : AllByRecursion AreLines images) (used : AllByRecursion IsUsedUp images) (is : ready images ≡ Ok logs) where
  made : AreMadeOf images logs
  made = made_of images logs eights used (hold_logs images logs is)

  put : (n : ℕ) → n ≡ most_entries (map entries_held (contents_of images)) → put_in_turns n (map (drop 1) images) ≡ entry_lists (heads_in logs) [] (shipped_entries logs)
  put n count =
      let many : n ≡ most_entries (entries_in logs) = count ∙ ap most_entries made.entries_are in
      ap (put_in_turns n) made.left_are
      ∙ (turns_lists (heads_in logs) [] 0 n logs (have_heads logs) (have_none logs) ∙ ap (λ (m : ℕ). entry_lists (heads_in logs) [] (turns_from 0 m (entries_in logs))) many)

  -- the header lines and the entries in turns are the stream, and so many entries it has
  pub made_bytes : (n : ℕ) (first all : List ℕ) → n ≡ most_entries (map entries_held (contents_of images)) → first ≡ image_bytes (flat_map (take 1) images)
      → all ≡ first ++ flat_map image_bytes (put_in_turns n (map (drop 1) images)) → all ≡ shipped_bytes logs
  made_bytes n first all count begins is_all =
      let heads : List LogHead = heads_in logs in let es : List HeldEntry = shipped_entries logs in
      let after : flat_map image_bytes (put_in_turns n (map (drop 1) images)) ≡ image_bytes (lines_of_entries heads [] es) = ap (flat_map image_bytes) (put n count) ∙ entry_lists-bytes heads [] es in
      let front : first ≡ image_bytes (head_lines heads) = begins ∙ ap image_bytes made.heads_are in
      is_all ∙ ((λ i. front i ++ after i) ∙ sym (flat_map-append bytes_of_words (head_lines heads) (lines_of_entries heads [] es)))

  pub made_entries : (n count : ℕ) → n ≡ most_entries (map entries_held (contents_of images)) → count ≡ length (put_in_turns n (map (drop 1) images)) → count ≡ length (shipped_entries logs)
  made_entries n count m c = c ∙ (ap (λ (l : List (List (List ℕ))). length l) (put n m) ∙ entry_lists-many (heads_in logs) [] (shipped_entries logs))
