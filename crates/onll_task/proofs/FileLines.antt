-- Lines are read back from the bytes of their file, as are those that a crash may leave of a log's device.

use Rattle.std.proofs.Common.{ℕ, zero, suc, ◌≡◌, ◌+◌, ◌-◌, ◌*◌, ◌≤◌, List, [], ◌∷◌, ◌++◌, length, length-append, take, drop, Option, Some, None, refl, sym, ap, ◌∙◌, subst, append_assoc, append-nil, arith}
use Rattle.std.specs.List.{AllByRecursion}
use Rattle.std.proofs.lemmas.List.{take_all, length-replicate}
use Rattle.onll_model.specs.Segment.{Segment}
use Rattle.onll_model.proofs.Lists.{all_left, all_append}
use Rattle.onll_pmem.specs.Device.{zero_lines, Mixed}
use Rattle.onll_outside.specs.Views.{image_bytes}
use Rattle.onll_outside.specs.LineFiles.{IsWholeLine}
use Rattle.onll_outside.proofs.WholeLines.{zeros_whole, length-image_bytes, mixed_line}
use Rattle.onll_log.specs.declared.head.LogHead.{LogHead}
use Rattle.onll_log.specs.Encoding.{entry_lines, entries_lines, log_lines}
use Rattle.onll_log.specs.Head.{head_line}
use Rattle.onll_log.specs.Grammar.{content_of, used_with}
use Rattle.onll_log.specs.ImageFile.{longest_image, whole_lines, image_lines}
use Rattle.onll_log.specs.Log.{free_of, but_last}
use Rattle.onll_log.specs.Torn.{AreLines}
use Rattle.onll_log.proofs.Encoded.{length-log_lines}
use Rattle.onll_log.proofs.Written.{IsWritten-Holds}
use Rattle.onll_areas.proofs.LinesBack.{whole_back}
use Rattle.onll_run.specs.Left.{LogLeft, content_in, fenced_in}
use Rattle.onll_task.specs.FileLines.{FitFile}

-- the lines of the bytes of lines are those lines
pub image_lines-image_bytes : (lines : List (List ℕ)) → FitFile lines → image_lines (image_bytes lines) ≡ lines
image_lines-image_bytes lines h =
    let long = length-image_bytes lines h.each in
    let few = h.few in
    ap whole_lines (take_all longest_image (image_bytes lines) (omega (arith, long, few)) ∙ sym (append-nil (image_bytes lines))) ∙ whole_back lines [] h.each (omega arith)

mixed_lines : (xs ys zs : List (List ℕ)) → Mixed xs ys zs → AllByRecursion IsWholeLine xs → AllByRecursion IsWholeLine ys
    → AllByRecursion IsWholeLine zs × (length zs ≡ length xs)
mixed_lines [] [] [] m h g = (tt, refl)
mixed_lines [] [] (z ∷ zs) m h g = absurd m
mixed_lines [] (y ∷ ys) zs m h g = absurd m
mixed_lines (x ∷ xs) [] zs m h g = absurd m
mixed_lines (x ∷ xs) (y ∷ ys) [] m h g = absurd m
mixed_lines (x ∷ xs) (y ∷ ys) (z ∷ zs) m h g =
    let rest = mixed_lines xs ys zs m.1 h.1 g.1 in
    ((mixed_line x y z m.0 h.0 g.0, rest.0), ap suc rest.1)

-- a mix of lines that fit a file fits it
pub mixed_fit : (xs ys zs : List (List ℕ)) → Mixed xs ys zs → FitFile xs → FitFile ys → FitFile zs
mixed_fit xs ys zs m h g =
    let lines = mixed_lines xs ys zs m h.each g.each in
    record { each = lines.0; few = subst (λ n. 64 * n ≤ longest_image) (sym lines.1) h.few }

-- ---- the lines of a log that are fenced
eight_each : (lines : List (List ℕ)) → AllByRecursion IsWholeLine lines → AreLines lines
eight_each [] h = tt
eight_each (line ∷ lines) h = (h.0.eight, eight_each lines h.1)

-- the lines of the first entries stand before those of the rest
record FrontEntries (head : LogHead) (before n : ℕ) (ss : List Segment) : Type 0 where
  rest : List (List ℕ)
  all : entries_lines head before ss ≡ entries_lines head before (take n ss) ++ rest

front_entries : (head : LogHead) (before n : ℕ) (ss : List Segment) → FrontEntries head before n ss
front_entries head before zero ss = record { rest = entries_lines head before ss; all = refl }
front_entries head before (suc n) [] = record { rest = []; all = refl }
front_entries head before (suc n) (s ∷ ss) =
    let more = front_entries head (suc before) n ss in
    record {
      rest = more.rest;
      all = ap (λ (l : List (List ℕ)). entry_lines head before s ++ l) more.all
          ∙ sym (append_assoc (entry_lines head before s) (entries_lines head (suc before) (take n ss)) more.rest);
    }

-- those of a log that is broken, too
pub fenced_fit : (log : LogLeft) (failed : Option ℕ) → content_of log.read ≡ Some (content_in log) → FitFile log.read → FitFile (fenced_in log failed)
fenced_fit log None holds fit = fit
fenced_fit log (Some place) holds fit =
    let head = log.head in
    let first = but_last log.entries in
    let written = IsWritten-Holds log.read head log.entries (eight_each log.read fit.each) holds in
    let after = drop (used_with (Some head) log.entries) log.read in
    let front = front_entries head 0 (length log.entries - 1) log.entries in
    let rest = front.rest ++ after in
    let all : log.read ≡ log_lines head first ++ rest =
    written.lines ∙ ap (λ (l : List (List ℕ)). (head_line head ∷ l) ++ after) front.all ∙ append_assoc (log_lines head first) front.rest after in
    let zeros = free_of (length log.read) first in
    let used = length-log_lines head first in
    let long : length log.read ≡ length (log_lines head first) + length rest = ap length all ∙ length-append (log_lines head first) rest in
    let count : length (log_lines head first ++ zero_lines zeros) ≡ length (log_lines head first) + zeros =
    length-append (log_lines head first) (zero_lines zeros) ∙ ap (λ n. length (log_lines head first) + n) (length-replicate zeros _) in
    let same : length (log_lines head first ++ zero_lines zeros) ≡ length log.read = omega (arith, used, long, count) in
    record {
      each = all_append IsWholeLine (log_lines head first) (zero_lines zeros)
          (all_left IsWholeLine (log_lines head first) rest (subst (AllByRecursion IsWholeLine) all fit.each)) (zeros_whole zeros);
      few = subst (λ n. 64 * n ≤ longest_image) (sym same) fit.few;
    }
