-- Lines are read back from the bytes of their file, as are those that a crash may leave of a log's device.
use Rattle.std.proofs.Common.{ℕ, zero, suc, ◌≡◌, ◌-◌, ◌/◌, ◌<◌, List, [], ◌∷◌, ◌++◌, length, length-append, map, take, Option, Some, None, refl, sym, ap, ◌∙◌, subst, append_assoc, arith}
use Rattle.std.specs.List.{AllByRecursion}
use Rattle.std.specs.Simd.{first_chunks}
use Rattle.onll_words.specs.Lines.{words_of_bytes}
use Rattle.onll_model.specs.Segment.{Segment}
use Rattle.onll_model.proofs.Lists.{all_left, all_append}
use Rattle.onll_pmem.specs.Device.{zero_lines, Mixed}
use Rattle.onll_outside.specs.Views.{image_bytes}
use Rattle.onll_outside.specs.LineFiles.{IsWholeLine}
use Rattle.onll_outside.proofs.WholeLines.{zeros_whole, chunks_back, length-image_bytes, mixed_line}
use Rattle.onll_log.specs.declared.head.LogHead.{LogHead}
use Rattle.onll_log.specs.Encoding.{entry_lines, entries_lines, log_lines}
use Rattle.onll_log.specs.Head.{head_line}
use Rattle.onll_log.specs.ImageFile.{whole_lines}
use Rattle.onll_log.specs.Log.{free_of, but_last}
use Rattle.onll_log.specs.Torn.{log_image}
use Rattle.onll_run.specs.Left.{LogLeft, fenced_in}

-- the whole lines of bytes that begin with those of lines are those lines, where less than a line follows
pub whole_back : (lines : List (List ℕ)) (rest : List ℕ) → AllByRecursion IsWholeLine lines → length rest < 64
    → whole_lines (image_bytes lines ++ rest) ≡ lines
whole_back lines rest each short =
    let long = length-image_bytes lines each in
    let all = length-append (image_bytes lines) rest in
    let count : length (image_bytes lines ++ rest) / 64 ≡ length lines = omega (arith, long, all, short) in
    ap (λ n. map words_of_bytes (first_chunks 64 n (image_bytes lines ++ rest))) count ∙ chunks_back lines rest each

-- a mix of whole lines is of whole lines, and as many
pub mixed_lines : (xs ys zs : List (List ℕ)) → Mixed xs ys zs → AllByRecursion IsWholeLine xs → AllByRecursion IsWholeLine ys
    → AllByRecursion IsWholeLine zs × (length zs ≡ length ys)
mixed_lines [] [] [] m h g = (tt, refl)
mixed_lines [] [] (z ∷ zs) m h g = absurd m
mixed_lines [] (y ∷ ys) zs m h g = absurd m
mixed_lines (x ∷ xs) [] zs m h g = absurd m
mixed_lines (x ∷ xs) (y ∷ ys) [] m h g = absurd m
mixed_lines (x ∷ xs) (y ∷ ys) (z ∷ zs) m h g =
    let rest = mixed_lines xs ys zs m.1 h.1 g.1 in
    ((mixed_line x y z m.0 h.0 g.0, rest.0), ap suc rest.1)

-- ---- the lines of a log that are fenced
-- the lines of the first entries stand before those of the rest
record FrontEntries (head : LogHead) (before n : ℕ) (ss : List Segment) : Type 0 where
  rest : List (List ℕ)
  all : entries_lines head before ss ≡ entries_lines head before (take n ss) ++ rest

front_entries : (head : LogHead) (before n : ℕ) (ss : List Segment) → FrontEntries head before n ss
front_entries head before zero ss = record { rest = entries_lines head before ss; all = refl }
front_entries head before (suc n) [] = record { rest = []; all = refl }
front_entries head before (suc n) (s ∷ ss) =
    let more = front_entries head (suc before) n ss in
    record {
      rest = more.rest;
      all = ap (λ (l : List (List ℕ)). entry_lines head before s ++ l) more.all
          ∙ sym (append_assoc (entry_lines head before s) (entries_lines head (suc before) (take n ss)) more.rest);
    }

-- those of a log that is broken, too, are whole
pub fenced_whole : (log : LogLeft) (failed : Option ℕ)
    → log.read ≡ log_image log.head log.entries (free_of (length log.read) log.entries) → AllByRecursion IsWholeLine log.read
    → AllByRecursion IsWholeLine (fenced_in log failed)
fenced_whole log None read each = each
fenced_whole log (Some place) read each =
    let head = log.head in
    let first = but_last log.entries in
    let zeros = zero_lines (free_of (length log.read) log.entries) in
    let front = front_entries head 0 (length log.entries - 1) log.entries in
    let rest = front.rest ++ zeros in
    let all : log.read ≡ log_lines head first ++ rest =
    read ∙ ap (λ (l : List (List ℕ)). (head_line head ∷ l) ++ zeros) front.all ∙ append_assoc (log_lines head first) front.rest zeros in
    let free = free_of (length log.read) first in
    all_append IsWholeLine (log_lines head first) (zero_lines free)
    (all_left IsWholeLine (log_lines head first) rest (subst (AllByRecursion IsWholeLine) all each)) (zeros_whole free)
