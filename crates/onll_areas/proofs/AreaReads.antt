-- What a read of an area's file gives.
use Rattle.std.proofs.Common.{ℕ, ◌≡◌, ◌-◌, ◌*◌, ◌≤◌, Bool, true, false, List, [], ◌++◌, length, refl, sym, ap, ◌∙◌, arith, append-nil, Some, None, Option, replicate, take}
use Rattle.std.specs.List.{AllByRecursion}
use Rattle.std.proofs.lemmas.List.{map-append, take_all}
use Rattle.onll_words.specs.declared.line.Line.{Line}
use Rattle.onll_pmem.specs.Device.{zero_line, zero_lines}
use Rattle.onll_pmem.specs.Pmem.{words_of}
use Rattle.onll_pmem.proofs.Lines.{words_of-replicate, length-words_of}
use Rattle.onll_pmem.proofs.Fronts.{length-followed}
use Rattle.onll_log.specs.ImageFile.{whole_lines}
use Rattle.onll_outside.specs.Views.{StoreView, FileHolds, with_zeros, image_bytes}
use Rattle.onll_outside.specs.LineFiles.{IsWholeLine, IsFileFront, FrontHasLines, GivesLines}
use Rattle.onll_outside.proofs.WholeLines.{whole_to_end, length-image_bytes}
use Rattle.onll_checkpoint.specs.Checkpoint.{CheckpointState}
use Rattle.onll_checkpoint.specs.Grammar.{checkpoint_in}
use Rattle.onll_areas.specs.Newest.{longest_area, area_lines, AreaHolds}
use Rattle.onll_areas.proofs.LinesBack.{whole_back}

-- bytes that the file may have, and their lines
record AreaRead (s : StoreView) (name : List ℕ) (lines : List (List ℕ)) : Type 0 where
  bytes : List ℕ
  held : FileHolds s name bytes
  lines_are : area_lines bytes ≡ lines

area_read : (s : StoreView) (name : List ℕ) (front : List (List ℕ)) (count : ℕ) → IsFileFront front count → 64 * count ≤ longest_area
    → GivesLines s name longest_area front count → AreaRead s name (with_zeros front count)
area_read s name front count f few h = at s.tells refl
  where
    each : AllByRecursion IsWholeLine (with_zeros front count)
    each = whole_to_end front (count - length front) f.each

    told : (found : Option (List ℕ)) → s.file name ≡ found → FrontHasLines longest_area found front count → AreaRead s name (with_zeros front count)
    told None e k = absurd k
    told (Some all) e k = record { bytes = all; held = λ _. e; lines_are = ap whole_lines k.whole ∙ whole_back (with_zeros front count) k.rest each k.short }

    short : length (image_bytes (with_zeros front count)) ≤ longest_area
    short =
        let long = length-image_bytes (with_zeros front count) each in
        let many = length-followed zero_line front count f.within in
        omega (arith, long, many, few)

    at : (t : Bool) → s.tells ≡ t → AreaRead s name (with_zeros front count)
    at true e = told (s.file name) refl (h e)
    at false e = record {
      bytes = image_bytes (with_zeros front count);
      held = λ tells. (cc (e, tells));
      lines_are = ap whole_lines (take_all longest_area (image_bytes (with_zeros front count)) short ∙ sym (append-nil (image_bytes (with_zeros front count))))
          ∙ whole_back (with_zeros front count) [] each (omega arith);
    }

-- the checkpoint of the lines is that of the file
pub area_holds : (s : StoreView) (name : List ℕ) (front : List (List ℕ)) (count : ℕ) (found : Option CheckpointState) → IsFileFront front count
    → 64 * count ≤ longest_area → GivesLines s name longest_area front count → found ≡ checkpoint_in (with_zeros front count) → AreaHolds s name found
area_holds s name front count found f few h is =
    let a = area_read s name front count f few h in
    record { bytes = a.bytes; held = a.held; found_is = is ∙ ap checkpoint_in (sym a.lines_are) }

-- lines that were made as many as the file has
pub words_of-filled : (front : List Line) (n m : ℕ) → length front ≤ n → m ≡ length front
    → words_of (take n front ++ replicate (n - m) (record { w = zero_line })) ≡ with_zeros (words_of front) n
words_of-filled front n m few len =
    map-append (λ (line : Line). line.w) (take n front) (replicate (n - m) (record { w = zero_line }))
    ∙ (λ i. ap words_of (take_all n front few) i ++ (words_of-replicate (n - m) (record { w = zero_line }) ∙ ap zero_lines left) i)
  where
    left : n - m ≡ n - length (words_of front)
    left = let count = length-words_of front in omega arith
