-- The lines of a checkpoint are whole, so they are read back from the bytes of their file.
use Rattle.std.proofs.Common.{ℕ, zero, suc, ◌≡◌, ◌+◌, ◌-◌, ◌*◌, ◌^◌, ◌<◌, ◌≤◌, Bool, true, false, List, [], ◌∷◌, ◌++◌, length, map, take, drop, replicate, refl, sym, ap, ◌∙◌, arith, append-nil, length-append, Some}
use Rattle.std.specs.List.{AllByRecursion}
use Rattle.std.specs.Simd.{first_chunks}
use Rattle.std.proofs.lemmas.List.{take_all}
use Rattle.std.proofs.Math.Nat.{pow-suc}
use Rattle.onll_words.specs.Bytes.{words_in, low_word}
use Rattle.onll_words.specs.Lines.{words_of_bytes}
use Rattle.onll_words.proofs.WordBytes.{Bytes, dropped, length-words_in}
use Rattle.onll_pmem.specs.Device.{zero_lines}
use Rattle.onll_log.specs.Masks.{bits, marks_in}
use Rattle.onll_log.specs.ImageFile.{whole_lines}
use Rattle.onll_outside.specs.Views.{image_bytes}
use Rattle.onll_outside.specs.LineFiles.{IsWholeLine}
use Rattle.onll_outside.proofs.WholeLines.{whole_to_end, length-image_bytes}
use Rattle.onll_checkpoint.specs.Checkpoint.{CheckpointState, FitsCheckpoint}
use Rattle.onll_checkpoint.specs.Text.{lines_of_text, lines_for, filled_text, text_lines}
use Rattle.onll_checkpoint.specs.Grammar.{first_words, first_line, checkpoint_image, checkpoint_in}
use Rattle.onll_checkpoint.proofs.Texts.{length-text_lines, taken, Bytes-append, Bytes-zeros}
use Rattle.onll_checkpoint.proofs.Found.{checkpoint_in-written}
use Rattle.onll_areas.specs.Newest.{longest_area, area_lines}
use Rattle.onll_areas.proofs.LinesBack.{whole_back}

-- ---- words of bytes
low_word_fits : (bs : List ℕ) → Bytes bs → low_word bs < 2 ^ 64
low_word_fits bs h = omega (arith, h 0, h 1, h 2, h 3, h 4, h 5, h 6, h 7)

words_fit : (n : ℕ) (bs : List ℕ) → Bytes bs → AllByRecursion (λ w. w < 2 ^ 64) (words_in low_word n bs)
unfolding words_in
words_fit zero bs h = tt
words_fit (suc n) bs h = (low_word_fits bs h, words_fit n (drop 8 bs) (dropped 8 bs h))

line_fits : (bs : List ℕ) → Bytes bs → IsWholeLine (words_of_bytes bs)
line_fits bs h = record { eight = length-words_in low_word 8 bs; words = words_fit 8 bs h }

chunks_fit : (n : ℕ) (bytes : List ℕ) → Bytes bytes → AllByRecursion IsWholeLine (map words_of_bytes (first_chunks 64 n bytes))
chunks_fit zero bytes h = tt
chunks_fit (suc n) bytes h = (line_fits (take 64 bytes) (taken 64 bytes h), chunks_fit n (drop 64 bytes) (dropped 64 bytes h))

-- ---- the first line
bits_small : (bs : List Bool) → bits bs + 1 ≤ 2 ^ length bs
bits_small [] = omega arith
bits_small (true ∷ bs) = let h = bits_small bs in let p = pow-suc 2 (length bs) in omega arith
bits_small (false ∷ bs) = let h = bits_small bs in let p = pow-suc 2 (length bs) in omega arith

first_fits : (c : CheckpointState) → FitsCheckpoint c → IsWholeLine (first_line c)
first_fits c f =
    let small = bits_small (marks_in (first_words c.number c.place (length c.text))) in
    let few = f.text in
    record {
      eight = refl;
      words = (omega arith, (f.number_fits, (f.place_fits, (omega arith, (omega arith, (omega arith, (omega arith, (omega arith, tt))))))));
    }

-- ---- the whole
pub checkpoint_whole : (c : CheckpointState) (count : ℕ) → FitsCheckpoint c → AllByRecursion IsWholeLine (checkpoint_image c count)
checkpoint_whole c count f =
    let zeros : ℕ = 64 * lines_of_text (length c.text) - length c.text in
    let bytes = Bytes-append c.text (replicate zeros 0) f.bytes (Bytes-zeros zeros) in (
      first_fits c f,
      whole_to_end (text_lines c.text) (count - lines_for (length c.text)) (chunks_fit (lines_of_text (length c.text)) (filled_text c.text) bytes),
    )

pub length-area : (c : CheckpointState) → length (checkpoint_image c (lines_for (length c.text))) ≡ lines_for (length c.text)
length-area c =
    let none : lines_for (length c.text) - lines_for (length c.text) ≡ 0 = omega arith in
    omega (arith, ap (λ n. length (text_lines c.text ++ zero_lines n)) none, length-append (text_lines c.text) [], length-text_lines c.text)

-- the file of a checkpoint holds it
pub found_in_area : (c : CheckpointState) → FitsCheckpoint c
    → checkpoint_in (area_lines (image_bytes (checkpoint_image c (lines_for (length c.text))))) ≡ Some c
found_in_area c f =
    let lines = checkpoint_image c (lines_for (length c.text)) in
    let whole = checkpoint_whole c (lines_for (length c.text)) f in
    let many = length-area c in
    let long = length-image_bytes lines whole in
    let few = f.text in
    let same : area_lines (image_bytes lines) ≡ lines =
    ap whole_lines (take_all longest_area (image_bytes lines) (omega arith) ∙ sym (append-nil (image_bytes lines))) ∙ whole_back lines [] whole (omega arith) in
    ap checkpoint_in same ∙ checkpoint_in-written c (zero_lines (lines_for (length c.text) - lines_for (length c.text))) f
