-- A log's header is a whole line, so it is read back from the bytes of its file.

use Rattle.std.proofs.Common.{ℕ, zero, suc, ◌≡◌, ◌^◌, ◌<◌, ◌≤◌, List, ◌++◌, take, drop, sym, arith, slice_index}
use Rattle.std.specs.List.{AllByRecursion}
use Rattle.std.specs.Int.{w32, to_be_bytes}
use Rattle.sha2.specs.Sha256.{digest_bytes, sha256}
use Rattle.onll_words.specs.Bytes.{words_in, low_word}
use Rattle.onll_words.specs.Lines.{bytes_of_words}
use Rattle.onll_words.proofs.WordBytes.{Bytes, dropped, length-words_in}
use Rattle.onll_model.specs.Limits.{greatest_code}
use Rattle.onll_log.specs.Head.{digest_words, head_front, head_for, head_line}
use Rattle.onll_log.specs.ImageFile.{image_lines}
use Rattle.onll_outside.specs.Views.{image_bytes}
use Rattle.onll_outside.specs.LineFiles.{IsWholeLine}
use Rattle.onll_task.proofs.FileLines.{image_lines-image_bytes}
use Rattle.onll_checkpoint.proofs.Texts.{taken, Bytes-append}
use Rattle.onll_eras.specs.Begun.{header_image}

-- ---- words of bytes
low_word_fits : (bs : List ℕ) → Bytes bs → low_word bs < 2 ^ 64
low_word_fits bs h = omega (arith, h 0, h 1, h 2, h 3, h 4, h 5, h 6, h 7)

words_fit : (n : ℕ) (bs : List ℕ) → Bytes bs → AllByRecursion (λ w. w < 2 ^ 64) (words_in low_word n bs)
unfolding words_in
words_fit zero bs h = tt
words_fit (suc n) bs h = (low_word_fits bs h, words_fit n (drop 8 bs) (dropped 8 bs h))

-- ---- the header of a log
Bytes-word : (w : ℕ) → Bytes (to_be_bytes w32 w)
Bytes-word w zero = omega arith
Bytes-word w (suc zero) = omega arith
Bytes-word w (suc (suc zero)) = omega arith
Bytes-word w (suc (suc (suc zero))) = omega arith
Bytes-word w (suc (suc (suc (suc i)))) = omega arith

Bytes-digest : (h : List ℕ) (n : ℕ) → Bytes (digest_bytes h n)
unfolding digest_bytes
Bytes-digest h zero i = omega arith
Bytes-digest h (suc n) i = Bytes-append (digest_bytes h n) (to_be_bytes w32 (slice_index h n)) (Bytes-digest h n) (Bytes-word (slice_index h n)) i

Bytes-sha256 : (m : List ℕ) → Bytes (sha256 m)
unfolding sha256
Bytes-sha256 m = Bytes-digest _ 8

digest_fits : (bytes : List ℕ) → AllByRecursion (λ w. w < 2 ^ 64) (digest_words bytes)
digest_fits bytes = words_fit 3 (take 24 (sha256 bytes)) (taken 24 (sha256 bytes) (Bytes-sha256 bytes))

header_whole : (code threads t : ℕ) (text : List ℕ) → t < threads → threads ≤ 16 → code ≤ greatest_code → IsWholeLine (head_line (head_for 2 t threads code text))
header_whole code threads t text l few known = record {
  eight = let d = length-words_in low_word 3 (take 24 (sha256 (bytes_of_words (head_front 2 t threads code) ++ text))) in omega arith;
  words = (omega arith, (omega arith, (omega arith, (omega arith, (omega arith, digest_fits (bytes_of_words (head_front 2 t threads code) ++ text))))));
}

-- a header alone is read back
pub header_back : (code threads t : ℕ) (text : List ℕ) → t < threads → threads ≤ 16 → code ≤ greatest_code
    → header_image code text threads t ≡ image_lines (image_bytes (header_image code text threads t))
header_back code threads t text l few known =
    sym (image_lines-image_bytes (header_image code text threads t) (record { each = (header_whole code threads t text l few known, tt); few = omega arith }))
