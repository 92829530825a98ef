-- A text and a first line that are written over zeros.
use Rattle.std.proofs.Common.{ℕ, suc, ◌≡◌, ◌+◌, ◌-◌, ◌<◌, ◌≤◌, List, [], ◌∷◌, ◌++◌, length, take, refl, sym, ap, ◌∙◌, subst, arith, length-append}
use Rattle.std.proofs.lemmas.List.{length-replicate, take_more, length-take-le, take_all}
use Rattle.onll_pmem.specs.Device.{line_at, zero_line, zero_lines}
use Rattle.onll_pmem.specs.Pmem.{DeviceView, ToldBacked, ToldSettled, told_fenced}
use Rattle.onll_log.specs.Log.{PutsLines, placed_lines}
use Rattle.onll_log.proofs.Placed.{placed_lines-zeros}
use Rattle.onll_log.proofs.Writing.{Puts-then}
use Rattle.onll_log.proofs.Kept.{ToldSettled-fenced, ToldBacked-fenced}
use Rattle.onll_checkpoint.specs.Checkpoint.{CheckpointState, FitsCheckpoint}
use Rattle.onll_checkpoint.specs.Text.{lines_of_text, lines_for, text_lines}
use Rattle.onll_checkpoint.specs.Grammar.{first_line, text_image, checkpoint_image, checkpoint_in}
use Rattle.onll_checkpoint.specs.Save.{CanTake, IsSaved, IsTextPending}
use Rattle.onll_checkpoint.specs.Stages.{HasText, HasFirst, HasFirstPending}
use Rattle.onll_checkpoint.proofs.Texts.{length-text_lines}
use Rattle.onll_checkpoint.proofs.Found.{checkpoint_in-written}

-- ---- zeros
split_zeros : (count : ℕ) → 1 ≤ count → zero_lines count ≡ (zero_line ∷ []) ++ zero_lines (count - 1)
split_zeros count some_line = let e : count ≡ suc (count - 1) = omega arith in ap zero_lines e

-- the text over zeros
pub text_image-placed : (read : List (List ℕ)) (text : List ℕ) → read ≡ zero_lines (length read) → lines_for (length text) ≤ length read
    → placed_lines read 1 (text_lines text) ≡ text_image text (length read)
text_image-placed read text zeros room =
    let n : length (text_lines text) ≡ lines_of_text (length text) = length-text_lines text in
    let left : length read - 1 - length (text_lines text) ≡ length read - lines_for (length text) = omega arith in
    ap (λ (ls : List (List ℕ)). placed_lines ls 1 (text_lines text)) (zeros ∙ split_zeros (length read) (omega arith))
    ∙ (placed_lines-zeros (zero_line ∷ []) 1 (text_lines text) (length read - 1) refl
    ∙ ap (λ k. zero_line ∷ (text_lines text ++ zero_lines k)) left)

pub length-text_image : (text : List ℕ) (count : ℕ) → lines_for (length text) ≤ count → length (text_image text count) ≡ count
length-text_image text count room =
    omega (arith, length-append (text_lines text) (zero_lines (count - lines_for (length text))), length-text_lines text, length-replicate (count - lines_for (length text)) zero_line)

-- one line of the text more
pub Puts-more : (old mid new : DeviceView) (lines : List (List ℕ)) (i : ℕ) (value : List ℕ) → 1 + length lines ≤ length old.read → i < length lines
    → value ≡ line_at lines i → PutsLines old mid 1 (take i lines) → PutsLines mid new (1 + i) (value ∷ []) → PutsLines old new 1 (take (i + 1) lines)
Puts-more old mid new lines i value room here e p q =
    let n : length (take i lines) ≡ i = length-take-le i lines (omega arith) in
    let to : take i lines ++ value ∷ [] ≡ take (i + 1) lines = ap (λ (v : List ℕ). take i lines ++ v ∷ []) e ∙ sym (take_more lines i [] here) in
    subst (PutsLines old new 1) to (Puts-then old mid new 1 (1 + i) (take i lines) (value ∷ []) (omega arith) (omega arith) p q)

pub Puts-all : (old new : DeviceView) (lines : List (List ℕ)) (n : ℕ) → length lines ≤ n → PutsLines old new 1 (take n lines) → PutsLines old new 1 lines
Puts-all old new lines n e p = subst (PutsLines old new 1) (take_all n lines e) p

-- ---- the first stage
pub HasText-fenced : (old mid new : DeviceView) (c : CheckpointState) → CanTake old c → ToldBacked old.told old.read → PutsLines old mid 1 (text_lines c.text)
    → new.read ≡ mid.read → new.fences ≡ mid.fences + 1 → new.faults ≡ mid.faults → new.told ≡ told_fenced mid.told mid.read → HasText old new c.text
HasText-fenced old mid new c room backed p read fences faults told =
    let image : new.read ≡ text_image c.text (length old.read) = read ∙ (p.read ∙ text_image-placed old.read c.text room.clean.zeros room.lines) in
    record {
      read = image;
      count = ap length image ∙ length-text_image c.text (length old.read) room.lines;
      fences = fences ∙ ap (λ (n : ℕ). n + 1) p.fences;
      faults = faults ∙ p.faults;
      settled = ToldSettled-fenced mid new (p.backed backed) read told;
      backed = ToldBacked-fenced mid new (p.backed backed) read told;
    }

pub IsTextPending-failed : (old mid new : DeviceView) (c : CheckpointState) → CanTake old c → ToldSettled old.told old.read → PutsLines old mid 1 (text_lines c.text)
    → new.read ≡ mid.read → new.fences ≡ mid.fences + 1 → new.faults ≡ mid.faults + 1 → new.told ≡ mid.told → IsTextPending old new c
IsTextPending-failed old mid new c room settled p read fences faults told = record {
  room = room;
  read = read ∙ (p.read ∙ text_image-placed old.read c.text room.clean.zeros room.lines);
  fences = fences ∙ ap (λ (n : ℕ). n + 1) p.fences;
  faults = faults ∙ ap (λ (n : ℕ). n + 1) p.faults;
  pending = λ t e. p.fenced old.read settled t (sym told ∙ e);
}

-- ---- the second stage
first_placed : (read : List (List ℕ)) (c : CheckpointState) → read ≡ text_image c.text (length read) → placed_lines read 0 (first_line c ∷ []) ≡ checkpoint_image c (length read)
first_placed read c e = ap (λ (ls : List (List ℕ)). placed_lines ls 0 (first_line c ∷ [])) e

pub HasFirst-fenced : (old mid new : DeviceView) (c : CheckpointState) (line : List ℕ) → old.read ≡ text_image c.text (length old.read) → ToldBacked old.told old.read
    → line ≡ first_line c → PutsLines old mid 0 (line ∷ [])
    → new.read ≡ mid.read → new.fences ≡ mid.fences + 1 → new.faults ≡ mid.faults → new.told ≡ told_fenced mid.told mid.read → HasFirst old new c
HasFirst-fenced old mid new c line text backed is p read fences faults told = record {
  read = read ∙ (p.read ∙ (ap (λ (l : List ℕ). placed_lines old.read 0 (l ∷ [])) is ∙ first_placed old.read c text));
  fences = fences ∙ ap (λ (n : ℕ). n + 1) p.fences;
  faults = faults ∙ p.faults;
  settled = ToldSettled-fenced mid new (p.backed backed) read told;
}

pub HasFirstPending-failed : (old mid new : DeviceView) (c : CheckpointState) (line : List ℕ) → old.read ≡ text_image c.text (length old.read) → ToldSettled old.told old.read
    → line ≡ first_line c → PutsLines old mid 0 (line ∷ [])
    → new.read ≡ mid.read → new.fences ≡ mid.fences + 1 → new.faults ≡ mid.faults + 1 → new.told ≡ mid.told → HasFirstPending old new c
HasFirstPending-failed old mid new c line text settled is p read fences faults told = record {
  read = read ∙ (p.read ∙ (ap (λ (l : List ℕ). placed_lines old.read 0 (l ∷ [])) is ∙ first_placed old.read c text));
  fences = fences ∙ ap (λ (n : ℕ). n + 1) p.fences;
  faults = faults ∙ ap (λ (n : ℕ). n + 1) p.faults;
  pending = λ t e. p.fenced old.read settled t (sym told ∙ e);
}

-- ---- both
pub IsSaved-both : (old mid new : DeviceView) (c : CheckpointState) → FitsCheckpoint c → CanTake old c → HasText old mid c.text → HasFirst mid new c → IsSaved old new c
IsSaved-both old mid new c fits room t f =
    let image : new.read ≡ checkpoint_image c (length old.read) = f.read ∙ ap (checkpoint_image c) t.count in
    let fences = t.fences in
    record {
      room = room;
      read = image;
      fences = f.fences ∙ omega arith;
      faults = f.faults ∙ t.faults;
      settled = f.settled;
      found = ap checkpoint_in image ∙ checkpoint_in-written c (zero_lines (length old.read - lines_for (length c.text))) fits;
    }
