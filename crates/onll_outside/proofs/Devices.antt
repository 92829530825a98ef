-- What a store says of devices, and what it keeps of them.
use Rattle.std.proofs.Common.{ℕ, zero, suc, ◌≡◌, ◌≤◌, ◌-◌, ◌*◌, List, ◌++◌, length, take, drop, replicate, Result, Ok, Err, Some, refl, sym, ap, ◌∙◌, subst, arith, inl, inr}
use Rattle.std.proofs.lemmas.List.{map-append, take_all}
use Rattle.std.proofs.lemmas.List.Elements.{All-take, All-drop, All-append, All-replicate}
use Rattle.std.proofs.lemmas.Grind.{flat_map-append}
use Rattle.std.specs.Prelude.{OnOk, IfErr}
use Rattle.onll_words.specs.declared.line.Line.{Line}
use Rattle.onll_words.specs.Lines.{bytes_of_words}
use Rattle.onll_pmem.specs.Device.{zero_line, zero_lines}
use Rattle.onll_pmem.specs.Pmem.{words_of}
use Rattle.onll_pmem.proofs.Lines.{words_of-replicate, length-words_of}
use Rattle.onll_outside.specs.declared.OutsideFault.{OutsideFault}
use Rattle.onll_outside.specs.declared.OutsideFault.TheVariants.{NoMemory}
use Rattle.onll_outside.proofs.WrittenFiles.{file_in-written, file_in-other}
use Rattle.onll_outside.specs.Views.{SameOthers, AreZeros, WipesAfter, BeginsWith, image_bytes, with_zeros}
use Rattle.onll_outside.specs.MemStore.{FilesHeld, file_in, reopened, store_of}

-- lines of zeros after others
pub words_of-resized : (front : List Line) (n m : ℕ) → length front ≤ n → m ≡ length front → words_of (take n front ++ replicate (n - m) (record { w = zero_line })) ≡ with_zeros (words_of front) n
words_of-resized front n m few len =
    map-append (λ (line : Line). line.w) (take n front) (replicate (n - m) (record { w = zero_line }))
    ∙ (λ i. ap words_of (take_all n front few) i ++ (words_of-replicate (n - m) (record { w = zero_line }) ∙ ap zero_lines left) i)
  where
    left : n - m ≡ n - length (words_of front)
    left = let count = length-words_of front in omega arith

-- lines of zeros have bytes of zeros
zero_bytes : bytes_of_words zero_line ≡ replicate 64 0
zero_bytes = refl

AreZeros-zero_lines : (n : ℕ) → AreZeros (image_bytes (zero_lines n))
AreZeros-zero_lines zero = λ k d l. absurd (omega arith)
AreZeros-zero_lines (suc n) = All-append (λ (x : ℕ). x ≡ 0) (bytes_of_words zero_line) (image_bytes (zero_lines n)) (subst AreZeros (sym zero_bytes) (All-replicate (λ (x : ℕ). x ≡ 0) 64 0 refl)) (AreZeros-zero_lines n)

-- a device is made of the lines of a file, or isn't
module _ {T : Type 0} (r : Result T OutsideFault) (old mid new : FilesHeld) (name : List ℕ) (lines : List (List ℕ)) (files : mid.files ≡ old.files) (done : OnOk r (new ≡ reopened mid name lines)) (not_done : IfErr r (λ e. (e ≡ NoMemory) × (new ≡ mid))) where
  pub others-reopened : SameOthers name (store_of old) (store_of new)
  others-reopened = at r done not_done
    where
      at : (r : Result T OutsideFault) → OnOk r (new ≡ reopened mid name lines) → IfErr r (λ e. (e ≡ NoMemory) × (new ≡ mid)) → SameOthers name (store_of old) (store_of new)
      at (Ok x) d n = record {
        tells = refl;
        file = λ other no_name. ap (λ (s : FilesHeld). file_in s.files other) d ∙ file_in-other mid.files name (image_bytes lines) other no_name ∙ ap (λ fs. file_in fs other) files;
      }
      at (Err e) d n = record { tells = refl; file = λ other no_name. ap (λ (s : FilesHeld). file_in s.files other) n.1 ∙ ap (λ fs. file_in fs other) files }

  pub wipes-reopened : (front : List (List ℕ)) (count : ℕ) → lines ≡ with_zeros front count → BeginsWith (store_of old) name (image_bytes front) → WipesAfter name (image_bytes front) (store_of old) (store_of new)
  wipes-reopened front count e begins = at r done not_done
    where
      zeros : List (List ℕ)
      zeros = zero_lines (count - length front)

      at : (r : Result T OutsideFault) → OnOk r (new ≡ reopened mid name lines) → IfErr r (λ e. (e ≡ NoMemory) × (new ≡ mid)) → WipesAfter name (image_bytes front) (store_of old) (store_of new)
      at (Ok x) d n = record {
        was = (begins refl).0;
        rest = image_bytes zeros;
        before = (begins refl).1;
        now = ap (λ (s : FilesHeld). file_in s.files name) d ∙ (file_in-written mid.files name (image_bytes lines) ∙ ap Some (ap image_bytes e ∙ flat_map-append bytes_of_words front zeros));
        wiped = λ word. inr (All-take (λ (x : ℕ). x ≡ 0) 8 (drop (8 * word) (image_bytes zeros)) (All-drop (λ (x : ℕ). x ≡ 0) (8 * word) (image_bytes zeros) (AreZeros-zero_lines (count - length front))));
      }
      at (Err e) d n = record {
        was = (begins refl).0;
        rest = (begins refl).0;
        before = (begins refl).1;
        now = ap (λ (s : FilesHeld). file_in s.files name) n.1 ∙ (ap (λ fs. file_in fs name) files ∙ (begins refl).1);
        wiped = λ word. inl refl;
      }
