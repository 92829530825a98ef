use Rattle.std.proofs.Common.{ℕ, zero, suc, true, false, List, [], ◌∷◌, ◌++◌, ◌≡◌, ◌<◌, ⊎_elim, Option, Some, None, cond, length, set, get_or, refl, sym, ap, ◌∙◌, subst, arith}
use Rattle.std.specs.Str.{bytes_eq}
use Rattle.std.specs.String.{string_bytes}
use Rattle.std.proofs.lemmas.Bool.{cases_Bool}
use Rattle.std.proofs.lemmas.Slice.Eq.{bytes_eq-Decides}
use Rattle.onll_outside.specs.declared.mem_store.Named.{Named}
use Rattle.onll_pmem.specs.Device.{IsImage, Mixed}
use Rattle.onll_pmem.specs.Pmem.{Told}
use Rattle.onll_pmem.specs.Memory.{MemoryState, memory_view}
use Rattle.onll_outside.specs.Views.{IsImageOf}
use Rattle.onll_outside.specs.MemStore.{texts_of, file_in, place_in, with_file}

-- What a file written in memory is, and what the others are.

suc_same : (i j : ℕ) → suc i ≡ suc j → i ≡ j
suc_same i j e = omega arith

-- the file at the place of its name is the one that is replaced
module _ (new : Named) (name : List ℕ) where
  abbrev Replaces : List Named → Type 0
  Replaces files = (i : ℕ) (f : Named) → i < length files → f ≡ get_or files i f → new.name ≡ f.name → i ≡ place_in (texts_of files) name → texts_of (set files i new) ≡ with_file (texts_of files) name new.bytes.items

  at_first : (x : Named) (files : List Named) → bytes_eq (string_bytes x.name) name ≡ true → Replaces (x ∷ files)
  at_first x files t zero f h e n p = ap (λ m. (string_bytes m, new.bytes.items) ∷ texts_of files) (n ∙ ap (λ (g : Named). g.name) e) ∙ sym (ap (λ b. cond b ((string_bytes x.name, new.bytes.items) ∷ texts_of files) ((string_bytes x.name, x.bytes.items) ∷ with_file (texts_of files) name new.bytes.items)) t)
  at_first x files t (suc i) f h e n p = absurd (let none = p ∙ ap (λ b. cond b 0 (suc (place_in (texts_of files) name))) t in omega arith)

  further : (x : Named) (files : List Named) → bytes_eq (string_bytes x.name) name ≡ false → Replaces files → Replaces (x ∷ files)
  further x files t rest zero f h e n p = absurd (let none = p ∙ ap (λ b. cond b 0 (suc (place_in (texts_of files) name))) t in omega arith)
  further x files t rest (suc i) f h e n p =
      let more = p ∙ ap (λ b. cond b 0 (suc (place_in (texts_of files) name))) t in
      ap (λ l. (string_bytes x.name, x.bytes.items) ∷ l) (rest i f (omega arith) e n (suc_same i (place_in (texts_of files) name) more))
      ∙ sym (ap (λ b. cond b ((string_bytes x.name, new.bytes.items) ∷ texts_of files) ((string_bytes x.name, x.bytes.items) ∷ with_file (texts_of files) name new.bytes.items)) t)

  pub set_texts : (files : List Named) → Replaces files
  set_texts [] i f h e n p = absurd (omega arith)
  set_texts (x ∷ files) i f h e n p = ⊎_elim
      (λ (t : bytes_eq (string_bytes x.name) name ≡ true). at_first x files t i f h e n p)
      (λ (t : bytes_eq (string_bytes x.name) name ≡ false). further x files t (set_texts files) i f h e n p)
      (cases_Bool (bytes_eq (string_bytes x.name) name))

-- where there is no file of the name, it comes last
pub push_texts : (files : List Named) (new : Named) (name : List ℕ) → string_bytes new.name ≡ name → place_in (texts_of files) name ≡ length files
    → texts_of (files ++ new ∷ []) ≡ with_file (texts_of files) name new.bytes.items
push_texts [] new name n p = ap (λ m. (m, new.bytes.items) ∷ []) n
push_texts (x ∷ files) new name n p = ⊎_elim
    (λ (t : bytes_eq (string_bytes x.name) name ≡ true). absurd (let none = sym (ap (λ b. cond b 0 (suc (place_in (texts_of files) name))) t) ∙ p in omega arith))
    (λ (t : bytes_eq (string_bytes x.name) name ≡ false).
    let more = sym (ap (λ b. cond b 0 (suc (place_in (texts_of files) name))) t) ∙ p in
    ap (λ l. (string_bytes x.name, x.bytes.items) ∷ l) (push_texts files new name n (suc_same (place_in (texts_of files) name) (length files) more))
    ∙ sym (ap (λ b. cond b ((string_bytes x.name, new.bytes.items) ∷ texts_of files) ((string_bytes x.name, x.bytes.items) ∷ with_file (texts_of files) name new.bytes.items)) t))
    (cases_Bool (bytes_eq (string_bytes x.name) name))

-- the file that was written is found
pub file_in-written : (files : List (List ℕ × List ℕ)) (name bytes : List ℕ) → file_in (with_file files name bytes) name ≡ Some bytes
file_in-written [] name bytes = ap (λ b. cond {A = Option (List ℕ)} b (Some bytes) None) ((bytes_eq-Decides name name).1 refl)
file_in-written (f ∷ files) name bytes = ⊎_elim
    (λ (t : bytes_eq f.0 name ≡ true). ap (λ b. file_in (cond b ((f.0, bytes) ∷ files) (f ∷ with_file files name bytes)) name) t ∙ ap (λ b. cond b (Some bytes) (file_in files name)) t)
    (λ (t : bytes_eq f.0 name ≡ false). ap (λ b. file_in (cond b ((f.0, bytes) ∷ files) (f ∷ with_file files name bytes)) name) t ∙ ap (λ b. cond b (Some f.1) (file_in (with_file files name bytes) name)) t ∙ file_in-written files name bytes)
    (cases_Bool (bytes_eq f.0 name))

-- and every other file is as before
pub file_in-other : (files : List (List ℕ × List ℕ)) (name bytes other : List ℕ) → (other ≡ name → ⊥) → file_in (with_file files name bytes) other ≡ file_in files other
file_in-other [] name bytes other no_name = ⊎_elim
    (λ (t : bytes_eq name other ≡ true). absurd (no_name (sym ((bytes_eq-Decides name other).0 t))))
    (λ (t : bytes_eq name other ≡ false). ap (λ b. cond {A = Option (List ℕ)} b (Some bytes) None) t)
    (cases_Bool (bytes_eq name other))
file_in-other (f ∷ files) name bytes other no_name = ⊎_elim
    (λ (t : bytes_eq f.0 name ≡ true).
    let differs = ⊎_elim (λ (u : bytes_eq f.0 other ≡ true). absurd (no_name (sym ((bytes_eq-Decides f.0 other).0 u) ∙ (bytes_eq-Decides f.0 name).0 t))) (λ (u : bytes_eq f.0 other ≡ false). u) (cases_Bool (bytes_eq f.0 other)) in
    ap (λ b. file_in (cond b ((f.0, bytes) ∷ files) (f ∷ with_file files name bytes)) other) t ∙ ap (λ b. cond b (Some bytes) (file_in files other)) differs ∙ sym (ap (λ b. cond b (Some f.1) (file_in files other)) differs))
    (λ (t : bytes_eq f.0 name ≡ false).
    ap (λ b. file_in (cond b ((f.0, bytes) ∷ files) (f ∷ with_file files name bytes)) other) t
    ∙ ap (λ found. cond (bytes_eq f.0 other) (Some f.1) found) (file_in-other files name bytes other no_name))
    (cases_Bool (bytes_eq f.0 name))

some_same : {A : Type 0} (x y : A) → Some x ≡ Some y → x ≡ y
some_same x y e = (cc)

-- an image of a device in memory is one of the device as any caller sees it
pub told_image : (d : MemoryState) (image : List (List ℕ)) → IsImage d.device image → IsImageOf (memory_view d) image
told_image d image h t e = subst (λ (u : Told). Mixed u.fenced d.device.read image) (some_same (record { fenced = d.device.fenced; backed = d.device.backed }) t e) h
