-- The image that the file of a log holds: it is one, and what was kept of a device is it.
use Rattle.std.proofs.Common.{ℕ, suc, ◌≡◌, ◌-◌, ◌<◌, ◌≤◌, true, true≢false, inl, inr, List, [], ◌∷◌, ◌++◌, length, take, Option, Some, None, refl, sym, ap, ◌∙◌, subst, append-nil, arith}
use Rattle.std.specs.List.{AllByRecursion}
use Rattle.std.proofs.lemmas.List.{take_all}
use Rattle.onll_pmem.specs.Device.{zero_lines}
use Rattle.onll_outside.specs.Views.{StoreView, image_bytes, with_zeros}
use Rattle.onll_outside.specs.LineFiles.{FrontHasLines, HasLines, IsWholeLine}
use Rattle.onll_outside.proofs.WholeLines.{whole_to_end, length-image_bytes}
use Rattle.onll_log.specs.ImageFile.{longest_image, whole_lines}
use Rattle.onll_open.specs.Files.{FilesHold, HoldsLogImage, is_made}
use Rattle.onll_open.specs.Names.{log_name}
use Rattle.onll_open.specs.Rooms.{most_lines}
use Rattle.onll_serve.proofs.FileLines.{whole_back}

-- ---- a file holds one image
lines_said : (bytes : List ℕ) (front : List (List ℕ)) (count : ℕ) → AllByRecursion IsWholeLine front → HasLines bytes front count
    → whole_lines bytes ≡ with_zeros front count
lines_said bytes front count each h = ap whole_lines h.whole
    ∙ whole_back (with_zeros front count) h.rest (whole_to_end front (count - length front) each) h.short

one_front : (limit : ℕ) (o : Option (List ℕ)) (f g : List (List ℕ)) (c d : ℕ) → AllByRecursion IsWholeLine f → AllByRecursion IsWholeLine g
    → FrontHasLines limit o f c → FrontHasLines limit o g d → with_zeros f c ≡ with_zeros g d
one_front limit None f g c d each all h k = absurd h
one_front limit (Some bytes) f g c d each all h k =
    sym (lines_said (take limit bytes) f c each h) ∙ lines_said (take limit bytes) g d all k

one_image : (store : StoreView) (name : List ℕ) (x y : List (List ℕ)) → store.tells ≡ true → HoldsLogImage store name x
    → HoldsLogImage store name y → x ≡ y
one_image store name x y on (inl h) (inl k) =
    h.image_is ∙ (one_front longest_image (store.file name) h.front k.front h.count k.count h.each k.each (h.gives on) (k.gives on)
    ∙ sym k.image_is)
one_image store name x y on (inl h) (inr k) = absurd (true≢false (sym (h.made on) ∙ k.0 on))
one_image store name x y on (inr h) (inl k) = absurd (true≢false (sym (k.made on) ∙ h.0 on))
one_image store name x y on (inr h) (inr k) = h.1 ∙ sym k.1

-- so all files hold the same images
pub one_each : (store : StoreView) (logs : List ℕ) (t : ℕ) (xs ys : List (List (List ℕ))) → store.tells ≡ true → length xs ≡ length ys
    → FilesHold logs t xs store → FilesHold logs t ys store → xs ≡ ys
one_each store logs t [] [] on many h k = refl
one_each store logs t [] (y ∷ ys) on many h k = absurd (omega (arith, many))
one_each store logs t (x ∷ xs) [] on many h k = absurd (omega (arith, many))
one_each store logs t (x ∷ xs) (y ∷ ys) on many h k =
    let here = one_image store (log_name logs t) x y on h.0 k.0 in
    let rest = one_each store logs (suc t) xs ys on (omega (arith, many)) h.1 k.1 in
    λ i. here i ∷ rest i

-- ---- the image of a device that was kept
with_all : (image : List (List ℕ)) → with_zeros image (length image) ≡ image
with_all image = let none : length image - length image ≡ 0 = omega arith in ap (λ n. image ++ zero_lines n) none ∙ append-nil image

some_made : (bytes : List ℕ) → 0 < length bytes → is_made (Some bytes) ≡ true
some_made [] low = absurd (omega (arith, low))
some_made (byte ∷ bytes) low = refl

pub holds_image : (store : StoreView) (name : List ℕ) (image : List (List ℕ)) → store.file name ≡ Some (image_bytes image)
    → AllByRecursion IsWholeLine image → 1 ≤ length image → length image ≤ most_lines → HoldsLogImage store name image
holds_image store name image file each some_line few =
    let long = length-image_bytes image each in
    let most : length image ≤ 69633 = few in
    let low : length (image_bytes image) ≤ 4456512 = omega (arith, long, most) in
    let bytes : 0 < length (image_bytes image) = omega (arith, long, some_line) in
    let lines : HasLines (take longest_image (image_bytes image)) image (length image) = record {
      rest = [];
      whole = take_all longest_image (image_bytes image) low
          ∙ (ap image_bytes (sym (with_all image)) ∙ sym (append-nil (image_bytes (with_zeros image (length image)))));
      short = omega arith;
    } in
    inl (record {
      made = λ on. ap is_made file ∙ some_made (image_bytes image) bytes;
      front = image;
      count = length image;
      each = each;
      gives = λ on. subst (λ o. FrontHasLines longest_image o image (length image)) (sym file) lines;
      image_is = sym (with_all image);
    })
