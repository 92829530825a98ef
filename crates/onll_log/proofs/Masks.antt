-- Masks tell which words of an entry's lines are missing.
use Rattle.std.proofs.Common.{ℕ, zero, suc, ◌≡◌, ◌≢◌, ◌<◌, Bool, true, false, List, [], ◌∷◌, ◌++◌, length, get_or, take, drop, sym, refl, ap, ◌∙◌, ◌⊎◌, inl, inr, arith, eq-eqb, ne_eqb, true≢false, ◌==◌, cond, length-append}
use Rattle.std.specs.Prelude.{not}
use Rattle.std.proofs.lemmas.List.{drop-drop}
use Rattle.onll_log.specs.declared.head.LogHead.{LogHead}
use Rattle.onll_log.specs.Head.{word}
use Rattle.onll_log.specs.Masks.{bits, marks_in, marks, mask_of, masks}
use Rattle.onll_log.specs.Encoding.{entry_digest, guard}
use Rattle.onll_pmem.specs.Device.{FillsWords}
use Rattle.onll_log.specs.Torn.{Among}

-- in format 2 masks guard an entry
pub guard-masks : (head : LogHead) (front : List ℕ) (lines : List (List ℕ)) → head.format ≡ 2 → guard head front lines ≡ masks lines
guard-masks head front lines e = ap (λ (format : ℕ). cond {A = List ℕ} (format == 1) (entry_digest head front lines) (masks lines)) e

-- ---- bits and marks
pub bits-same : (xs ys : List Bool) → length xs ≡ length ys → bits xs ≡ bits ys → xs ≡ ys
bits-same [] [] l e = refl
bits-same [] (y ∷ ys) l e = absurd (omega arith)
bits-same (x ∷ xs) [] l e = absurd (omega arith)
bits-same (true ∷ xs) (true ∷ ys) l e = ap (λ (z : List Bool). true ∷ z) (bits-same xs ys (omega arith) (omega arith))
bits-same (false ∷ xs) (false ∷ ys) l e = ap (λ (z : List Bool). false ∷ z) (bits-same xs ys (omega arith) (omega arith))
bits-same (true ∷ xs) (false ∷ ys) l e = absurd (omega arith)
bits-same (false ∷ xs) (true ∷ ys) l e = absurd (omega arith)

-- a word that is zero or the whole one's, and is zero only where that is
one_same : (x y : ℕ) → ((y ≡ 0) ⊎ (y ≡ x)) → not (y == 0) ≡ not (x == 0) → y ≡ x
one_same x y (inr e) m = e
one_same zero y (inl e) m = e
one_same (suc x) y (inl e) m = let a : y == 0 ≡ true = eq-eqb y 0 e in let b : suc x == 0 ≡ false = ne_eqb (suc x) 0 (λ k. omega arith) in absurd (true≢false (sym (sym (ap not a) ∙ (m ∙ ap not b))))

FillsWords-marked : (xs ys : List ℕ) → FillsWords ys xs → marks_in ys ≡ marks_in xs → ys ≡ xs
FillsWords-marked [] [] a m = refl
FillsWords-marked [] (y ∷ ys) a m = absurd a
FillsWords-marked (x ∷ xs) [] a m = absurd a
FillsWords-marked (x ∷ xs) (y ∷ ys) a m = let head : not (y == 0) ≡ not (x == 0) = (cc) in let tail : marks_in ys ≡ marks_in xs = (cc) in
    let here = one_same x y a.0 head in let rest = FillsWords-marked xs ys a.1 tail in (cc)

length-marks_in-Among : (xs ys : List ℕ) → FillsWords ys xs → length (marks_in ys) ≡ length (marks_in xs)
length-marks_in-Among [] [] a = refl
length-marks_in-Among [] (y ∷ ys) a = absurd a
length-marks_in-Among (x ∷ xs) [] a = absurd a
length-marks_in-Among (x ∷ xs) (y ∷ ys) a = let h = length-marks_in-Among xs ys a.1 in omega arith

-- equally long fronts of equal lists are equal
fronts_same : {A : Type 0} (xs ys us vs : List A) → length xs ≡ length ys → xs ++ us ≡ ys ++ vs → (xs ≡ ys) × (us ≡ vs)
fronts_same [] [] us vs l e = (refl, e)
fronts_same [] (y ∷ ys) us vs l e = absurd (omega arith)
fronts_same (x ∷ xs) [] us vs l e = absurd (omega arith)
fronts_same (x ∷ xs) (y ∷ ys) us vs l e = let here : x ≡ y = (cc) in let there : xs ++ us ≡ ys ++ vs = (cc) in let h = fronts_same xs ys us vs (omega arith) there in let first : xs ≡ ys = h.0 in ((cc), h.1)

Among-marked : (xs ys : List (List ℕ)) → Among xs ys → marks ys ≡ marks xs → ys ≡ xs
Among-marked [] [] a m = refl
Among-marked [] (y ∷ ys) a m = absurd a
Among-marked (x ∷ xs) [] a m = absurd a
Among-marked (x ∷ xs) (y ∷ ys) a m = let h = fronts_same (marks_in y) (marks_in x) (marks ys) (marks xs) (length-marks_in-Among x y a.0) m in
    let here : y ≡ x = FillsWords-marked x y a.0 h.0 in let rest : ys ≡ xs = Among-marked xs ys a.1 h.1 in (cc)

length-marks-Among : (xs ys : List (List ℕ)) → Among xs ys → length (marks ys) ≡ length (marks xs)
length-marks-Among [] [] a = refl
length-marks-Among [] (y ∷ ys) a = absurd a
length-marks-Among (x ∷ xs) [] a = absurd a
length-marks-Among (x ∷ xs) (y ∷ ys) a = let h = length-marks-Among xs ys a.1 in let k = length-marks_in-Among x y a.0 in
    omega (arith, length-append (marks_in y) (marks ys), length-append (marks_in x) (marks xs))

-- ---- fronts and rests of what is among
pub Among-take : (n : ℕ) (xs ys : List (List ℕ)) → Among xs ys → Among (take n xs) (take n ys)
Among-take zero xs ys a = tt
Among-take (suc n) [] [] a = tt
Among-take (suc n) [] (y ∷ ys) a = absurd a
Among-take (suc n) (x ∷ xs) [] a = absurd a
Among-take (suc n) (x ∷ xs) (y ∷ ys) a = (a.0, Among-take n xs ys a.1)

pub Among-drop : (n : ℕ) (xs ys : List (List ℕ)) → Among xs ys → Among (drop n xs) (drop n ys)
Among-drop zero xs ys a = a
Among-drop (suc n) [] [] a = tt
Among-drop (suc n) [] (y ∷ ys) a = absurd a
Among-drop (suc n) (x ∷ xs) [] a = absurd a
Among-drop (suc n) (x ∷ xs) (y ∷ ys) a = Among-drop n xs ys a.1

-- lists with equal fronts and equal rests are equal
pub same_by_parts : {A : Type 0} (n : ℕ) (xs ys : List A) → take n ys ≡ take n xs → drop n ys ≡ drop n xs → ys ≡ xs
same_by_parts zero xs ys a b = b
same_by_parts (suc n) [] [] a b = refl
same_by_parts (suc n) [] (y ∷ ys) a b = absurd (cc)
same_by_parts (suc n) (x ∷ xs) [] a b = absurd (cc)
same_by_parts (suc n) (x ∷ xs) (y ∷ ys) a b = let here : y ≡ x = (cc) in let more : take n ys ≡ take n xs = (cc) in let rest : ys ≡ xs = same_by_parts n xs ys more b in (cc)

-- ---- masks
Among-mask_of : (xs ys : List (List ℕ)) → Among xs ys → mask_of ys ≡ mask_of xs → ys ≡ xs
Among-mask_of xs ys a m = Among-marked xs ys a (bits-same (marks ys) (marks xs) (length-marks-Among xs ys a) (omega arith))

-- lines of which some words are missing have other masks
pub Among-masks : (xs ys : List (List ℕ)) → Among xs ys → masks ys ≡ masks xs → ys ≡ xs
Among-masks xs ys a m =
    let m1 : mask_of (take 7 ys) ≡ mask_of (take 7 xs) = ap (λ (z : List ℕ). get_or z 0 0) m in
    let m2 : mask_of (take 7 (drop 7 ys)) ≡ mask_of (take 7 (drop 7 xs)) = ap (λ (z : List ℕ). get_or z 1 0) m in
    let m3 : mask_of (drop 14 ys) ≡ mask_of (drop 14 xs) = ap (λ (z : List ℕ). get_or z 2 0) m in
    let d : Among (drop 7 xs) (drop 7 ys) = Among-drop 7 xs ys a in
    let two : (zs : List (List ℕ)) → drop 7 (drop 7 zs) ≡ drop 14 zs = (λ zs. drop-drop 7 7 zs) in
    same_by_parts 7 xs ys (Among-mask_of (take 7 xs) (take 7 ys) (Among-take 7 xs ys a) m1)
    (same_by_parts 7 (drop 7 xs) (drop 7 ys) (Among-mask_of (take 7 (drop 7 xs)) (take 7 (drop 7 ys)) (Among-take 7 (drop 7 xs) (drop 7 ys) d) m2)
    (two ys ∙ (Among-mask_of (drop 14 xs) (drop 14 ys) (Among-drop 14 xs ys a) m3 ∙ sym (two xs))))

-- a mask word is never zero
pub masks-not_zero : (ls : List (List ℕ)) (j : ℕ) → j < 3 → word (masks ls) j ≢ 0
masks-not_zero ls zero l e = absurd (omega arith)
masks-not_zero ls (suc zero) l e = absurd (omega arith)
masks-not_zero ls (suc (suc zero)) l e = absurd (omega arith)
masks-not_zero ls (suc (suc (suc j))) l e = absurd (omega arith)
