-- The names of files of eras differ.

use Rattle.std.proofs.Common.{ℕ, zero, ◌^◌, Some, None, length, length-append, suc, ◌≡◌, ◌+◌, ◌<◌, List, [], ◌∷◌, ◌++◌, refl, sym, ap, ◌∙◌, arith, append_assoc, append-nil}
use Rattle.std.specs.Prelude.{codes, decimal}
use Rattle.std.proofs.lemmas.List.{append_cancel_left}
use Rattle.std.proofs.lemmas.Fmt.{decimal_digit}
use Rattle.onll_words.specs.Numbers.{number_of}
use Rattle.onll_words.proofs.Decimals.{number_of-decimal}
use Rattle.onll_open.specs.Names.{log_name, log_names}
use Rattle.onll_eras.specs.Names.{area_name, text_name, area_files}
use Rattle.onll_eras.specs.Begun.{IsNone}

-- a name that begins with an area's, byte by byte
begins : (ckpt r : List ℕ) (a : ℕ) → a < 2 → area_name ckpt a ++ r ≡ ckpt ++ (46 ∷ (48 + a) ∷ r)
begins ckpt r a l = append_assoc ckpt (codes "." ++ decimal a) r ∙ ap (λ (ds : List ℕ). ckpt ++ ((46 ∷ ds) ++ r)) (decimal_digit a (omega arith))

-- names that begin with those of two areas differ
differ : (ckpt r q : List ℕ) (a b : ℕ) → a < 2 → b < 2 → (a ≡ b → ⊥) → area_name ckpt a ++ r ≡ area_name ckpt b ++ q → ⊥
differ ckpt r q a b l k n e =
    let same : ckpt ++ (46 ∷ (48 + a) ∷ r) ≡ ckpt ++ (46 ∷ (48 + b) ∷ q) = sym (begins ckpt r a l) ∙ (e ∙ begins ckpt q b k) in
    let rest : 46 ∷ (48 + a) ∷ r ≡ 46 ∷ (48 + b) ∷ q = append_cancel_left ckpt (46 ∷ (48 + a) ∷ r) (46 ∷ (48 + b) ∷ q) same in
    let digit : 48 + a ≡ 48 + b = (cc) in n (omega arith)

none_more : (name : List ℕ) (xs ys : List (List ℕ)) → IsNone xs name → IsNone ys name → IsNone (xs ++ ys) name
none_more name [] ys a b = b
none_more name (x ∷ xs) ys a b = (a.0, none_more name xs ys a.1 b)

-- a name of the other area is none of the files of an area's era
module _ (ckpt q : List ℕ) (a b : ℕ) (in_a : a < 2) (in_b : b < 2) (apart : a ≡ b → ⊥) where
  other : (r name : List ℕ) → name ≡ area_name ckpt a ++ r → area_name ckpt b ++ q ≡ name → ⊥
  other r name is e = differ ckpt r q a b in_a in_b apart (sym is ∙ sym e)

  none_of_logs : (t n : ℕ) → IsNone (log_names (area_name ckpt a) t n) (area_name ckpt b ++ q)
  none_of_logs t zero = tt
  none_of_logs t (suc n) = (other (codes "." ++ decimal t) (log_name (area_name ckpt a) t) refl, none_of_logs (suc t) n)

  pub none_of_era : (threads : ℕ) → IsNone (area_files ckpt a threads) (area_name ckpt b ++ q)
  none_of_era threads = (
    other [] (area_name ckpt a) (sym (append-nil (area_name ckpt a))),
    none_more (area_name ckpt b ++ q) (log_names (area_name ckpt a) 0 threads) (text_name ckpt a ∷ []) (none_of_logs 0 threads) (other (codes ".init") (text_name ckpt a) refl, tt),
  )

-- ---- names of one area
pub same_thread : (logs : List ℕ) (t u : ℕ) → t < 2 ^ 64 → u < 2 ^ 64 → log_name logs t ≡ log_name logs u → t ≡ u
same_thread logs t u l k e =
    let rest : 46 ∷ decimal t ≡ 46 ∷ decimal u = append_cancel_left logs (46 ∷ decimal t) (46 ∷ decimal u) e in
    let digits : decimal t ≡ decimal u = (cc) in
    let numbers : Some t ≡ Some u = sym (number_of-decimal t l) ∙ (ap number_of digits ∙ number_of-decimal u k) in (cc)

no_init : (t : ℕ) → t < 2 ^ 64 → decimal t ≡ codes "init" → ⊥
no_init t l e = let none : Some t ≡ None = sym (number_of-decimal t l) ∙ ap number_of e in (cc)

pub log_not_text : (ckpt : List ℕ) (area t : ℕ) → t < 2 ^ 64 → log_name (area_name ckpt area) t ≡ text_name ckpt area → ⊥
log_not_text ckpt area t l e =
    let rest : 46 ∷ decimal t ≡ 46 ∷ codes "init" = append_cancel_left (area_name ckpt area) (46 ∷ decimal t) (46 ∷ codes "init") e in
    let digits : decimal t ≡ codes "init" = (cc) in no_init t l digits

pub longer : (name r : List ℕ) → 0 < length r → name ++ r ≡ name → ⊥
longer name r l e = let n = ap length e in omega (arith, length-append name r)
