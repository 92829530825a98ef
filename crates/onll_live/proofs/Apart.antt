-- The names of an object's files differ.
use Rattle.std.proofs.Common.{ℕ, zero, suc, ◌≡◌, ◌+◌, ◌<◌, List, [], ◌∷◌, ◌++◌, length, length-append, append_assoc, append-nil, refl, sym, ap, ◌∙◌, arith}
use Rattle.std.specs.Prelude.{codes, decimal}
use Rattle.std.specs.List.{AllByRecursion}
use Rattle.std.proofs.lemmas.Fmt.{decimal_digit}
use Rattle.std.proofs.lemmas.List.{append_cancel_left}
use Rattle.onll_open.specs.Names.{log_lock_name, log_name, log_names}
use Rattle.onll_open.proofs.Handing.{name_differs}
use Rattle.onll_live.specs.Eras.{area_name}

long : (base : List ℕ) (a : ℕ) → a < 2 → length (log_name base a) ≡ length base + 2
long base a l = ap (λ (ds : List ℕ). length (base ++ (46 ∷ ds))) (decimal_digit a (omega arith)) ∙ length-append base (46 ∷ (48 + a) ∷ [])

-- an area's name is no name that goes on after an area's
shorter : (name r : List ℕ) (a c : ℕ) → a < 2 → c < 2 → 0 < length r → area_name name a ≡ area_name name c ++ r → ⊥
shorter name r a c l k some e =
    let n = ap length e in let la = long (name ++ codes ".era") a l in let lc = long (name ++ codes ".era") c k in
    omega (arith, length-append (area_name name c) r)

module _ (name : List ℕ) (a c : ℕ) (in_a : a < 2) (in_c : c < 2) where
  pub not_log : (t : ℕ) → area_name name a ≡ log_name (area_name name c) t → ⊥
  not_log t e = shorter name (46 ∷ decimal t) a c in_a in_c (let z : length (46 ∷ decimal t) ≡ suc (length (decimal t)) = refl in omega arith) e

  pub not_lock : area_name name a ≡ log_lock_name (area_name name c) → ⊥
  not_lock e = shorter name (codes ".lock") a c in_a in_c (let z : length (codes ".lock") ≡ 5 = refl in omega arith) e

  pub none_of_logs : (t n : ℕ) → AllByRecursion (λ n. area_name name a ≡ n → ⊥) (log_names (area_name name c) t n)
  none_of_logs t zero = tt
  none_of_logs t (suc n) = (not_log t, none_of_logs (suc t) n)

  pub other_area : (a ≡ c → ⊥) → area_name name a ≡ area_name name c → ⊥
  other_area apart e = apart (name_differs (name ++ codes ".era") a c (omega arith) (omega arith) e)

-- names that begin with those of two areas differ
pub differ : (name r q : List ℕ) (a c : ℕ) → a < 2 → c < 2 → (a ≡ c → ⊥) → area_name name a ++ r ≡ area_name name c ++ q → ⊥
differ name r q a c l k apart e =
    let begins = λ (n : ℕ) (low : n < 2) (s : List ℕ). append_assoc (name ++ codes ".era") (codes "." ++ decimal n) s
    ∙ ap (λ (ds : List ℕ). (name ++ codes ".era") ++ ((46 ∷ ds) ++ s)) (decimal_digit n (omega arith)) in
    let same : (name ++ codes ".era") ++ (46 ∷ (48 + a) ∷ r) ≡ (name ++ codes ".era") ++ (46 ∷ (48 + c) ∷ q) = sym (begins a l r) ∙ (e ∙ begins c k q) in
    let rest : 46 ∷ (48 + a) ∷ r ≡ 46 ∷ (48 + c) ∷ q = append_cancel_left (name ++ codes ".era") (46 ∷ (48 + a) ∷ r) (46 ∷ (48 + c) ∷ q) same in
    let digit : 48 + a ≡ 48 + c = (cc) in apart (omega arith)

-- no log of one area has the name of a log of the other, or of the other's file
pub logs_differ : (name : List ℕ) (a c t : ℕ) → a < 2 → c < 2 → (a ≡ c → ⊥) → (i n : ℕ)
    → AllByRecursion (λ (other : List ℕ). log_name (area_name name a) t ≡ other → ⊥) (log_names (area_name name c) i n)
logs_differ name a c t l k apart i zero = tt
logs_differ name a c t l k apart i (suc n) =
    (λ e. differ name (codes "." ++ decimal t) (codes "." ++ decimal i) a c l k apart e, logs_differ name a c t l k apart (suc i) n)

pub log_not_area : (name : List ℕ) (a c t : ℕ) → a < 2 → c < 2 → (a ≡ c → ⊥) → log_name (area_name name a) t ≡ area_name name c → ⊥
log_not_area name a c t l k apart e = differ name (codes "." ++ decimal t) [] a c l k apart (e ∙ sym (append-nil (area_name name c)))
