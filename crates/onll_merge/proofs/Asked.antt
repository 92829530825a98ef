-- What is asked of all logs.
use Rattle.std.proofs.Common.{◌≡◌, ◌≢◌, ℕ, zero, suc, ◌<◌, ◌≤◌, Bool, true, false, List, [], ◌∷◌, length, get_or, sym, refl, ap, subst, ◌∙◌, arith, Option, Some, None, eq-eqb, ◌==◌}
use Rattle.std.specs.Prelude.{◌&&◌}
use mathlib.Core.Logic.{dite}
use native.Mathlib.Decide.{ℕ_discrete}
use Rattle.std.specs.Option.{option_or, option_map_or}
use Rattle.onll_model.specs.declared.node.Node.{Node}
use Rattle.onll_model.specs.Segment.{Rises}
use Rattle.onll_log.specs.declared.decoded.Entry.{Entry}
use Rattle.onll_log.specs.declared.decoded.Decoded.{Decoded}
use Rattle.onll_log.specs.Decoded.{segments_in}
use Rattle.onll_log.specs.Grammar.{Content, same_words}
use Rattle.onll_merge.specs.declared.fault.RecoverFault.{RecoverFault}
use Rattle.onll_merge.specs.Merge.{AllRise, contents_in, node_in_log, node_in_logs, differs, clash_from, first_to}

-- ---- each log of logs that rise
pub AllRise-at : (logs : List Decoded) (k : ℕ) (d : Decoded) → AllRise (contents_in logs) → k < length logs → Rises 0 (segments_in (get_or logs k d).entries)
AllRise-at [] k d a l = absurd (omega arith)
AllRise-at (x ∷ logs) zero d a l = a.0
AllRise-at (x ∷ logs) (suc k) d a l = AllRise-at logs k d a.1 (omega arith)

-- as a loop over logs reads them
pub Rises-of : (logs : List Decoded) (k : ℕ) (x : Decoded) (es : List Entry) → AllRise (contents_in logs) → k < length logs → x ≡ get_or logs k x → es ≡ x.entries → Rises 0 (segments_in es)
Rises-of logs k x es a l i e = let P : List Entry → Type 0 = λ z. Rises 0 (segments_in z) in subst P (sym (e ∙ ap (λ (z : Decoded). z.entries) i)) (AllRise-at logs k x a l)

-- ---- tests that decide equality
pub both : (a b : Bool) → (a && b) ≡ true → (a ≡ true) × (b ≡ true)
both true b e = (refl, e)
both false b e = absurd (cc)

join : (a b : Bool) → a ≡ true → b ≡ true → (a && b) ≡ true
join a b e f = ap (λ (x : Bool). x && b) e ∙ f

eqb-eq : (x y : ℕ) → (x == y) ≡ true → x ≡ y
eqb-eq x y e = grind arith

pub same_words-eq : (xs ys : List ℕ) → same_words xs ys ≡ true → xs ≡ ys
same_words-eq [] [] e = refl
same_words-eq [] (y ∷ ys) e = absurd (cc)
same_words-eq (x ∷ xs) [] e = absurd (cc)
same_words-eq (x ∷ xs) (y ∷ ys) e = let h = both (x == y) (same_words xs ys) e in let a = eqb-eq x y h.0 in let b = same_words-eq xs ys h.1 in (cc)

pub same_words-self : (xs : List ℕ) → same_words xs xs ≡ true
same_words-self [] = refl
same_words-self (x ∷ xs) = join (x == x) (same_words xs xs) (eq-eqb x x refl) (same_words-self xs)

-- ---- the first answer at the places
pub first_to-stays : (f : ℕ → Option RecoverFault) (k top : ℕ) (e : RecoverFault) → first_to f k ≡ Some e → k ≤ top → first_to f top ≡ Some e
first_to-stays f zero zero e h l = h
first_to-stays f zero (suc top) e h l = absurd (cc)
first_to-stays f (suc k) zero e h l = absurd (omega arith)
first_to-stays f (suc k) (suc top) e h l = dite (ℕ_discrete k top) (λ (is : k ≡ top). ap (λ (n : ℕ). first_to f (suc n)) (sym is) ∙ h)
    (λ (not : k ≢ top). ap (λ (o : Option RecoverFault). option_or o (f (suc top))) (first_to-stays f (suc k) top e h (omega arith)))

-- no answer at the places above a and up to b, after none up to a
pub first_to-more : (f : ℕ → Option RecoverFault) (a b : ℕ) → first_to f a ≡ None → a ≤ b → ((q : ℕ) → a < q → q ≤ b → f q ≡ None) → first_to f b ≡ None
first_to-more f a zero h l g = ap (first_to f) (let z : 0 ≡ a = omega arith in z) ∙ h
first_to-more f a (suc b) h l g = dite (ℕ_discrete a (suc b)) (λ (is : a ≡ suc b). ap (first_to f) (sym is) ∙ h)
    (λ (not : a ≢ suc b). ap (λ (o : Option RecoverFault). option_or o (f (suc b))) (first_to-more f a b h (omega arith) (λ q x y. g q x (omega arith))) ∙ g (suc b) (omega arith) (omega arith))

-- a case on an option, with what it is
pub by_option : {A : Type 0} (P : Option A → Type 0) (o : Option A) → (o ≡ None → P None) → ((x : A) → o ≡ Some x → P (Some x)) → P o
by_option P None a b = a refl
by_option P (Some x) a b = b x refl

-- no clash at a place that no log holds
pub clash_from-none : (i : ℕ) (cs : List Content) (p : ℕ) → node_in_logs cs p ≡ None → clash_from i cs p ≡ None
clash_from-none i [] p h = refl
clash_from-none i (c ∷ cs) p h = let P : Option Node → Type 0 = λ o. option_or o (node_in_logs cs p) ≡ None → option_map_or (λ x. differs p i (suc i) x cs) o (clash_from (suc i) cs p) ≡ None in
    by_option P (node_in_log c.entries p) (λ e g. clash_from-none (suc i) cs p g) (λ x e g. absurd (cc)) h

-- an answer above a, after none up to a and none between
pub first_to-found : (f : ℕ → Option RecoverFault) (a b top : ℕ) (e : RecoverFault) → first_to f a ≡ None → a < b → b ≤ top → ((q : ℕ) → a < q → q < b → f q ≡ None) → f b ≡ Some e → first_to f top ≡ Some e
first_to-found f a zero top e h l m g k = absurd (omega arith)
first_to-found f a (suc b) top e h l m g k = first_to-stays f (suc b) top e (ap (λ (o : Option RecoverFault). option_or o (f (suc b))) (first_to-more f a b h (omega arith) (λ q x y. g q x (omega arith))) ∙ k) m
