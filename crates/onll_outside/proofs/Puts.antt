use Rattle.std.proofs.Common.{ℕ, ◌≡◌, ◌++◌, List, [], Option, Some, None, Result, Ok, Err, arith, refl, sym, ◌∙◌, ap, append_assoc, append-nil}
use Rattle.onll_outside.specs.declared.OutsideFault.{OutsideFault}
use Rattle.onll_outside.specs.declared.OutsideFault.TheVariants.{Failed, NoMemory}
use Rattle.onll_outside.specs.Views.{PutOf, SinkView, taken_with, Puts, PutsFront}

-- bytes put one after the other
pub taken_with-twice : (t : Option (List ℕ)) (x y : List ℕ) → taken_with (taken_with t x) y ≡ taken_with t (x ++ y)
taken_with-twice None x y = refl
taken_with-twice (Some before) x y = ap Some (append_assoc before x y)

pub taken_with-nil : (t : Option (List ℕ)) → taken_with t [] ≡ t
taken_with-nil None = refl
taken_with-nil (Some before) = ap Some (append-nil before)

pub Puts-then : (a b c : SinkView) (x y : List ℕ) → Puts a b x → Puts b c y → Puts a c (x ++ y)
Puts-then a b c x y ab bc = bc ∙ ap (λ t. taken_with t y) ab ∙ taken_with-twice a.taken x y

-- some of the first of the second, after the whole first
pub PutsFront-after : (a b c : SinkView) (x y : List ℕ) → Puts a b x → PutsFront b c y → PutsFront a c (x ++ y)
PutsFront-after a b c x y ab bc = record {
  front = x ++ bc.front;
  rest = bc.rest;
  whole = append_assoc x bc.front bc.rest ∙ ap (λ t. x ++ t) bc.whole;
  puts = bc.puts ∙ ap (λ t. taken_with t bc.front) ab ∙ taken_with-twice a.taken x bc.front;
}

-- some of the first of a text are some of the first of a longer one
pub PutsFront-more : (a b : SinkView) (x y : List ℕ) → PutsFront a b x → PutsFront a b (x ++ y)
PutsFront-more a b x y h = record {
  front = h.front;
  rest = h.rest ++ y;
  whole = sym (append_assoc h.front h.rest y) ∙ ap (λ t. t ++ y) h.whole;
  puts = h.puts;
}

-- all of a text are some of the first of a longer one
pub Puts-more : (a b : SinkView) (x y : List ℕ) → Puts a b x → PutsFront a b (x ++ y)
Puts-more a b x y h = record { front = x; rest = y; whole = refl; puts = h }

-- a put after one that was Ok, by its answer
pub PutOf-after : {T : Type 0} (a b c : SinkView) (x y : List ℕ) (r : Result T OutsideFault) → PutOf b c y r → Puts a b x → b.faults ≡ a.faults → PutOf a c (x ++ y) r
PutOf-after a b c x y (Ok v) k h same = (Puts-then a b c x y h k.0, k.1 ∙ same)
PutOf-after a b c x y (Err Failed) k h same = (PutsFront-after a b c x y h k.0, let p = k.1 in (omega arith, omega arith))
PutOf-after a b c x y (Err NoMemory) k h same = (PutsFront-after a b c x y h k.0, k.1 ∙ same)

-- puts, one after the other
pub ruleset puts = (Puts-then, PutsFront-after, PutsFront-more, PutOf-after)
