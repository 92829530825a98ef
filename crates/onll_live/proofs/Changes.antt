-- In which era an object is when a file of an area changes.
use Rattle.std.proofs.Common.{ℕ, ◌≡◌, ◌+◌, ◌%◌, ◌<◌, List, true, false, sym, ap, ◌∙◌, subst, arith, ◌⊎◌, inl, inr, ◌==◌, eqb-true}
use Rattle.std.specs.Prelude.{Option, Some, None}
use Rattle.std.specs.Option.{option_map}
use Rattle.std.proofs.lemmas.Bool.{cases_Bool}
use Rattle.std.proofs.lemmas.Bool.Decides.{nat_tests}
use Rattle.onll_outside.specs.Views.{StoreView}
use Rattle.onll_checkpoint.specs.Checkpoint.{CheckpointState}
use Rattle.onll_areas.specs.Newest.{AreaHolds, newest_of}
use Rattle.onll_open.specs.Files.{is_made}
use Rattle.onll_live.specs.declared.era.Era.{Era}
use Rattle.onll_live.specs.Beginning.{AreaSaves, SameAreaFile}
use Rattle.onll_live.specs.Eras.{AreaGives, IsInEra, area_name, era_logs, era_of, number_of}
use Rattle.onll_live.proofs.Newest.{next_even, next_odd, lost_even, lost_odd}

-- a file that is as it was holds what it held
pub same_area : (old new : StoreView) (file : List ℕ) (found : Option CheckpointState) → SameAreaFile old new file → AreaGives old file found → AreaGives new file found
same_area old new file found same (inl h) =
    inl (record { bytes = h.bytes; held = λ t. same.1 (sym same.0 ∙ t) ∙ h.held (sym same.0 ∙ t); found_is = h.found_is })
same_area old new file found same (inr h) = inr (λ t. ap is_made (same.1 (sym same.0 ∙ t)) ∙ h.0 (sym same.0 ∙ t), h.1)

-- where no area's file changed, the object is in its era
pub same_era : {State : Type 0} (read_of : List ℕ → Option State) (first : State) (old new : StoreView) (name : List ℕ) (era : Era State)
    → SameAreaFile old new (area_name name 0) → SameAreaFile old new (area_name name 1) → IsInEra read_of first old name era → IsInEra read_of first new name era
same_era read_of first old new name era even odd i =
    let g = i.given in
    record {
      newest = i.newest;
      given = record {
        even = g.even;
        odd = g.odd;
        even_given = same_area old new (area_name name 0) g.even even g.even_given;
        odd_given = same_area old new (area_name name 1) g.odd odd g.odd_given;
        newest_is = g.newest_is;
      };
      era_is = i.era_is;
    }

module _ {State : Type 0} (read_of : List ℕ → Option State) (first : State) where
  -- an era's number is its checkpoint's
  pub number_is : (newest : Option CheckpointState) (era : Era State) → era_of read_of first newest ≡ Some era → era.number ≡ number_of newest
  number_is None era e = let same : Some (record { number = 0; place = 0; state = first }) ≡ Some era = e in let is : record { number = 0; place = 0; state = first } ≡ era = (cc) in sym (ap (λ (x : Era State). x.number) is)
  number_is (Some c) era e = at (read_of c.text) e
    where
      at : (r : Option State) → option_map (λ (s : State). record { number = c.number; place = c.place; state = s }) r ≡ Some era → era.number ≡ c.number
      at None h = absurd (cc)
      at (Some s) h = let is : record { number = c.number; place = c.place; state = s } ≡ era = (cc) in sym (ap (λ (x : Era State). x.number) is)

  -- the checkpoint of an era begins it
  begins_it : (era : Era State) (text : List ℕ) → read_of text ≡ Some era.state → era_of read_of first (Some (record { number = era.number; place = era.place; text = text })) ≡ Some era
  begins_it era text reads = ap (option_map (λ (s : State). record { number = era.number; place = era.place; state = s })) reads

  module _ (old new : StoreView) (name : List ℕ) (era next : Era State) (i : IsInEra read_of first old name era) (after : next.number ≡ era.number + 1)
      (stay : (area : ℕ) → area < 2 → (area ≡ next.number % 2 → ⊥) → SameAreaFile old new (area_name name area)) where
    newest_number : number_of (newest_of i.given.even i.given.odd) + 1 ≡ next.number
    newest_number = let n = number_is i.newest era i.era_is in let m = ap number_of i.given.newest_is in omega arith

    -- The next era has begun where its area holds its checkpoint.
    pub has_next : AreaSaves read_of new name next → IsInEra read_of first new name next
    has_next s = at (cases_Bool (next.number % 2 == 0))
      where
        c : CheckpointState
        c = record { number = next.number; place = next.place; text = s.text }

        at : (next.number % 2 == 0 ≡ true) ⊎ (next.number % 2 == 0 ≡ false) → IsInEra read_of first new name next
        at (inl t) =
            let e = eqb-true (next.number % 2) 0 t in
            record {
              newest = Some c;
              given = record {
                even = Some c;
                odd = i.given.odd;
                even_given = inl (subst (λ (a : ℕ). AreaHolds new (area_name name a) (Some c)) e s.held);
                odd_given = same_area old new (area_name name 1) i.given.odd (stay 1 (omega arith) (λ q. omega arith)) i.given.odd_given;
                newest_is = next_even i.given.even i.given.odd c (let n = newest_number in omega arith) e;
              };
              era_is = begins_it next s.text s.reads;
            }
        at (inr f) =
            let e : next.number % 2 ≡ 1 = grind (arith, nat_tests) in
            record {
              newest = Some c;
              given = record {
                even = i.given.even;
                odd = Some c;
                even_given = same_area old new (area_name name 0) i.given.even (stay 0 (omega arith) (λ q. omega arith)) i.given.even_given;
                odd_given = inl (subst (λ (a : ℕ). AreaHolds new (area_name name a) (Some c)) e s.held);
                newest_is = next_odd i.given.even i.given.odd c (let n = newest_number in omega arith) e;
              };
              era_is = begins_it next s.text s.reads;
            }

    -- The object is in its era where the next one's area holds no checkpoint.
    pub has_none : AreaHolds new (era_logs name next.number) None → IsInEra read_of first new name era
    has_none held = at (cases_Bool (next.number % 2 == 0))
      where
        at : (next.number % 2 == 0 ≡ true) ⊎ (next.number % 2 == 0 ≡ false) → IsInEra read_of first new name era
        at (inl t) =
            let e = eqb-true (next.number % 2) 0 t in
            record {
              newest = i.newest;
              given = record {
                even = None;
                odd = i.given.odd;
                even_given = inl (subst (λ (a : ℕ). AreaHolds new (area_name name a) None) e held);
                odd_given = same_area old new (area_name name 1) i.given.odd (stay 1 (omega arith) (λ q. omega arith)) i.given.odd_given;
                newest_is = lost_even i.given.even i.given.odd (ap (λ (n : ℕ). n % 2) newest_number ∙ e) ∙ i.given.newest_is;
              };
              era_is = i.era_is;
            }
        at (inr f) =
            let e : next.number % 2 ≡ 1 = grind (arith, nat_tests) in
            record {
              newest = i.newest;
              given = record {
                even = i.given.even;
                odd = None;
                even_given = same_area old new (area_name name 0) i.given.even (stay 0 (omega arith) (λ q. omega arith)) i.given.even_given;
                odd_given = inl (subst (λ (a : ℕ). AreaHolds new (area_name name a) None) e held);
                newest_is = lost_odd i.given.even i.given.odd (ap (λ (n : ℕ). n % 2) newest_number ∙ e) ∙ i.given.newest_is;
              };
              era_is = i.era_is;
            }
