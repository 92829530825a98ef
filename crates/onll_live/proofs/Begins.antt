-- What the beginning of the next era leaves of the files of the one before.
use Rattle.std.proofs.Common.{ℕ, List, [], ◌∷◌, ◌≡◌, ◌+◌, ◌%◌, ◌<◌, true, false, sym, ap, ◌∙◌, subst, arith, ◌⊎◌, inl, inr, ◌==◌, eqb-true}
use Rattle.std.specs.Prelude.{Option, None, Result, Ok, Err, IfErr}
use Rattle.std.proofs.lemmas.Bool.{cases_Bool}
use Rattle.std.proofs.lemmas.Bool.Decides.{nat_tests}
use Rattle.onll_model.specs.Limits.{most_threads}
use Rattle.onll_outside.specs.Views.{StoreView}
use Rattle.onll_areas.specs.Keeping.{OthersStay}
use Rattle.onll_areas.specs.Newest.{AreaHolds}
use Rattle.onll_open.specs.Files.{SameBut, is_made}
use Rattle.onll_open.specs.Names.{log_lock_name, log_name, log_names}
use Rattle.onll_open.proofs.Locked.{logs_locked}
use Rattle.onll_live.specs.declared.era.Era.{Era}
use Rattle.onll_live.specs.declared.fault.NextFault.{NextFault}
use Rattle.onll_live.specs.Beginning.{AreCleared, AreaSaves, EraHasBegun, EraStands, LogsStay, NoneSaved, OthersOfEra, SameAreaFile, StaysInEra}
use Rattle.onll_live.specs.Eras.{IsInEra, area_name, era_logs}
use Rattle.onll_live.proofs.Apart.{log_not_area, logs_differ, none_of_logs, not_lock, not_log, other_area}
use Rattle.onll_live.proofs.Changes.{has_next, has_none, same_era}

even_or_odd : (n : ℕ) → n % 2 < 2
even_or_odd n = omega arith

-- ---- one era
module _ (name : List ℕ) (number : ℕ) (old mid new : StoreView) where
  -- emptying its logs leaves its area
  pub area_stays : SameBut (log_names (era_logs name number) 0 most_threads) old new → SameAreaFile old new (era_logs name number)
  area_stays same = (same.tells, λ t. same.file (area_name name (number % 2)) (none_of_logs name (number % 2) (number % 2) (even_or_odd number) (even_or_odd number) 0 most_threads))

  -- saving it leaves its logs
  pub still_empty : AreCleared mid (era_logs name number) → OthersStay (era_logs name number) mid new → AreCleared new (era_logs name number)
  still_empty empty others thread l t =
      let before = sym others.tells ∙ t in
      ap is_made (others.file before (log_name (area_name name (number % 2)) thread) (λ e. not_log name (number % 2) (number % 2) (even_or_odd number) (even_or_odd number) thread (sym e)))
      ∙ empty thread l before

  pub others_of : SameBut (log_names (era_logs name number) 0 most_threads) old mid → OthersStay (era_logs name number) mid new → OthersOfEra (era_logs name number) old new
  others_of first then_ = record {
    tells = then_.tells ∙ first.tells;
    file = λ t other differs apart. then_.file (first.tells ∙ t) other differs ∙ first.file other apart;
  }

-- a file of an area that stays, and stays
pub area_more : (file : List ℕ) (old mid new : StoreView) → SameAreaFile old mid file → SameAreaFile mid new file → SameAreaFile old new file
area_more file old mid new first then_ = (then_.0 ∙ first.0, λ t. then_.1 (first.0 ∙ t) ∙ first.1 t)

-- where an era's logs were emptied, and it was not saved
pub not_saved : {State : Type 0} (read_of : List ℕ → Option State) (name : List ℕ) (era : Era State) (old mid new : StoreView)
    → SameBut (log_names (era_logs name era.number) 0 most_threads) old mid → AreCleared mid (era_logs name era.number) → OthersStay (era_logs name era.number) mid new
    → SameAreaFile mid new (era_logs name era.number) ⊎ AreaHolds new (era_logs name era.number) None ⊎ AreaSaves read_of new name era
    → SameAreaFile old new (era_logs name era.number) ⊎ AreaHolds new (era_logs name era.number) None ⊎ EraHasBegun read_of new name era
not_saved read_of name era old mid new cleared empty others (inl same) =
    inl (area_more (era_logs name era.number) old mid new (area_stays name era.number old old mid cleared) same)
not_saved read_of name era old mid new cleared empty others (inr (inl none)) = inr (inl none)
not_saved read_of name era old mid new cleared empty others (inr (inr saves)) =
    inr (inr (saves, still_empty name era.number old mid new empty others))

-- the same, where no checkpoint was saved
pub none_since : (name : List ℕ) (number : ℕ) (old mid new : StoreView) → SameBut (log_names (era_logs name number) 0 most_threads) old mid
    → NoneSaved mid new (era_logs name number) → NoneSaved old new (era_logs name number)
none_since name number old mid new cleared (inl same) = inl (area_more (era_logs name number) old mid new (area_stays name number old old mid cleared) same)
none_since name number old mid new cleared (inr none) = inr none

-- ---- the era before
-- an era whose logs were locked, and nothing else
pub locked_stays : {State : Type 0} (read_of : List ℕ → Option State) (first : State) (name : List ℕ) (era : Era State) (old new : StoreView)
    → SameBut (log_lock_name (era_logs name era.number) ∷ []) old new → IsInEra read_of first old name era
    → IsInEra read_of first new name era × LogsStay (era_logs name era.number) old new
locked_stays read_of first name era old new locked i =
    let here : (a : ℕ) → a < 2 → SameAreaFile old new (area_name name a) = λ a l. (locked.tells, λ t. locked.file (area_name name a) (not_lock name a (era.number % 2) l (even_or_odd era.number), tt)) in
    let same = logs_locked (era_logs name era.number) old new locked in
    (same_era read_of first old new name era (here 0 (omega arith)) (here 1 (omega arith)) i, (same.tells, λ t thread. same.file thread))

-- ---- the next era
module _ {State : Type 0} (read_of : List ℕ → Option State) (first : State) (name : List ℕ) (old mid new : StoreView) (era next : Era State)
    (after : next.number ≡ era.number + 1) (locked : SameBut (log_lock_name (era_logs name era.number) ∷ []) old mid)
    (others : OthersOfEra (era_logs name next.number) mid new) where
  apart : era.number % 2 ≡ next.number % 2 → ⊥
  apart h = omega (arith, after, h)

  at_mid : (a : ℕ) → a < 2 → SameAreaFile old mid (area_name name a)
  at_mid a l = (locked.tells, λ t. locked.file (area_name name a) (not_lock name a (era.number % 2) l (even_or_odd era.number), tt))

  stay : (a : ℕ) → a < 2 → (a ≡ next.number % 2 → ⊥) → SameAreaFile old new (area_name name a)
  stay a l differs = (
    others.tells ∙ locked.tells,
    λ t. others.file (locked.tells ∙ t) (area_name name a) (other_area name a (next.number % 2) l (even_or_odd next.number) differs) (none_of_logs name a (next.number % 2) l (even_or_odd next.number) 0 most_threads)
        ∙ (at_mid a l).1 t,
  )

  pub logs_stay : LogsStay (era_logs name era.number) old new
  logs_stay =
      let same = logs_locked (era_logs name era.number) old mid locked in (
        others.tells ∙ same.tells,
        λ t thread. others.file (same.tells ∙ t) (log_name (area_name name (era.number % 2)) thread) (log_not_area name (era.number % 2) (next.number % 2) thread (even_or_odd era.number) (even_or_odd next.number) apart)
            (logs_differ name (era.number % 2) (next.number % 2) thread (even_or_odd era.number) (even_or_odd next.number) apart 0 most_threads) ∙ same.file thread,
      )

  all_stay : SameAreaFile mid new (era_logs name next.number) → (a : ℕ) → a < 2 → SameAreaFile old new (area_name name a)
  all_stay same a l = at (cases_Bool (a == next.number % 2))
    where
      at : (a == next.number % 2 ≡ true) ⊎ (a == next.number % 2 ≡ false) → SameAreaFile old new (area_name name a)
      at (inl t) =
          let is = eqb-true a (next.number % 2) t in
          let here = subst (λ (x : ℕ). SameAreaFile mid new (area_name name x)) (sym is) same in
          (here.0 ∙ locked.tells, λ u. here.1 (locked.tells ∙ u) ∙ (at_mid a l).1 u)
      at (inr f) = stay a l (λ is. (let differs : a ≡ next.number % 2 → ⊥ = grind (arith, nat_tests) in differs is))

  pub none_saved : NoneSaved mid new (era_logs name next.number) → IsInEra read_of first old name era → StaysInEra read_of first name old new era
  none_saved (inl same) i = (same_era read_of first old new name era (all_stay same 0 (omega arith)) (all_stay same 1 (omega arith)) i, logs_stay)
  none_saved (inr none) i = (has_none read_of first old new name era next i after stay none, logs_stay)

  pub has_begun : IsInEra read_of first old name era → AreaSaves read_of new name next → IsInEra read_of first new name next
  has_begun i s = has_next read_of first old new name era next i after stay s

  pub stays_or_begins : IsInEra read_of first old name era
      → SameAreaFile mid new (era_logs name next.number) ⊎ AreaHolds new (era_logs name next.number) None ⊎ EraHasBegun read_of new name next
      → StaysInEra read_of first name old new era
      ⊎ (IsInEra read_of first new name next × AreCleared new (era_logs name next.number))
  stays_or_begins i (inl same) = inl (none_saved (inl same) i)
  stays_or_begins i (inr (inl none)) = inl (none_saved (inr none) i)
  stays_or_begins i (inr (inr begun)) = inr (has_begun i begun.0, begun.1)

-- what is so, whatever the refusal
pub whatever : {T E : Type 0} (result : Result T E) (P : Type 0) → P → IfErr result (λ e. P)
whatever (Ok x) P p = tt
whatever (Err e) P p = p

pub whatever_stands : {T : Type 0} (result : Result T NextFault) (P : Type 0) → P → IfErr result (λ fault. EraStands fault → P)
whatever_stands (Ok x) P p = tt
whatever_stands (Err e) P p = λ stands. p
