-- A service in an era.
use Rattle.std.proofs.Common.{ℕ, List, ◌≡◌, ◌%◌, ◌<◌, Bool, true, false, refl, subst, arith, length}
use Rattle.std.specs.Prelude.{◌&&◌, Option, Result, Ok, Err, is_ok}
use Rattle.onll_model.specs.declared.call.Call.{Call}
use Rattle.onll_model.specs.declared.call.CallEnd.{CallEnd}
use Rattle.onll_model.specs.Object.{Behaviour}
use Rattle.onll_pmem.specs.Pmem.{DeviceView}
use Rattle.onll_outside.specs.Views.{StoreView}
use Rattle.onll_open.specs.Files.{SameBut}
use Rattle.onll_open.specs.Heads.{heads_of}
use Rattle.onll_open.specs.Names.{held_names}
use Rattle.onll_serve.specs.declared.service.Served.{Served}
use Rattle.onll_serve.specs.Serving.{HasServed}
use Rattle.onll_live.specs.declared.era.Era.{Era}
use Rattle.onll_live.specs.Beginning.{SameAreaFile}
use Rattle.onll_live.specs.Eras.{IsInEra, area_name, era_logs}
use Rattle.onll_live.specs.Living.{IsEraService}
use Rattle.onll_live.proofs.Apart.{none_of_logs, not_lock}
use Rattle.onll_live.proofs.Changes.{same_era}

even_or_odd : (n : ℕ) → n % 2 < 2
even_or_odd n = omega arith

-- where the next era is to begin, the logs were kept
pub was_kept : {E : Type 0} (spent : Bool) (kept : Result (Unit {0}) E) → spent && is_ok kept ≡ true → kept ≡ Ok tt
was_kept true (Ok tt) e = refl
was_kept true (Err fault) e = absurd (cc)
was_kept false kept e = absurd (cc)

-- a service over an era's logs leaves the areas
pub served_era : {State : Type 0} (read_of : List ℕ → Option State) (first : State) (name : List ℕ) (era : Era State) (threads : ℕ) (old new : StoreView)
    → SameBut (held_names (era_logs name era.number) threads) old new → IsInEra read_of first old name era → IsInEra read_of first new name era
served_era read_of first name era threads old new others i =
    let c = era.number % 2 in
    let here : (a : ℕ) → a < 2 → SameAreaFile old new (area_name name a) = λ a l. (
      others.tells,
      λ t. others.file (area_name name a) (not_lock name a c l (even_or_odd era.number), none_of_logs name a c l (even_or_odd era.number) 0 threads),
    ) in same_era read_of first old new name era (here 0 (omega arith)) (here 1 (omega arith)) i

module _ {State Op Query Reply Device Work Answer : Type 0} (b : Behaviour State Op Query Reply) (means : Device → DeviceView)
    (promise : Work → Work → List (Call State Op Query Reply) → List (CallEnd State Op Query Reply) → Answer → Type 0)
    (code : ℕ) (description : State → List ℕ) (read_of : List ℕ → Option State) (first : State) (name : List ℕ) where
  pub is_service : (era : Era State) (works : List Work) (before after : StoreView) (served : Served State Device Work Answer Op Query Reply)
      (logs : List ℕ) (state : State) → logs ≡ era_logs name era.number → state ≡ era.state → IsInEra read_of first before name era
      → after.tells ≡ before.tells → HasServed b means promise before logs (heads_of code (description state) (length works)) state works after served
      → IsEraService b means promise code description read_of first name (record { era = era; works = works; before = before; after = after; served = served })
  is_service era works before after served logs state logs_are state_is i tells h = record {
    in_era = i;
    tells = tells;
    served =
        subst (λ (s : State). HasServed b means promise before (era_logs name era.number) (heads_of code (description s) (length works)) s works after served) state_is
        (subst (λ (n : List ℕ). HasServed b means promise before n (heads_of code (description state) (length works)) state works after served) logs_are h);
  }
