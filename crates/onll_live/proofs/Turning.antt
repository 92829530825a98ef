-- Services in one era after the other.
use Rattle.std.proofs.Common.{ℕ, List, [], ◌∷◌, ◌≡◌, ◌+◌, refl, sym, subst, arith, length}
use Rattle.std.specs.Prelude.{true, Option, Ok}
use Rattle.onll_model.specs.declared.call.Call.{Call}
use Rattle.onll_model.specs.declared.call.CallEnd.{CallEnd}
use Rattle.onll_model.specs.Object.{Behaviour}
use Rattle.onll_pmem.specs.Pmem.{DeviceView}
use Rattle.onll_outside.specs.Views.{StoreView}
use Rattle.onll_serve.specs.declared.service.Served.{Served}
use Rattle.onll_live.specs.declared.era.Era.{Era}
use Rattle.onll_live.specs.declared.living.Lived.{Lived}
use Rattle.onll_live.specs.declared.fault.LiveFault.{LiveFault}
use Rattle.onll_live.specs.Beginning.{IsNextEra}
use Rattle.onll_live.specs.Living.{AreEraServices, BeganWith, CannotServeEra, ComesTo, EndsEra, EraService, HaveComeTo, IsEraService, WereServed, wants_next}

module _ {State Op Query Reply Device Work Answer : Type 0} (b : Behaviour State Op Query Reply) (means : Device → DeviceView)
    (promise : Work → Work → List (Call State Op Query Reply) → List (CallEnd State Op Query Reply) → Answer → Type 0)
    (code : ℕ) (description : State → List ℕ) (read_of : List ℕ → Option State) (first : State) (name : List ℕ)
    (start now : StoreView) (first_era era : Era State) (first_works works : List Work) where
  -- nothing was served yet
  pub none_come : (h : HaveComeTo b means promise code description read_of first name start start first_era first_era first_works first_works)
      × (length h.services ≡ 0)
  none_come = (record { services = []; are = tt; began = tt; comes = (refl, refl, refl) }, refl)

  -- the works are handed back, as they have come
  pub handed_back : (h : HaveComeTo b means promise code description read_of first name start now first_era era first_works works) (eras : ℕ)
      → length h.services ≡ eras → (back : List Work) → back ≡ works → (new : StoreView) (fault : LiveFault)
      → CannotServeEra b means promise code description read_of first name now new era works fault
      → (came : HaveComeTo b means promise code description read_of first name start now first_era era first_works back)
      × (eras ≡ length came.services) × CannotServeEra b means promise code description read_of first name now new era back fault
  handed_back h eras many back same new fault cannot =
      subst (λ (ws : List Work). (came : HaveComeTo b means promise code description read_of first name start now first_era era first_works ws)
      × (eras ≡ length came.services) × CannotServeEra b means promise code description read_of first name now new era ws fault)
      (sym same) (h, sym many, cannot)

  module _ (after : StoreView) (served : Served State Device Work Answer Op Query Reply) where
    abbrev service : EraService State Device Work Answer Op Query Reply
    service = record { era = era; works = works; before = now; after = after; served = served }

    one_more : (services : List (EraService State Device Work Answer Op Query Reply)) → AreEraServices b means promise code description read_of first name services
        → BeganWith b means promise code description read_of first name start first_era first_works services
        → ComesTo b means promise code description read_of first name services start now first_era era first_works works
        → IsEraService b means promise code description read_of first name service
        → AreEraServices b means promise code description read_of first name (service ∷ services)
        × BeganWith b means promise code description read_of first name start first_era first_works (service ∷ services)
    one_more [] are began comes is = (is, comes)
    one_more (t ∷ earlier) are began comes is = ((is, record { begun = comes.0; works = comes.1; kept = comes.2; on = comes.3 }, are), began)

    module _ (h : HaveComeTo b means promise code description read_of first name start now first_era era first_works works)
        (is : IsEraService b means promise code description read_of first name service) where
      pub next_come : (new : StoreView) (next : Era State) (more : List Work)
          → IsNextEra b code description read_of first name (length works) after new era next → more ≡ served.works.items
          → served.kept ≡ Ok tt → wants_next served ≡ true → (eras : ℕ) → length h.services ≡ eras
          → (n : HaveComeTo b means promise code description read_of first name start new first_era next first_works more)
          × (length n.services ≡ eras + 1)
      next_come new next more begun same kept on eras many =
          let now_ = one_more h.services h.are h.began h.comes is in
          (record { services = service ∷ h.services; are = now_.0; began = now_.1; comes = (begun, same, kept, on) }, omega (arith, many))

      pub last_served : (new : StoreView) (lived : Lived State Device Work Answer Op Query Reply) → lived.served ≡ served
          → lived.era ≡ era.number → lived.place ≡ era.place → EndsEra b means promise code description read_of first name service lived.fault new
          → WereServed b means promise code description read_of first name start new first_era first_works lived
      last_served new lived served_is era_is place_is ends =
          let now_ = one_more h.services h.are h.began h.comes is in
          record {
            earlier = h.services;
            last = service;
            services = now_.0;
            began = now_.1;
            served_is = served_is;
            era_is = era_is;
            place_is = place_is;
            ends = ends;
          }
