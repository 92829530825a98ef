-- Services in one era after the other add up to the newest era.
use Rattle.std.proofs.Common.{ℕ, suc, List, [], ◌∷◌, ◌++◌, ◌≡◌, ◌+◌, ◌≤◌, true, length, inl, inr, refl, sym, ap, subst, ◌∙◌, arith}
use Rattle.std.specs.Prelude.{Option, is_some}
use Rattle.std.proofs.lemmas.List.{append-nil, append_assoc, length-append}
use Rattle.onll_model.specs.declared.node.Node.{Node}
use Rattle.onll_model.specs.declared.call.Call.{Call}
use Rattle.onll_model.specs.declared.call.CallEnd.{CallEnd}
use Rattle.onll_model.specs.Limits.{most_threads}
use Rattle.onll_model.specs.Object.{Behaviour}
use Rattle.onll_model.specs.Trace.{state_after}
use Rattle.onll_model.proofs.Lists.{all_map}
use Rattle.onll_model.proofs.States.{state_after-append}
use Rattle.onll_pmem.specs.Pmem.{DeviceView}
use Rattle.onll_outside.specs.Views.{StoreView}
use Rattle.onll_run.specs.Ended.{ThreadRun}
use Rattle.onll_threads.specs.Ended.{ArePromised}
use Rattle.onll_serve.specs.Linking.{NextLaw}
use Rattle.onll_serve.proofs.Linking.{next_law}
use Rattle.onll_live.specs.declared.era.Era.{Era}
use Rattle.onll_live.specs.declared.living.Lived.{Lived}
use Rattle.onll_live.specs.Beginning.{LogsAreEmpty, EntersEra, next_of}
use Rattle.onll_live.specs.Eras.{era_heads, era_logs}
use Rattle.onll_live.specs.Living.{AreEraServices, BeganWith, EraService, GoesOnFrom, IsEraService}
use Rattle.onll_live.specs.Lifetime.{AddsUp, BeginsAnew, ErasLaw, Gave, IsServiceCounted, LifeAddsUp, in_order}
use Rattle.onll_live.proofs.Emptied.{emptied}

-- ---- the next era
module _ {State Op Query Reply : Type 0} (b : Behaviour State Op Query Reply) (from era next : Era State) (made nodes : List Node)
    (next_is : next ≡ next_of b era nodes) where
  -- it begins in the state that all updates so far make
  state_on : era.state ≡ state_after b from.state made → next.state ≡ state_after b from.state (made ++ nodes)
  state_on e =
      ap (λ (x : Era State). x.state) next_is
      ∙ (ap (λ (x : State). state_after b x nodes) e ∙ sym (state_after-append b from.state made nodes))

  place_on : era.place ≡ from.place + length made → next.place ≡ from.place + length (made ++ nodes)
  place_on e =
      let here = ap (λ (x : Era State). x.place) next_is in
      let many = length-append made nodes in omega (arith, e, here, many)

  number_on : (given : List (List Node)) → era.number ≡ from.number + length given → next.number ≡ from.number + length (nodes ∷ given)
  number_on given e = let here = ap (λ (x : Era State). x.number) next_is in omega (arith, e, here)

module _ {State Op Query Reply Device Work Answer : Type 0} (b : Behaviour State Op Query Reply) (means : Device → DeviceView)
    (promise : Work → Work → List (Call State Op Query Reply) → List (CallEnd State Op Query Reply) → Answer → Type 0) where
  -- works that were done are as many as before
  as_many : (olds news : List Work) (runs : List (ThreadRun State Op Query Reply Device)) (answers : List Answer)
      → ArePromised b means promise olds news runs answers → length olds ≡ length news
  as_many [] [] [] [] p = refl
  as_many [] [] [] (x ∷ answers) p = absurd p
  as_many [] [] (r ∷ runs) answers p = absurd p
  as_many [] (v ∷ news) runs answers p = absurd p
  as_many (w ∷ olds) [] runs answers p = absurd p
  as_many (w ∷ olds) (v ∷ news) [] answers p = absurd p
  as_many (w ∷ olds) (v ∷ news) (r ∷ runs) [] p = absurd p
  as_many (w ∷ olds) (v ∷ news) (r ∷ runs) (x ∷ answers) p = ap suc (as_many olds news runs answers p.1)

  module _ (code : ℕ) (description : State → List ℕ) (name : List ℕ) where
    -- what is counted in nodes is counted in more
    counted_in_more : (from : Era State) (made more : List Node) (s : EraService State Device Work Answer Op Query Reply)
        → IsServiceCounted b means promise code description name from made s
        → IsServiceCounted b means promise code description name from (made ++ more) s
    counted_in_more from made more s c = record {
      earlier = c.earlier;
      given = c.given;
      later = c.later ++ more;
      all_are = sym (append_assoc (c.earlier ++ c.given) c.later more) ∙ ap (λ (ns : List Node). ns ++ more) c.all_are;
      place_is = c.place_is;
      state_is = c.state_is;
      gave = c.gave;
    }

    module _ (read_of : List ℕ → Option State) (first : State) where
      newest_is : (s : EraService State Device Work Answer Op Query Reply) (earlier : List (EraService State Device Work Answer Op Query Reply))
          → AreEraServices b means promise code description read_of first name (s ∷ earlier)
          → IsEraService b means promise code description read_of first name s
      newest_is s [] are = are
      newest_is s (r ∷ earlier) are = are.0

      -- the store tells its files still
      tells_on : (start : StoreView) (from : Era State) (works : List Work) (last : EraService State Device Work Answer Op Query Reply)
          (earlier : List (EraService State Device Work Answer Op Query Reply))
          → AreEraServices b means promise code description read_of first name (last ∷ earlier)
          → BeganWith b means promise code description read_of first name start from works (last ∷ earlier)
          → start.tells ≡ true → last.before.tells ≡ true
      tells_on start from works last [] are began on = ap (λ (v : StoreView). v.tells) began.0 ∙ on
      tells_on start from works last (s ∷ earlier) are began on =
          are.1.begun.tells ∙ ((newest_is s earlier are.2).tells ∙ tells_on start from works s earlier are.2 began on)

      -- the logs of the next era gave no update before it was served
      begins_anew : (s t : EraService State Device Work Answer Op Query Reply)
          → IsEraService b means promise code description read_of first name s
          → GoesOnFrom b means promise code description read_of first name s t → t.before.tells ≡ true
          → BeginsAnew b means promise code description name t
      begins_anew s t is g on found gives =
          let e = is.served.worked.ended in
          let many : length s.works ≡ length t.works =
          as_many s.works s.served.works.items e.runs s.served.answers.items e.promised ∙ ap length (sym g.works) in
          let few : length t.works ≤ most_threads = subst (λ (n : ℕ). n ≤ most_threads) many g.begun.few in
          let empty : LogsAreEmpty t.before (era_logs name t.era.number) (length t.works) = λ thread low. g.begun.empty thread (omega (arith, low, few)) in
          emptied b t.before (era_logs name t.era.number) code (description t.era.state) (length t.works) found on empty gives

      module _ (next : NextLaw b means (λ (v : StoreView). v) promise) where
        -- what a service's logs gave where the next era began
        gave_front : (s t : EraService State Device Work Answer Op Query Reply)
            → (g : GoesOnFrom b means promise code description read_of first name s t) → s.after.tells ≡ true
            → Gave b means promise code description name s g.begun.found.nodes
        gave_front s t g on = record {
          found = g.begun.found;
          files = g.begun.given;
          nodes_are = refl;
          front = λ h. (let n = next s.before s.after (era_logs name s.era.number)
              (era_heads code description (length s.works) s.era.state) s.era.state s.works s.served h g.kept on in
              record { history = n.0; over = n.1; front = n.1.leaves g.begun.found g.begun.given });
        }

        adds_up : (start : StoreView) (from : Era State) (works : List Work) (last : EraService State Device Work Answer Op Query Reply)
            (earlier : List (EraService State Device Work Answer Op Query Reply)) → start.tells ≡ true
            → AreEraServices b means promise code description read_of first name (last ∷ earlier)
            → BeganWith b means promise code description read_of first name start from works (last ∷ earlier)
            → AddsUp b means promise code description name from last earlier
        adds_up start from works last [] on are began =
            let number = ap (λ (x : Era State). x.number) began.1 in
            let place = ap (λ (x : Era State). x.place) began.1 in
            record {
              given = [];
              each = tt;
              anew = tt;
              begins = record {
                number_is = omega (arith, number);
                place_is = omega (arith, place);
                state_is = ap (λ (x : Era State). x.state) began.1;
              };
              counted = tt;
            }
        adds_up start from works last (s ∷ earlier) on are began =
            let a = adds_up start from works s earlier on are.2 began in
            let g = are.1 in
            let is = newest_is s earlier are.2 in
            let nodes = g.begun.found.nodes in
            let made = in_order a.given in
            let after = is.tells ∙ tells_on start from works s earlier are.2 began on in
            let here = gave_front s last g after in
            record {
              given = nodes ∷ a.given;
              each = (a.begins, here, a.each);
              anew = (begins_anew s last is g (g.begun.tells ∙ after), a.anew);
              begins = record {
                number_is = number_on b from s.era last.era made nodes g.begun.next_is a.given a.begins.number_is;
                place_is = place_on b from s.era last.era made nodes g.begun.next_is a.begins.place_is;
                state_is = state_on b from s.era last.era made nodes g.begun.next_is a.begins.state_is;
              };
              counted = (
                record {
                  earlier = made;
                  given = nodes;
                  later = [];
                  all_are = append-nil (made ++ nodes);
                  place_is = a.begins.place_is;
                  state_is = a.begins.state_is;
                  gave = here;
                },
                all_map (IsServiceCounted b means promise code description name from made)
                    (IsServiceCounted b means promise code description name from (made ++ nodes)) earlier (counted_in_more from made nodes) a.counted,
              );
            }

module _ {State Op Query Reply Device Work Answer Files : Type 0} (b : Behaviour State Op Query Reply) (means : Device → DeviceView)
    (seen : Files → StoreView)
    (promise : Work → Work → List (Call State Op Query Reply) → List (CallEnd State Op Query Reply) → Answer → Type 0) where
  pub eras_law : ((files : Files) → (seen files).tells ≡ true → (d : Device) → is_some (means d).told ≡ true)
      → ErasLaw b means seen promise
  eras_law tell code description read_of first name files start from works last earlier told on are began =
      let next = next_law b means (λ (v : StoreView). v) promise (λ v is. tell files told) in
      adds_up b means promise code description name read_of first next start from works last earlier on are began

  module _ (code : ℕ) (description : State → List ℕ) (read_of : List ℕ → Option State) (first : State) (name : List ℕ) where
    -- a store tells its files where an era is entered, as before
    entered_tells : (threads : ℕ) (old new : StoreView) (era next : Era State)
        → EntersEra b code description read_of first name threads old new era next → new.tells ≡ old.tells
    entered_tells threads old new era next (mid, same, inl is) = ap (λ (v : StoreView). v.tells) is.0 ∙ same.tells
    entered_tells threads old new era next (mid, same, inr (were, ends, begun)) = begun.tells ∙ same.tells

    pub life_adds_up : ErasLaw b means seen promise → (files : Files) (new : StoreView) (works : List Work)
        (lived : Lived State Device Work Answer Op Query Reply)
        → LifeAddsUp b means promise code description read_of first name (seen files) new works lived
    life_adds_up law files new works lived told h =
        let start = h.others.tells ∙ told in
        let begin = entered_tells (length works) h.start h.begin h.era h.first_era h.enters ∙ start in
        law code description read_of first name files h.begin h.first_era works h.served.last h.served.earlier told begin h.served.services
        h.served.began
