-- What services in one era after the other add up to.
use Rattle.std.specs.Prelude.{ℕ, List, [], ◌∷◌, ◌++◌, ◌≡◌, ◌+◌, true, length, Option, Ok}
use Rattle.std.specs.List.{AllByRecursion}
use Rattle.onll_model.specs.declared.node.Node.{Node}
use Rattle.onll_model.specs.declared.call.Call.{Call}
use Rattle.onll_model.specs.declared.call.CallEnd.{CallEnd}
use Rattle.onll_model.specs.Object.{Behaviour}
use Rattle.onll_model.specs.Trace.{state_after}
use Rattle.onll_pmem.specs.Pmem.{DeviceView}
use Rattle.onll_merge.specs.Recovered.{Recovered}
use Rattle.onll_outside.specs.Views.{StoreView}
use Rattle.onll_open.specs.Opening.{FilesGive}
use Rattle.onll_serve.specs.Linking.{IsOverFiles}
use Rattle.onll_serve.specs.Lives.{IsLifeFront, generation_of}
use Rattle.onll_serve.specs.Serving.{HasHistory, HasServed}
use Rattle.onll_live.specs.declared.era.Era.{Era}
use Rattle.onll_live.specs.declared.living.Lived.{Lived}
use Rattle.onll_live.specs.Eras.{era_heads, era_logs}
use Rattle.onll_live.specs.Living.{AreEraServices, BeganWith, EraService, HasLived}

-- the updates of eras, of which the newest stands first, in the order in which they were made
abbrev pub in_order : List (List Node) → List Node
in_order [] = []
in_order (nodes ∷ earlier) = in_order earlier ++ nodes

module _ {State Op Query Reply Device Work Answer : Type 0} (b : Behaviour State Op Query Reply) (means : Device → DeviceView)
    (promise : Work → Work → List (Call State Op Query Reply) → List (CallEnd State Op Query Reply) → Answer → Type 0)
    (code : ℕ) (description : State → List ℕ) (name : List ℕ) where
  -- works were served in an era
  abbrev pub WasServed : EraService State Device Work Answer Op Query Reply → Type 0
  WasServed s = HasServed b means promise s.before (era_logs name s.era.number) (era_heads code description (length s.works) s.era.state)
      s.era.state s.works s.after s.served

  -- These nodes are a front of what the works of a service did, with what its era's logs held before, and with each answered call.
  pub record IsServiceFront (s : EraService State Device Work Answer Op Query Reply) (h : WasServed s) (nodes : List Node) : Type 0 where
    pub history : HasHistory b means h.onll h.worked.ended.runs
    pub over : IsOverFiles b (era_logs name s.era.number) (era_heads code description (length s.works) s.era.state) s.before s.after
        (generation_of b means h.onll h.worked.ended.runs history)
    pub front : IsLifeFront (generation_of b means h.onll h.worked.ended.runs history) nodes

  -- After a service the logs of its era gave these nodes. In whatever way works were served in it, they are a front of that.
  pub record Gave (s : EraService State Device Work Answer Op Query Reply) (nodes : List Node) : Type 0 where
    pub found : Recovered
    pub files : FilesGive b s.after (era_logs name s.era.number) (era_heads code description (length s.works) s.era.state) (Ok found)
    pub nodes_are : nodes ≡ found.nodes
    pub front : (h : WasServed s) → IsServiceFront s h nodes

  -- The era of a service began after what those from this one on had given: in the state that this made.
  pub record BeganAfter (from : Era State) (given : List (List Node))
      (s : EraService State Device Work Answer Op Query Reply) : Type 0 where
    pub number_is : s.era.number ≡ from.number + length given
    pub place_is : s.era.place ≡ from.place + length (in_order given)
    pub state_is : s.era.state ≡ state_after b from.state (in_order given)

  -- each service gave these nodes, and its era began after what the earlier ones gave
  abbrev pub Give : Era State → List (EraService State Device Work Answer Op Query Reply) → List (List Node) → Type 0
  Give from [] [] = Unit {0}
  Give from (s ∷ earlier) (nodes ∷ given) = BeganAfter from given s × Gave s nodes × Give from earlier given
  Give from services given = ⊥

  -- the logs of its era gave no update before a service
  abbrev pub BeginsAnew : EraService State Device Work Answer Op Query Reply → Type 0
  BeginsAnew s = (found : Recovered)
      → FilesGive b s.before (era_logs name s.era.number) (era_heads code description (length s.works) s.era.state) (Ok found)
      → found.nodes ≡ []

  -- so it was before each of these services but the oldest
  abbrev pub BeginAnew : List (EraService State Device Work Answer Op Query Reply) → Type 0
  BeginAnew [] = Unit {0}
  BeginAnew (s ∷ []) = Unit {0}
  BeginAnew (t ∷ (s ∷ earlier)) = BeginsAnew t × BeginAnew (s ∷ earlier)

  -- A service is counted in these nodes, which were made from an era on: its own era began after the first of them, in the state that they
  -- made, and there come the nodes that it gave, with each answered call.
  pub record IsServiceCounted (from : Era State) (nodes : List Node) (s : EraService State Device Work Answer Op Query Reply) : Type 0 where
    pub earlier : List Node
    pub given : List Node
    pub later : List Node
    pub all_are : earlier ++ given ++ later ≡ nodes
    pub place_is : s.era.place ≡ from.place + length earlier
    pub state_is : s.era.state ≡ state_after b from.state earlier
    pub gave : Gave s given

  -- Services from an era on add up: the era of the last of them began after all that the earlier ones gave, and each answered call of
  -- those is counted in that. All but the first began with empty logs.
  pub record AddsUp (from : Era State) (last : EraService State Device Work Answer Op Query Reply)
      (earlier : List (EraService State Device Work Answer Op Query Reply)) : Type 0 where
    pub given : List (List Node)
    pub each : Give from earlier given
    pub anew : BeginAnew (last ∷ earlier)
    pub begins : BeganAfter from given last
    pub counted : AllByRecursion (IsServiceCounted from (in_order given)) earlier

module _ {State Op Query Reply Device Work Answer Files : Type 0} (b : Behaviour State Op Query Reply) (means : Device → DeviceView)
    (seen : Files → StoreView)
    (promise : Work → Work → List (Call State Op Query Reply) → List (CallEnd State Op Query Reply) → Answer → Type 0) where
  -- Services in one era after the other, from a store on that told its files, add up.
  abbrev pub ErasLaw : Type 0
  ErasLaw = (code : ℕ) (description : State → List ℕ) (read_of : List ℕ → Option State) (first : State) (name : List ℕ) (files : Files)
      (start : StoreView) (from : Era State) (works : List Work) (last : EraService State Device Work Answer Op Query Reply)
      (earlier : List (EraService State Device Work Answer Op Query Reply)) → (seen files).tells ≡ true → start.tells ≡ true
      → AreEraServices b means promise code description read_of first name (last ∷ earlier)
      → BeganWith b means promise code description read_of first name start from works (last ∷ earlier)
      → AddsUp b means promise code description name from last earlier

module _ {State Op Query Reply Device Work Answer : Type 0} (b : Behaviour State Op Query Reply) (means : Device → DeviceView)
    (promise : Work → Work → List (Call State Op Query Reply) → List (CallEnd State Op Query Reply) → Answer → Type 0)
    (code : ℕ) (description : State → List ℕ) (read_of : List ℕ → Option State) (first : State) (name : List ℕ) where
  -- Where the store tells its files, the services of a life add up, from the era in which the first of them began.
  abbrev pub LifeAddsUp : StoreView → StoreView → List Work → Lived State Device Work Answer Op Query Reply → Type 0
  LifeAddsUp old new works lived = old.tells ≡ true
      → (h : HasLived b means promise code description read_of first name old new works lived)
      → AddsUp b means promise code description name h.first_era h.served.last h.served.earlier
