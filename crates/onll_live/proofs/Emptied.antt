-- Logs whose files were emptied give no update.
use Rattle.std.proofs.Common.{ℕ, zero, suc, List, [], ◌∷◌, ◌≡◌, ◌+◌, ◌≤◌, max, true, false, length, map, Some, None, Ok, sym, ap, ◌∙◌, refl, inl, inr, arith}
use Rattle.std.specs.Prelude.{Option}
use Rattle.std.specs.List.{AllByRecursion}
use Rattle.onll_model.specs.declared.node.Node.{Node}
use Rattle.onll_model.specs.Object.{Behaviour}
use Rattle.onll_model.specs.Segment.{Segment}
use Rattle.onll_model.proofs.Lists.{same_some}
use Rattle.onll_pmem.specs.Device.{zero_lines}
use Rattle.onll_log.specs.Grammar.{Content, content_of}
use Rattle.onll_log.specs.Survey.{top_in_log}
use Rattle.onll_merge.specs.declared.fault.RecoverFault.{RecoverFault}
use Rattle.onll_merge.specs.Merge.{nodes_to, refusal, top_of, unless}
use Rattle.onll_merge.specs.Recovered.{Recovered}
use Rattle.onll_outside.specs.Views.{StoreView}
use Rattle.onll_open.specs.Files.{FilesHold, HoldsLogImage, FileIsMade, is_made}
use Rattle.onll_open.specs.Heads.{heads_of}
use Rattle.onll_log.specs.Head.{heads_from}
use Rattle.onll_open.specs.Names.{log_name}
use Rattle.onll_open.specs.Opening.{FilesGive}
use Rattle.onll_open.proofs.GivenLogs.{contents_are, found_parts}
use Rattle.onll_live.specs.Beginning.{LogsAreEmpty}

-- what is held of the file of a log that was emptied
empty_image : (store : StoreView) (file : List ℕ) (image : List (List ℕ)) → store.tells ≡ true → FileIsMade store file false
    → HoldsLogImage store file image → image ≡ zero_lines 1
empty_image store file image on empty (inl h) =
    let made : is_made (store.file file) ≡ true = h.made on in
    let none : is_made (store.file file) ≡ false = empty on in
    absurd (cc)
empty_image store file image on empty (inr h) = h.1

empty_images : (store : StoreView) (logs : List ℕ) (threads t : ℕ) (images : List (List (List ℕ))) → store.tells ≡ true
    → LogsAreEmpty store logs threads → t + length images ≤ threads → FilesHold logs t images store
    → AllByRecursion (λ (image : List (List ℕ)). image ≡ zero_lines 1) images
empty_images store logs threads t [] on empty low h = tt
empty_images store logs threads t (image ∷ images) on empty low h = (
  empty_image store (log_name logs t) image on (empty t (omega (arith, low))) h.0,
  empty_images store logs threads (suc t) images on empty (omega (arith, low)) h.1,
)

-- a line of zeros holds no entry
no_entry : (image : List (List ℕ)) (c : Content) → image ≡ zero_lines 1 → content_of image ≡ Some c → c.entries ≡ []
no_entry image c zeros is =
    let blank : Content = record { head = None; entries = [] } in
    let none : Some blank ≡ Some c = sym (ap content_of zeros) ∙ is in
    sym (ap (λ (x : Content). x.entries) (same_some blank c none))

no_entries : (images : List (List (List ℕ))) (logs : List Content) → AllByRecursion (λ (image : List (List ℕ)). image ≡ zero_lines 1) images
    → map content_of images ≡ map Some logs → AllByRecursion (λ (c : Content). c.entries ≡ []) logs
no_entries [] [] zeros e = tt
no_entries [] (c ∷ logs) zeros e = absurd (omega (arith, ap length e))
no_entries (image ∷ images) [] zeros e = absurd (omega (arith, ap length e))
no_entries (image ∷ images) (c ∷ logs) zeros e =
    let here : content_of image ≡ Some c = (cc) in
    let rest : map content_of images ≡ map Some logs = (cc) in
    (no_entry image c zeros.0 here, no_entries images logs zeros.1 rest)

no_top : (logs : List Content) → AllByRecursion (λ (c : Content). c.entries ≡ []) logs → top_of logs ≡ 0
no_top [] none = refl
no_top (c ∷ cs) none = ap (λ (ss : List Segment). max (top_in_log ss) (top_of cs)) none.0 ∙ ap (max 0) (no_top cs none.1)

unless_is : (fault : Option RecoverFault) (nodes found : List Node) → unless fault nodes ≡ Ok found → nodes ≡ found
unless_is None nodes found e = cc
unless_is (Some fault) nodes found e = absurd (cc)

heads_many : (count object : ℕ) (init : List ℕ) (t n : ℕ) → length (heads_from count object init t n) ≡ n
heads_many count object init t zero = refl
heads_many count object init t (suc n) = ap suc (heads_many count object init (suc t) n)

-- the logs of so many threads give none, where so many were emptied
pub emptied : {State Op Query Reply : Type 0} (b : Behaviour State Op Query Reply) (store : StoreView) (logs : List ℕ)
    (code : ℕ) (init : List ℕ) (threads : ℕ) (found : Recovered) → store.tells ≡ true → LogsAreEmpty store logs threads
    → FilesGive b store logs (heads_of code init threads) (Ok found) → found.nodes ≡ []
emptied b store logs code init threads found on empty gives =
    let heads = heads_of code init threads in
    let p = found_parts b heads gives.images found gives.gives in
    let images_many = gives.many in
    let many = heads_many threads code init 0 threads in
    let zeros = empty_images store logs threads 0 gives.images on empty (omega (arith, images_many, many)) gives.hold in
    let none = no_entries gives.images p.logs zeros (contents_are 0 gives.images p.logs p.contents) in
    sym (unless_is (refusal heads p.logs) (nodes_to p.logs (top_of p.logs)) found.nodes p.merged_is) ∙ ap (nodes_to p.logs) (no_top p.logs none)
