-- An object stands where the beginning of its next era was cut, and where it has ended.
use Rattle.std.proofs.Common.{ℕ, zero, suc, List, [], ◌∷◌, ◌≡◌, ◌+◌, ◌≤◌, max, true, false, length, cond, arith, refl, sym, ap, ◌∙◌, ◌⊎◌, inl, inr}
use Rattle.std.specs.Prelude.{Option, Some, None, Result, Ok, replicate}
use Rattle.std.specs.Option.{option_or, option_map}
use Rattle.onll_model.specs.declared.node.Node.{Node}
use Rattle.onll_model.specs.Limits.{most_threads}
use Rattle.onll_model.specs.Object.{Behaviour}
use Rattle.onll_pmem.specs.Device.{zero_lines}
use Rattle.onll_log.specs.declared.head.LogHead.{LogHead}
use Rattle.onll_log.specs.Grammar.{Content}
use Rattle.onll_merge.specs.declared.fault.RecoverFault.{RecoverFault}
use Rattle.onll_merge.specs.declared.fault.ImagesFault.{ImagesFault}
use Rattle.onll_merge.specs.Merge.{disorder, foreign, merge, nodes_to, stray_above, top_of, unless, unlike}
use Rattle.onll_merge.specs.Recovered.{Recovered, content_before, contents_from, merged, recovered_with, state_recovered, with_logs, with_operations}
use Rattle.onll_outside.specs.Views.{StoreView}
use Rattle.onll_open.specs.declared.fault.FilesFault.{FilesFault}
use Rattle.onll_open.specs.declared.fault.FilesFault.TheVariants.{Gone, OldFormat, Threads}
use Rattle.onll_open.specs.Files.{FilesHold}
use Rattle.onll_open.specs.Heads.{heads_of}
use Rattle.onll_log.specs.Head.{heads_from}
use Rattle.onll_open.specs.Misfits.{first_gone, first_headless, first_old, found_in, have_entries, misfit, other_threads, with_misfit}
use Rattle.onll_open.specs.Opening.{FilesGive}
use Rattle.onll_open.proofs.GivenLogs.{give_same}
use Rattle.onll_serve.proofs.Holding.{one_each}
use Rattle.onll_live.specs.declared.era.Era.{Era}
use Rattle.onll_live.specs.Beginning.{AreCleared, LogsAreEmpty, IsNextEra, LogsStay, StaysOrBegins, next_of}
use Rattle.onll_live.specs.Cuts.{EraCutLaw, IsEraCut, EraStandsLaw}
use Rattle.onll_live.specs.Eras.{HoldObject, IsInEra, era_heads, era_logs}
use Rattle.onll_live.proofs.Begins.{stays_or_begins}

-- ---- logs of zeros
-- such a log has no head and no entry
abbrev blank : Content
blank = record { head = None; entries = [] }

contents_blank : (i n : ℕ) → contents_from i (replicate n (zero_lines 1)) ≡ Ok (replicate n blank)
contents_blank i zero = refl
contents_blank i (suc n) = ap (content_before i (Some blank)) (contents_blank (i + 1) n)

none_foreign : (i n : ℕ) (heads : List LogHead) → foreign i (replicate n blank) heads ≡ None
none_foreign i zero heads = refl
none_foreign i (suc n) [] = refl
none_foreign i (suc n) (h ∷ heads) = none_foreign (suc i) n heads

none_disorder : (i n : ℕ) → disorder i (replicate n blank) ≡ None
none_disorder i zero = refl
none_disorder i (suc n) = none_disorder (suc i) n

none_top : (n : ℕ) → top_of (replicate n blank) ≡ 0
none_top zero = refl
none_top (suc n) = ap (max 0) (none_top n)

-- they merge to no node
merge_blank : (heads : List LogHead) (n : ℕ) → merge heads (replicate n blank) ≡ Ok []
merge_blank heads n =
    let logs : List Content = replicate n blank in
    let after : ℕ → Option RecoverFault = λ k. option_or (unlike logs k) (stray_above [] (nodes_to logs k)) in
    let nodes = nodes_to logs (top_of logs) in
    let later : Option RecoverFault = option_or (disorder 0 logs) (after (top_of logs)) in
    ap (λ (f : Option RecoverFault). unless (option_or f later) nodes) (none_foreign 0 n heads)
    ∙ (ap (λ (f : Option RecoverFault). unless (option_or f (after (top_of logs))) nodes) (none_disorder 0 n)
    ∙ ap (λ (k : ℕ). unless (after k) (nodes_to logs k)) (none_top n))

none_old : (i n : ℕ) → first_old i (replicate n (zero_lines 1)) ≡ None
none_old i zero = refl
none_old i (suc n) = none_old (i + 1) n

none_other : (threads n : ℕ) → other_threads threads (replicate n (zero_lines 1)) ≡ None
none_other threads zero = refl
none_other threads (suc n) = none_other threads n

no_entries : (n : ℕ) → have_entries (replicate n (zero_lines 1)) ≡ false
no_entries zero = refl
no_entries (suc n) = no_entries n

-- they are logs of any number of threads
no_misfit : (threads n : ℕ) → misfit threads (replicate n (zero_lines 1)) ≡ None
no_misfit threads n =
    let images : List (List (List ℕ)) = replicate n (zero_lines 1) in
    let gone : Option FilesFault = option_map Gone (first_gone images) in
    let other : Option FilesFault = option_map Threads (other_threads threads images) in
    ap (λ (o : Option ℕ). option_or (option_map OldFormat o) (option_or other gone)) (none_old 0 n)
    ∙ (ap (λ (o : Option ℕ). option_or (option_map Threads o) gone) (none_other threads n)
    ∙ ap (λ t. option_map Gone (cond {A = Option ℕ} t (first_headless 0 images) None)) (no_entries n))

-- ---- what files give
module _ {State Op Query Reply : Type 0} (b : Behaviour State Op Query Reply) where
  found_blank : (heads : List LogHead) (n : ℕ) → found_in b heads (replicate n (zero_lines 1)) ≡ Ok (recovered_with (replicate n blank) [])
  found_blank heads n =
      let images : List (List (List ℕ)) = replicate n (zero_lines 1) in
      let logs : List Content = replicate n blank in
      ap (λ (m : Option FilesFault). with_misfit m (state_recovered b heads images)) (no_misfit (length heads) n)
      ∙ (ap (λ (c : Result (List Content) ImagesFault). with_misfit None (with_operations b (merged heads c))) (contents_blank 0 n)
      ∙ ap (λ (m : Result (List Node) RecoverFault). with_misfit None (with_operations b (with_logs logs m))) (merge_blank heads n))

  hold_blank : (store : StoreView) (logs : List ℕ) (threads t n : ℕ) → LogsAreEmpty store logs threads → t + n ≤ threads
      → FilesHold logs t (replicate n (zero_lines 1)) store
  hold_blank store logs threads t zero empty low = tt
  hold_blank store logs threads t (suc n) empty low =
      (inr (empty t (omega (arith, low)), refl), hold_blank store logs threads (suc t) n empty (omega (arith, low)))

  blanks_many : (count object : ℕ) (init : List ℕ) (t n : ℕ)
      → length (replicate n (zero_lines 1)) ≡ length (heads_from count object init t n)
  blanks_many count object init t zero = refl
  blanks_many count object init t (suc n) = ap suc (blanks_many count object init (suc t) n)

  -- logs that were emptied give no update
  give_none : (store : StoreView) (logs : List ℕ) (code : ℕ) (init : List ℕ) (threads : ℕ) → AreCleared store logs → threads ≤ most_threads
      → FilesGive b store logs (heads_of code init threads) (Ok (recovered_with (replicate threads blank) []))
  give_none store logs code init threads empty few = record {
    images = replicate threads (zero_lines 1);
    many = blanks_many threads code init 0 threads;
    hold = hold_blank store logs most_threads 0 threads empty (omega (arith, few));
    gives = found_blank (heads_of code init threads) threads;
  }

  -- files give one thing
  one_found : (store : StoreView) (logs : List ℕ) (heads : List LogHead) (x y : Recovered) → store.tells ≡ true
      → FilesGive b store logs heads (Ok x) → FilesGive b store logs heads (Ok y) → x ≡ y
  one_found store logs heads x y on f g =
      let same = one_each store logs 0 f.images g.images on (f.many ∙ sym g.many) f.hold g.hold in
      let is : Ok x ≡ Ok y = sym f.gives ∙ (ap (found_in b heads) same ∙ g.gives) in
      (cc)

  module _ (code : ℕ) (description : State → List ℕ) (read_of : List ℕ → Option State) (first : State) (name : List ℕ) (threads : ℕ)
      (old new : StoreView) (place : ℕ) (state : State) (on : old.tells ≡ true)
      (h : HoldObject b code description read_of first name threads old place state) where
    -- the object is in its era still
    in_same : IsInEra read_of first new name h.era → LogsStay (era_logs name h.era.number) old new
        → HoldObject b code description read_of first name threads new place state
    in_same i stay = record {
      few = h.few;
      era = h.era;
      in_era = i;
      found = h.found;
      given = give_same b old new (era_logs name h.era.number) (era_heads code description threads h.era.state) (Ok h.found)
          (record { tells = stay.0; file = stay.1 on }) h.given;
      place_is = h.place_is;
      state_is = h.state_is;
    }

    -- or in the next one
    in_next : (next : Era State) → next ≡ next_of b h.era h.found.nodes → IsInEra read_of first new name next
        → AreCleared new (era_logs name next.number) → HoldObject b code description read_of first name threads new place state
    in_next next is i empty = record {
      few = h.few;
      era = next;
      in_era = i;
      found = recovered_with (replicate threads blank) [];
      given = give_none new (era_logs name next.number) code (description next.state) threads empty h.few;
      place_is = let here = ap (λ (e : Era State). e.place) is in let before = h.place_is in omega (arith, here, before);
      state_is = h.state_is ∙ sym (ap (λ (e : Era State). e.state) is);
    }

    in_either : (next : Era State) → next ≡ next_of b h.era h.found.nodes
        → (IsInEra read_of first new name h.era × LogsStay (era_logs name h.era.number) old new)
        ⊎ (IsInEra read_of first new name next × AreCleared new (era_logs name next.number))
        → HoldObject b code description read_of first name threads new place state
    in_either next is (inl stays) = in_same stays.0 stays.1
    in_either next is (inr begun) = in_next next is begun.0 begun.1

    cut_stands : IsEraCut read_of name old new h.era (next_of b h.era h.found.nodes)
        → HoldObject b code description read_of first name threads new place state
    cut_stands c =
        let next = next_of b h.era h.found.nodes in
        in_either next refl (stays_or_begins read_of first name old c.locked new h.era next refl c.lock c.others h.in_era c.area)

    next_stands : (next : Era State) → IsNextEra b code description read_of first name threads old new h.era next
        → HoldObject b code description read_of first name threads new place state
    next_stands next n =
        let heads = era_heads code description threads h.era.state in
        let same = one_found old (era_logs name h.era.number) heads n.found h.found on n.given h.given in
        in_next next (n.next_is ∙ ap (λ (f : Recovered). next_of b h.era f.nodes) same) n.in_next n.empty

    answer_stands : ((next : Era State) × IsNextEra b code description read_of first name threads old new h.era next)
        ⊎ StaysOrBegins b code description read_of first name threads old new h.era
        → HoldObject b code description read_of first name threads new place state
    answer_stands (inl n) = next_stands n.0 n.1
    answer_stands (inr (inl stays)) = in_same stays.0 stays.1
    answer_stands (inr (inr n)) = next_stands n.0 n.1

  pub era_cut_law : EraCutLaw b
  era_cut_law = cut_stands

  pub stands_law : EraStandsLaw b
  stands_law = answer_stands
