-- What images give to scripts that go on from them.
use Rattle.std.proofs.Common.{ℕ, ◌≡◌, ◌+◌, List, [], ◌∷◌, length, map, Option, Some, None, Result, Ok, Err, sym, refl, ap, ◌∙◌, subst, arith, count_by}
use Rattle.std.proofs.lemmas.List.{length-map}
use Rattle.onll_model.specs.declared.node.Node.{Node}
use Rattle.onll_model.specs.declared.call.Call.{Call}
use Rattle.onll_model.specs.Object.{Behaviour}
use Rattle.onll_model.specs.Trace.{is_of_thread}
use Rattle.onll_model.specs.Calls.{updates_in}
use Rattle.onll_log.specs.declared.head.LogHead.{LogHead}
use Rattle.onll_log.specs.Grammar.{Content, used_by}
use Rattle.onll_merge.specs.Merge.{unless}
use Rattle.onll_merge.specs.Recovered.{Recovered, log_counts}
use Rattle.onll_start.specs.declared.fault.ResumeFault.{ResumeFault}
use Rattle.onll_start.specs.declared.fault.ResumeFault.TheVariants.{TooMany}
use Rattle.onll_start.specs.Start.{Found, is_too_many, too_many, found_in, with_room, base_in}
use Rattle.onll_start.specs.Found.{IsFound}
use Rattle.onll_start.specs.Based.{HaveRoom, BaseLaw}
use Rattle.onll_start.proofs.Contents.{contents_are, has_room, unless_some}
use Rattle.onll_start.proofs.Finding.{has_found, whole_operations}

module _ {State Op Query Reply : Type 0} where
  have_room : (threads : ℕ) (nodes : List Node) (t : ℕ) (logs : List Content) (scripts : List (List (Call State Op Query Reply))) → length logs ≡ length scripts
      → too_many threads nodes t (map log_counts logs) scripts ≡ None → HaveRoom threads nodes t logs scripts
  have_room threads nodes t [] [] n e = tt
  have_room threads nodes t [] (s ∷ ss) n e = absurd (omega arith)
  have_room threads nodes t (c ∷ cs) [] n e = absurd (omega arith)
  have_room threads nodes t (c ∷ cs) (s ∷ ss) n e =
      let x = unless_some (is_too_many threads (count_by (is_of_thread t) nodes) (used_by c) (updates_in s)) (TooMany t) (too_many threads nodes (t + 1) (map log_counts cs) ss) e in
      let room = has_room threads (count_by (is_of_thread t) nodes) (used_by c) (updates_in s) x.0 in
      (room.0, room.1, have_room threads nodes (t + 1) cs ss (omega arith) x.1)

  module _ (b : Behaviour State Op Query Reply) where
    unless_ok : (o : Option ResumeFault) (v found : Found) → unless o v ≡ Ok found → (o ≡ None) × (v ≡ found)
    unless_ok None v found e = (refl, (cc))
    unless_ok (Some fault) v found e = absurd (cc)

    pub of_room : (heads : List LogHead) (scripts : List (List (Call State Op Query Reply))) (r : Result Found ResumeFault) (found : Found) → with_room b heads scripts r ≡ Ok found
        → (r ≡ Ok found) × (too_many (length heads) found.nodes 0 (map log_counts found.logs) scripts ≡ None)
    of_room heads scripts (Ok f) found e =
        let x = unless_ok (too_many (length heads) f.nodes 0 (map log_counts f.logs) scripts) f found e in
        let here : Result Found ResumeFault = Ok f in
        subst (λ (z : Found). (here ≡ Ok z) × (too_many (length heads) z.nodes 0 (map log_counts z.logs) scripts ≡ None)) x.1 (refl, x.0)
    of_room heads scripts (Err fault) found e = absurd (cc)

    pub base_is : BaseLaw b
    base_is heads scripts images found many e =
        let x = of_room heads scripts (found_in b heads images) found e in
        let h = has_found b heads images found x.0 in
        let contents = contents_are 0 images found.logs h.contents in
        let long : length found.logs ≡ length images = sym (length-map found.logs Some) ∙ (ap length (sym contents) ∙ length-map images _) in
        record {
          contents = contents;
          merged = h.merged;
          operations = whole_operations b found.nodes h.rows;
          room = have_room (length heads) found.nodes 0 found.logs scripts (long ∙ many) x.1;
        }

    -- ---- as the code finds it
    module _ (heads : List LogHead) (scripts : List (List (Call State Op Query Reply))) (images : List (List (List ℕ))) (as_many : length images ≡ length scripts) (heads_many : length heads ≡ length scripts)
        (r : Recovered) (found : IsFound (found_in b heads images) r) where
      logs_told : r.logs ≡ map log_counts found.all.logs
      logs_told = ap (λ (x : Recovered). x.logs) found.told

      nodes_told : r.nodes ≡ found.all.nodes
      nodes_told = ap (λ (x : Recovered). x.nodes) found.told

      pub counts_many : length r.logs ≡ length scripts
      counts_many =
          let h = has_found b heads images found.all found.is in
          let m : length found.all.logs ≡ length images = sym (length-map found.all.logs Some) ∙ (ap length (sym (contents_are 0 images found.all.logs h.contents)) ∙ length-map images _) in
          ap length logs_told ∙ (length-map found.all.logs log_counts ∙ (m ∙ as_many))

      told_room : (n : ℕ) → n ≡ length scripts → too_many n r.nodes 0 r.logs scripts ≡ too_many (length heads) found.all.nodes 0 (map log_counts found.all.logs) scripts
      told_room n e = let m = e ∙ sym heads_many in let a = nodes_told in let l = logs_told in λ i. too_many (m i) (a i) 0 (l i) scripts

      of_found : base_in b heads scripts images ≡ unless (too_many (length heads) found.all.nodes 0 (map log_counts found.all.logs) scripts) found.all
      of_found = ap (with_room b heads scripts) found.is

      pub based : (n : ℕ) → n ≡ length scripts → too_many n r.nodes 0 r.logs scripts ≡ None → IsFound (base_in b heads scripts images) r
      based n size none = record {
        all = found.all;
        is = of_found ∙ ap (λ (o : Option ResumeFault). unless o found.all) (sym (told_room n size) ∙ none);
        told = found.told;
      }

      pub not_based : (n : ℕ) (e : ResumeFault) → n ≡ length scripts → too_many n r.nodes 0 r.logs scripts ≡ Some e → base_in b heads scripts images ≡ Err e
      not_based n e size some = of_found ∙ ap (λ (o : Option ResumeFault). unless o found.all) (sym (told_room n size) ∙ some)

    pub none_found : (heads : List LogHead) (scripts : List (List (Call State Op Query Reply))) (images : List (List (List ℕ))) (e : ResumeFault) → found_in b heads images ≡ Err e → base_in b heads scripts images ≡ Err e
    none_found heads scripts images e h = ap (with_room b heads scripts) h
