use Rattle.std.proofs.Common.{ℕ, ◌≡◌, [], length, get_or, map, take, sym, ap, subst, ◌∙◌, arith}
use Rattle.std.proofs.lemmas.List.{length-map, length-take}
use Rattle.onll_log.specs.declared.head.LogHead.{LogHead}
use Rattle.onll_log.specs.Head.{word}
use Rattle.onll_log.specs.Grammar.{is_entry, node_of_line}
use Rattle.onll_pmem.specs.Pmem.{words_of}
use Rattle.onll_standby.specs.declared.holdings.LogTail.{LogTail}
use Rattle.onll_standby.proofs.Taking.{header_by, head_read, named_of, not_whole, has_fault, has_none}
use Rattle.onll_standby.proofs.entry.take_entry.Goals as goal

pub bounds-holdings-thread : goal.bounds-holdings-thread
bounds-holdings-thread g c = let h = header_by c.args.heads.now c.args.holdings.now.logs c.args.header.now.w c.requires.heads c.requires.begun in let t = h.thread in let f = h.few_threads in omega arith

pub bounds-heads-thread : goal.bounds-heads-thread
bounds-heads-thread g c = let h = header_by c.args.heads.now c.args.holdings.now.logs c.args.header.now.w c.requires.heads c.requires.begun in h.thread

pub is_entry-requires-clause-threads : goal.is_entry-requires-clause-threads
is_entry-requires-clause-threads g c = let h = header_by c.args.heads.now c.args.holdings.now.logs c.args.header.now.w c.requires.heads c.requires.begun in let r = ap (λ (z : LogHead). z.threads) (head_read _ _ _ h (record { thread = 0; threads = 0; object = 0; digest = []; format = 0 })) in let t = h.threads in let f = h.few_threads in omega arith

pub nodes_of-all-requires-clause-few : goal.nodes_of-all-requires-clause-few
nodes_of-all-requires-clause-few g c = let h = header_by c.args.heads.now c.args.holdings.now.logs c.args.header.now.w c.requires.heads c.requires.begun in let n = h.few_nodes in let f = h.few_threads in let w = c.requires.whole in omega arith

pub offset_bounds-holdings-thread : goal.offset_bounds-holdings-thread
offset_bounds-holdings-thread g c = let h = header_by c.args.heads.now c.args.holdings.now.logs c.args.header.now.w c.requires.heads c.requires.begun in let t = h.thread in let f = h.few_threads in omega arith

pub offset_bounds-heads-thread : goal.offset_bounds-heads-thread
offset_bounds-heads-thread g c = let h = header_by c.args.heads.now c.args.holdings.now.logs c.args.header.now.w c.requires.heads c.requires.begun in let t = h.thread in let f = h.few_threads in omega arith

pub returns-then-not-is_entry-clause-taken : goal.returns-then-not-is_entry-clause-taken
returns-then-not-is_entry-clause-taken g c start es at is keeps =
    let whole : length (words_of c.args.rest.now) ≡ word c.args.header.now.w 4 = length-map c.args.rest.now _ ∙ c.requires.whole in
    not_whole g.O.Object.means start c.args.heads.now es at c.args.holdings.now c.args.header.now.w (words_of c.args.rest.now) c.requires.heads c.requires.begun whole keeps
    _ _ c.args.begins is (sym c.is_entry.ensures ∙ c.if-not-is_entry.true)

pub nodes_of-all-requires-clause-named : goal.nodes_of-all-requires-clause-named
nodes_of-all-requires-clause-named g c =
    let whole : length (words_of c.args.rest.now) ≡ word c.args.header.now.w 4 = length-map c.args.rest.now _ ∙ c.requires.whole in
    let h = header_by c.args.heads.now c.args.holdings.now.logs c.args.header.now.w c.requires.heads c.requires.begun in
    let z : LogHead = record { thread = 0; threads = 0; object = 0; digest = []; format = 0 } in
    let d : LogTail = record { entries = 0; last = 0 } in
    let before : ℕ = (get_or c.args.holdings.now.logs (word c.args.header.now.w 1) d).entries in
    named_of c.args.heads.now c.args.holdings.now.logs c.args.header.now.w (words_of c.args.rest.now) h before whole
    (ap (λ (x : LogHead). is_entry x before c.args.header.now.w (words_of c.args.rest.now)) (sym (head_read _ _ _ h z)) ∙ (sym c.is_entry.ensures ∙ c.if-not-is_entry.false))

pub fault_of-requires-clause-places : goal.fault_of-requires-clause-places
fault_of-requires-clause-places g c κs within =
    let h = header_by c.args.heads.now c.args.holdings.now.logs c.args.header.now.w c.requires.heads c.requires.begun in let a = h.from_one in let p = h.place in let f = h.few_threads in
    let l = length-take (word c.args.header.now.w 4) c.nodes_of-all.result in (omega arith, omega arith)

pub admit-requires-clause-places : goal.admit-requires-clause-places
admit-requires-clause-places g c κs within =
    let h = header_by c.args.heads.now c.args.holdings.now.logs c.args.header.now.w c.requires.heads c.requires.begun in let a = h.from_one in let p = h.place in let r = c.requires.room in
    let l = length-take (word c.args.header.now.w 4) c.nodes_of-all.result in (omega arith, omega arith)

pub returns-in-Some-clause-taken : goal.returns-in-Some-clause-taken
returns-in-Some-clause-taken g c start es at is keeps =
    let whole : length (words_of c.args.rest.now) ≡ word c.args.header.now.w 4 = length-map c.args.rest.now _ ∙ c.requires.whole in
    let read : take (word c.args.header.now.w 4) c.nodes_of-all.result ≡ map node_of_line (words_of c.args.rest.now) =
    subst (λ (n : ℕ). take n c.nodes_of-all.result ≡ map node_of_line (words_of c.args.rest.now)) c.requires.whole c.nodes_of-all.ensures.nodes in
    has_fault g.O.Object.means start c.args.heads.now es at c.args.holdings.now c.args.header.now.w (words_of c.args.rest.now) c.requires.heads c.requires.begun whole keeps
    (take (word c.args.header.now.w 4) c.nodes_of-all.result) read
    _ _ c.args.begins c.in-Some.fault is (sym c.is_entry.ensures ∙ c.if-not-is_entry.false) (sym (c.fault_of.ensures es keeps.logs keeps.places) ∙ c.in-Some.is)

pub returns-clause-taken : goal.returns-clause-taken
returns-clause-taken g c start es at is keeps =
    let whole : length (words_of c.args.rest.now) ≡ word c.args.header.now.w 4 = length-map c.args.rest.now _ ∙ c.requires.whole in
    let read : take (word c.args.header.now.w 4) c.nodes_of-all.result ≡ map node_of_line (words_of c.args.rest.now) =
    subst (λ (n : ℕ). take n c.nodes_of-all.result ≡ map node_of_line (words_of c.args.rest.now)) c.requires.whole c.nodes_of-all.ensures.nodes in
    let clean = sym (c.fault_of.ensures es keeps.logs keeps.places) ∙ c.in_default.is in
    has_none g.O.Object.means start c.args.heads.now es at c.args.holdings.now c.args.header.now.w (words_of c.args.rest.now) c.requires.heads c.requires.begun whole keeps
    (take (word c.args.header.now.w 4) c.nodes_of-all.result) read
    _ _ c.args.begins c.admit.result c.admit.new.self is (sym c.is_entry.ensures ∙ c.if-not-is_entry.false) clean (c.admit.ensures.admitted start (length c.args.heads.now) es c.args.begins keeps clean)
