use Rattle.std.proofs.Common.{◌≡◌, length, refl, ap, ◌∙◌, arith}
use Rattle.onll_outside.specs.MemStore.{texts_of, place_in}
use Rattle.onll_outside.proofs.WrittenFiles.{set_texts, push_texts}
use Rattle.onll_outside.proofs.mem_store.put_file.Goals as goal

pub returns-then-place-len-clause-put : goal.returns-then-place-len-clause-put
returns-then-place-len-clause-put c =
    set_texts (record { name = c.index_mut.result.now.name; bytes = c.args.bytes }) c.args.name.now c.args.files.now.items c.place_of-place.result c.index_mut.result.now
    (omega arith) c.index_mut.ensures.value refl (c.place_of-place.ensures.place ∙ ap (λ fs. place_in (texts_of fs) c.args.name.now) c.deref.ensures.value)

pub returns-clause-put : goal.returns-clause-put
returns-clause-put c =
    let files = c.args.files.now.items in
    let place = c.place_of-place.ensures.place ∙ ap (λ fs. place_in (texts_of fs) c.args.name.now) c.deref.ensures.value in
    let last : place_in (texts_of files) c.args.name.now ≡ length files = omega (arith, place, c.place_of-place.ensures.within, ap length c.deref.ensures.value) in
    ap texts_of c.in-Ok-push.ensures.items ∙ push_texts files (record { name = c.in-Ok.name; bytes = c.args.bytes }) c.args.name.now c.in-Ok.ensures.ok last
