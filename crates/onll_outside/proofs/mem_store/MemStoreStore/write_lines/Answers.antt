use Rattle.std.proofs.Common.{Some, refl, ap, ◌∙◌}
use Rattle.onll_outside.specs.MemStore.{FilesHeld, texts_of, file_in}
use Rattle.onll_outside.proofs.WrittenFiles.{file_in-written, file_in-other}
use Rattle.onll_outside.proofs.mem_store.MemStoreStore.write_lines.Goals as goal

pub returns-clause-written : goal.returns-clause-written
returns-clause-written c tells =
    let name = c.args.name.now in
    let files = texts_of c.self.inside.files.items in
    ap (λ fs. file_in fs name) c.in-Ok-put_file.ensures.put ∙ file_in-written files name c.in-Ok.bytes.items ∙ ap Some c.in-Ok.ensures

pub returns-clause-others : goal.returns-clause-others
returns-clause-others c =
    let name = c.args.name.now in
    let files = texts_of c.self.inside.files.items in
    let before = ap (λ (s : FilesHeld). s.files) (c.self.view_is ∙ c.if-begin_call.ensures.called) in
    record {
      tells = refl;
      file = λ other no_name.
          ap (λ fs. file_in fs other) c.in-Ok-put_file.ensures.put ∙ file_in-other files name c.in-Ok.bytes.items other no_name ∙ ap (λ fs. file_in fs other) before;
    }
