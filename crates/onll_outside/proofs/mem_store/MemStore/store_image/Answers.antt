use Rattle.std.proofs.Common.{Some, refl, ap, ◌∙◌, inr}
use Rattle.onll_pmem.specs.Device.{image_of}
use Rattle.onll_outside.specs.MemStore.{FilesHeld, texts_of, file_in}
use Rattle.onll_outside.proofs.WrittenFiles.{file_in-written, file_in-other, told_image}
use Rattle.onll_outside.proofs.mem_store.MemStore.store_image.Goals as goal

pub returns-clause-kept : goal.returns-clause-kept
returns-clause-kept c tells =
    let name = c.args.name.now in
    let files = texts_of c.self.inside.files.items in
    (image_of c.args.device.now.device 0, ap (λ fs. file_in fs name) c.in-Ok-put_file.ensures.put ∙ file_in-written files name c.in-Ok.bytes.items ∙ ap Some c.in-Ok.ensures.bytes, told_image c.args.device.now (image_of c.args.device.now.device 0) c.in-Ok.ensures.image)

pub returns-clause-file : goal.returns-clause-file
returns-clause-file c tells =
    let name = c.args.name.now in
    let files = texts_of c.self.inside.files.items in
    inr (image_of c.args.device.now.device 0, ap (λ fs. file_in fs name) c.in-Ok-put_file.ensures.put ∙ file_in-written files name c.in-Ok.bytes.items ∙ ap Some c.in-Ok.ensures.bytes, told_image c.args.device.now (image_of c.args.device.now.device 0) c.in-Ok.ensures.image)

pub returns-clause-others : goal.returns-clause-others
returns-clause-others c =
    let name = c.args.name.now in
    let files = texts_of c.self.inside.files.items in
    let before = ap (λ (s : FilesHeld). s.files) (c.self.view_is ∙ c.if-begin_call.ensures.called) in
    record {
      tells = refl;
      file = λ other no_name.
          ap (λ fs. file_in fs other) c.in-Ok-put_file.ensures.put ∙ file_in-other files name c.in-Ok.bytes.items other no_name ∙ ap (λ fs. file_in fs other) before;
    }
