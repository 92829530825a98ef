use Rattle.std.proofs.Common.{◌≡◌, drop}
use Rattle.onll_outside.specs.MemStore.{texts_of, file_in}
use Rattle.onll_outside.proofs.mem_store.find.Given as goal

-- the file is not among those passed
abbrev pub invariant-loop-file : goal.invariant-loop-file
invariant-loop-file l = file_in (texts_of (drop l.file-index l.files)) l.name ≡ file_in (texts_of l.files) l.name
