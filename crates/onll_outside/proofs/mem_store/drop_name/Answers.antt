use Rattle.std.proofs.Common.{not, ap, map, ◌∙◌, rules}
use Rattle.std.specs.Str.{bytes_eq}
use Rattle.std.specs.String.{string_bytes}
use Rattle.std.proofs.lemmas.Fn.{filter_same}
use Rattle.onll_outside.proofs.FilteredNames.{map-filter}
use Rattle.onll_outside.proofs.mem_store.drop_name.Goals as goal

pub returns : goal.returns
returns c = let name = c.args.name.now in
    ap (map string_bytes) (filter_same _ (λ n. not (bytes_eq (string_bytes n) name)) _ (λ x b f' k. search rules) _ _ c.retain.ensures.filtered)
    ∙ map-filter string_bytes (λ n. not (bytes_eq n name)) c.args.names.now.items
