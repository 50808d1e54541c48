use Rattle.std.proofs.Common.{◌≡◌, [], sym, ◌∙◌}
use Rattle.std.proofs.lemmas.List.{nil_from_length}
use Rattle.std.proofs.lemmas.Bool.{eqb-true}
use Rattle.std.specs.HashMap.{hash_map_len}
use Rattle.kmip_ttlv_names.specs.OwnNames.{value_key}
use Rattle.ttlv_run.proofs.Bits.{no_entries, no_name}
use Rattle.ttlv_run.proofs.masks.is_unnamed.Goals as goal

pub returns-then-is_empty : goal.returns-then-is_empty
returns-then-is_empty g c = λ is tag value.
    let none : hash_map_len c.args.names.now.own ≡ 0 = c.is_empty-then-is_empty.ensures.0 is in
    let empty : c.args.list.now ≡ [] = nil_from_length c.args.list.now (eqb-true _ _ (sym c.is_empty.ensures ∙ c.if-is_empty.true)) in
    rw (empty, no_name c.args.names.now.own none (value_key tag value)) (no_entries value)
