use Rattle.std.proofs.Common.{◌≡◌, true, false, eqb, codes, subst}
use Rattle.std.specs.List.{starts_with}
use Rattle.kmip_ttlv_types.specs.Names.{override_name}
use Rattle.kmip_ttlv_ser.proofs.Prefixes.{stripped, lacks_prefix, has_prefix}
use Rattle.kmip_ttlv_ser.proofs.names.override_name.Goals as goal

pub returns : goal.returns
unfolding override_name
returns c = stripped (codes "Override:") c.args.name.now c.strip_prefix.result c.strip_prefix.ensures.cases

pub returns-then-not-begins : goal.returns-then-not-begins
unfolding override_name
returns-then-not-begins c =
    lacks_prefix (codes "Override:") c.args.name.now (subst (λ s. false ≡ starts_with eqb s (codes "Override:")) c.as_bytes.ensures.value
    c.if-not-begins.ensures)

pub returns-then-is_char_boundary : goal.returns-then-is_char_boundary
unfolding override_name
returns-then-is_char_boundary c =
    has_prefix (codes "Override:") c.args.name.now _ (subst (λ s. true ≡ starts_with eqb s (codes "Override:")) c.as_bytes.ensures.value
    c.if-not-begins.ensures) c.range_from.ensures.value
