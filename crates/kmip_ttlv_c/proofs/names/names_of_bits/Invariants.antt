use Rattle.std.proofs.Common.{◌≡◌, ◌-◌, ◌^◌}
use Rattle.std.specs.Prelude.{string_bytes}
use Rattle.kmip_ttlv_names.specs.ValueNames.{name_of_value}
use Rattle.kmip_ttlv_c.specs.NameTexts.{bits_joined, mask_text}
use Rattle.kmip_ttlv_c.proofs.names.names_of_bits.Given as goal

abbrev pub invariant-loop-place : goal.invariant-loop-place
invariant-loop-place l = bits_joined (λ bit. name_of_value bit l.list) (32 - l.place) (2 ^ l.place) l.rest (string_bytes l.text)
    ≡ mask_text (λ bit. name_of_value bit l.list) l.mask
