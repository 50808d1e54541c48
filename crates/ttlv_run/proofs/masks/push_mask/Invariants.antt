use Rattle.std.proofs.Common.{◌≡◌, ◌≤◌, ◌++◌, ◌^◌, ℕ, List, Bor}
use Rattle.std.specs.Prelude.{option_map}
use denote.Text.{Utf8}
use denote.Shadow.{shadow}
use Rattle.kmip_ttlv_names.specs.ValueNames.{name_of_value}
use Rattle.kmip_ttlv_util.specs.{TagNames.name_in, Pieces.SomeText}
use Rattle.ttlv_run.specs.Masks.{bit_names, mask_names, value_in, value_named}
use Rattle.ttlv_run.proofs.Bits.{Place}
use Rattle.ttlv_run.proofs.masks.push_mask.Given as goal

abbrev pub invariant-bits : goal.invariant-bits
invariant-bits g l = shadow (Utf8 l.entries)
    × (p : Place l.place l.rest)
    × SomeText (λ t. mask_names (value_named (name_in l.names.own) (option_map (λ (s : Bor (List ℕ)). s.now) l.list) l.tag) l.mask ≡ t ++ bit_names
    (value_named (name_in l.names.own) (option_map (λ (s : Bor (List ℕ)). s.now) l.list) l.tag) p.left (2 ^ l.place) l.rest l.is_first)
    (λ t. g.S.TextSink.adds l.fn.out t l.out)
    × ((value : ℕ) → 2 ^ l.place ≤ value → value_in (option_map (λ (s : Bor (List ℕ)). s.now) l.list) value ≡ name_of_value value l.entries)

abbrev pub decreases-bits : goal.decreases-bits
decreases-bits g l = l.rest
