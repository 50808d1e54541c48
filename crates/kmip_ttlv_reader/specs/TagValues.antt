-- The texts that were read, without where they lie in memory, and the last of each tag.
use Rattle.std.specs.Prelude.{◌≡◌, ℕ, List, Option, None, option_map, filter, ◌==◌, refl}
use Rattle.std.specs.List.{last_or}
use Rattle.std.specs.Coded.{Coded, code_by, coded×, coded_ℕ, coded_list}
use Rattle.kmip_ttlv_types.specs.Names.{number}

-- a text under the tag of the item that it was read from
pub record TagValue : Type 0 where
  pub tag : ℕ
  pub text : List ℕ

-- the last text stored under a tag
abbrev pub last : List TagValue → ℕ → Option (List ℕ)
last ks t = option_map (λ k. k.text) (last_or None (filter (λ k. k.tag == t) ks))

-- a text beside the number that it is, if it is one
abbrev pub with_number : List ℕ → List ℕ × Option ℕ
with_number s = (s, number s)

-- of each tag, what is found is the last text stored under it, beside its number
abbrev pub HoldsLast : (ℕ → Option (List ℕ × Option ℕ)) → List TagValue → Type 0
HoldsLast found ks = (t : ℕ) → found t ≡ option_map with_number (last ks t)

-- stored texts are stored as pairs of a tag and a text
abbrev pub tag_values_code : Coded (List TagValue)
tag_values_code =
    coded_list (code_by (ℕ × List ℕ) (coded× coded_ℕ (coded_list coded_ℕ))
    (λ k. (k.tag, k.text)) (λ p. record { tag = p.0; text = p.1 }) (λ _. refl))
