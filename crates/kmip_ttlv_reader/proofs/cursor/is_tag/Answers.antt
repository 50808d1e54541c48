use Rattle.std.proofs.Common.{◌≡◌, ℕ, ◌%◌, ◌^◌, ◌==◌, refl, rules}
use Rattle.kmip_ttlv_types.specs.Digits.{tag_text}
use Rattle.kmip_ttlv_base.proofs.TagNames.{tag_of_number}
use Rattle.kmip_ttlv_reader.specs.Reads.{has_tag}
use Rattle.kmip_ttlv_reader.proofs.cursor.is_tag.Goals as goal

-- a number's text is the name of the tag of its last three bytes alone
has_tag_number : (n t : ℕ) → has_tag (tag_text n) t ≡ (n % 2 ^ 24 == t)
has_tag_number n t = rw (tag_of_number n) refl

pub returns : goal.returns
returns c =
    let is = has_tag_number c.args.tag c.args.found in
    search (rules, is)
