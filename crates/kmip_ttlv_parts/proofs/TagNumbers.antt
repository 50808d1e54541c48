-- Tags by their numbers: what is true of the names that stand for them.
use Rattle.std.proofs.Common.{◌≡◌, ℕ, ◌%◌, ◌^◌, Bool as Boole, true, false, ◌==◌, Some, None, Option, refl, ap, ◌∙◌}
use Rattle.std.specs.Prelude.{◌||◌}
use Rattle.std.proofs.lemmas.Bool.{eq-eqb}
use Rattle.kmip_ttlv_types.specs.Digits.{tag_text}
use Rattle.kmip_ttlv_base.specs.Forms.{Form}
use Rattle.kmip_ttlv_base.proofs.TagNames.{tag_of_number}
use Rattle.kmip_ttlv_ser.specs.declared.pending.PendingTag.{TheVariants.Nothing, TheVariants.Overriding}
use Rattle.kmip_ttlv_ser.specs.WrittenItems.{take_tag}
use Rattle.kmip_ttlv_reader.specs.Reads.{has_tag, is_struct}
use Rattle.kmip_ttlv_parts.specs.Agreements.{Head, is_field_of, is_named}

-- the number of a tag: it has three bytes
abbrev pub IsTag : ℕ → Type 0
IsTag t = t % 2 ^ 24 ≡ t

-- a number's text is taken as the tag of its last three bytes
pub takes_number : (t : ℕ) → take_tag Nothing (tag_text t) ≡ Some (t % 2 ^ 24)
unfolding take_tag
takes_number t = tag_of_number t

-- so a tag's as that tag
pub takes_tag : (t : ℕ) → IsTag t → take_tag Nothing (tag_text t) ≡ Some t
takes_tag t is = takes_number t ∙ ap Some is

-- and under another one that overrides as that
pub takes_overriding : (t u : ℕ) → take_tag (Overriding u) (tag_text t) ≡ Some u
unfolding take_tag
takes_overriding t u = rw (tag_of_number t) refl

-- its text is the name of that tag alone
pub has_that : (t u : ℕ) → IsTag t → has_tag (tag_text t) u ≡ (t == u)
has_that t u is = rw (tag_of_number t, is) refl

pub has_own : (t : ℕ) → IsTag t → has_tag (tag_text t) t ≡ true
has_own t is = has_that t t is ∙ eq-eqb t t refl

-- there is a next item, and it has this tag
abbrev pub is_tagged : ℕ → Option Head → Boole
is_tagged t None = false
is_tagged t (Some x) = t == x.tag

-- there is a tag, and it is this one
abbrev pub is_first : ℕ → Option ℕ → Boole
is_first u None = false
is_first u (Some t) = u == t

pub named_is_tagged : (t : ℕ) (y : Option Head) → IsTag t → is_named (tag_text t) y ≡ is_tagged t y
named_is_tagged t None is = refl
named_is_tagged t (Some x) is = has_that t x.tag is

either : (a b : Boole) → b ≡ true → (a || b) ≡ true
either true b e = refl
either false b e = e

-- an item is in the field of its tag
pub in_its_field : (s : Form) (x : Head) → IsTag x.tag → is_field_of (tag_text x.tag) s x ≡ true
in_its_field s x is = either (is_struct s) (has_tag (tag_text x.tag) x.tag) (has_own x.tag is)
