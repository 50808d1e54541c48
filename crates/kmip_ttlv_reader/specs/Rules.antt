-- Rules in the names of variants: what they say of the texts that were read, and which variant they choose.
use Rattle.std.specs.Prelude.{ℕ, ◌+◌, Bool, true, false, List, [], ◌∷◌, take, length, ◌-◌, codes, eqb, nat_le, ◌==◌}
use Rattle.std.specs.Prelude.{if◌then◌else◌, Option, Some, None, option_map, option_and_then}
use Rattle.std.specs.Option.{option_or}
use Rattle.std.specs.List.{list_any, slice_split, ends_with}
use Rattle.std.specs.Str.{bytes_eq, trim}
use Rattle.kmip_ttlv_types.specs.declared.typ.TtlvType.{TtlvType}
use Rattle.kmip_ttlv_types.specs.declared.typ.TtlvType.TheVariants.{Structure, Integer, LongInteger, BigInteger}
use Rattle.kmip_ttlv_types.specs.declared.typ.TtlvType.TheVariants.{Enumeration, Boolean, TextString, ByteString}
use Rattle.kmip_ttlv_types.specs.declared.typ.TtlvType.TheVariants.{DateTime, Interval}
use Rattle.kmip_ttlv_types.specs.Names.{after_prefix, number, tag_of}
use Rattle.kmip_ttlv_base.specs.Errors.{Mismatch, invalid_rule, invalid_tag}
use Rattle.kmip_ttlv_base.specs.Forms.{Variants, no_variants, variant}
pub use Rattle.kmip_ttlv_reader.specs.TagValues.{last}
use Rattle.kmip_ttlv_reader.specs.TagValues.{TagValue}

-- what a variant's name says: it is no rule, or a rule that holds, that doesn't hold, or that is an error
pub data Verdict : Type 0 where
  no_rule : Verdict
  holds : Verdict
  fails : Verdict
  refused : Mismatch → Verdict

-- which variant is read: that of an index, or the one that a number names; or a rule is an error
pub data Choice : Type 0 where
  chosen : ℕ → Choice
  number_decides : Choice
  choice_invalid : Mismatch → Choice

-- the name of a type
abbrev pub type_name : TtlvType → List ℕ
type_name Structure = codes "Structure"
type_name Integer = codes "Integer"
type_name LongInteger = codes "LongInteger"
type_name BigInteger = codes "BigInteger"
type_name Enumeration = codes "Enumeration"
type_name Boolean = codes "Boolean"
type_name TextString = codes "TextString"
type_name ByteString = codes "ByteString"
type_name DateTime = codes "DateTime"
type_name Interval = codes "Interval"

-- what stands before the first place at which a text has a pattern, and what stands after the pattern there
abbrev pub cut : List ℕ → List ℕ → Option (List ℕ × List ℕ)
cut pattern [] = option_map (λ rest. ([], rest)) (after_prefix pattern [])
cut pattern (c ∷ cs) =
    option_or
    (option_map (λ rest. ([], rest)) (after_prefix pattern (c ∷ cs)))
    (option_map (λ x. (c ∷ x.0, x.1)) (cut pattern cs))

-- the sides of an operator, trimmed
unfoldable pub sides : List ℕ → List ℕ → Option (List ℕ × List ℕ)
sides operator body = option_map (λ x. (trim x.0, trim x.1)) (cut operator body)

-- what comes before a suffix, if a text has it
abbrev pub before_suffix : List ℕ → List ℕ → Option (List ℕ)
before_suffix suffix s = if ends_with eqb s suffix then Some (take (length s - length suffix) s) else None

-- what stands between brackets, if a text begins with one and ends with a later one
unfoldable pub in_brackets : List ℕ → Option (List ℕ)
in_brackets s = option_and_then (before_suffix (codes "]")) (after_prefix (codes "[") s)

-- the verdict of a rule without an error
abbrev pub plain_verdict : Bool → Verdict
plain_verdict true = holds
plain_verdict false = fails

-- what follows from a number, where a text is one; else an error with that text
abbrev pub needs : Option ℕ → List ℕ → (ℕ → Verdict) → Verdict
needs None s follows = refused (invalid_tag s)
needs (Some n) s follows = follows n

-- what follows from a text, if there is one; otherwise the rule doesn't hold
abbrev pub with_text : Option (List ℕ) → (List ℕ → Verdict) → Verdict
with_text None follows = fails
with_text (Some text) follows = follows text

-- `==`: the item's type has this name, or the last text stored under a tag is this one; if there is no such tag, the rule doesn't hold
unfoldable pub equal : List TagValue → TtlvType → List ℕ → List ℕ → Verdict
equal ks typ l x =
    if bytes_eq l (codes "type")
    then plain_verdict (bytes_eq x (type_name typ))
    else with_text (option_and_then (last ks) (tag_of l)) (λ text. plain_verdict (bytes_eq text x))

-- `>=`: the last text stored under a tag is at least this number; an error with what is no tag or no number
unfoldable pub at_least : List TagValue → List ℕ → List ℕ → Verdict
at_least ks l x =
    needs (tag_of l) l (λ t.
    with_text (last ks t) (λ text.
    needs (number text) text (λ m.
    needs (number x) x (λ n.
    plain_verdict (nat_le n m)))))

-- `in`: the last text stored under a tag is one of those between brackets and commas, trimmed; an error with what is no
-- tag
unfoldable pub member : List TagValue → List ℕ → List ℕ → Verdict
member ks l x =
    with_text (in_brackets x) (λ all.
    needs (tag_of l) l (λ t.
    with_text (last ks t) (λ text.
    plain_verdict (list_any (λ m. bytes_eq (trim m) text) (slice_split (λ c. c == 44) all)))))

-- what an operator says of its sides, if it stands in the text; otherwise another verdict
abbrev pub by : Option (List ℕ × List ℕ) → (List ℕ → List ℕ → Verdict) → Verdict → Verdict
by None operator other = other
by (Some x) operator other = operator x.0 x.1

-- the verdict of what follows `if `, if a name begins so: by `==`; if that stands nowhere, by `>=`; then by `in`
abbrev pub verdict : List ℕ → Option (List ℕ) → List TagValue → TtlvType → Verdict
verdict name None ks typ = no_rule
verdict name (Some body) ks typ =
    by (sides (codes "==") body) (equal ks typ) (
    by (sides (codes ">=") body) (at_least ks) (
    by (sides (codes "in") body) (member ks) (refused (invalid_rule name))))

-- what a variant's name says of the stored texts and of an item's type
unfoldable pub rule : List ℕ → List TagValue → TtlvType → Verdict
rule name ks typ = verdict name (after_prefix (codes "if ") name) ks typ

-- a choice among the variants that follow one
abbrev pub past : ℕ → Choice → Choice
past n (chosen i) = chosen (n + i)
past n number_decides = number_decides
past n (choice_invalid m) = choice_invalid m

-- the choice by what the first variant's name says, and else that among the others
abbrev pub first_by : Verdict → Choice → Choice
first_by no_rule c = past 1 c
first_by holds c = chosen 0
first_by fails c = past 1 c
first_by (refused m) c = choice_invalid m

-- the first variant whose rule holds, if no rule before it is an error
abbrev pub choice : Variants → List TagValue → TtlvType → Choice
choice no_variants ks typ = number_decides
choice (variant name c vs) ks typ = first_by (rule name ks typ) (choice vs ks typ)
