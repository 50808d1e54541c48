-- The header that a message's own fields are, and that messages with one header have the same fields.
use Rattle.std.proofs.Common.{◌≡◌, ◌∙◌, ap, subst, sym, Bool as Boole, true}
use Rattle.std.specs.Prelude.{◌&&◌}
use Rattle.std.proofs.Math.Bool.{and_assoc}
use Rattle.kmip_ttlv_base.specs.Values.{Values}
use Rattle.kmip_ttlv_kinds.specs.Parts.{IsWithinSound, Told, told_parts, within}
use Rattle.create_destroy.specs.declared.header.{RequestHeader.RequestHeader, ResponseHeader.ResponseHeader}
use Rattle.create_destroy.specs.declared.messages.{Request.Request, Response.Response}

-- the header of a request
abbrev pub request_header : {A : Type 0} → Request A → RequestHeader
request_header x = record { version = record { major = x.major; minor = x.minor }; batch_count = x.batch_count }

-- the header of a response
abbrev pub response_header : {A : Type 0} → Response A → ResponseHeader
response_header x =
    record { version = record { major = x.major; minor = x.minor }; time_stamp = record { 0 = x.timestamp }; batch_count = x.batch_count }

-- what is decided of a version and a count, and of the items behind them, is decided of a request's fields
pub of_request : (major minor count items : Boole) → ((major && minor) && count) && items ≡ true → major && (minor && (count && items)) ≡ true
of_request major minor count items all = sym (and_assoc (major && minor) count items ∙ and_assoc major minor (count && items)) ∙ all

-- and of a response's
pub of_response : (major minor time count items : Boole) → ((major && minor) && (time && count)) && items ≡ true
    → major && (minor && (time && (count && items))) ≡ true
of_response major minor time count items all =
    sym (
    and_assoc (major && minor) (time && count) items
    ∙ and_assoc major minor ((time && count) && items)
    ∙ ap (λ rest. major && (minor && rest)) (and_assoc time count items)
    )
    ∙ all

-- what is told of one header, and of what is behind it, is told of an equal one
pub told_alike : {H K : Type 0} (f : H × K → Values) (P : H × K → Type 0) (IsTold : Told → Type 0) {h k : H} (behind : K) → h ≡ k
    → IsTold (told_parts (within f (h, behind)) (IsWithinSound P (h, behind)))
    → IsTold (told_parts (within f (k, behind)) (IsWithinSound P (k, behind)))
told_alike f P IsTold behind same told =
    subst (λ x. IsTold (told_parts (within f (x, behind)) (IsWithinSound P (x, behind)))) same told
