-- A sound structure comes back as an equal one.
use Rattle.std.proofs.Common.{◌≡◌, Bool, ℕ, inl, inr, refl, subst, sym, true, Result, Ok, Err, Some, None}
use Rattle.std.specs.declared.alloc.AllocError.{AllocError}
use Rattle.std.specs.declared.vec.Vec.{Vec}
use Rattle.std.specs.Prelude.{IfErr, IfOk, Option, List}
use Rattle.kmip_ttlv_types.specs.Trees.{Tree}
use Rattle.kmip_ttlv_base.specs.declared.error.ErrorKind.{ErrorKind}
use Rattle.kmip_ttlv_base.specs.declared.error.ErrorKind.TheVariants as kinds
use Rattle.kmip_ttlv_base.specs.{declared.error.Error.Error, Forms.Form, Values.Value}
use Rattle.kmip_ttlv_base.specs.Errors.{Kind, Location, exceeds_limit, io_error, kind_of, length_overflow, location_of}
use Rattle.kmip_ttlv_base.specs.Errors.{malformed, mismatch, out_of_memory, view_of_kind, view_of_location}
use Rattle.kmip_ttlv_ser.specs.declared.pending.PendingTag.TheVariants.{Nothing}
use Rattle.kmip_ttlv_ser.specs.EncodeResults.{Encodes, FailsAs, IsTooLong, IsWrittenAs, origin}
use Rattle.kmip_ttlv_ser.specs.WrittenItems.{items}
use Rattle.kmip_attribute_set.specs.Copies.{IsCopy, IsFound}
use Rattle.kmip_ttlv_parts.specs.Rereads.{FailsBySize, Rereads}
use Rattle.kmip_ttlv.proofs.Rereads.{if_decoding_fails}
use Rattle.kmip_ttlv_kinds.specs.{Laws.IsReadFrom}

pub equal :
    {T A : Type 0} {s : Form} {stated g : T → Value} {eq : T → T → Bool} {IsSound : T → Type 0} (law : Rereads stated s (λ v x. v ≡ g x) eq IsSound)
    (x : T) (r : Result T (Error A))
    → IsReadFrom (stated x) s g r
    → IsSound x
    → IfOk r (λ y. eq x y ≡ true)
equal {g = g} law x (Ok y) read sound = law.equal x y read.bytes (g y) sound read.written read.appends refl
equal law x (Err e) read sound = tt

none_of : (v : Value) (ts : List Tree) → items v Nothing ≡ Some ts → items v Nothing ≡ None → ⊥
none_of v ts some none = let both = rw none at some in cc

-- what has items is not encoded for its size alone
too_large : (v : Value) (k : Kind) (l : Location) (ts : List Tree) → items v Nothing ≡ Some ts → FailsAs v origin k l → FailsBySize v k
too_large v out_of_memory l ts some fails = tt
too_large v length_overflow l ts some fails = fails.1
too_large v (malformed e) l ts some fails = none_of v ts some fails.no_items
too_large v (mismatch e) l ts some fails = none_of v ts some fails.no_items
too_large v (io_error e) l ts some fails = fails
too_large v (exceeds_limit n) l ts some fails = fails

pub why :
    {T A : Type 0} {s : Form} {stated g : T → Value} {eq : T → T → Bool} {IsSound : T → Type 0} (law : Rereads stated s (λ v x. v ≡ g x) eq IsSound)
    (x : T) (r : Result T (Error A))
    → IsReadFrom (stated x) s g r
    → IsSound x
    → IfErr r (λ e. FailsBySize (stated x) (view_of_kind (kind_of e)))
why law x (Ok y) read sound = tt
why {stated = stated} law x (Err e) (inl fails) sound =
    let (ts, some) = law.has_items x sound in
    too_large (stated x) (view_of_kind (kind_of e)) (view_of_location (location_of e)) ts some fails
why {T = T} {s = s} {stated = stated} {g = g} law x (Err e) (inr read) sound =
    if_decoding_fails {T = T} {s = s} (stated x) (λ v y. v ≡ g y) (Err e) (law.begins x read.bytes sound read.written) read.appends.1 read.appends.0

-- what fails for its size is too long, unless memory ran out
long_of : {A : Type 0} (v : Value) (k : ErrorKind A) → FailsBySize v (view_of_kind k) → (k ≡ kinds.OutOfMemory → ⊥) → IsTooLong v origin
long_of v kinds.OutOfMemory fails other = absurd (other refl)
long_of v kinds.LengthOverflow fails other = fails
long_of v (kinds.IoError e) fails other = absurd fails
long_of v (kinds.ResponseSizeExceedsLimit n) fails other = absurd fails
long_of v (kinds.MalformedTtlv e) fails other = absurd fails
long_of v (kinds.SerdeError e) fails other = absurd fails

pub of_none :
    {T A : Type 0} {s : Form} {stated g : T → Value} {eq : T → T → Bool} {IsSound : T → Type 0} (law : Rereads stated s (λ v x. v ≡ g x) eq IsSound)
    (x : T) (r : Result (Vec ℕ A) (Error A))
    → Encodes (stated x) r
    → IsFound r (Ok None)
    → IsSound x
    → IsTooLong (stated x) origin
of_none law x (Ok bytes) is found sound = absurd found
of_none {stated = stated} law x (Err e) fails found sound =
    let (ts, some) = law.has_items x sound in
    long_of (stated x) (kind_of e) (too_large (stated x) (view_of_kind (kind_of e)) (view_of_location (location_of e)) ts some fails) found

pub written_of :
    {A : Type 0} (v : Value) (r : Result (Vec ℕ A) (Error A)) (bytes : Vec ℕ A)
    → Encodes v r
    → IsFound r (Ok (Some bytes))
    → IsWrittenAs v 0 bytes.items
written_of v (Ok x) bytes is found = subst (λ b. IsWrittenAs v 0 b.items) (sym found) is
written_of v (Err e) bytes is found = absurd found

pub of_read :
    {T A : Type 0} {s : Form} {stated g : T → Value} {eq : T → T → Bool} {IsSound : T → Type 0} (law : Rereads stated s (λ v x. v ≡ g x) eq IsSound)
    (x : T) (read : Result T (Error A)) (f : Result (Option T) AllocError)
    → IsReadFrom (stated x) s g read
    → IsFound read f
    → IsCopy (IsSound x) (λ y. eq x y ≡ true) (IsTooLong (stated x) origin) f
of_read {A = A} {eq = eq} law x (Ok z) (Ok (Some y)) from found = λ sound. subst (λ it. eq x it ≡ true) (sym found) (equal {A = A} law x (Ok z) from sound)
of_read law x (Ok z) (Ok None) from found = absurd found
of_read law x (Ok z) (Err w) from found = tt
of_read {stated = stated} law x (Err e) (Ok None) from found = λ sound. long_of (stated x) (kind_of e) (why law x (Err e) from sound) found
of_read law x (Err e) (Ok (Some y)) from found = absurd found
of_read law x (Err e) (Err w) from found = tt
