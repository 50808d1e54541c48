-- What decoding says of a message that was encoded.
use Rattle.std.proofs.Common.{◌≡◌, ◌⊎◌, inl, inr, refl, sym, ap, subst, ℕ, List, [], Result, Ok, Err}
use Rattle.std.specs.Prelude.{IfOk, IfErr}
use Rattle.std.proofs.lemmas.List.{append-nil}
use Rattle.std.specs.declared.io.ErrorKind.TheVariants.{UnexpectedEof}
use Rattle.kmip_ttlv_base.specs.{declared.error.Error.Error, Forms.Form, Values.Value}
use Rattle.kmip_ttlv_base.specs.Errors.{Kind, io_error, out_of_memory, length_overflow, view_of_kind, kind_of, IsMemory}
use Rattle.kmip_ttlv_reader.specs.Reads.{Begins}
use Rattle.kmip_ttlv_reader.specs.{Steps.Outcome, Steps.Fault, Steps.gives, Steps.ends_early, Steps.fails, Outcomes.root_outcome}
use Rattle.kmip_ttlv_reader.specs.ReadResults.{ErrorStands, NothingBegins, sort_of_kind, IsReadAs, IsError, IsOfBytes, seen}
use Rattle.kmip_ttlv_parts.specs.Rereads.{FailsBySize, IsReread, GivesBack}

-- what is decoded has what follows from the value with which the bytes begin
pub if_decoded :
    {T E : Type 0} {s : Form} {bytes : List ℕ} {is_value : Value → T → Type 0} {P : T → Type 0} (r : Result T E)
    → ((y : T) (v : Value) → Begins s bytes v → is_value v y → P y)
    → IfOk r (λ y. (v : Value) × Begins s bytes v × is_value v y)
    → IfOk r P
if_decoded (Ok y) follows (v, b, is) = follows y v b is
if_decoded (Err e) follows found = tt

-- no error of decoding is about a length
never_long : {V A : Type 0} (o : Outcome V) (e : Error A) → IsMemory e ⊎ IsError o (seen e) → view_of_kind (kind_of e) ≡ length_overflow → ⊥
never_long o e (inl memory) is = let kind : view_of_kind (kind_of e) ≡ out_of_memory = ap view_of_kind memory.kind in cc
never_long (gives v) e (inr wrong) is = wrong
never_long ends_early e (inr wrong) is = let kind : view_of_kind (kind_of e) ≡ io_error UnexpectedEof = ap (λ (f : Fault). f.why) wrong in cc
never_long (fails x) e (inr (same, bytes)) is = subst IsOfBytes is bytes

-- where the bytes begin with a value, decoding fails for want of memory alone
decoding_fails : (k : Kind) (w : Value) (s : Form) (bytes : List ℕ) (v : Value) → Begins s bytes v → NothingBegins s bytes (sort_of_kind k)
    → (k ≡ length_overflow → ⊥) → FailsBySize w k
decoding_fails out_of_memory w s bytes v b n short = tt
decoding_fails length_overflow w s bytes v b n short = absurd (short refl)
decoding_fails (io_error x) w s bytes v b n short = absurd (n v b)
decoding_fails k w s bytes v b n short = absurd (n [] v (subst (λ all. Begins s all v) (sym (append-nil bytes)) b))

pub if_decoding_fails : {T A : Type 0} {s : Form} {bytes : List ℕ} (w : Value) (is_value : Value → T → Type 0) (r : Result T (Error A))
    → ((v : Value) × Begins s bytes v)
    → IfErr r (λ e. ErrorStands s bytes e)
    → IsReadAs is_value (root_outcome s bytes) r
    → IfErr r (λ e. FailsBySize w (view_of_kind (kind_of e)))
if_decoding_fails w is_value (Ok y) begins stands equals = tt
if_decoding_fails {s = s} {bytes = bytes} w is_value (Err e) (v, b) stands equals =
    decoding_fails (view_of_kind (kind_of e)) w s bytes v b stands (never_long (root_outcome s bytes) e equals)

-- what decoding returns is returned
pub gives_back : {T A : Type 0} {v : Value} {s : Form} {is_value : Value → T → Type 0} (r : Result T (Error A)) → IsReread s is_value v r
    → GivesBack s is_value v r
gives_back (Ok y) read = read
gives_back (Err e) read = inr read
