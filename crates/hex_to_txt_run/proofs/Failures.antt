-- What errors of decoding and encoding mean for a pair.
use Rattle.std.proofs.Common.{◌≡◌, ◌≢◌, ℕ, List, [], ◌++◌, Ok, refl, sym, subst, append-nil}
use Rattle.kmip_ttlv_base.specs.declared.error.{Error.Error, ErrorKind.ErrorKind}
use Rattle.kmip_ttlv_base.specs.declared.error.ErrorKind.TheVariants.{IoError, ResponseSizeExceedsLimit, MalformedTtlv, SerdeError, OutOfMemory, LengthOverflow}
use Rattle.kmip_ttlv.specs.Errors.{out_of_memory, view_of_kind, kind_of}
use Rattle.kmip_ttlv.specs.{Values.Value, Forms.Form, Reads.Begins}
use Rattle.kmip_ttlv.specs.ReadResults.{ErrorStands, NothingBegins, sort_of_kind}
use Rattle.hex_to_txt_run.specs.{Inputs.decoded, Pair.pair_form, Tasks.pair_task, TaskTexts.IsReasonOf, TaskTexts.TaskFails}
use Rattle.hex_to_txt_run.specs.Reasons.{Reason, unknown_words, unreadable_input, not_hexadecimal, not_utf8, not_a_pair, unwritable_output, no_memory}

pub is_memory : {A : Type 0} (k : ErrorKind A) → view_of_kind k ≡ out_of_memory → k ≡ OutOfMemory
is_memory OutOfMemory h = refl
is_memory (IoError e) h = cc
is_memory (ResponseSizeExceedsLimit n) h = cc
is_memory (MalformedTtlv e) h = cc
is_memory (SerdeError e) h = cc
is_memory LengthOverflow h = cc

on_no_more : (s : Form) (bytes : List ℕ) (v : Value) → Begins s bytes v → Begins s (bytes ++ []) v
on_no_more s bytes v b =
    let P : List ℕ → Type 0 = λ bs. Begins s bs v in
    subst P (sym (append-nil bytes)) b

none_begins : {A : Type 0} (k : ErrorKind A) (s : Form) (bytes : List ℕ) → k ≢ OutOfMemory → NothingBegins s bytes (sort_of_kind (view_of_kind k)) → (v : Value)
    → Begins s bytes v → ⊥
none_begins OutOfMemory s bytes other h v b = other refl
none_begins (IoError e) s bytes other h v b = h v b
none_begins (ResponseSizeExceedsLimit n) s bytes other h v b = h [] v (on_no_more s bytes v b)
none_begins (MalformedTtlv e) s bytes other h v b = h [] v (on_no_more s bytes v b)
none_begins (SerdeError e) s bytes other h v b = h [] v (on_no_more s bytes v b)
none_begins LengthOverflow s bytes other h v b = h [] v (on_no_more s bytes v b)

-- an error other than out of memory means that there is no pair
pub no_pair : {A : Type 0} (e : Error A) (input bytes : List ℕ) (why : Reason) → decoded input ≡ Ok bytes → ErrorStands pair_form bytes e → IsReasonOf e why
    → TaskFails pair_task input why
no_pair e input bytes no_memory decodes fails means = tt
no_pair e input bytes (not_a_pair line) decodes fails means =
    (record { bytes = bytes; decodes = decodes; none = none_begins (kind_of e) pair_form bytes means.1 fails }, means.0)
no_pair e input bytes unknown_words decodes fails means = absurd means
no_pair e input bytes unreadable_input decodes fails means = absurd means
no_pair e input bytes not_hexadecimal decodes fails means = absurd means
no_pair e input bytes unwritable_output decodes fails means = absurd means
no_pair e input bytes not_utf8 decodes fails means = absurd means
