-- What is decided of an input, and why a run fails.
use Rattle.std.proofs.Common.{◌≡◌, inl, inr, ℕ, List, ◌++◌, Result, Ok, Err, OnOk, OnErr, Bool, true, is_ok, length, refl, sym}
use Rattle.std.proofs.Common.{IsTrue, subst, codes}
use Rattle.std.specs.{Io.KnownBytes.Appends, Fmt.decimal}
use Rattle.kmip_ttlv_types.specs.Streams.{AppendsFront, UsesRoom, IsTight}
use Rattle.kmip_ttlv_types.specs.Held.{Held}
use Rattle.kmip_ttlv_types.proofs.Held.{gets_both, front_behind}
use Rattle.ttlv_run.specs.{declared.job.Job.Job, declared.run_error.RunError.RunError, declared.misread.Misread.Misread}
use Rattle.ttlv_run.specs.{Inputs.IsUnread, Reasons.IsOfPrinting, Reasons.Reports, Texts.Names}
use Rattle.ttlv_run.specs.declared.run_error.RunError.TheVariants.{UnreadableInput, UnwritableOutput, ClosedPipe, NoMemory}
use Rattle.ttlv_run.specs.Escapes.{escape}
use Rattle.ttlv_run.specs.Misreadings.{encoding_words, with_kind, line_end, misread_line}
use Rattle.ttlv_run.specs.Runs.{Streams, Unwritten, Fails, UnwrittenBack, FailsBack}

-- what is written behind a text that was written to its end
pub decides_more : {T E : Type 0} (r : Result T E) (writable said : Bool) (known mid new : Held) (front text : List ℕ) → writable ≡ true → said ≡ is_ok r
    → OnOk r (Appends mid.pending new.pending text) → OnErr r (AppendsFront mid.pending new.pending text) → OnOk r (UsesRoom mid.room new.room (length text))
    → OnErr r (IsTight mid.room (length text)) → Reports writable known mid front → Reports said known new (front ++ text)
decides_more (Ok x) writable said known mid new front text is says all some used tight h =
    let before = subst (λ b. Reports b known mid front) is h in
    subst (λ b. Reports b known new (front ++ text)) (sym says) (gets_both front text before record { appended = all; used = used })
decides_more (Err e) writable said known mid new front text is says all some used tight h =
    let before = subst (λ b. Reports b known mid front) is h in
    subst (λ b. Reports b known new (front ++ text)) (sym says) (front_behind front text before record { appended = some; tight = tight })

-- printing failed
pub printing_by : (P : RunError → Type 0) {why : RunError} → IsOfPrinting why → P UnwritableOutput → P ClosedPipe → P NoMemory → P why
printing_by P (inl is) output pipe memory = subst P (sym is) output
printing_by P (inr (inl is)) output pipe memory = subst P (sym is) pipe
printing_by P (inr (inr is)) output pipe memory = subst P (sym is) memory

-- behind a beginning of the text
pub unwritten : {names : Names} {job : Job} {s : Streams} {why : RunError} → IsOfPrinting why → Unwritten names job s why → Fails names job s why
unwritten {names} {job} {s} is h = printing_by (λ why. Unwritten names job s why → Fails names job s why) is (λ h. h) (λ h. h) (λ h. inr h) h

pub unwritten_back : {names : Names} {prefix : List ℕ} {s : Streams} {why : RunError} → IsOfPrinting why → UnwrittenBack names prefix s why
    → FailsBack names prefix s why
unwritten_back {names} {prefix} {s} is h = printing_by (λ why. UnwrittenBack names prefix s why → FailsBack names prefix s why) is (λ h. h) (λ h. h) (λ h. h) h

-- an input was not read
pub unread_by : (P : RunError → Type 0) {can_fail : Bool} (why : RunError) → IsUnread can_fail why → (IsTrue can_fail → P UnreadableInput) → P NoMemory
    → P why
unread_by P UnreadableInput h read memory = read h
unread_by P NoMemory h read memory = memory
unread_by P why h read memory = absurd h

-- the parts of a line that says why an input stands for no bytes
pub misread_is : (name words digits end : List ℕ) (m : Misread) → words ≡ encoding_words m.taken
    → digits ≡ decimal m.offset
    → end ≡ line_end m.guessed
    → with_kind (escape name ++ codes ": taken as " ++ words ++ codes ": byte " ++ digits) m.kind ++ end ≡ misread_line name m
misread_is name words digits end m w d e = rw (w, d, e) refl
